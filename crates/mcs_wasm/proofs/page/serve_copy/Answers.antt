use Rattle.std.proofs.Common.{◌∙◌, IsTrue, Some, refl, rules, subst, sym}
use Rattle.mcs_wasm.proofs.WholeInput.{live_unchanged_if_all_served, disk_size_unchanged_if_all_served, disk_size_of_resumed_session}
use Rattle.mcs_wasm.specs.Page.{IsAllServed}
use Rattle.mcs_wasm.proofs.page.serve_copy.Goals as goal

pub returns-then-room-len-clause-refused : goal.returns-then-room-len-clause-refused
returns-then-room-len-clause-refused c = record {
  end = c.run_shell-end.result;
  whole = search rules;
  answers = c.run_shell-end.new.writer.items;
  after = _;
  served = record {
    left = c.run_shell-end.new.session;
    run_on_file = record {
      session = c.in-Ok.session;
      resumes = c.in-Ok.ensures.resumed;
      rest = _;
      ran = rw c.new-output.ensures.items at c.run_shell-end.ensures.ran;
    };
    disk_bytes = record { honest = tt; bytes = refl };
  };
  counted = search rules;
  short = search rules;
}

pub returns-clause-served : goal.returns-clause-served
returns-clause-served c =
    let all_served : IsAllServed c.run_shell-end.result = search rules in
    let resumed = c.in-Ok.ensures.resumed in
    let size = disk_size_unchanged_if_all_served _ _ _ _ _ all_served c.run_shell-end.ensures.ran in
    let stays_open = live_unchanged_if_all_served _ _ _ _ _ all_served c.run_shell-end.ensures.ran in
    record {
      whole = all_served;
      run_on_file = record {
        session = c.in-Ok.session;
        resumes = resumed;
        rest = Some c.run_shell-end.new.reader.now;
        ran = rw c.new-output.ensures.items at c.run_shell-end.ensures.ran;
      };
      is_open = subst IsTrue (sym stays_open) resumed.opened.is_open;
      size = size ∙ disk_size_of_resumed_session c.args.file.now c.in-Ok.session resumed;
    }
