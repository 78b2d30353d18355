use Rattle.std.proofs.Common.{◌∙◌, ℕ, List, length, ap, inl, refl}
use Rattle.mcs_disk.specs.Disk.{bytes_of}
use Rattle.mcs_disk.specs.States.{mem_disk_state}
use Rattle.mcs_wasm.proofs.FrontOfBuffer.{answers_in_buffer_after_copy}
use Rattle.mcs_wasm.proofs.page.serve_and_settle.Goals as goal

pub returns-clause-served : goal.returns-clause-served
returns-clause-served c =
    let snapshot_written = c.snapshot_into.ensures.settled in
    let output = c.deref.ensures.value in
    let count = c.copy_to_front-count.ensures.count ∙ ap (λ (bytes : List ℕ). length bytes) output in
    record {
      between = bytes_of (mem_disk_state c.in-Ok.answered.session.disk);
      answers = answers_in_buffer_after_copy _ _ _ _ _ _ _ _ _ c.in-Ok.ensures.served c.in-Ok.ensures.room count (c.copy_to_front-count.ensures.answers ∙ output) c.copy_to_front-count.ensures.rest refl;
      settled = record { state = c.in-Ok.answered.session.state; before = inl snapshot_written.disk_represents_state; after = snapshot_written.holds };
      same = refl;
    }
