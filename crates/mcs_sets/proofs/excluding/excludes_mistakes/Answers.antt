use Rattle.std.proofs.Common.{◌≡◌, ◌∙◌, ℕ, List, Some, sym, ap}
use Rattle.mcs_model.specs.Effect.{instruction_at}
use Rattle.mcs_sets.specs.Landing.{op_at}
use Rattle.mcs_sets.proofs.Excluded.{cycle-makes-no-mistake}
use Rattle.mcs_sets.proofs.Running.{instruction_at-is-op_at}
use Rattle.mcs_sets.proofs.excluding.excludes_mistakes.Goals as goal

pub returns-in-Some : goal.returns-in-Some
returns-in-Some c = λ h s of is.
    let e = c.args.entry.now in
    let rig = c.args.rig.now in
    let op = c.in-Some.op in
    let op_in_rom : op_at rig.rom e.at ≡ Some op = sym (instruction_at-is-op_at (record c.new.result { pc = e.at }) rig) ∙ sym c.in-Some.ensures in
    let next : instruction_at s.0 s.1 ≡ Some op = instruction_at-is-op_at s.0 s.1 ∙ ap (λ (l : List ℕ). op_at l s.0.pc) of.rom ∙ ap (op_at rig.rom) is.at ∙ op_in_rom in
    cycle-makes-no-mistake c.args.mistakes.now op s next (c.makes_no_mistake.ensures h s (of.board ∙ sym c.board.ensures) is)
