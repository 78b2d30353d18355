use Rattle.std.proofs.Common.{◌≡◌, ◌∙◌, Some, sym}
use Rattle.mcs_sets.specs.Landing.{op_at}
use Rattle.mcs_sets.proofs.Running.{instruction_at-is-op_at}
use Rattle.mcs_sets.proofs.Steps.{landings-suffice}
use Rattle.mcs_sets.proofs.certifying.stays_covered_one_cycle.Goals as goal

pub are_all_choices_covered-requires : goal.are_all_choices_covered-requires
are_all_choices_covered-requires c = record { instruction = sym (instruction_at-is-op_at (record c.new.result { pc = c.args.entry.now.at }) c.args.rig.now) ∙ sym c.in-Some.ensures }

pub returns-then-calls_allow-clause-stays_covered_one_cycle : goal.returns-then-calls_allow-clause-stays_covered_one_cycle
returns-then-calls_allow-clause-stays_covered_one_cycle c = λ h.
    let op_in_rom : op_at c.args.rig.now.rom c.args.entry.now.at ≡ Some c.in-Some.op = sym (instruction_at-is-op_at (record c.new.result { pc = c.args.entry.now.at }) c.args.rig.now) ∙ sym c.in-Some.ensures in
    landings-suffice c.args.rig.now.board c.args.rig.now.rom c.args.entries.now c.in-Some.op c.args.entry.now c.op_is_valid.ensures (c.calls_allow.ensures c.if-calls_allow.true) op_in_rom (c.are_all_choices_covered.ensures.covered h)
