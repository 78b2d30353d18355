use Rattle.std.proofs.Common.{◌∙◌, sym}
use Rattle.mcs_sets.proofs.Running.{instruction_at-is-op_at}
use Rattle.mcs_sets.proofs.finding.landing_of.Goals as goal

pub compute_landing-requires-clause-instruction : goal.compute_landing-requires-clause-instruction
compute_landing-requires-clause-instruction c = sym (instruction_at-is-op_at (record c.new.result { pc = c.args.entry.now.at }) c.args.rig.now) ∙ sym c.in-Some.ensures
