use Rattle.std.proofs.Common.{Vec, Global, map, refl}
use Rattle.mcs_drive.specs.TrackedMachine.{no_observer}
use Rattle.mcs_check.specs.declared.conditions.Condition.{Condition}
use Rattle.mcs_check.specs.Conditions.{meets_none}
use Rattle.mcs_prove.proofs.Proved.{proved_of_texts-if_proved_of_rig}
use Rattle.mcs_prove.proofs.proving.prove_by_sets.Goals as goal

pub returns : goal.returns
returns c = λ limits.
    let p = meets_none (map (λ (n : Vec Condition Global). n.items) c.args.never_lists.now) in
    proved_of_texts-if_proved_of_rig c.args.board.now c.args.program.now limits no_observer p p c.new.result c.in_ok-rig.rig c.check_by_sets-outcome.result
    c.in_ok-rig.ensures c.new.ensures (λ s. refl) (c.check_by_sets-outcome.ensures (limits c.in_ok-rig.rig.board))
