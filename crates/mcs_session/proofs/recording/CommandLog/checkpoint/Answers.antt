use Rattle.mcs_disk.proofs.StretchComposition.{changes_of_weaker_properties}
use Rattle.mcs_journal.specs.File.{Holds}
use Rattle.mcs_session.specs.Represents.{HoldsState}
use Rattle.mcs_session.proofs.recording.CommandLog.checkpoint.Goals as goal
use Rattle.std.proofs.Common.{List, ℕ}

pub returns-in-Err-clause-replaces : goal.returns-in-Err-clause-replaces
returns-in-Err-clause-replaces g c = λ honest snap records held.
    changes_of_weaker_properties 4 _ _ _ _ (λ (f : List ℕ). Holds f snap records) (λ (f : List ℕ). HoldsState f c.args.bench.now) _ (λ f h. h)
    (λ f h. record { snap = _; spells = rw c.as_slice.ensures.value c.encode_state-length.ensures.spells; holds = h }) (c.in-Err.ensures.replaces honest snap records held)

pub returns-in-Ok-clause-replaces : goal.returns-in-Ok-clause-replaces
returns-in-Ok-clause-replaces g c = λ honest snap records held.
    changes_of_weaker_properties 4 _ _ _ _ (λ (f : List ℕ). Holds f snap records) (λ (f : List ℕ). HoldsState f c.args.bench.now) _ (λ f h. h)
    (λ f h. record { snap = _; spells = rw c.as_slice.ensures.value c.encode_state-length.ensures.spells; holds = h }) (c.in-Ok.ensures.replaces honest snap records held)
