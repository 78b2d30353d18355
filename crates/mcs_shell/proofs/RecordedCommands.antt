-- The premise (`IsIntact`) that holds before each input of a run, and again after the input.
use Rattle.std.proofs.Common.{◌≡◌, Bool, IsTrue, List, [], ◌∷◌, ◌++◌, sym, ap, ◌∙◌, refl, subst}
use Rattle.mcs_disk.specs.Disk.{CountsFault, DiskState}
use Rattle.mcs_disk.proofs.StretchComposition.{counts_fault_of_two_stretches}
use Rattle.mcs_model.specs.declared.command.Command.{Command}
use Rattle.mcs_model.specs.BenchState.{BenchState}
use Rattle.mcs_model.specs.Command.{after}
use Rattle.mcs_model.specs.Fold.{AreAccepted, fold}
use Rattle.mcs_session.specs.SessionState.{SessionState}
use Rattle.mcs_session.specs.KeptCommands.{RecordsCommands}
use Rattle.mcs_session.proofs.Folds.{fold-append}
use Rattle.mcs_session.proofs.Keeping.{represented_after_run, keeps_all_commands_of_both_runs, keeps_empty_run}
use Rattle.mcs_shell.specs.ServedPieces.{IsIntact}

pub intact_after_recorded_commands : (a b : SessionState) (cs : List Command) → RecordsCommands IsIntact a b cs → IsIntact a → IsIntact b
intact_after_recorded_commands a b cs x given = record {
  honest = (subst (λ (live : Bool). IsTrue live) (sym x.live) given.honest.0, x.counts.honest.1 given.honest.1);
  represents = represented_after_run a.disk b.disk a.state b.state cs x.state (x.kept given);
}

-- Suppose that the commands `cs` are accepted in the state `s`, and the commands `ds` in the state
-- after `cs`. Then the commands `cs ++ ds` are accepted in `s`.
pub are_accepted_append : (s t : BenchState) (cs ds : List Command) → AreAccepted s cs → t ≡ fold s cs → AreAccepted t ds → AreAccepted s (cs ++ ds)
are_accepted_append s t [] ds first same more = subst (λ (u : BenchState). AreAccepted u ds) same more
are_accepted_append s t (c ∷ cs) ds first same more = (first.0, are_accepted_append (after s c) t cs ds first.1 same more)

counts_no_fault_if_disk_unchanged : (disk : DiskState) → CountsFault disk disk ⊥
counts_no_fault_if_disk_unchanged disk = record { start = refl; honest = (λ h. h, λ h. h); fault = λ none. absurd none; no_fault = λ none. refl }

pub records_no_commands : (a : SessionState) → RecordsCommands IsIntact a a []
records_no_commands a = record { live = refl; accepted = tt; state = refl; counts = counts_no_fault_if_disk_unchanged a.disk; untouched = λ none. refl; kept = λ given. keeps_empty_run a.disk a.state given.represents }

both_empty_if_append_empty : (cs ds : List Command) → cs ++ ds ≡ [] → (cs ≡ []) × (ds ≡ [])
both_empty_if_append_empty [] ds none = (refl, none)
both_empty_if_append_empty (c ∷ cs) ds none = absurd (cc none)

pub records_commands_append : (a b c : SessionState) (cs ds : List Command) → RecordsCommands IsIntact a b cs → RecordsCommands IsIntact b c ds → RecordsCommands IsIntact a c (cs ++ ds)
records_commands_append a b c cs ds x y = record {
  live = y.live ∙ x.live;
  accepted = are_accepted_append a.state b.state cs ds x.accepted x.state y.accepted;
  state = y.state ∙ ap (λ (s : BenchState). fold s ds) x.state ∙ sym (fold-append a.state cs ds);
  counts = counts_fault_of_two_stretches a.disk b.disk c.disk ⊥ ⊥ (λ none. none) x.counts y.counts;
  untouched = λ none. let both = both_empty_if_append_empty cs ds none in y.untouched both.1 ∙ x.untouched both.0;
  kept = λ given. keeps_all_commands_of_both_runs a.disk b.disk c.disk a.state b.state cs ds (x.kept given) x.state (y.kept (intact_after_recorded_commands a b cs x given));
}
