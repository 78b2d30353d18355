use Rattle.std.proofs.Common.{List, ℕ, length, ◌∙◌, ap, rules}
use Rattle.mcs_journal.specs.File.{frames_of}
use Rattle.mcs_journal.proofs.UniqueContents.{records_are_unique}
use Rattle.mcs_journal.proofs.store.Store.has_room.Goals as goal

pub returns-clause-used : goal.returns-clause-used
returns-clause-used g c = rw (← c.self.view_is) (λ live h snap records held.
    let intact = c.self.invariant.intact live h in
    intact.count ∙ ap (λ (l : List (List ℕ)). length (frames_of l)) (records_are_unique _ _ _ _ _ intact.holds held))

pub returns-clause-room : goal.returns-clause-room
returns-clause-room g c = search rules
