use Rattle.std.proofs.Common.{◌≡◌, ◌∙◌, ℕ, Bool, not, sym, ap}
use Rattle.mcs_drive.specs.TrackedMachine.{TrackedMachine, begins_at, ends_at, stopwatch_after}
use Rattle.mcs_check.specs.Conditions.{observer_of_property}
use Rattle.mcs_check.proofs.Ignoring.{conditions-ignore}
use Rattle.mcs_check.proofs.Spinning.{still-shows}
use Rattle.mcs_check.proofs.replica.SearchMachine.elapsed_after.Goals as goal

pub returns-then-is_stopped : goal.returns-then-is_stopped
returns-then-is_stopped c =
    let w = observer_of_property c.args.property.now in
    let s = c.args.self.now in
    let shows = ap (λ (t : TrackedMachine). t.2.elapsed) c.self.view_is in
    let zero = c.is_stopped.ensures.zero c.if-is_stopped.true in
    let never = c.is_stopped.ensures.never c.if-is_stopped.true in
    shows ∙ sym (still-shows w s.2.elapsed (begins_at w s) (ends_at w s) zero (never _))

pub returns : goal.returns
returns c =
    let a = c.args.property.now in
    let w = observer_of_property a in
    let s = c.args.self.now in
    let shows = ap (λ (t : TrackedMachine). t.2.elapsed) c.self.view_is in
    let begins : c.begins.result ≡ begins_at w s = c.begins.ensures ∙ ap not (conditions-ignore a.begins s) in
    let ends : c.ends.result ≡ ends_at w s = c.ends.ensures ∙ ap not (conditions-ignore a.ends s) in
    c.after.ensures
    ∙ ap (λ (n : ℕ). stopwatch_after n c.begins.result c.ends.result) shows
    ∙ ap (λ (b : Bool). stopwatch_after s.2.elapsed b c.ends.result) begins
    ∙ ap (λ (b : Bool). stopwatch_after s.2.elapsed (begins_at w s) b) ends
