use Rattle.std.proofs.Common.{◌≡◌, ◌∙◌, None, Some, length, slice_get, sym, ap, arith}
use Rattle.mcs_drive.specs.Marks.{port_shows}
use Rattle.mcs_drive.specs.TrackedMachine.{TrackedMachine, seen_mark_count}
use Rattle.mcs_check.specs.Conditions.{observer_of_property}
use Rattle.mcs_check.proofs.ValuesRead.{none-left, rdr_shows_next_mark-is_port_shows}
use Rattle.mcs_check.proofs.replica.SearchMachine.shows_next_mark.Goals as goal

pub returns-in-Some : goal.returns-in-Some
returns-in-Some c =
    let w = observer_of_property c.args.property.now in
    let s = c.args.self.now in
    let mark = c.in-Some.mark in
    let is : slice_get w.marks (seen_mark_count (length w.marks) s.2.seen) ≡ Some mark =
    ap (slice_get w.marks) (sym c.seen_mark_count.ensures.seen) ∙ sym c.mark.ensures ∙ c.in-Some.is in
    let value : c.low_of.result ≡ c.args.value = c.low_of.ensures ∙ (let small = c.requires.value in omega arith) in
    c.port_shows.ensures ∙ ap (λ (m : TrackedMachine). port_shows m.1 c.low_of.result mark) c.self.view_is
    ∙ ap (λ v. port_shows s.1 v mark) value ∙ sym (rdr_shows_next_mark-is_port_shows w s c.args.value mark c.requires.reads is)

pub returns-in-None : goal.returns-in-None
returns-in-None c =
    let w = observer_of_property c.args.property.now in
    let s = c.args.self.now in
    let is : slice_get w.marks (seen_mark_count (length w.marks) s.2.seen) ≡ None =
    ap (slice_get w.marks) (sym c.seen_mark_count.ensures.seen) ∙ sym c.mark.ensures ∙ c.in-None.is in
    sym (none-left w s c.args.value is)
