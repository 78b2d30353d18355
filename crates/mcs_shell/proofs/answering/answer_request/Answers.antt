use Rattle.std.proofs.Common.{rules, ap, refl}
use Rattle.mcs_lines.specs.declared.requests.Request.TheVariants.{Ask, Begin, Board, Change, Count, Listing, Nothing, Refused, Trace}
use Rattle.mcs_shell.specs.Inputs.{Line}
use Rattle.mcs_shell.proofs.AnsweredInputs.{answered_equal_input, answered_with_allocation, answered_from_state}
use Rattle.mcs_shell.proofs.answering.answer_request.Goals as goal

pub returns-in-Nothing : goal.returns-in-Nothing
returns-in-Nothing g c =
    answered_equal_input _ _ _ (Line Nothing) _ _ (ap Line (search rules)) (answered_from_state _ (Line Nothing) _ refl c.requires)

pub returns-in-Begin : goal.returns-in-Begin
returns-in-Begin g c =
    answered_equal_input _ _ _ (Line (Begin c.in-Begin.field-0)) _ _ (ap Line c.in-Begin.is) (answered_from_state _ (Line (Begin c.in-Begin.field-0)) _ refl c.requires)

pub returns-in-Refused : goal.returns-in-Refused
returns-in-Refused g c =
    answered_equal_input _ _ _ (Line (Refused c.in-Refused.fault)) _ _ (ap Line (search rules)) (answered_from_state _ (Line (Refused c.in-Refused.fault)) _ refl (search rules))

pub returns-in-Ask : goal.returns-in-Ask
returns-in-Ask g c =
    answered_equal_input _ _ _ (Line (Ask c.in-Ask.query)) _ _ (ap Line (search rules)) (answered_from_state _ (Line (Ask c.in-Ask.query)) _ refl (search rules))

pub returns-in-Listing : goal.returns-in-Listing
returns-in-Listing g c =
    answered_equal_input _ _ _ (Line (Listing c.in-Listing.from c.in-Listing.lines)) _ _ (ap Line (search rules))
    (answered_with_allocation c.set_listing-set_result.result _ (Line (Listing c.in-Listing.from c.in-Listing.lines)) _ c.set_listing-set_result.new.self _ refl refl
    (rw c.bench-in-Listing.ensures.is at c.set_listing-set_result.ensures) c.outcome_of_allocation.ensures.answered c.outcome_of_allocation.ensures.refused)

pub returns-in-Board : goal.returns-in-Board
returns-in-Board g c =
    answered_equal_input _ _ _ (Line Board) _ _ (ap Line (search rules)) (answered_with_allocation c.set_board-set_result.result _ (Line Board) _ c.set_board-set_result.new.self _ refl refl (rw c.bench-in-Board.ensures.is at c.set_board-set_result.ensures) c.outcome_of_allocation-in-Board.ensures.answered c.outcome_of_allocation-in-Board.ensures.refused)

pub returns-in-Count : goal.returns-in-Count
returns-in-Count g c =
    answered_equal_input _ _ _ (Line (Count c.in-Count.n)) _ _ (ap Line (search rules))
    (answered_with_allocation c.set_count-set_result.result _ (Line (Count c.in-Count.n)) _ c.set_count-set_result.new.self _ refl refl
    (rw c.bench-in-Count.ensures.is at c.set_count-set_result.ensures) c.outcome_of_allocation-in-Count.ensures.answered c.outcome_of_allocation-in-Count.ensures.refused)

pub returns-in-Trace : goal.returns-in-Trace
returns-in-Trace g c =
    answered_equal_input _ _ _ (Line (Trace c.in-Trace.n c.in-Trace.probes)) _ _ (ap Line (search rules))
    (answered_with_allocation c.set_trace-set_result.result _ (Line (Trace c.in-Trace.n c.in-Trace.probes)) _ c.set_trace-set_result.new.self _ refl refl
    (rw (c.bench-in-Trace.ensures.is, c.as_slice.ensures.value) at c.set_trace-set_result.ensures) c.outcome_of_allocation-in-Trace.ensures.answered c.outcome_of_allocation-in-Trace.ensures.refused)

pub returns-in-Change : goal.returns-in-Change
returns-in-Change g c =
    answered_equal_input _ _ _ (Line (Change c.in-Change.command)) _ _ (ap Line (search rules)) c.answer_change.ensures
