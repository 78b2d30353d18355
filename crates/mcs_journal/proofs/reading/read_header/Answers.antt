use Rattle.std.proofs.Common.{sym, ◌∙◌}
use Rattle.mcs_journal.proofs.Headers.{equal_if_bytes_eq, unequal_if_not_bytes_eq, front, back, valid_header_from_parts}
use Rattle.mcs_journal.proofs.reading.read_header.Goals as goal

pub returns-then-ne-clause-no_session : goal.returns-then-ne-clause-no_session
returns-then-ne-clause-no_session g c = λ h is_error same. unequal_if_not_bytes_eq _ _ c.if-ne.ensures (front _ _ (c.in_ok-read_at.ensures.read_bytes h) ∙ same)

pub returns-then-ne-2-clause-damaged : goal.returns-then-ne-2-clause-damaged
returns-then-ne-2-clause-damaged g c = λ h is_error.
    let given = c.in_ok-read_at.ensures.read_bytes h in
    (sym (front _ _ given) ∙ equal_if_bytes_eq _ _ c.if-ne.ensures, λ same. unequal_if_not_bytes_eq _ _ c.if-ne-2.ensures (back _ _ given ∙ same))

pub returns-clause-header : goal.returns-clause-header
returns-clause-header g c = λ h. valid_header_from_parts _ _ (c.in_ok-read_at.ensures.read_bytes h) _ c.if-ne.ensures c.if-ne-2.ensures (sym c.selected_by.ensures)

pub returns-then-ne-2-clause-error_calls : goal.returns-then-ne-2-clause-error_calls
returns-then-ne-2-clause-error_calls g c = record { count = 1; all = c.in_ok-read_at.ensures.calls.all }
