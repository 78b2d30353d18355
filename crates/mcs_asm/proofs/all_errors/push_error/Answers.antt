use Rattle.std.proofs.Common.{◌∙◌, arith}
use Rattle.mcs_asm.proofs.ErrorLists.{error_reported_if_room, error_dropped_if_full}
use Rattle.mcs_asm.proofs.all_errors.push_error.Goals as goal

pub returns-in_ok-push : goal.returns-in_ok-push
returns-in_ok-push c = c.in_ok-push.ensures.items ∙ error_reported_if_room c.args.errors.now.items _ (omega (arith, c.len.ensures, c.if-len-lt-MAX_REPORTED_ERRORS.true))

pub returns-else-len-lt-MAX_REPORTED_ERRORS : goal.returns-else-len-lt-MAX_REPORTED_ERRORS
returns-else-len-lt-MAX_REPORTED_ERRORS c = error_dropped_if_full c.args.errors.now.items _ c.requires.room (omega (arith, c.len.ensures, c.if-len-lt-MAX_REPORTED_ERRORS.false))
