use Rattle.std.proofs.Common.{◌≡◌, ◌⊎◌, ℕ, List, Option, Some, None, Result, Ok, Err, IfOk, IfSome, IfNone, IsSomeAnd, OnErr, inr, sym, ◌∙◌}
use Rattle.std.specs.Process.{exit_status}
use Rattle.mcs_host.specs.CommandLine.{arguments_of_choice}
use Rattle.mcs_host.specs.Ending.{as_disk}
use Rattle.mcs_host.specs.FileDisk.{HasNoCalls}
use Rattle.mcs_host.specs.declared.file_disk.FileDisk.{FileDisk}
use Rattle.mcs_host.specs.declared.arguments.Choice.{Choice}
use Rattle.mcs_session.specs.SessionState.{SessionView}
use Rattle.mcs_shell.specs.Faults.{StreamsView}
use Rattle.mcs_shell.specs.Program.{IsBegunOn, ServedChosenSession, ServedSession}
use Rattle.mcs_shell.specs.Shell.{exit_status_of}
use Rattle.mcs_shell.specs.declared.ends.ShellEnd.{ShellEnd}
use Rattle.mcs_shell.specs.declared.ends.ShellEnd.TheVariants.{End}
use Rattle.mcs_shell.proofs.program.run_arguments.Goals as goal

-- Holds if no session began, or if a session began and was served. `session` is this session, as
-- its shell left it.
abbrev pub ServesIfBegun : {F : Type 0} → Result (SessionView FileDisk) F → Option (SessionView FileDisk) → ℕ
    → StreamsView → StreamsView → Type 0
ServesIfBegun begun session status streams streams' = IfOk begun (λ before. IsSomeAnd session (λ after.
    ServedSession as_disk status streams streams' before after))

status_is_not_two : (end : ShellEnd) → exit_status_of end ≡ 2 → ⊥
status_is_not_two End e = cc e
status_is_not_two end e = cc e

status_is_not_two_after_begin : {F : Type 0} (begun : Result (SessionView FileDisk) F) (session : Option (SessionView FileDisk)) (status : ℕ)
    (streams streams' : StreamsView) (P : Type 0) → ServesIfBegun begun session status streams streams'
    → OnErr begun (status ≡ 3) → status ≡ 2 → P
status_is_not_two_after_begin (Ok before) (Some after) status streams streams' P served refused two =
    absurd (status_is_not_two served.end (sym served.status_is ∙ two))
status_is_not_two_after_begin (Ok before) None status streams streams' P served refused two = absurd served
status_is_not_two_after_begin (Err refusal) session status streams streams' P served refused two =
    let e : 3 ≡ 2 = sym refused ∙ two in absurd (cc e)

served_chosen_session_if_begun : {F : Type 0} (parsed : Option (List ℕ × List ℕ)) (choice : Choice) (begun : Result (SessionView FileDisk) F)
    (session : Option (SessionView FileDisk)) (status : ℕ) (streams streams' : StreamsView)
    → parsed ≡ Some (arguments_of_choice choice)
    → IfOk begun (λ before. (disk : FileDisk) × HasNoCalls (as_disk disk) × IsBegunOn as_disk choice disk before)
    → ServesIfBegun begun session status streams streams' → OnErr begun (session ≡ None)
    → IfSome session (λ after. ServedChosenSession as_disk parsed status streams streams' after)
served_chosen_session_if_begun parsed choice (Ok before) (Some after) status streams streams' is found served none =
    record {
      choice = choice;
      chosen_is = is;
      disk = found.0;
      opened = found.1;
      before = before;
      begun = found.2;
      served = served;
    }
served_chosen_session_if_begun parsed choice (Ok before) None status streams streams' is found served none = tt
served_chosen_session_if_begun parsed choice (Err refusal) (Some after) status streams streams' is found served none = absurd (cc none)
served_chosen_session_if_begun parsed choice (Err refusal) None status streams streams' is found served none = tt

status_if_not_served : {F : Type 0} (begun : Result (SessionView FileDisk) F) (session : Option (SessionView FileDisk)) (status : ℕ)
    (streams streams' : StreamsView) → ServesIfBegun begun session status streams streams' → OnErr begun (status ≡ 3)
    → IfNone session ((status ≡ 2) ⊎ (status ≡ 3))
status_if_not_served begun (Some after) status streams streams' served refused = tt
status_if_not_served (Ok before) None status streams streams' served refused = absurd served
status_if_not_served (Err refusal) None status streams streams' served refused = inr refused

holds_if_not_served : {F : Type 0} (begun : Result (SessionView FileDisk) F) (session : Option (SessionView FileDisk)) (status : ℕ)
    (streams streams' : StreamsView) (P : Type 0) → ServesIfBegun begun session status streams streams' → OnErr begun P → IfNone session P
holds_if_not_served begun (Some after) status streams streams' P served same = tt
holds_if_not_served (Ok before) None status streams streams' P served same = absurd served
holds_if_not_served (Err refusal) None status streams streams' P served same = same

pub returns-clause-usage : goal.returns-clause-usage
returns-clause-usage g c =
    status_is_not_two_after_begin c.begin_session_in-begin_result.result c.serve_if_begun-program_result.result.session (exit_status c.serve_if_begun-program_result.result.status) _ _ _ c.serve_if_begun-program_result.ensures.served c.serve_if_begun-program_result.ensures.refused

pub returns-clause-served : goal.returns-clause-served
returns-clause-served g c =
    served_chosen_session_if_begun _ c.in-Ok.choice c.begin_session_in-begin_result.result c.serve_if_begun-program_result.result.session (exit_status c.serve_if_begun-program_result.result.status) _ _
    c.in-Ok.ensures.selected c.begin_session_in-begin_result.ensures.begun c.serve_if_begun-program_result.ensures.served c.serve_if_begun-program_result.ensures.unserved

pub returns-clause-unserved : goal.returns-clause-unserved
returns-clause-unserved g c =
    status_if_not_served c.begin_session_in-begin_result.result c.serve_if_begun-program_result.result.session (exit_status c.serve_if_begun-program_result.result.status) _ _ c.serve_if_begun-program_result.ensures.served c.serve_if_begun-program_result.ensures.refused

pub returns-clause-unread : goal.returns-clause-unread
returns-clause-unread g c =
    holds_if_not_served c.begin_session_in-begin_result.result c.serve_if_begun-program_result.result.session (exit_status c.serve_if_begun-program_result.result.status) _ _ _ c.serve_if_begun-program_result.ensures.served c.serve_if_begun-program_result.ensures.unread

pub returns-clause-unwritten : goal.returns-clause-unwritten
returns-clause-unwritten g c =
    holds_if_not_served c.begin_session_in-begin_result.result c.serve_if_begun-program_result.result.session (exit_status c.serve_if_begun-program_result.result.status) _ _ _ c.serve_if_begun-program_result.ensures.served c.serve_if_begun-program_result.ensures.unwritten
