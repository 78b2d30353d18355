use Rattle.mcs_shell.proofs.MayAnswer.{may_write_first_line}
use Rattle.std.proofs.Common.{rules, ◌≡◌, ◌∙◌, Some, ap, inr, refl}
use Rattle.std.proofs.KnownBytes.{Appends-nil}
use Rattle.mcs_session.specs.KeptCommands.{IsOpenOnHonestDisk}
use Rattle.mcs_session.specs.SessionState.{session_state}
use Rattle.mcs_answers.specs.AnswerTexts.{session_text}
use Rattle.mcs_shell.specs.declared.ends.ShellEnd.TheVariants.{NoMemory, WriteFault}
use Rattle.mcs_shell.specs.Faults.{write_faults_after}
use Rattle.mcs_shell.specs.ServedPieces.{IsIntact}
use Rattle.mcs_shell.specs.ShellState.{shell_state}
use Rattle.mcs_shell.proofs.ShellLoop.{ran_shell_without_first_line, ran_shell_after_first_line, session_text_is_not_empty}
use Rattle.mcs_shell.proofs.shell.run_shell.Goals as goal

pub returns-in-Err-clause-ran : goal.returns-in-Err-clause-ran
returns-in-Err-clause-ran g c =
    let response : c.set_number.new.self ≡ session_text (c.args.session.now.state) = search rules in
    let a = session_state g.D.Disk.state c.args.session.now in
    let intact : IsOpenOnHonestDisk a → IsIntact a = λ honest. record { honest = honest; represents = c.bench.ensures.represents honest.0 honest.1 } in
    ran_shell_without_first_line WriteFault _ (shell_state g.D.Disk.state c.args.session.now (g.W.AnswerSink.contents c.args.writer.now)) _ (session_text a.state) intact (rw response at c.in-Err.ensures.err) (λ is. absurd (cc is)) (inr (refl, refl, refl))

pub returns-clause-ran : goal.returns-clause-ran
returns-clause-ran g c =
    let response : c.set_number.new.self ≡ session_text (c.args.session.now.state) = search rules in
    let a = session_state g.D.Disk.state c.args.session.now in
    let intact : IsOpenOnHonestDisk a → IsIntact a = λ honest. record { honest = honest; represents = c.bench.ensures.represents honest.0 honest.1 } in
    ran_shell_after_first_line c.run_loop.result _ _ (shell_state g.D.Disk.state c.args.session.now (g.W.AnswerSink.contents c.args.writer.now)) _ _ (session_text a.state) intact (rw response at c.in-Ok-send.ensures.ok) c.run_loop.ensures.ran

pub returns-in_default-clause-ran : goal.returns-in_default-clause-ran
returns-in_default-clause-ran g c =
    let a = session_state g.D.Disk.state c.args.session.now in
    let settled : IsOpenOnHonestDisk a → IsIntact a = λ honest. record { honest = honest; represents = c.bench.ensures.represents honest.0 honest.1 } in
    let out = g.W.AnswerSink.contents c.args.writer.now in
    ran_shell_without_first_line NoMemory _ (shell_state g.D.Disk.state c.args.session.now out) out (session_text a.state) settled (record { count = 0; fewer = session_text_is_not_empty a.state; received = Appends-nil out }) (λ is. refl) (refl, refl, refl)

pub send-requires : goal.send-requires
send-requires g c = may_write_first_line _ _ _ (search rules) c.bench.ensures.represents

pub returns-in-Err-clause-counted : goal.returns-in-Err-clause-counted
returns-in-Err-clause-counted g c = record { reader = refl; writer = c.in-Err.ensures.counted }

pub returns-clause-counted : goal.returns-clause-counted
returns-clause-counted g c = record {
  reader = c.run_loop.ensures.counted.reader;
  writer = c.run_loop.ensures.counted.writer ∙ ap (write_faults_after (Some c.run_loop.result)) c.in-Ok-send.ensures.counted;
}

pub returns-in_default-clause-counted : goal.returns-in_default-clause-counted
returns-in_default-clause-counted g c = record { reader = refl; writer = refl }
