use Rattle.std.proofs.Common.{◌≡◌, length}
use Rattle.mcs_shell.specs.ShellState.{shell_state}
use Rattle.mcs_shell.proofs.Exchanges.{ServedPart}
use Rattle.mcs_shell.proofs.serving.serve_chunk.Given as goal

abbrev pub invariant-loop-front : goal.invariant-loop-front
invariant-loop-front g l = record {
  served : ServedPart
      (shell_state g.D.Disk.state l.fn.session (g.W.AnswerSink.contents l.fn.writer))
      (shell_state g.D.Disk.state l.session (g.W.AnswerSink.contents l.writer))
      l.fn.unfinished l.unfinished l.rest l.chunk;
  counted : g.W.AnswerSink.faults l.writer ≡ g.W.AnswerSink.faults l.fn.writer;
}

abbrev pub decreases-loop-front : goal.decreases-loop-front
decreases-loop-front g l = length l.rest
