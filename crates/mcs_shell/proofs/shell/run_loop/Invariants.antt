use Rattle.std.proofs.Common.{◌≡◌, ◌≤◌, ◌<◌, ◌-◌, length}
use Rattle.mcs_model.specs.declared.limits.TheConstants.{INPUT_BYTES}
use Rattle.mcs_shell.specs.ShellState.{shell_state}
use Rattle.mcs_shell.specs.declared.shell.TheConstants.{CHUNK_BYTES}
use Rattle.mcs_shell.proofs.ShellLoop.{LoopProgress}
use Rattle.mcs_shell.proofs.shell.run_loop.Given as goal

abbrev pub invariant-loop-total : goal.invariant-loop-total
invariant-loop-total g l = record {
  small : l.total ≤ INPUT_BYTES;
  room : 0 < length l.buffer;
  chunk : length l.buffer ≤ CHUNK_BYTES;
  so_far : LoopProgress (g.R.InputSource.remaining l.fn.reader) (g.R.InputSource.remaining l.reader)
      (shell_state g.D.Disk.state l.fn.session (g.W.AnswerSink.contents l.fn.writer))
      (shell_state g.D.Disk.state l.session (g.W.AnswerSink.contents l.writer))
      l.unfinished l.total;
  reader : g.R.InputSource.faults l.reader ≡ g.R.InputSource.faults l.fn.reader;
  writer : g.W.AnswerSink.faults l.writer ≡ g.W.AnswerSink.faults l.fn.writer;
}

abbrev pub decreases-loop-total : goal.decreases-loop-total
decreases-loop-total g l = INPUT_BYTES - l.total
