use Rattle.std.proofs.Common.{rules, arith, ◌≡◌, ◌≤◌, ◌+◌, ◌∙◌, None, Some, ap, refl, sym}
use Rattle.mcs_model.specs.declared.limits.TheConstants.{INPUT_BYTES}
use Rattle.mcs_shell.specs.declared.ends.ShellEnd.TheVariants.{End}
use Rattle.mcs_shell.specs.Faults.{write_faults_after, one_more_fault}
use Rattle.mcs_shell.proofs.FaultCounts.{no_read_fault_by_exchanges}
use Rattle.mcs_shell.proofs.ShellLoop.{ran_shell_halted_at_end_of_input, ran_shell_halted_in_chunk, ran_shell_until_input_limit, ran_shell_until_read_fault, ran_shell_until_end_of_input, loop_progress_after_chunk, loop_progress_at_start}
use Rattle.mcs_shell.proofs.shell.run_loop.Goals as goal

pub loop-total-init : goal.loop-total-init
loop-total-init g c = record { small = omega arith; room = c.requires.not_empty; chunk = c.requires.chunk; so_far = loop_progress_at_start _ _ _ c.new-unfinished.ensures; reader = refl; writer = refl }

pub returns-in-Err-clause-ran : goal.returns-in-Err-clause-ran
returns-in-Err-clause-ran g c = ran_shell_until_read_fault _ _ _ _ _ _ _ c.loop-total.invariant.so_far c.loop-total-test.true c.in-Err.ensures.err

pub returns-in-Ok-finish-clause-ran : goal.returns-in-Ok-finish-clause-ran
returns-in-Ok-finish-clause-ran g c = ran_shell_until_end_of_input End _ _ _ _ _ _ _ _ _ _ None c.loop-total.invariant.so_far c.loop-total-test.true
    (let e : c.in-Ok-eq0.field-0 ≡ 0 = search rules in rw e at c.in-Ok-eq0.ensures.ok) c.in-Ok-finish.ensures.served (refl, refl, refl)

pub returns-in-Err-finish-clause-ran : goal.returns-in-Err-finish-clause-ran
returns-in-Err-finish-clause-ran g c = ran_shell_halted_at_end_of_input c.in-Err-finish.end _ _ _ _ _ _ _ _ _ _ c.loop-total.invariant.so_far c.loop-total-test.true
    (let e : c.in-Ok-eq0.field-0 ≡ 0 = search rules in rw e at c.in-Ok-eq0.ensures.ok) c.in-Err-finish.ensures.served

pub loop-total-preserved : goal.loop-total-preserved
loop-total-preserved g c = record {
  small = let m : c.loop-total.total + c.min-max_count.result ≤ INPUT_BYTES = omega (arith, c.min-max_count.ensures) in omega (arith, m, c.in-Ok.ensures.ok.within);
  room = search rules;
  chunk = search rules;
  so_far = loop_progress_after_chunk _ _ _ _ _ _ _ _ _ _ _ _ c.loop-total.invariant.so_far c.in-Ok.ensures.ok c.in-Ok-serve_chunk.ensures.fed;
  reader = search rules;
  writer = search rules;
}

pub returns-in-Err-serve_chunk-clause-ran : goal.returns-in-Err-serve_chunk-clause-ran
returns-in-Err-serve_chunk-clause-ran g c = ran_shell_halted_in_chunk c.in-Err-serve_chunk.end _ _ _ _ _ _ _ _ _ _ _ _ c.loop-total.invariant.so_far (omega (arith, c.min-max_count.ensures)) (omega (arith, c.min-max_count.ensures, c.loop-total.invariant.chunk)) c.in-Ok.ensures.ok c.in-Err-serve_chunk.ensures.fed

pub returns-clause-ran : goal.returns-clause-ran
returns-clause-ran g c = ran_shell_until_input_limit _ _ _ _ _ _ c.loop-total.invariant.so_far (omega (arith, c.loop-total-test.false, c.loop-total.invariant.small))

pub returns-in-Err-clause-counted : goal.returns-in-Err-clause-counted
returns-in-Err-clause-counted g c = record {
  reader = c.in-Err.ensures.counted ∙ ap one_more_fault c.loop-total.invariant.reader;
  writer = c.loop-total.invariant.writer;
}

pub returns-in-Ok-finish-clause-counted : goal.returns-in-Ok-finish-clause-counted
returns-in-Ok-finish-clause-counted g c = record {
  reader = c.in-Ok-eq0.ensures.counted ∙ c.loop-total.invariant.reader;
  writer = c.in-Ok-finish.ensures.counted ∙ c.loop-total.invariant.writer;
}

pub returns-in-Err-finish-clause-counted : goal.returns-in-Err-finish-clause-counted
returns-in-Err-finish-clause-counted g c = record {
  reader = c.in-Ok-eq0.ensures.counted ∙ c.loop-total.invariant.reader
      ∙ sym (no_read_fault_by_exchanges c.in-Err-finish.ensures.served.exchanges c.in-Err-finish.end _ c.in-Err-finish.ensures.served.halts);
  writer = c.in-Err-finish.ensures.counted ∙ ap (write_faults_after (Some c.in-Err-finish.end)) c.loop-total.invariant.writer;
}

pub returns-in-Err-serve_chunk-clause-counted : goal.returns-in-Err-serve_chunk-clause-counted
returns-in-Err-serve_chunk-clause-counted g c = record {
  reader = c.in-Ok.ensures.counted ∙ c.loop-total.invariant.reader
      ∙ sym (no_read_fault_by_exchanges c.in-Err-serve_chunk.ensures.fed.exchanges c.in-Err-serve_chunk.end _ c.in-Err-serve_chunk.ensures.fed.halts);
  writer = c.in-Err-serve_chunk.ensures.counted ∙ ap (write_faults_after (Some c.in-Err-serve_chunk.end)) c.loop-total.invariant.writer;
}

pub returns-clause-counted : goal.returns-clause-counted
returns-clause-counted g c = record { reader = c.loop-total.invariant.reader; writer = c.loop-total.invariant.writer }
