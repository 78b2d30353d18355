use Rattle.mcs_shell.proofs.program.serve_if_begun.Goals as goal

pub returns-in-Ok-clause-served : goal.returns-in-Ok-clause-served
returns-in-Ok-clause-served g c = rw c.in-Ok.is (record {
  end = c.serve-end.result.0;
  ran_with = c.serve-end.ensures.ran;
  status_is = c.serve-end.ensures.status;
})
