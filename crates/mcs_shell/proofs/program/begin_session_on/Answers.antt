use Rattle.std.proofs.Common.{refl}
use Rattle.mcs_shell.proofs.program.begin_session_on.Goals as goal

pub returns-in-Ok-create-clause-begun : goal.returns-in-Ok-create-clause-begun
returns-in-Ok-create-clause-begun g c = rw (c.in-Ok.is, c.in-New.is) (record {
  is_open = c.in-Ok-create.ensures.open;
  state_is = c.in-Ok-create.ensures.new;
  counts = c.in-Ok-create.ensures.counts;
  creates = c.in-Ok-create.ensures.created;
})

pub returns-in-Err-create-clause-refused : goal.returns-in-Err-create-clause-refused
returns-in-Err-create-clause-refused g c = rw (c.in-Ok.is, c.in-New.is) (record {
  fault = c.in-Err-create.fault;
  is_create_fault = c.in-Err-create.ensures.possible_errors;
  number_is = refl;
  counts = c.in-Err-create.ensures.error_counts_fault;
  refuses = c.in-Err-create.ensures.refused;
})

pub returns-in-Ok-open-clause-begun : goal.returns-in-Ok-open-clause-begun
returns-in-Ok-open-clause-begun g c = rw (c.in-Ok.is, c.in-Open.is) (record {
  is_open = c.in-Ok-open.ensures.open;
  counts = c.in-Ok-open.ensures.counts;
  opens = c.in-Ok-open.ensures.opened;
  migrates = c.in-Ok-open.ensures.migrated;
})

pub returns-in-Err-open-clause-refused : goal.returns-in-Err-open-clause-refused
returns-in-Err-open-clause-refused g c = rw (c.in-Ok.is, c.in-Open.is) (record {
  fault = c.in-Err-open.fault;
  is_open_fault = c.in-Err-open.ensures.possible_errors;
  number_is = refl;
  counts = c.in-Err-open.ensures.error_counts_fault;
  refuses = c.in-Err-open.ensures.refused;
})
