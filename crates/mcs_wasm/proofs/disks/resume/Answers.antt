use Rattle.mcs_wasm.proofs.disks.resume.Goals as goal

pub returns-in-Err-NotASession-default-clause-refused : goal.returns-in-Err-NotASession-default-clause-refused
returns-in-Err-NotASession-default-clause-refused c =
    (c.in-Ok.disk, c.in-Ok.ensures, rw c.in-Err-NotASession-default.field-0-0-is at ((c.in-Err-NotASession-default.ensures.refused tt).0))

pub returns-in-Err-Damaged-default-clause-refused : goal.returns-in-Err-Damaged-default-clause-refused
returns-in-Err-Damaged-default-clause-refused c =
    (c.in-Ok.disk, c.in-Ok.ensures, rw c.in-Err-Damaged-default.field-0-0-is at ((c.in-Err-Damaged-default.ensures.refused tt).0))
