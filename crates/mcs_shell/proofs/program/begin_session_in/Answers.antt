use Rattle.std.proofs.Common.{◌≡◌, ◌⊎◌, Result, Ok, Err, IfOk, IfErr, IsErrAnd, IsSomeAnd, inl, inr}
use Rattle.mcs_host.specs.Ending.{as_disk}
use Rattle.mcs_host.specs.FileDisk.{HasNoCalls}
use Rattle.mcs_host.specs.declared.file_disk.FileDisk.{FileDisk}
use Rattle.mcs_host.specs.declared.file_fault.FileFault.{FileFault}
use Rattle.mcs_host.specs.declared.arguments.Choice.{Choice}
use Rattle.mcs_session.specs.SessionState.{SessionView}
use Rattle.mcs_shell.specs.Program.{IsBegunOn, IsChoiceRefused}
use Rattle.mcs_shell.specs.RefusalNumbers.{begin_fault_number}
use Rattle.mcs_shell.specs.declared.program.BeginFailure.{BeginFailure}
use Rattle.mcs_shell.specs.declared.faults.BeginFault.TheVariants as begin_fault
use Rattle.mcs_shell.proofs.program.begin_session_in.Goals as goal

begun_on_opened_disk : (choice : Choice) (opened : Result FileDisk FileFault) (result : Result (SessionView FileDisk) (BeginFailure FileDisk))
    → IfOk opened (λ disk. HasNoCalls (as_disk disk))
    → IfOk opened (λ disk. IfOk result (λ s. IsBegunOn as_disk choice disk s))
    → IfErr opened (λ fault. IsErrAnd result (λ r. r.fault ≡ begin_fault.File fault))
    → IfOk result (λ s. (disk : FileDisk) × HasNoCalls (as_disk disk) × IsBegunOn as_disk choice disk s)
begun_on_opened_disk choice (Ok disk) (Ok s) is begun none = (disk, is, begun)
begun_on_opened_disk choice (Ok disk) (Err r) is begun none = tt
begun_on_opened_disk choice (Err fault) (Ok s) is begun none = absurd none
begun_on_opened_disk choice (Err fault) (Err r) is begun none = tt

refused_on_opened_disk : (choice : Choice) (opened : Result FileDisk FileFault) (result : Result (SessionView FileDisk) (BeginFailure FileDisk))
    → IfOk opened (λ disk. HasNoCalls (as_disk disk))
    → IfOk opened (λ disk. IfErr result (λ r. IsSomeAnd r.disk (λ left. IsChoiceRefused choice (as_disk disk) (as_disk left) (begin_fault_number r.fault))))
    → IfErr opened (λ fault. IsErrAnd result (λ r. r.fault ≡ begin_fault.File fault))
    → IfErr result (λ r. ((fault : FileFault) × (r.fault ≡ begin_fault.File fault))
    ⊎ ((disk : FileDisk) × HasNoCalls (as_disk disk) × IsSomeAnd r.disk (λ left. IsChoiceRefused choice (as_disk disk) (as_disk left) (begin_fault_number r.fault))))
refused_on_opened_disk choice (Ok disk) (Ok s) is refused none = tt
refused_on_opened_disk choice (Ok disk) (Err r) is refused none = inr (disk, is, refused)
refused_on_opened_disk choice (Err fault) (Ok s) is refused none = tt
refused_on_opened_disk choice (Err fault) (Err r) is refused none = inl (fault, none)

pub returns-clause-begun : goal.returns-clause-begun
returns-clause-begun c = begun_on_opened_disk c.args.choice.now c.open_at-open_result.result c.begin_session_on.result c.open_at-open_result.ensures.opened c.begin_session_on.ensures.begun c.begin_session_on.ensures.unopened

pub returns-clause-refused : goal.returns-clause-refused
returns-clause-refused c = refused_on_opened_disk c.args.choice.now c.open_at-open_result.result c.begin_session_on.result c.open_at-open_result.ensures.opened c.begin_session_on.ensures.refused c.begin_session_on.ensures.unopened
