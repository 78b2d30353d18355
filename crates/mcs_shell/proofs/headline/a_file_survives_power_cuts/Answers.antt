use Rattle.std.proofs.Common.{inl, inr, ap, ◌∙◌}
use Rattle.mcs_host.specs.Ending.{as_disk}
use Rattle.mcs_shell.specs.Headline.{AnswersAndSurvives}
use Rattle.mcs_shell.specs.RefusalNumbers.{store_fault_number}
use Rattle.mcs_shell.proofs.ReopenedFiles.{reopened_file_left_by_cut}
use Rattle.mcs_shell.proofs.SurvivingCommands.{disk_honest_after_run, run_answers_and_survives}
use Rattle.mcs_shell.proofs.headline.a_file_survives_power_cuts.Goals as goal

pub returns : goal.returns
returns c = λ run given.
    let honest : (as_disk run.after.disk).honest = disk_honest_after_run as_disk run given.1 in
    let run_survives : AnswersAndSurvives as_disk as_disk run = run_answers_and_survives as_disk as_disk run given in
    record {
      answered = run_survives.answered;
      reopened = λ time reopened_file session late found begun.
          run_survives.survives.reopened time reopened_file session.disk session.state late (reopened_file_left_by_cut time run.after.disk reopened_file honest found) (begun.opens found.honest);
      not_refused = λ time reopened_file number late found refused.
          elim (run_survives.survives.not_refused time reopened_file refused.1.fault late (reopened_file_left_by_cut time run.after.disk reopened_file honest found) (refused.1.refuses found.honest).0) [
            | inl is ↦ inl (refused.1.number_is ∙ ap store_fault_number is)
            | inr is ↦ inr (refused.1.number_is ∙ ap store_fault_number is)
          ];
    }
