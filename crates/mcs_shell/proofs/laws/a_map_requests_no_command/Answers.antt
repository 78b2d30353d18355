use Rattle.std.proofs.Common.{◌≡◌, ◌↔◌, ℕ, List, Result, Ok, Err, None, refl}
use Rattle.std.specs.Result.{result_map_both}
use Rattle.mcs_model.specs.TextLines.{lines_of}
use Rattle.mcs_source.specs.declared.fault.SourceFault.{SourceFault}
use Rattle.mcs_source.specs.Assembly.{assembly_of_text, read}
use Rattle.mcs_source.specs.Survey.{Survey, survey_of}
use Rattle.mcs_shell.specs.declared.texts.TextRefusal.{TextRefusal}
use Rattle.mcs_shell.specs.TextMeanings.{Executes, load_command, program_map, meaning_of_text}
use Rattle.mcs_shell.specs.Transcript.{text_command}
use Rattle.mcs_shell.proofs.laws.a_map_requests_no_command.Goals as goal

abbrev survey_result : (List (ℕ × ℕ) → Survey) → Result (List (ℕ × ℕ)) (ℕ × SourceFault) → Result Survey (ℕ × SourceFault)
survey_result f r = result_map_both f (λ x. x) r

map_requests_no_command : (f : List (ℕ × ℕ) → Survey) (r : Result (List (ℕ × ℕ)) (ℕ × SourceFault)) → text_command (program_map (survey_result f r)) ≡ None
map_requests_no_command f (Ok pairs) = refl
map_requests_no_command f (Err at) = refl

map_refused_like_asm : (f : List (ℕ × ℕ) → Survey) (r : Result (List (ℕ × ℕ)) (ℕ × SourceFault)) (why : TextRefusal) → (program_map (survey_result f r) ≡ Err why) ↔ (result_map_both Executes (λ why. why) (load_command r) ≡ Err why)
map_refused_like_asm f (Ok pairs) why = (λ e. absurd (cc e), λ e. absurd (cc e))
map_refused_like_asm f (Err at) why = (λ e. e, λ e. e)

pub returns-clause-asks : goal.returns-clause-asks
unfolding meaning_of_text
returns-clause-asks c = λ text. map_requests_no_command (λ pairs. survey_of (read (lines_of text))) (assembly_of_text text)

pub returns-clause-refused : goal.returns-clause-refused
unfolding meaning_of_text
returns-clause-refused c = λ text why. map_refused_like_asm (λ pairs. survey_of (read (lines_of text))) (assembly_of_text text) why
