-- The meaning of a valid text, and the answer to an invalid text.
use Rattle.std.specs.Prelude.{ℕ, List, Result, Ok, Err}
use Rattle.std.specs.Result.{result_map_both}
use Rattle.mcs_model.specs.declared.board.BoardParts.{BoardParts}
use Rattle.mcs_model.specs.declared.command.Command.{Command}
use Rattle.mcs_model.specs.declared.command.Command.TheVariants as command
use Rattle.mcs_model.specs.Images.{by_address}
use Rattle.mcs_source.specs.Assembly.{assembly_of_text}
use Rattle.mcs_source.specs.MapText.{survey_text}
use Rattle.mcs_source.specs.RefusalNumbers.{source_fault_number}
use Rattle.mcs_source.specs.Survey.{Survey, survey_of_text}
use Rattle.mcs_source.specs.declared.fault.SourceFault.{SourceFault}
use Rattle.mcs_wiring.specs.RefusalNumbers.{wiring_fault_number}
use Rattle.mcs_wiring.specs.Parts.{wiring_text}
use Rattle.mcs_wiring.specs.Wiring.{board_of_text}
use Rattle.mcs_wiring.specs.declared.fault.WiringFault.{WiringFault}
use Rattle.mcs_shell.specs.declared.texts.TextMeaning as code
use Rattle.mcs_shell.specs.declared.texts.TextMeaning.TheVariants as variant
use Rattle.mcs_shell.specs.declared.texts.TextRefusal.{TextRefusal}
use Rattle.mcs_shell.specs.declared.texts.TextRefusal.TheVariants.{Wiring, Program}
use Rattle.mcs_lines.specs.declared.requests.TextKind.{TextKind}
use Rattle.mcs_lines.specs.declared.requests.TextKind.TheVariants.{Wire, Asm, Map, Wiring, Errors}
use Rattle.mcs_asm.specs.Errors.{errors_of_text, errors_text}
use Rattle.mcs_answers.specs.AnswerTexts.{no_line_text, no_text}

-- the command that replaces the bench's board with the board parsed from a text, or the error in
-- the text
abbrev pub wire_command : Result BoardParts WiringFault → Result Command TextRefusal
wire_command (Ok board) = Ok (command.Wire board)
wire_command (Err fault) = Err (Wiring fault)

-- the command that loads the bytes of a program, or the error in the program's text
abbrev pub load_command : Result (List (ℕ × ℕ)) (ℕ × SourceFault) → Result Command TextRefusal
load_command (Ok pairs) = Ok (command.Load (by_address pairs))
load_command (Err at) = Err (Program (at.0) (at.1))

-- The meaning of a text: a command to execute (`Executes`), or lines to return as the answer
-- (`Reports`, with the bytes of the lines). A text that reports lines has no other effect.
pub data TextMeaning : Type 0 where
  Executes : Command → TextMeaning
  Reports : List ℕ → TextMeaning

-- the meaning of a `map` text: the map of its program, or the error in the program's text
abbrev pub program_map : Result Survey (ℕ × SourceFault) → Result TextMeaning TextRefusal
program_map (Ok survey) = Ok (Reports (survey_text survey))
program_map (Err at) = Err (Program (at.0) (at.1))

-- the meaning of a text of the given kind, or the error that makes the text invalid
unfoldable pub meaning_of_text : TextKind → List ℕ → Result TextMeaning TextRefusal
meaning_of_text Wire text = result_map_both Executes (λ why. why) (wire_command (board_of_text text))
meaning_of_text Asm text = result_map_both Executes (λ why. why) (load_command (assembly_of_text text))
meaning_of_text Map text = program_map (survey_of_text text)
meaning_of_text Wiring text = Ok (Reports (wiring_text text))
meaning_of_text Errors text = Ok (Reports (errors_text (errors_of_text text)))

-- the meaning that a value of the Rust type `TextMeaning` (`code.TextMeaning`) represents
abbrev pub meaning_view : code.TextMeaning → TextMeaning
meaning_view (variant.Executes c) = Executes c
meaning_view (variant.Reports lines) = Reports lines.items

-- the answer to a text that is invalid because of this error
abbrev pub text_refusal_answer : TextRefusal → List ℕ
text_refusal_answer (Wiring fault) = no_text (wiring_fault_number fault)
text_refusal_answer (Program line fault) = no_line_text (source_fault_number fault) line
