-- The command that loads a program.
use Rattle.std.proofs.Common.{◌≡◌, ℕ, List, sym, ap, ◌∙◌}
use Rattle.std.specs.Prelude.{Result, Ok}
use Rattle.mcs_asm.specs.View.{Assembles}
use Rattle.mcs_model.specs.declared.command.Command.{Command}
use Rattle.mcs_model.specs.declared.command.Command.TheVariants as command
use Rattle.mcs_source.specs.declared.fault.SourceFault.{SourceFault}
use Rattle.mcs_shell.specs.declared.texts.TextRefusal.{TextRefusal}
use Rattle.mcs_shell.specs.TextMeanings.{load_command}

-- the command that loads an image, as the result of parsing a program
abbrev pub load_command_of_image : List (ℕ × ℕ) → Result Command TextRefusal
load_command_of_image image = Ok (command.Load image)

pub load_command_of_assembled_image : (image : List (ℕ × ℕ)) (wanted : Result (List (ℕ × ℕ)) (ℕ × SourceFault)) → Assembles (Ok image) wanted → load_command_of_image image ≡ load_command wanted
load_command_of_assembled_image image wanted h = ap load_command_of_image h.2 ∙ ap load_command (sym h.1)
