-- Unfinished input: the last line and the open text while input arrives in chunks. Also the inputs
-- that unfinished input forms together with the bytes that follow. Only contracts of private
-- functions use these definitions.
use Rattle.std.specs.Prelude.{Bool, ℕ, List, [], ◌∷◌, ◌++◌, if◌then◌else◌, Some, None}
use Rattle.mcs_lines.specs.declared.requests.TextKind.{TextKind}
use Rattle.mcs_lines.specs.LineRequests.{request_of}
use Rattle.mcs_model.specs.TextLines.{as_line, lines}
use Rattle.mcs_shell.specs.declared.texts.TextFault.TheVariants.{NoEnd}
use Rattle.mcs_shell.specs.Inputs.{BadText, Input, Line, is_dot_line, input_of_text, kind_of_begun_text}

-- The mode in which a line is read: as a command (`OutsideText`), or as a line of a text of this
-- kind that already has the given bytes (`InText`).
pub data LineMode : Type 0 where
  OutsideText : LineMode
  InText : TextKind → List ℕ → LineMode

-- the inputs that lines form if the first line is read in the given mode; the Bool is true if input
-- ended after the lines
unfoldable pub inputs_in_mode : Bool → LineMode → List (List ℕ) → List Input
inputs_in_mode whole OutsideText [] = []
inputs_in_mode whole (InText kind text) [] = if whole then BadText NoEnd ∷ [] else []
inputs_in_mode whole OutsideText (l ∷ ls) =
    elim (kind_of_begun_text (request_of l)) [
      | None ↦ Line (request_of l) ∷ inputs_in_mode whole OutsideText ls
      | Some kind ↦ inputs_in_mode whole (InText kind []) ls
    ]
inputs_in_mode whole (InText kind text) (l ∷ ls) =
    if is_dot_line l then input_of_text kind text ∷ inputs_in_mode whole OutsideText ls
    else inputs_in_mode whole (InText kind (text ++ as_line l)) ls

-- unfinished input: the mode of the unfinished line, and the bytes of that line so far
pub record UnfinishedInputView : Type 0 where
  pub mode : LineMode
  pub line : List ℕ

-- no unfinished input: no text is open, and no line has begun
abbrev pub no_unfinished_input : UnfinishedInputView
no_unfinished_input = record { mode = OutsideText; line = [] }

-- the inputs that the unfinished input and the bytes after it form; the Bool is true if input ended
-- after these bytes
abbrev pub inputs_after : UnfinishedInputView → List ℕ → Bool → List Input
inputs_after p bytes whole = inputs_in_mode whole p.mode (lines (p.line ++ bytes) whole)
