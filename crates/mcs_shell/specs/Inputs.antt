-- The inputs that bytes form. The bytes form lines, and the lines form inputs. (Defined by
-- Fethsaim, not by Intel.)
use Rattle.std.specs.Prelude.{◌||◌, Bool, true, false, not, ℕ, List, [], ◌∷◌, ◌++◌, length, codes, nat_lt, nat_le, if◌then◌else◌, Option, Some, None}
use Rattle.std.specs.List.{before_first, list_all, list_any, slice_split}
use Rattle.std.specs.Str.{bytes_eq}
use Rattle.mcs_model.specs.declared.limits.TheConstants.{LINE_BYTES, TEXT_BYTES}
use Rattle.mcs_lines.specs.declared.requests.TextKind.{TextKind}
use Rattle.mcs_lines.specs.declared.requests.Request.{Request}
use Rattle.mcs_lines.specs.declared.requests.Request.TheVariants.{Begin}
use Rattle.mcs_shell.specs.declared.texts.TextFault.{TextFault}
use Rattle.mcs_shell.specs.declared.texts.TextFault.TheVariants.{NoEnd, TextTooLong, LineTooLong, NotAscii}
use Rattle.mcs_lines.specs.LineRequests.{request_of}
use Rattle.mcs_lines.specs.Words.{is_allowed_byte}
use Rattle.mcs_model.specs.TextLines.{is_line_feed, lines, text_of}

-- An input. `Line` has the request of a line outside a text, and `Text` has a text. `BadText` is a
-- text with an error that does not depend on the meaning of the text's lines. The line that begins
-- a text is not an input itself; it belongs to the input of the text.
pub data Input : Type 0 where
  Line : Request → Input
  Text : TextKind → List ℕ → Input
  BadText : TextFault → Input

-- ---- a text

-- true if a line is a single dot, which ends a text
abbrev pub is_dot_line : List ℕ → Bool
is_dot_line line = bytes_eq line (codes ".")

-- true if a line is short enough for a text: at most `LINE_BYTES` bytes
abbrev pub is_short_line : List ℕ → Bool
is_short_line line = nat_le (length line) LINE_BYTES

-- true if a text may contain this byte
abbrev pub is_text_byte : ℕ → Bool
is_text_byte b = is_line_feed b || is_allowed_byte b

-- The first error in a complete text, or `None`. Errors that depend on the meaning of the text's
-- lines are not checked here. The checks, in order: the text is too long, a line is too long, a
-- byte is not allowed.
unfoldable pub text_fault_of : List ℕ → Option TextFault
text_fault_of text =
    if nat_lt TEXT_BYTES (length text) then Some TextTooLong
    else if list_all is_short_line (slice_split is_line_feed text)
    then (if list_all is_text_byte text then None else Some NotAscii)
    else Some LineTooLong

-- the input of a complete text: the text, or `BadText` if the text has an error
abbrev pub text_or_fault : TextKind → List ℕ → Option TextFault → Input
text_or_fault kind text None = Text kind text
text_or_fault kind text (Some fault) = BadText fault

-- the input of a complete text, which is `BadText` if `text_fault_of` finds an error
abbrev pub input_of_text : TextKind → List ℕ → Input
input_of_text kind text = text_or_fault kind text (text_fault_of text)

-- ---- inputs formed by several lines

-- the kind of the text that a line with this request begins, or `None` if it begins no text
abbrev pub kind_of_begun_text : Request → Option TextKind
kind_of_begun_text (Begin kind) = Some kind
kind_of_begun_text request = None

-- The input of a text, given the lines after the line that began the text. The text consists of the
-- lines before the first dot line, each followed by a line feed. Without a dot line, the text is
-- rejected (`NoEnd`) if input ended after the lines (`whole` is true). If input can continue, the
-- text does not form an input yet.
abbrev pub text_input : Bool → TextKind → List (List ℕ) → List Input
text_input whole kind ls =
    if list_any is_dot_line ls
    then input_of_text kind (text_of (before_first is_dot_line ls)) ∷ []
    else if whole then BadText NoEnd ∷ [] else []

-- The inputs that lines form. If `in_text` is true, the first lines, up to the first dot line,
-- belong to a text whose input `text_input` has already given. `whole` is true if input ended after
-- the lines.
unfoldable pub inputs_of_lines : Bool → Bool → List (List ℕ) → List Input
inputs_of_lines whole in_text [] = []
inputs_of_lines whole true (l ∷ ls) = inputs_of_lines whole (not (is_dot_line l)) ls
inputs_of_lines whole false (l ∷ ls) =
    elim (kind_of_begun_text (request_of l)) [
      | None ↦ Line (request_of l) ∷ inputs_of_lines whole false ls
      | Some kind ↦ text_input whole kind ls ++ inputs_of_lines whole true ls
    ]

-- The inputs that the bytes form. `ended` is true if input ended after the bytes, and false if more
-- bytes can follow.
unfoldable pub inputs : List ℕ → Bool → List Input
inputs bytes ended = inputs_of_lines ended false (lines bytes ended)
