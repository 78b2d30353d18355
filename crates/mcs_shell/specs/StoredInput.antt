-- The bytes that are stored for unfinished lines and texts while input arrives in chunks.
use Rattle.std.specs.Prelude.{◌≡◌, ◌⊎◌, ◌<◌, ℕ, List, [], ◌++◌, length, Option, Some, None}
use Rattle.std.specs.Str.Lines.{strip_carriage_return}
use Rattle.mcs_lines.specs.declared.requests.TextKind.{TextKind}
use Rattle.mcs_model.specs.declared.limits.TheConstants.{TEXT_BYTES}
use Rattle.mcs_model.specs.TextLines.{as_line}
use Rattle.mcs_shell.specs.UnfinishedInputView.{LineMode, OutsideText, InText, UnfinishedInputView}

-- the mode of the unfinished line, given the kind of the open text (`None` if no text is open) and
-- the text's stored bytes
abbrev pub mode_of : Option TextKind → List ℕ → LineMode
mode_of None text = OutsideText
mode_of (Some kind) text = InText kind text

-- Holds if `new` is the text with the line and a line feed appended. If this text would have more
-- than `TEXT_BYTES` bytes, `new` can instead be any text that is too long. The shell rejects both
-- texts in the same way, no matter which bytes follow.
abbrev pub AppendsLine : List ℕ → List ℕ → List ℕ → Type 0
AppendsLine text line new =
    (new ≡ text ++ as_line line)
    ⊎ ((TEXT_BYTES < length (text ++ as_line line)) × (TEXT_BYTES < length new))

-- Holds if the unfinished line `line` was appended to the open text. A carriage return at the end
-- of `line` was left out. `q` is the unfinished input afterwards. If no text is open, this holds
-- for every `q`.
abbrev pub AppendsLineToText : LineMode → List ℕ → UnfinishedInputView → Type 0
AppendsLineToText OutsideText line q = Unit {0}
AppendsLineToText (InText kind text) line q =
    (new : List ℕ) × AppendsLine text (strip_carriage_return line) new
    × (q ≡ record { mode = InText kind new; line = [] })
