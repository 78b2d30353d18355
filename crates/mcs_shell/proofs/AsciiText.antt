-- A text without a `TextFault` consists of ASCII characters, so it is valid UTF-8.
use Rattle.std.proofs.Common.{◌≡◌, ℕ, ◌<◌, List, [], ◌∷◌, Bool, true, false, if◌then◌else◌, Option, Some, None, length, nat_lt, arith, refl}
use Rattle.std.proofs.lemmas.Grind.{common_steps}
use Rattle.std.specs.List.{list_all, slice_split}
use Rattle.std.specs.Str.{IsAscii, IsUtf8}
use Rattle.std.proofs.lemmas.Str.{IsUtf8-from_ascii}
use Rattle.std.proofs.lemmas.Str.Ascii.{IsAscii-cons, IsAscii-nil}
use Rattle.std.proofs.lemmas.Bool.{and_parts}
use Rattle.mcs_shell.specs.declared.texts.TextFault.{TextFault}
use Rattle.mcs_shell.specs.declared.texts.TextFault.TheVariants.{TextTooLong, LineTooLong, NotAscii}
use Rattle.mcs_model.specs.TextLines.{is_line_feed}
use Rattle.mcs_shell.specs.Inputs.{text_fault_of, is_short_line, is_text_byte}

last_check_passed : (a b c : Bool) → (let r : Option TextFault = (if a then Some TextTooLong else (if b then (if c then None else Some NotAscii) else Some LineTooLong)) in r) ≡ None → c ≡ true
last_check_passed true b c h = absurd (cc h)
last_check_passed false true true h = refl
last_check_passed false true false h = absurd (cc h)
last_check_passed false false c h = absurd (cc h)

text_byte_is_ascii : (b : ℕ) → is_text_byte b ≡ true → b < 128
text_byte_is_ascii b h = grind (arith, common_steps)

all_ascii : (text : List ℕ) → list_all is_text_byte text ≡ true → IsAscii text
all_ascii [] h = IsAscii-nil
all_ascii (b ∷ bs) h = let k = and_parts (is_text_byte b) (list_all is_text_byte bs) h in IsAscii-cons b bs (text_byte_is_ascii b k.0) (all_ascii bs k.1)

pub text_is_utf8 : (text : List ℕ) → text_fault_of text ≡ None → IsUtf8 text
unfolding text_fault_of
text_is_utf8 text h = IsUtf8-from_ascii text (all_ascii text (last_check_passed (nat_lt 16384 (length text)) (list_all is_short_line (slice_split is_line_feed text)) (list_all is_text_byte text) h))
