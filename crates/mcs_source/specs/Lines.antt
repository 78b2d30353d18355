-- The syntax of a source line: an optional label and an optional statement, or the definition of a
-- name. The tokens of a line do not include its comment. (The operands of the instructions are from
-- the MCS-4 Users Manual; the rest is defined by Fethsaim.)
use Rattle.std.specs.Prelude.{ℕ, ◌-◌, Bool, false, not, ◌&&◌, ◌||◌, List, [], ◌∷◌, Option, Some, None, is_some, nat_le, ◌==◌, if◌then◌else◌, codes, length}
use Rattle.std.specs.Str.{str_eq_ignore_ascii_case}
use Rattle.std.specs.Char.{is_ascii_digit, is_ascii_uppercase, is_ascii_lowercase}
use Rattle.std.specs.Int.{is_in_range}
use Rattle.mcs_source.specs.Lexical.{Token, Word, Comma, Colon, Equals}
use Rattle.mcs_model.specs.Numerals.{number_in_word, capped_number}
use Rattle.mcs_source.specs.Mnemonics.{mnemonic_of}
use Rattle.mcs_model.specs.declared.limits.TheConstants.{NAME_BYTES}
use Rattle.mcs_model.specs.declared.op.Op.{Op}
use Rattle.mcs_model.specs.declared.op.Op.TheVariants as op
use Rattle.mcs_source.specs.declared.mnemonic.Mnemonic.{Mnemonic}
use Rattle.mcs_source.specs.declared.mnemonic.Mnemonic.TheVariants as m
use Rattle.mcs_model.specs.Options.{◌>>=◌}

-- an operand as written in the source
pub data Operand : Type 0 where
  Number : ℕ → Operand
  Name : List ℕ → Operand

-- A statement with its operands in source order. `Whole` is an instruction whose operands, if any,
-- are only registers or a pair.
pub data Statement : Type 0 where
  Origin : ℕ → Statement
  Data : List Operand → Statement
  Whole : Op → Statement
  Ldm Bbl Jun Jms : Operand → Statement
  Fim : ℕ → Operand → Statement
  Jcn : Operand → Operand → Statement
  Isz : ℕ → Operand → Statement

-- true if a word begins with a letter or `_`
abbrev pub starts_like_name : List ℕ → Bool
starts_like_name [] = false
starts_like_name (b ∷ word) = (is_ascii_uppercase b || is_ascii_lowercase b) || b == 95

-- the number from 0 to 15 that decimal digits spell, or `None`; a leading zero is not allowed
abbrev pub number_up_to_15 : List ℕ → Option ℕ
number_up_to_15 (d ∷ []) = if is_ascii_digit d then Some (d - 48) else None
number_up_to_15 (t ∷ d ∷ []) = if t == 49 && is_in_range 48 53 d then Some (d - 38) else None
number_up_to_15 ds = None

-- the register number of `R0` to `R15` or `r0` to `r15`, or `None` for any other word
abbrev pub register_named : List ℕ → Option ℕ
register_named (b ∷ ds) = if b == 82 || b == 114 then number_up_to_15 ds else None
register_named [] = None

-- the pair number of `P0` to `P7` or `p0` to `p7`, or `None` for any other word
abbrev pub pair_named : List ℕ → Option ℕ
pair_named (b ∷ d ∷ []) = if (b == 80 || b == 112) && is_in_range 48 55 d then Some (d - 48) else None
pair_named word = None

-- True if a word is reserved, regardless of case: a mnemonic, `ORG`, `DB`, `WPM`, a register or a
-- pair. A reserved word cannot be a name.
unfoldable pub is_reserved : List ℕ → Bool
is_reserved w =
    is_some (mnemonic_of w) || (str_eq_ignore_ascii_case w (codes "WPM")
    || (is_some (register_named w) || is_some (pair_named w)))

-- true if a word can be a name: it begins with a letter or `_`, has at most `NAME_BYTES` bytes, and
-- is not reserved
abbrev pub is_name : List ℕ → Bool
is_name w = (starts_like_name w && nat_le (length w) NAME_BYTES) && not (is_reserved w)

abbrev pub name_of : List ℕ → Option Operand
name_of w = if is_name w then Some (Name w) else None

-- The operand for a number, capped at 2^32, or the operand `name` if there is no number. No word is
-- both a number and a name.
abbrev pub number_or_name : Option ℕ → Option Operand → Option Operand
number_or_name (Some n) name = Some (Number (capped_number n))
number_or_name None name = name

abbrev pub operand_of : List ℕ → Option Operand
operand_of w = number_or_name (number_in_word w) (name_of w)

-- the word, if there is only one token and it is a word
abbrev pub single_word : List Token → Option (List ℕ)
single_word (Word w ∷ []) = Some w
single_word ts = None

-- the first token and the tokens after the comma, if the first token is a word and a comma follows
-- it
abbrev pub word_before_comma : List Token → Option (List ℕ × List Token)
word_before_comma (Word w ∷ Comma ∷ ts) = Some (w, ts)
word_before_comma ts = None

-- the operand, if it is the only token; otherwise `None`
abbrev pub one_operand : List Token → Option Operand
one_operand ts = single_word ts >>= operand_of

-- the number, capped at 2^32, if it is the only token; otherwise `None`
abbrev pub one_number : List Token → Option ℕ
one_number ts = single_word ts >>= λ w. number_in_word w >>= λ n. Some (capped_number n)

-- the number of the register, if it is the only token; otherwise `None`
abbrev pub one_register : List Token → Option ℕ
one_register ts = single_word ts >>= register_named

-- the number of the register pair, if it is the only token; otherwise `None`
abbrev pub one_pair : List Token → Option ℕ
one_pair ts = single_word ts >>= pair_named

-- the operand before the first comma, and the tokens after this comma
abbrev pub first_operand : List Token → Option (Operand × List Token)
first_operand ts = word_before_comma ts >>= λ x. operand_of x.0 >>= λ v. Some (v, x.1)

-- the number of the register before the first comma, and the tokens after this comma
abbrev pub first_register : List Token → Option (ℕ × List Token)
first_register ts = word_before_comma ts >>= λ x. register_named x.0 >>= λ r. Some (r, x.1)

-- the number of the register pair before the first comma, and the tokens after this comma
abbrev pub first_pair : List Token → Option (ℕ × List Token)
first_pair ts = word_before_comma ts >>= λ x. pair_named x.0 >>= λ p. Some (p, x.1)

-- the operands in a list of one or more operands, separated by commas; `None` if the tokens have
-- another form
unfoldable pub operands_of : List Token → Option (List Operand)
operands_of (Word w ∷ []) = operand_of w >>= λ v. Some (v ∷ [])
operands_of (Word w ∷ Comma ∷ more) = operand_of w >>= λ v. operands_of more >>= λ vs. Some (v ∷ vs)
operands_of ts = None

-- the statement of an instruction without operands, or `None` if a token follows the mnemonic
abbrev pub bare_statement : Op → List Token → Option Statement
bare_statement o [] = Some (Whole o)
bare_statement o (t ∷ ts) = None

-- the statement for a mnemonic and the tokens after it, or `None` if the operands do not have the
-- form that the mnemonic requires
abbrev pub statement_after_mnemonic : Mnemonic → List Token → Option Statement
statement_after_mnemonic m.Org ts = one_number ts >>= λ n. Some (Origin n)
statement_after_mnemonic m.Db ts = operands_of ts >>= λ vs. Some (Data vs)
statement_after_mnemonic m.Jcn ts = first_operand ts >>= λ x. one_operand x.1 >>= λ t. Some (Jcn x.0 t)
statement_after_mnemonic m.Fim ts = first_pair ts >>= λ x. one_operand x.1 >>= λ v. Some (Fim x.0 v)
statement_after_mnemonic m.Src ts = one_pair ts >>= λ p. Some (Whole (op.Src p))
statement_after_mnemonic m.Fin ts = one_pair ts >>= λ p. Some (Whole (op.Fin p))
statement_after_mnemonic m.Jin ts = one_pair ts >>= λ p. Some (Whole (op.Jin p))
statement_after_mnemonic m.Jun ts = one_operand ts >>= λ t. Some (Jun t)
statement_after_mnemonic m.Jms ts = one_operand ts >>= λ t. Some (Jms t)
statement_after_mnemonic m.Inc ts = one_register ts >>= λ r. Some (Whole (op.Inc r))
statement_after_mnemonic m.Isz ts = first_register ts >>= λ x. one_operand x.1 >>= λ t. Some (Isz x.0 t)
statement_after_mnemonic m.Add ts = one_register ts >>= λ r. Some (Whole (op.Add r))
statement_after_mnemonic m.Sub ts = one_register ts >>= λ r. Some (Whole (op.Sub r))
statement_after_mnemonic m.Ld ts = one_register ts >>= λ r. Some (Whole (op.Ld r))
statement_after_mnemonic m.Xch ts = one_register ts >>= λ r. Some (Whole (op.Xch r))
statement_after_mnemonic m.Bbl ts = one_operand ts >>= λ v. Some (Bbl v)
statement_after_mnemonic m.Ldm ts = one_operand ts >>= λ v. Some (Ldm v)
statement_after_mnemonic (m.WithoutOperands o) ts = bare_statement o ts

-- the statement that the tokens form, or `None` if they do not form one
unfoldable pub statement_of : List Token → Option Statement
statement_of (Word w ∷ ts) = mnemonic_of w >>= λ k. statement_after_mnemonic k ts
statement_of ts = None

-- a line that parses: `Code` with an optional label and an optional statement, or `Define` for
-- `NAME = NUMBER`
pub data SourceLine : Type 0 where
  Code : Option (List ℕ) → Option Statement → SourceLine
  Define : List ℕ → ℕ → SourceLine

-- The line with the given label, if any, and the statement that the tokens form. If there are no
-- tokens, the line has no statement. `None` if the tokens do not form a statement.
abbrev pub code_line : Option (List ℕ) → List Token → Option SourceLine
code_line label [] = Some (Code label None)
code_line label (t ∷ ts) = statement_of (t ∷ ts) >>= λ s. Some (Code label (Some s))

-- the line that the tokens form, if they do not begin with a label: the definition of a name, or an
-- optional statement; `None` if they have no valid form
abbrev pub unlabelled_line : List Token → Option SourceLine
unlabelled_line (Word w ∷ Equals ∷ ts) =
    if is_name w then (one_number ts >>= λ n. Some (Define w n)) else None
unlabelled_line ts = code_line None ts

-- the line that the tokens form, or `None` if they have no valid form
abbrev pub line_of : List Token → Option SourceLine
line_of (Word w ∷ Colon ∷ ts) = if is_name w then code_line (Some w) ts else None
line_of ts = unlabelled_line ts
