-- The promises of `assemble` and `survey`, and the conversions of tokens, statements and lines from
-- the code to the specification.
use Rattle.std.specs.Prelude.{◌≡◌, ◌<◌, ◌∷◌, [], List, ℕ, map, option_map, Option, Some, Result, Ok, Err, None}
use Rattle.std.specs.List.{Contains}
use Rattle.std.specs.Option.{option_copied, option_to_list}
use Rattle.std.specs.Borrow.{Bor}
use Rattle.std.specs.Ordering.{nat_cmp}
use Rattle.std.specs.Cmp.Lexicographic.{slice_cmp}
use Rattle.std.specs.BTreeMap.{BTreeMap, get_by}
use Rattle.mcs_code.specs.declared.spelling.Words.{Words}
use Rattle.mcs_asm.specs.declared.tokens.Token.{Token}
use Rattle.mcs_asm.specs.declared.tokens.Token.TheVariants as code
use Rattle.mcs_asm.specs.declared.statements.Operand.{Operand}
use Rattle.mcs_asm.specs.declared.statements.Operand.TheVariants as operand
use Rattle.mcs_asm.specs.declared.statements.Statement.{Statement}
use Rattle.mcs_asm.specs.declared.statements.Statement.TheVariants as statement
use Rattle.mcs_asm.specs.declared.statements.SourceLine.{SourceLine}
use Rattle.mcs_asm.specs.declared.statements.SourceLine.TheVariants as line
use Rattle.mcs_asm.specs.declared.fault.FaultKind.{FaultKind}
use Rattle.mcs_asm.specs.declared.fault.FaultKind.TheVariants.{NoMemory, Refused}
use Rattle.mcs_asm.specs.declared.fault.AsmFault.{AsmFault}
use Rattle.mcs_source.specs.declared.fault.SourceFault.{SourceFault}
use Rattle.mcs_model.specs.declared.op.Op.{Op}
use Rattle.mcs_source.specs.Spelling.{spelling}
use Rattle.mcs_source.specs.declared.mnemonic.Mnemonic.{Mnemonic}
use Rattle.mcs_source.specs.declared.mnemonic.Mnemonic.TheVariants as m
use Rattle.mcs_source.specs.Lexical as spec
use Rattle.mcs_source.specs.Lines as lines
use Rattle.mcs_model.specs.Images.{by_address}
use Rattle.mcs_source.specs.Assembly.{Names, value_of}
use Rattle.mcs_source.specs.Survey.{Survey}

-- ---- The promises of `assemble` and `survey`. If allocation fails, nothing is stated about the
-- text.

-- Holds if `wanted` is the given error with the line number `line`. If allocation failed, holds if
-- `line` is 0.
abbrev pub IsErrorAtLine : FaultKind → ℕ → {A : Type 0} → Result A (ℕ × SourceFault) → Type 0
IsErrorAtLine NoMemory line wanted = line ≡ 0
IsErrorAtLine (Refused f) line wanted = wanted ≡ Err (line, f)

-- Holds if each address is below 4096, and no address has two different bytes.
pub record HaveOneByteEach (pairs : List (ℕ × ℕ)) : Type 0 where
  pub within : (at byte : ℕ) → Contains pairs (at, byte) → at < 4096
  pub once : (at one other : ℕ) → Contains pairs (at, one) → Contains pairs (at, other) → one ≡ other

-- Holds if the result is the image with the pairs of `wanted`, in ascending order of address, or if
-- the result and `wanted` are the same error. Each address in the pairs is below 4096, and no
-- address has two different bytes.
abbrev pub Assembles : Result (List (ℕ × ℕ)) AsmFault → Result (List (ℕ × ℕ)) (ℕ × SourceFault)
    → Type 0
Assembles (Ok image) wanted =
    (pairs : List (ℕ × ℕ)) × (wanted ≡ Ok pairs) × (image ≡ by_address pairs)
    × HaveOneByteEach pairs
Assembles (Err f) wanted = IsErrorAtLine f.kind f.line wanted

-- Holds if the result is the expected survey or the expected error.
abbrev pub Surveys : Result Survey AsmFault → Result Survey (ℕ × SourceFault) → Type 0
Surveys (Ok s) wanted = wanted ≡ Ok s
Surveys (Err f) wanted = IsErrorAtLine f.kind f.line wanted

-- ---- The values in the code, converted to values of the specification. From here on, only
-- contracts of private functions cite the definitions.

abbrev pub token_view : Token → spec.Token
token_view (code.Word w) = spec.Word w.now
token_view code.Comma = spec.Comma
token_view code.Colon = spec.Colon
token_view code.Equals = spec.Equals
token_view code.Other = spec.Other

abbrev pub operand_view : Operand → lines.Operand
operand_view (operand.Number n) = lines.Number n
operand_view (operand.Name w) = lines.Name w.now

abbrev pub statement_view : Statement → lines.Statement
statement_view (statement.Origin n) = lines.Origin n
statement_view (statement.Data vs) = lines.Data (map operand_view vs.items)
statement_view (statement.Whole o) = lines.Whole o
statement_view (statement.Ldm v) = lines.Ldm (operand_view v)
statement_view (statement.Bbl v) = lines.Bbl (operand_view v)
statement_view (statement.Jun v) = lines.Jun (operand_view v)
statement_view (statement.Jms v) = lines.Jms (operand_view v)
statement_view (statement.Fim p v) = lines.Fim p (operand_view v)
statement_view (statement.Jcn v t) = lines.Jcn (operand_view v) (operand_view t)
statement_view (statement.Isz r t) = lines.Isz r (operand_view t)

abbrev pub line_view : SourceLine → lines.SourceLine
line_view (line.Code label s) = lines.Code (option_copied label) (option_map statement_view s)
line_view (line.Define w n) = lines.Define w.now n

-- holds if `line_of` parses the tokens as a line without a label
abbrev pub HasNoLabel : List spec.Token → Type 0
HasNoLabel ts = lines.line_of ts ≡ lines.unlabelled_line ts

-- holds if `unlabelled_line` parses the tokens as an optional statement, not as a definition
-- `NAME = NUMBER`
abbrev pub HasNoDefinition : List spec.Token → Type 0
HasNoDefinition ts = lines.unlabelled_line ts ≡ lines.code_line None ts

abbrev pub words_view : Words → List ℕ
words_view w = w.first ∷ option_to_list w.second

-- Holds if the converted result is the expected value, or the result is the expected error. Also
-- holds if allocation failed.
abbrev pub MatchesView : {A B : Type 0} → (A → B) → Result A FaultKind → Result B SourceFault → Type 0
MatchesView view (Ok x) wanted = wanted ≡ Ok (view x)
MatchesView view (Err NoMemory) wanted = Unit {0}
MatchesView view (Err (Refused f)) wanted = wanted ≡ Err f

-- Holds if the result is an instruction whose encoding is the expected bytes, or the result is the
-- expected error.
abbrev pub MatchesEncoding : Result Op SourceFault → Result (List ℕ) SourceFault → Type 0
MatchesEncoding (Ok o) wanted = wanted ≡ Ok (spelling o)
MatchesEncoding (Err f) wanted = wanted ≡ Err f

-- Holds if the result is an instruction whose encoding is the expected bytes. Also holds if the
-- result is `None` and no bytes are expected, or if it is the expected error.
abbrev pub MatchesOptionalEncoding : Result (Option Op) SourceFault → Result (List ℕ) SourceFault → Type 0
MatchesOptionalEncoding (Ok None) wanted = wanted ≡ Ok []
MatchesOptionalEncoding (Ok (Some o)) wanted = wanted ≡ Ok (spelling o)
MatchesOptionalEncoding (Err f) wanted = wanted ≡ Err f

abbrev pub IsNotDb : Mnemonic → Type 0
IsNotDb m.Db = ⊥
IsNotDb mnemonic = Unit {0}

abbrev pub IsNotData : lines.Statement → Type 0
IsNotData (lines.Data vs) = ⊥
IsNotData s = Unit {0}

-- Holds if the map gives each name the same value as the list of names does.
abbrev pub AgreesWithNames : BTreeMap (Bor (List ℕ)) ℕ → Names → Type 0
AgreesWithNames values names =
    (w : List ℕ) → get_by (λ k. slice_cmp nat_cmp w k.now) values ≡ value_of w names
