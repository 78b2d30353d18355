-- The statement to which the text of an instruction must parse, and the pairs of a ROM range.
use Rattle.std.specs.Prelude.{◌≡◌, ℕ, ◌+◌, ◌*◌, ◌<◌, ◌≤◌, ◌↔◌, List, Some, None, slice_index}
use Rattle.std.specs.List.{Contains}
use Rattle.mcs_model.specs.Images.{from_address}
use Rattle.mcs_model.specs.declared.op.Op.{Op}
use Rattle.mcs_model.specs.declared.op.Op.TheVariants.{Jcn, Fim, Jun, Jms, Isz, Bbl, Ldm}
use Rattle.mcs_source.specs.Lexical.{tokens}
use Rattle.mcs_source.specs.Lines as asm
use Rattle.mcs_source.specs.Assembly.{reachable_page}
use Rattle.mcs_source.specs.Text.{instruction_text}
use Rattle.mcs_source.specs.SourceText.{range}

-- the target of a JCN or ISZ at address `at`, as a number operand; `b` is the second word of the
-- instruction
abbrev pub page_target_operand : ℕ → ℕ → asm.Operand
page_target_operand at b = asm.Number (reachable_page at * 256 + b)

-- the statement to which the text of an instruction at address `at` must parse
abbrev pub statement : ℕ → Op → asm.Statement
statement at (Jcn c b) = asm.Jcn (asm.Number c) (page_target_operand at b)
statement at (Isz r b) = asm.Isz r (page_target_operand at b)
statement at (Fim p b) = asm.Fim p (asm.Number b)
statement at (Jun h b) = asm.Jun (asm.Number (h * 256 + b))
statement at (Jms h b) = asm.Jms (asm.Number (h * 256 + b))
statement at (Bbl d) = asm.Bbl (asm.Number d)
statement at (Ldm d) = asm.Ldm (asm.Number d)
statement at o = asm.Whole o

-- Holds if the text of the instruction `o` at address `at` parses as a source line without a label,
-- with the statement `statement at o`.
abbrev pub TextParsesToStatement : ℕ → Op → Type 0
TextParsesToStatement at o = asm.line_of (tokens (instruction_text at o)) ≡ Some (asm.Code None (Some (statement at o)))

-- Holds if the (address, byte) pairs of a ROM range are exactly the addresses from `from` up to,
-- but not including, `to`, each with its ROM byte.
abbrev pub AreRangePairs : List ℕ → ℕ → ℕ → Type 0
AreRangePairs rom from to =
    (p : ℕ × ℕ) → Contains (from_address from (range rom from to)) p
    ↔ ((from ≤ p.0) × (p.0 < to) × (slice_index rom p.0 ≡ p.1))
