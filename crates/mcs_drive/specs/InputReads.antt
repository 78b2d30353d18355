-- Reads of a machine's inputs, and the values that these reads can return.
use Rattle.std.specs.Prelude.{◌≡◌, ◌<◌, ◌+◌, ◌%◌, ◌/◌, ℕ, [], Bool, true, false, not, ◌&&◌, ◌==◌, Option, Some, None, length, slice_index, slice_index_or, if◌then◌else◌}
use Rattle.std.specs.List.{list_any, range_with_len}
use Rattle.mcs_nibble.specs.Bits.{bit_of}
use Rattle.mcs_nibble.specs.Ports.{read_lines}
use Rattle.mcs_model.specs.declared.board.Line.TheVariants.{Rom}
use Rattle.mcs_model.specs.declared.op.Op.{Op}
use Rattle.mcs_model.specs.declared.op.Op.TheVariants.{Jcn, Rdr}
use Rattle.mcs_model.specs.Boards.{board_fault_of, rom_masks}
use Rattle.mcs_model.specs.Bus.{BusState}
use Rattle.mcs_model.specs.Effect.{instruction_at}
use Rattle.mcs_model.specs.Levels.{bit_when, is_pulled, is_rom_line, port_of}
use Rattle.mcs_model.specs.Running.{Machine}
use Rattle.mcs_drive.specs.DrivenRuns.{Levels, with_levels, cycled}

-- ---- reads of inputs

-- true if an instruction reads an input: RDR, or a JCN that tests the TEST pin (bit 0 of its
-- condition)
abbrev pub reads_input : Option Op → Bool
reads_input (Some Rdr) = true
reads_input (Some (Jcn c w)) = c % 2 == 1
reads_input _ = false

-- true if the next cycle of a machine reads an input; the second cycle of an instruction never
-- reads one
abbrev pub next_reads_input : Machine → Bool
next_reads_input s = not (s.0.owed == 1) && reads_input (instruction_at s.0 s.1)

-- a cycle that reads no input does not depend on the input levels and leaves them unchanged
abbrev pub LevelsHaveNoEffect : Type 0
LevelsHaveNoEffect =
    (l : Levels) (s : Machine) → board_fault_of s.1.board ≡ None → next_reads_input s ≡ false →
    cycled (with_levels l s) ≡ with_levels l (cycled s)

-- ---- the value that a read returns

-- The value that an instruction reads at the input levels `l`: the port of the selected ROM for
-- RDR, TEST for a JCN that tests TEST. The value is 0 if the instruction reads no input.
abbrev pub value_read_by : Option Op → Levels → BusState → ℕ
value_read_by (Some Rdr) l m = port_of (record m { keys = l.keys; test = l.test })
value_read_by (Some (Jcn c w)) l m = if c % 2 == 1 then l.test else 0
value_read_by _ l m = 0

-- the value that the instruction at the program counter reads at the input levels `l`
abbrev pub value_read : Levels → Machine → ℕ
value_read l s = value_read_by (instruction_at s.0 s.1) l s.1

-- a machine without its input levels: no keys, and TEST at 0
abbrev pub without_levels : Machine → Machine
without_levels s = with_levels (record { keys = []; test = 0 }) s

-- the input levels affect a cycle only through the value that the cycle reads
abbrev pub ReadsDecideCycle : Type 0
ReadsDecideCycle =
    (l l' : Levels) (s : Machine) → board_fault_of s.1.board ≡ None → value_read l s ≡ value_read l' s →
    without_levels (cycled (with_levels l s)) ≡ without_levels (cycled (with_levels l' s))

-- ---- the values that a read can return

-- true if a key can pull line `k` of ROM `chip`: a column of the key matrix is wired to the line,
-- and at least one row is driven
abbrev pub can_be_pulled : BusState → ℕ → ℕ → Bool
can_be_pulled s chip k =
    elim s.board.keys [
      | None ↦ false
      | Some m ↦ list_any
          (λ j. is_rom_line chip k (slice_index_or m.columns.items j (Rom 0 0))
          && list_any (λ r. slice_index (slice_index_or s.chains m.chain []) (m.first + r) == 1) (range_with_len 0 m.rows))
          (range_with_len 0 (length m.columns.items))
    ]

-- at any input levels, a line is pulled only if a key in a driven row can pull it
abbrev pub PulledLinesCanBePulled : Type 0
PulledLinesCanBePulled =
    (l : Levels) (s : Machine) (chip k : ℕ) → is_pulled (with_levels l s).1 chip k ≡ true →
    can_be_pulled s.1 chip k ≡ true

-- The value read at the port of a ROM, if a line is pulled exactly when a key can pull the line and
-- the line's bit in `c` is 1. The value is 0 if the ROM is absent.
abbrev pub port_choice : BusState → ℕ → ℕ → ℕ
port_choice s chip c =
    elim (rom_masks s.board chip) [
      | Some mask ↦ read_lines (λ k. bit_when (bit_of c k == 1 && can_be_pulled s chip k)) mask
      | None ↦ 0
    ]

-- at any input levels, the value read at the port of the selected ROM is `port_choice` for some `c`
-- below 16
abbrev pub PortChoicesCoverReads : Type 0
PortChoicesCoverReads =
    (l : Levels) (s : Machine) →
    (c : ℕ) × (c < 16) × (port_of (with_levels l s).1 ≡ port_choice s.1 (s.1.rom_src / 16) c)
