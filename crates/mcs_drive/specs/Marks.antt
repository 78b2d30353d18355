-- Marks: the key levels that an observer looks for. A read of a port shows a mark if the value read
-- is possible only with the key at that level. (Defined by Fethsaim, not by Intel.)
use Rattle.std.specs.Prelude.{◌≡◌, ◌<◌, ◌≤◌, ◌+◌, ◌/◌, ℕ, suc, List, [], ◌∷◌, Bool, true, false, not, ◌&&◌, ◌==◌, Option, Some, None, length, slice_index, slice_index_or, if◌then◌else◌}
use Rattle.std.specs.List.{list_any, range_with_len}
use Rattle.mcs_nibble.specs.Bits.{bit_of}
use Rattle.mcs_model.specs.declared.board.BoardParts.{BoardParts}
use Rattle.mcs_model.specs.declared.board.KeyMatrix.{KeyMatrix}
use Rattle.mcs_model.specs.declared.board.Line.{Line}
use Rattle.mcs_model.specs.declared.board.Line.TheVariants.{Rom}
use Rattle.mcs_model.specs.declared.op.Op.{Op}
use Rattle.mcs_model.specs.declared.op.Op.TheVariants.{Rdr}
use Rattle.mcs_model.specs.Boards.{has_key, key_index}
use Rattle.mcs_model.specs.Bus.{BusState}
use Rattle.mcs_model.specs.Levels.{bit_when, chain_bit, is_rom_line}
use Rattle.mcs_drive.specs.declared.marks.Mark.{Mark}
use Rattle.mcs_drive.specs.DrivenRuns.{Levels}

-- ---- marks that a read shows

-- true if row `r` of a key matrix is driven: the chain bit of the row is 1
abbrev pub is_row_driven : BusState → KeyMatrix → ℕ → Bool
is_row_driven s m r = chain_bit s m.chain (m.first + r) == 1

-- the line to which column `j` of a key matrix is wired
abbrev pub column_line : KeyMatrix → ℕ → Line
column_line m j = slice_index_or m.columns.items j (Rom 0 0)

-- True if a key other than the key of the mark can pull line `k` of ROM `chip`. The other key is in
-- a driven row, and the column of the other key is wired to that line.
abbrev pub can_other_key_pull : BusState → KeyMatrix → Mark → ℕ → ℕ → Bool
can_other_key_pull s m mark chip k =
    list_any
    (λ j. is_rom_line chip k (column_line m j)
    && list_any (λ r. is_row_driven s m r && not (r == mark.row && j == mark.column)) (range_with_len 0 m.rows))
    (range_with_len 0 (length m.columns.items))

-- True if `value`, read at the port of the selected ROM, shows a mark. The line is the one to which
-- the column of the mark's key is wired. It must be a line of the selected ROM. The value shows
-- that the key is up if the row of the key is driven and the line reads 0. It shows that the key is
-- down if the line reads 1 and no other key can pull the line.
abbrev pub line_shows : BusState → KeyMatrix → ℕ → Mark → Line → Bool
line_shows s m value mark (Rom chip k) =
    chip == s.rom_src / 16
    && (if mark.is_down
    then bit_of value k == 1 && not (can_other_key_pull s m mark chip k)
    else bit_of value k == 0 && is_row_driven s m mark.row)
line_shows s m value mark _ = false

-- true if the board has the key of a mark, and a value read at the port of the selected ROM shows
-- the mark
abbrev pub port_shows : BusState → ℕ → Mark → Bool
port_shows s value mark =
    has_key s.board mark.row mark.column
    && elim s.board.keys [
      | Some m ↦ line_shows s m value mark (column_line m mark.column)
      | None ↦ false
    ]

-- true if the instruction shows the mark when it reads `value`; only RDR reads a port
abbrev pub shows : Option Op → BusState → ℕ → Mark → Bool
shows (Some Rdr) s value mark = port_shows s value mark
shows _ s value mark = false

-- ---- marks at the levels of keys

-- holds if the board has the key of a mark, and the key is at the level of the mark
pub record IsAtMark (b : BoardParts) (l : Levels) (mark : Mark) : Type 0 where
  pub key_exists : has_key b mark.row mark.column ≡ true
  pub level : slice_index l.keys (key_index b mark.row mark.column) ≡ bit_when mark.is_down

-- holds if the keys are at the marks, in order, at increasing moments that are at least `a` and
-- below `b`
abbrev pub PassesMarks : BoardParts → (ℕ → Levels) → List Mark → ℕ → ℕ → Type 0
PassesMarks board f [] a b = Unit {0}
PassesMarks board f (mark ∷ marks) a b =
    (i : ℕ) × (a ≤ i) × (i < b) × IsAtMark board (f i) mark × PassesMarks board f marks (suc i) b
