-- The effect of a port write on shift-register chains, defined by the port latch before and after
-- the write.
use Rattle.std.specs.Prelude.{ℕ, Bool, false, ◌&&◌, ◌==◌, List, [], slice_index_or, if◌then◌else◌}
use Rattle.mcs_nibble.specs.Bits.{bit_of}
use Rattle.mcs_nibble.specs.Shifting.{bits_after_shift}
use Rattle.mcs_nibble.specs.Tables.{table_of}
use Rattle.mcs_model.specs.declared.board.Line.{Line}
use Rattle.mcs_model.specs.declared.board.Line.TheVariants.{Rom, Ram}
use Rattle.mcs_model.specs.Boards.{chain_part, chain_count}
use Rattle.mcs_model.specs.Bus.{BusState}
use Rattle.mcs_model.specs.Levels.{level}

-- true if both lines are on the same port, and the second line's latch bit is 0 in `before` and 1
-- in `after`
abbrev pub line_rises : Line → ℕ → ℕ → Line → Bool
line_rises (Rom c j) before after (Rom d k) = c == d && (bit_of before k == 0 && bit_of after k == 1)
line_rises (Ram b c j) before after (Ram e d k) = b == e && c == d && (bit_of before k == 0 && bit_of after k == 1)
line_rises port before after line = false

-- the bits of chain `i` after a port latch changes from `before` to `after`: shifted if the clock
-- line of the chain rises
unfoldable pub bits_after_latch_change : BusState → Line → ℕ → ℕ → ℕ → List ℕ → List ℕ
bits_after_latch_change s port before after i bits =
    if line_rises port before after (chain_part s.board i).clock
    then bits_after_shift (level s (chain_part s.board i).data_in) bits
    else bits

-- the state after a port latch changes from `before` to `after`: each chain whose clock line rises
-- is shifted
unfoldable pub state_after_latch_change : Line → ℕ → ℕ → BusState → BusState
state_after_latch_change port before after s = record s {
  chains = table_of (chain_count s.board) (λ i. bits_after_latch_change s port before after i (slice_index_or s.chains i []));
}
