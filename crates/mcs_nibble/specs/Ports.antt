-- The port of a 4001, line by line: the contents of its latch, and the value that the processor
-- reads. (4001 data sheet: the mask makes each line an input or an output. WRR writes the latch,
-- and RDR reads the input lines. Fethsaim, not Intel, defines three rules. Logic is positive. The
-- latch bit of an input line is 0. The processor reads an output line as the constant of its mask.)
use Rattle.std.specs.Prelude.{ℕ, Bool, true, false, ◌==◌, List, Option, Some, None, slice_index_or, if◌then◌else◌}
use Rattle.mcs_nibble.specs.Bits.{bit_of, nibble_of}
use Rattle.mcs_nibble.specs.declared.lines.LineMask.{LineMask}
use Rattle.mcs_nibble.specs.declared.lines.LineMask.TheVariants.{Input, Zero, One}

-- true if the mask makes the line an input
abbrev pub is_input : LineMask → Bool
is_input Input = true
is_input Zero = false
is_input One = false

-- The character for a mask option in board texts and session files. An input line has `i`. An
-- output line has `0` or `1`, the constant that the processor reads. (Defined by Fethsaim, not by
-- Intel.)
abbrev pub mask_character : LineMask → ℕ
mask_character Input = 105
mask_character Zero = 48
mask_character One = 49

-- the mask option with the given character, or none if the character is not `i`, `0` or `1`
abbrev pub mask_of : ℕ → Option LineMask
mask_of c =
    if c == 105 then Some Input
    else if c == 48 then Some Zero
    else if c == 49 then Some One
    else None

-- The mask option of line `k` (0 to 3) in a ROM's list of four mask options. The list begins with
-- line 0; board texts and session files begin with line 3.
abbrev pub mask_at : List LineMask → ℕ → LineMask
mask_at mask k = slice_index_or mask k Input

-- bit `k` of the latch after `n` is written: bit `k` of `n` for an output line, 0 for an input line
abbrev pub latch_bit : List LineMask → ℕ → ℕ → ℕ
latch_bit mask n k = if is_input (mask_at mask k) then 0 else bit_of n k

-- the contents of the latch after `n` is written
unfoldable pub latch_value : List LineMask → ℕ → ℕ
latch_value mask n = nibble_of (latch_bit mask n)

-- bit `k` of the value that the processor reads from the port; `inputs` gives the level of each
-- input line
abbrev pub read_bit : (ℕ → ℕ) → List LineMask → ℕ → ℕ
read_bit inputs mask k = elim (mask_at mask k) [ Input ↦ inputs k | Zero ↦ 0 | One ↦ 1 ]

-- the value that the processor reads from the port; `inputs` gives the level of each input line
unfoldable pub read_lines : (ℕ → ℕ) → List LineMask → ℕ
read_lines inputs mask = nibble_of (read_bit inputs mask)
