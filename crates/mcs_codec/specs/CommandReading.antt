-- How a command is read from its bytes. These definitions need not be trusted: reading is proved to
-- be the inverse of the encoding in `CommandBytes`.
use Rattle.std.specs.Prelude.{ℕ, zero, suc, ◌+◌, ◌/◌, ◌%◌, ◌==◌, List, [], ◌∷◌, slice_index, if◌then◌else◌}
use Rattle.std.specs.Int.{w32}
use Rattle.mcs_nibble.specs.Bits.{bit_of}
use Rattle.mcs_model.specs.declared.command.Place.{Place}
use Rattle.mcs_model.specs.declared.command.Place.TheVariants.{Acc, Cy, Pc, Register, Dcl, Rom, Ram, Status}
use Rattle.mcs_model.specs.declared.command.Command.{Command}
use Rattle.mcs_model.specs.declared.command.Command.TheVariants.{Wire, Load, Press, Release, Run, Step, Poke, Test, Reset, Break, Unbreak, Watch, Unwatch}
use Rattle.mcs_codec.specs.Reading.{◌>>=◌, Reading, give, fail_reading, byte_at, wide_number_at, address_at, bytes_at, number_below_at}
use Rattle.mcs_codec.specs.BoardReading.{board_at}

-- reads the `Place` of a main nibble of RAM: bank, SRC byte, new value
abbrev pub ram_nibble_at : Reading Place
ram_nibble_at = do
  bank ← number_below_at 8
  src ← byte_at
  n ← number_below_at 16
  give (Ram bank src n)

-- reads the `Place` of a status character: bank, upper nibble of the SRC byte, number, new value
abbrev pub status_nibble_at : Reading Place
status_nibble_at = do
  bank ← number_below_at 8
  high ← number_below_at 16
  k ← number_below_at 4
  n ← number_below_at 16
  give (Status bank high k n)

-- reads the fields of a `Place` after its tag; fails for an unknown tag
abbrev pub place_after_tag : ℕ → Reading Place
place_after_tag tag =
    if tag == 0 then (do n ← number_below_at 16; give (Acc n)) else
    if tag == 1 then (do b ← number_below_at 2; give (Cy b)) else
    if tag == 2 then (do at ← address_at; give (Pc at)) else
    if tag == 3 then (do r ← number_below_at 16; n ← number_below_at 16; give (Register r n)) else
    if tag == 4 then (do bank ← number_below_at 8; give (Dcl bank)) else
    if tag == 5 then (do at ← address_at; byte ← byte_at; give (Rom at byte)) else
    if tag == 6 then ram_nibble_at else
    if tag == 7 then status_nibble_at else
    fail_reading

unfoldable pub place_at : Reading Place
place_at = do
  tag ← byte_at
  place_after_tag tag

-- the mark of the address `at`: bit `at % 8` of byte `at / 8` of the marks
unfoldable pub mark_bit : List ℕ → ℕ → ℕ
mark_bit marks at = bit_of (slice_index marks (at / 8)) (at % 8)

-- Reads one byte for each marked address among `n` consecutive addresses (`n` is the second
-- argument). The first of these addresses is `at`. Gives each byte with its address.
unfoldable pub addressed_bytes_at : List ℕ → ℕ → ℕ → Reading (List (ℕ × ℕ))
addressed_bytes_at marks zero at = give []
addressed_bytes_at marks (suc n) at =
    if mark_bit marks at == 1
    then (do byte ← byte_at; others ← addressed_bytes_at marks n (at + 1); give ((at, byte) ∷ others))
    else addressed_bytes_at marks n (at + 1)

-- reads an image: the marks of the 4,096 addresses, and then one byte for each marked address
unfoldable pub image_at : Reading (List (ℕ × ℕ))
image_at = do
  marks ← bytes_at 512
  addressed_bytes_at marks 4096 0

-- reads the rest of a command after its tag, for every command except a load; fails for the tag of
-- a load, and for an unknown tag
abbrev pub command_without_image : ℕ → Reading Command
command_without_image tag =
    if tag == 1 then (do board ← board_at; give (Wire board)) else
    if tag == 3 then (do row ← byte_at; column ← byte_at; give (Press row column)) else
    if tag == 4 then (do row ← byte_at; column ← byte_at; give (Release row column)) else
    if tag == 5 then (do cycles ← wide_number_at w32; give (Run cycles)) else
    if tag == 6 then give Step else
    if tag == 7 then (do place ← place_at; give (Poke place)) else
    if tag == 8 then (do bit ← number_below_at 2; give (Test bit)) else
    if tag == 9 then give Reset else
    if tag == 10 then (do at ← address_at; give (Break at)) else
    if tag == 11 then (do at ← address_at; give (Unbreak at)) else
    if tag == 12 then (do bank ← number_below_at 8; src ← byte_at; give (Watch bank src)) else
    if tag == 13 then (do bank ← number_below_at 8; src ← byte_at; give (Unwatch bank src)) else
    fail_reading

-- reads the rest of a command after its tag, for every command
unfoldable pub command_after_tag : ℕ → Reading Command
command_after_tag tag =
    if tag == 2 then (do image ← image_at; give (Load image)) else command_without_image tag

unfoldable pub command_at : Reading Command
command_at = do
  tag ← byte_at
  command_after_tag tag
