-- The bytes that encode a command: a tag, and then its fields. (Defined by Fethsaim, not by Intel.)
use Rattle.std.specs.Prelude.{ℕ, ◌+◌, ◌*◌, ◌^◌, ◌<◌, ◌==◌, List, [], ◌∷◌, ◌++◌, map, if◌then◌else◌}
use Rattle.std.specs.List.{list_any}
use Rattle.std.specs.Int.{w16, w32, to_be_bytes}
use Rattle.mcs_nibble.specs.Tables.{table_of}
use Rattle.mcs_model.specs.Images.{IsImage}
use Rattle.mcs_model.specs.Validity.{IsValidBoard}
use Rattle.mcs_model.specs.declared.command.Place.{Place}
use Rattle.mcs_model.specs.declared.command.Place.TheVariants.{Acc, Cy, Pc, Register, Dcl, Rom, Ram, Status}
use Rattle.mcs_model.specs.declared.command.Command.{Command}
use Rattle.mcs_model.specs.declared.command.Command.TheVariants.{Wire, Load, Press, Release, Run, Step, Poke, Test, Reset, Break, Unbreak, Watch, Unwatch}
use Rattle.mcs_codec.specs.BoardBytes.{board_bytes}

-- ---- encoding

-- the two bytes of an address, the high byte first
abbrev pub address_bytes : ℕ → List ℕ
address_bytes at = to_be_bytes w16 at

-- the bytes of a `Place`: the number of its kind, and then its fields, with the new value last
abbrev pub place_bytes : Place → List ℕ
place_bytes (Acc n) = 0 ∷ n ∷ []
place_bytes (Cy b) = 1 ∷ b ∷ []
place_bytes (Pc at) = 2 ∷ address_bytes at
place_bytes (Register r n) = 3 ∷ r ∷ n ∷ []
place_bytes (Dcl bank) = 4 ∷ bank ∷ []
place_bytes (Rom at byte) = 5 ∷ (address_bytes at ++ byte ∷ [])
place_bytes (Ram bank src n) = 6 ∷ bank ∷ src ∷ n ∷ []
place_bytes (Status bank high k n) = 7 ∷ bank ∷ high ∷ k ∷ n ∷ []

-- 1 if the image has a byte at this address, and 0 otherwise
abbrev pub mark : List (ℕ × ℕ) → ℕ → ℕ
mark image at = if list_any (λ p. p.0 == at) image then 1 else 0

-- the byte whose bit `k` is `f k`, for `k` from 0 to 7
abbrev pub byte_of_bits : (ℕ → ℕ) → ℕ
byte_of_bits f = f 0 + 2 * f 1 + 4 * f 2 + 8 * f 3 + 16 * f 4 + 32 * f 5 + 64 * f 6 + 128 * f 7

-- the marks of an image: bit `k` of byte `i` is 1 if the image has a byte at address `8 * i + k`
unfoldable pub mark_bytes : List (ℕ × ℕ) → List ℕ
mark_bytes image = table_of 512 (λ i. byte_of_bits (λ k. mark image (8 * i + k)))

-- the bytes of an image, without their addresses
abbrev pub image_values : List (ℕ × ℕ) → List ℕ
image_values image = map (λ p. p.1) image

-- the bytes of an image: its marks, and then its bytes in ascending order of address
abbrev pub image_bytes : List (ℕ × ℕ) → List ℕ
image_bytes image = mark_bytes image ++ image_values image

-- the bytes of a command: its tag, 1 to 13, and then its fields
abbrev pub command_bytes : Command → List ℕ
command_bytes (Wire board) = 1 ∷ board_bytes board
command_bytes (Load image) = 2 ∷ image_bytes image
command_bytes (Press row column) = 3 ∷ row ∷ column ∷ []
command_bytes (Release row column) = 4 ∷ row ∷ column ∷ []
command_bytes (Run cycles) = 5 ∷ to_be_bytes w32 cycles
command_bytes Step = 6 ∷ []
command_bytes (Poke place) = 7 ∷ place_bytes place
command_bytes (Test bit) = 8 ∷ bit ∷ []
command_bytes Reset = 9 ∷ []
command_bytes (Break at) = 10 ∷ address_bytes at
command_bytes (Unbreak at) = 11 ∷ address_bytes at
command_bytes (Watch bank src) = 12 ∷ bank ∷ src ∷ []
command_bytes (Unwatch bank src) = 13 ∷ bank ∷ src ∷ []

-- ---- range

-- holds if each number of a `Place` is in its range
abbrev pub IsPlaceInRange : Place → Type 0
IsPlaceInRange (Acc n) = n < 16
IsPlaceInRange (Cy b) = b < 2
IsPlaceInRange (Pc at) = at < 4096
IsPlaceInRange (Register r n) = (r < 16) × (n < 16)
IsPlaceInRange (Dcl bank) = bank < 8
IsPlaceInRange (Rom at byte) = (at < 4096) × (byte < 256)
IsPlaceInRange (Ram bank src n) = (bank < 8) × ((src < 256) × (n < 16))
IsPlaceInRange (Status bank high k n) = (bank < 8) × ((high < 16) × ((k < 4) × (n < 16)))

-- holds if each part of a command is in its range
abbrev pub IsCommandInRange : Command → Type 0
IsCommandInRange (Wire board) = IsValidBoard board
IsCommandInRange (Load image) = IsImage image
IsCommandInRange (Press row column) = (row < 256) × (column < 256)
IsCommandInRange (Release row column) = (row < 256) × (column < 256)
IsCommandInRange (Run cycles) = cycles < 2 ^ 32
IsCommandInRange Step = Unit {0}
IsCommandInRange (Poke place) = IsPlaceInRange place
IsCommandInRange (Test bit) = bit < 2
IsCommandInRange Reset = Unit {0}
IsCommandInRange (Break at) = at < 4096
IsCommandInRange (Unbreak at) = at < 4096
IsCommandInRange (Watch bank src) = (bank < 8) × (src < 256)
IsCommandInRange (Unwatch bank src) = (bank < 8) × (src < 256)
