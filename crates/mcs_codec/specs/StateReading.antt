-- How a state is read from its bytes: first the version, then the fields in order. These
-- definitions need not be trusted: reading is proved to be the inverse of the encoding in
-- `StateBytes` in both versions. After reading, a check of all fields decides whether they make a
-- valid state.
use Rattle.std.specs.Prelude.{◌≡◌, ℕ, ◌*◌, ◌==◌, ◌||◌, List, [], ◌∷◌, Some, None, length, if◌then◌else◌}
use Rattle.std.specs.Int.{w16, w32}
use Rattle.mcs_model.specs.declared.board.BoardParts.{BoardParts}
use Rattle.mcs_model.specs.declared.board.ChainPart.{ChainPart}
use Rattle.mcs_model.specs.declared.limits.TheConstants.{BANKS, BREAKPOINTS, WATCHES}
use Rattle.mcs_model.specs.Boards.{key_count}
use Rattle.mcs_model.specs.Bus.{BusState}
use Rattle.mcs_model.specs.BenchState.{BenchState}
use Rattle.mcs_version1.specs.Boards.{fits_version_1}
use Rattle.mcs_codec.specs.Reading.{◌>>=◌, Reading, give, read_if, byte_at, wide_number_at, bytes_at, read_times, counted_at}
use Rattle.mcs_codec.specs.BoardReading.{board_at}
use Rattle.mcs_codec.specs.declared.versions.Version.{Version}
use Rattle.mcs_codec.specs.declared.versions.Version.TheVariants.{One, Two}

-- reads the version from the next byte; a port character is the first byte of the board, and is not
-- consumed
unfoldable pub version_at : Reading Version
version_at [] = None
version_at (b ∷ bytes) =
    if b == 105 || b == 48 || b == 49 || b == 45 then Some (One, b ∷ bytes)
    else if b == 2 then Some (Two, bytes)
    else None

-- reads the board; fails in version 1 if the board is too large for version 1 (`fits_version_1`)
unfoldable pub board_in_version : Version → Reading BoardParts
board_in_version One = read_if fits_version_1 board_at
board_in_version Two = board_at

unfoldable pub versioned_board_at : Reading (Version × BoardParts)
versioned_board_at = do
  version ← version_at
  board ← board_in_version version
  give (version, board)

-- reads the bits of each chain, one byte for each bit
unfoldable pub chains_at : List ChainPart → Reading (List (List ℕ))
chains_at [] = give []
chains_at (c ∷ chains) = do
  bits ← bytes_at (10 * c.chips)
  others ← chains_at chains
  give (bits ∷ others)

-- reads the watches; a state of version 1 has none, and no bytes are read
unfoldable pub watches_at : Version → Reading (List ℕ)
watches_at One = give []
watches_at Two = counted_at WATCHES (wide_number_at w16)

-- reads a state and its version; the fields are in the order of the bytes
unfoldable pub state_at : Reading (Version × BenchState)
state_at = do
  seq ← wide_number_at w32
  versioned ← versioned_board_at
  rom ← bytes_at 4096
  ram ← bytes_at 2048
  status ← bytes_at 512
  ram_ports ← bytes_at 32
  rom_ports ← bytes_at 16
  acc ← byte_at
  cy ← byte_at
  r ← bytes_at 16
  pc ← wide_number_at w16
  ret ← read_times 3 (wide_number_at w16)
  dcl ← byte_at
  rom_src ← byte_at
  ram_src ← bytes_at BANKS
  owed ← byte_at
  chains ← chains_at versioned.1.chains.items
  keys ← bytes_at (key_count versioned.1)
  test ← byte_at
  breakpoints ← counted_at BREAKPOINTS (wide_number_at w16)
  watches ← watches_at versioned.0
  give (
    versioned.0,
    record {
      processor = record { acc = acc; cy = cy; r = r; pc = pc; ret = ret; dcl = dcl; owed = owed };
      bus = record {
        board = versioned.1;
        rom = rom;
        ram = ram;
        status = status;
        ram_ports = ram_ports;
        rom_ports = rom_ports;
        rom_src = rom_src;
        ram_src = ram_src;
        chains = chains;
        keys = keys;
        test = test;
      };
      breakpoints = breakpoints;
      watches = watches;
      seq = seq;
    },
  )

-- holds if the five lists that `Flat` stores as `Cells` have their fixed lengths, as in a new bench
pub record HasFixedLengths (b : BusState) : Type 0 where
  pub rom : length b.rom ≡ 4096
  pub ram : length b.ram ≡ 2048
  pub status : length b.status ≡ 512
  pub ram_ports : length b.ram_ports ≡ 32
  pub rom_ports : length b.rom_ports ≡ 16
