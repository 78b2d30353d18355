-- The maximum number of bytes of an encoded command and of an encoded state.
use Rattle.std.proofs.Common.{◌≡◌, ℕ, ◌+◌, ◌*◌, ◌≤◌, List, [], ◌∷◌, ◌++◌, length, Option, Some, None, refl, arith}
use Rattle.std.specs.List.{flat_map, AllByRecursion}
use Rattle.std.proofs.Math.Nat.{suc-mul}
use Rattle.std.proofs.lemmas.List.{length-append}
use Rattle.mcs_model.specs.declared.board.BoardParts.{BoardParts}
use Rattle.mcs_model.specs.declared.board.ChainPart.{ChainPart}
use Rattle.mcs_model.specs.declared.board.KeyMatrix.{KeyMatrix}
use Rattle.mcs_model.specs.declared.board.Line.{Line}
use Rattle.mcs_model.specs.declared.board.Line.TheVariants.{Rom as RomLine, Ram as RamLine, Chain as ChainLine}
use Rattle.mcs_nibble.specs.declared.lines.LineMask.{LineMask}
use Rattle.mcs_model.specs.declared.command.Command.{Command}
use Rattle.mcs_model.specs.declared.command.Command.TheVariants.{Wire, Load, Press, Release, Run, Step, Poke, Test, Reset, Break, Unbreak, Watch, Unwatch}
use Rattle.mcs_model.specs.declared.command.Place.{Place}
use Rattle.mcs_model.specs.declared.command.Place.TheVariants.{Acc, Cy, Pc, Register, Dcl, Rom, Ram, Status}
use Rattle.mcs_model.specs.declared.limits.TheConstants.{CHAIN_CHIPS, CHAIN_BITS}
use Rattle.mcs_model.specs.BenchState.{BenchState}
use Rattle.mcs_model.specs.Validity.{IsValid}
use Rattle.mcs_codec.specs.BoardBytes.{rom_bytes, board_line_bytes, chain_bytes, counted_bytes, keys_bytes, board_bytes}
use Rattle.mcs_codec.specs.CommandBytes.{address_bytes, place_bytes, command_bytes, IsCommandInRange}
use Rattle.mcs_codec.specs.StateBytes.{state_bytes}
use Rattle.mcs_codec.proofs.BoardLengths.{HasFourLines, HasAtMostEightColumns, HasLengths, valid_board_has_lengths, board_chips_within_limit, board_keys_within_limit}
use Rattle.mcs_codec.proofs.ImageCodec.{length-image}
use Rattle.mcs_codec.proofs.StateCodec.{AreChains, are_chains_if_bits_in_range}
use Rattle.mcs_codec.proofs.Codecs.{all_satisfy_unit}

pub length-flat_map_each : {A : Type 0} (s : A → List ℕ) (f : A → Type 0) (k : ℕ) → ((a : A) → f a → length (s a) ≡ k) → (l : List A) → AllByRecursion f l → length (flat_map s l) ≡ length l * k
length-flat_map_each s f k one [] h = omega arith
length-flat_map_each s f k one (a ∷ l) h =
    let rest : length (flat_map s l) ≡ length l * k = length-flat_map_each s f k one l h.1 in
    let here : length (s a) ≡ k = one a h.0 in
    omega (arith, length-append (s a) (flat_map s l), suc-mul (length l) k)

pub length-line : (l : Line) → length (board_line_bytes l) ≡ 4
length-line (RomLine a b) = refl
length-line (RamLine a b c) = refl
length-line (ChainLine a b) = refl

length-rom : (r : Option (List LineMask)) → HasFourLines r → length (rom_bytes r) ≡ 4
length-rom None h = refl
length-rom (Some mask) h = refl

length-chain : (c : ChainPart) → length (chain_bytes c) ≡ 9
length-chain c =
    let a = length-line c.clock in
    let b = length-line c.data_in in
    omega (arith, length-append (board_line_bytes c.clock) (board_line_bytes c.data_in ++ c.chips ∷ []), length-append (board_line_bytes c.data_in) (c.chips ∷ []))

length-lines : (l : List Line) → length (counted_bytes board_line_bytes l) ≡ 1 + length l * 4
length-lines l = let e = length-flat_map_each board_line_bytes (λ _. Unit {0}) 4 (λ a h. length-line a) l (all_satisfy_unit l) in omega (arith, e)

length-keys : (k : Option KeyMatrix) → HasAtMostEightColumns k → length (keys_bytes k) ≤ 37
length-keys None h = omega arith
length-keys (Some m) h = let e : length (counted_bytes board_line_bytes m.columns.items) ≡ 1 + length m.columns.items * 4 = length-lines m.columns.items in omega (arith, h, e)

pub length-board : (b : BoardParts) → HasLengths b → length (board_bytes b) ≤ 403
length-board b h =
    let roms : length (flat_map rom_bytes b.roms) ≡ length b.roms * 4 = length-flat_map_each rom_bytes HasFourLines 4 length-rom b.roms h.masks in
    let chains : length (flat_map chain_bytes b.chains.items) ≡ length b.chains.items * 9 = length-flat_map_each chain_bytes (λ _. Unit {0}) 9 (λ c u. length-chain c) b.chains.items (all_satisfy_unit b.chains.items) in
    let keys = length-keys b.keys h.keys in
    let lamps : length (counted_bytes board_line_bytes b.lamps.items) ≡ 1 + length b.lamps.items * 4 = length-lines b.lamps.items in
    simp length-append (omega (arith, roms, chains, keys, lamps, h.roms, h.banks, h.chains, h.lamps))

-- ---- the size of a state

length-chains : (chains : List ChainPart) (l : List (List ℕ)) → AreChains chains l → AllByRecursion (λ c. c.chips ≤ CHAIN_CHIPS) chains → length (flat_map (λ bits. bits) l) ≤ length chains * CHAIN_BITS
length-chains [] [] h few = omega arith
length-chains [] (bits ∷ l) h few = absurd h
length-chains (c ∷ chains) [] h few = absurd h
length-chains (c ∷ chains) (bits ∷ l) h few =
    let rest : length (flat_map (λ bits. bits) l) ≤ length chains * CHAIN_BITS = length-chains chains l h.1 few.1 in
    omega (arith, h.0, few.0, length-append bits (flat_map (λ bits. bits) l))

length-addresses : (l : List ℕ) → length (flat_map address_bytes l) ≡ length l * 2
length-addresses l = length-flat_map_each address_bytes (λ _. Unit {0}) 2 (λ a h. refl) l (all_satisfy_unit l)

pub length-state : (s : BenchState) → IsValid s → length (state_bytes s) ≤ 7632
length-state s valid =
    let b = valid.bus.in_range in
    let sound = valid.bus.board.valid in
    let lengths = valid_board_has_lengths s.bus.board valid.bus.board in
    let chains = length-chains s.bus.board.chains.items s.bus.chains (are_chains_if_bits_in_range s.bus.board.chains.items s.bus.chains b.chains b.chain_bits) (board_chips_within_limit s.bus.board sound) in
    simp length-append (omega (
      arith,
      simp length-append at (length-board s.bus.board lengths),
      b.rom.has_count,
      b.ram.has_count,
      b.status.has_count,
      b.ram_ports.has_count,
      b.rom_ports.has_count,
      valid.processor.r.has_count,
      valid.processor.ret.has_count,
      length-addresses s.processor.ret,
      b.ram_src.has_count,
      chains,
      lengths.chains,
      board_keys_within_limit s.bus.board lengths.keys sound,
      b.keys.has_count,
      valid.breakpoints.few,
      length-addresses s.breakpoints,
      valid.watches.few,
      length-addresses s.watches,
    ))

-- ---- the size of a command

length-place : (p : Place) → length (place_bytes p) ≤ 5
length-place p = elim p as (λ k. length (place_bytes k) ≤ 5) [ Acc n ↦ omega arith | Cy b ↦ omega arith | Pc at ↦ omega arith | Register r n ↦ omega arith | Dcl bank ↦ omega arith | Rom at byte ↦ omega arith | Ram bank src n ↦ omega arith | Status bank high k n ↦ omega arith ]

pub length-command : (c : Command) → IsCommandInRange c → length (command_bytes c) ≤ 4609
length-command (Wire board) h = omega (arith, length-board board (valid_board_has_lengths board h))
length-command (Load image) h = omega (arith, length-image image h)
length-command (Press row column) h = omega arith
length-command (Release row column) h = omega arith
length-command (Run cycles) h = omega arith
length-command Step h = omega arith
length-command (Poke place) h = omega (arith, length-place place)
length-command (Test bit) h = omega arith
length-command Reset h = omega arith
length-command (Break at) h = omega arith
length-command (Unbreak at) h = omega arith
length-command (Watch bank src) h = omega arith
length-command (Unwatch bank src) h = omega arith
