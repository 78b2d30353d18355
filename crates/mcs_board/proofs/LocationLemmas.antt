-- Reads and writes of a ROM byte and of a chain bit, in a rig and in its flat state.
use Rattle.std.proofs.Common.{◌≡◌, ℕ, ◌*◌, ◌/◌, ◌^◌, ◌<◌, ◌≤◌, List, [], None, is_some, true, false, true≢false, length, get_or, slice_set, slice_index, refl, sym, ap, ◌∙◌, arith}
use Rattle.std.proofs.lemmas.List.{set-get_or, set_past, get_or_past, get_or-set_other}
use Rattle.std.proofs.Math.Nat.{mul-le-mul_right}
use Rattle.mcs_nibble.proofs.TableLemmas.{length-table_of}
use Rattle.mcs_model.specs.declared.board.BoardParts.{BoardParts}
use Rattle.mcs_model.specs.Boards.{rom_masks, chain_count}
use Rattle.mcs_model.specs.Bus.{BusState}
use Rattle.mcs_model.specs.Levels.{chain_bit}
use Rattle.mcs_model.specs.ChipWrites.{with_rom_byte, with_chain_bit}
use Rattle.mcs_board.specs.RigState.{RigParts, state_of_rig, wired_chains}

-- Writing a byte of a ROM that is on the board changes the flat state as `with_rom_byte` does.
pub state-after_rom_byte_write : (p : RigParts) (at byte i : ℕ) → i ≡ at → is_some (rom_masks p.board (at / 256)) ≡ true → state_of_rig (record p { program = slice_set p.program i byte }) ≡ with_rom_byte (state_of_rig p) at byte
unfolding with_rom_byte
state-after_rom_byte_write p at byte i is there = rw (is, there) refl

-- The bytes of absent ROMs stay 0 when a byte of a ROM that is on the board is written.
pub absent_roms-zero_after_write : (p : RigParts) (at byte i : ℕ) → i ≡ at → is_some (rom_masks p.board (at / 256)) ≡ true → ((k : ℕ) → rom_masks p.board (k / 256) ≡ None → slice_index p.program k ≡ 0) → (k : ℕ) → rom_masks p.board (k / 256) ≡ None → slice_index (slice_set p.program i byte) k ≡ 0
absent_roms-zero_after_write p at byte i is there absent k none =
    get_or-set_other p.program i k byte 0 (λ (e : k ≡ i). true≢false (sym there ∙ ap (λ n. is_some (rom_masks p.board (n / 256))) (sym (e ∙ is)) ∙ ap is_some none))
    ∙ absent k none

-- `with_rom_byte` does not change the state if the ROM is absent.
pub with_rom_byte-of_absent_rom : (s : BusState) (at byte : ℕ) → is_some (rom_masks s.board (at / 256)) ≡ false → s ≡ with_rom_byte s at byte
unfolding with_rom_byte
with_rom_byte-of_absent_rom s at byte none = rw none refl

-- The flat state has as many chains as the board.
pub length-wired_chains : (b : BoardParts) (chains : List (List ℕ)) → length (wired_chains b chains) ≡ chain_count b
length-wired_chains b chains = length-table_of (chain_count b) _

pub chain_bit-of_absent_chain : (s : BusState) (n i : ℕ) → length s.chains ≤ n → 0 ≡ chain_bit s n i
chain_bit-of_absent_chain s n i h = sym (ap (λ row. slice_index row i) (get_or_past s.chains n [] h))

-- `with_chain_bit` does not change the state if the chain is absent.
pub with_chain_bit-of_absent_chain : (s : BusState) (n i bit : ℕ) → length s.chains ≤ n → s ≡ with_chain_bit s n i bit
with_chain_bit-of_absent_chain s n i bit h = sym (ap (λ cs. record s { chains = cs }) (set_past s.chains n (slice_set (get_or s.chains n []) i bit) h))

-- `with_chain_bit` does not change the state if the chain has no bit `i`.
pub with_chain_bit-past_chain_end : (s : BusState) (n i bit : ℕ) → length (get_or s.chains n []) ≤ i → s ≡ with_chain_bit s n i bit
with_chain_bit-past_chain_end s n i bit h =
    sym (ap (λ row. record s { chains = slice_set s.chains n row }) (set_past (get_or s.chains n []) i bit h)
    ∙ ap (λ cs. record s { chains = cs }) (set-get_or s.chains n []))

-- If `n` elements together take less than 2^63 bytes, one element also takes less than 2^63 bytes.
pub element_size-bounded : (i n size : ℕ) → i < n → n * size < 2 ^ 63 → size < 2 ^ 63
element_size-bounded i n size l all = let one : 1 * size ≤ n * size = mul-le-mul_right {m = 1} {n = n} size (omega arith) in omega (arith, one)
