-- Lemmas about the lists in a valid state: their lengths, and writing them byte by byte.
use Rattle.std.proofs.Common.{◌≡◌, ℕ, ◌+◌, ◌<◌, ◌≤◌, List, [], ◌∷◌, ◌++◌, length, get_or, slice_set, take, refl, sym, ap, ◌∙◌, append_assoc, arith, inl, inr}
use Rattle.std.proofs.lemmas.Bool.{cases_lt}
use Rattle.std.proofs.lemmas.List.{get_or_past, length-replicate, take_more, take_more_set}
use Rattle.mcs_model.specs.Boards.{chain_count, chain_bits, no_chain}
use Rattle.mcs_model.specs.Bus.{zero_bus}
use Rattle.mcs_model.specs.BenchState.{BenchState, new_bench_state}
use Rattle.mcs_model.specs.Validity.{IsValid}
use Rattle.mcs_bench.specs.declared.chip_list.ChipList.TheVariants.{RomBytes, RamNibbles, StatusCharacters, RamPorts, BankSrcBytes}
use Rattle.mcs_codec.specs.declared.saving.StateList.{StateList}
use Rattle.mcs_codec.specs.declared.saving.StateList.TheVariants.{Chips, RomPorts, IndexRegisters, ChainBits, Keys}
use Rattle.mcs_codec.specs.StateLists.{list_in_state, state_list_length}
use Rattle.mcs_codec.specs.StateReading.{HasFixedLengths}

-- a state has no bits for a chain that the board does not have
absent_chain_has_no_bits : (s : BenchState) (n : ℕ) → IsValid s → chain_count s.bus.board ≤ n → length (get_or s.bus.chains n []) ≡ chain_bits s.bus.board n
absent_chain_has_no_bits s n h past =
    rw (get_or_past s.bus.chains n [] (omega (arith, h.bus.in_range.chains)), get_or_past s.bus.board.chains.items n no_chain past) refl

pub list_has_its_length : (p : StateList) (s : BenchState) → IsValid s → length (list_in_state p s) ≡ state_list_length p s
list_has_its_length (Chips RomBytes) s h = h.bus.in_range.rom.has_count
list_has_its_length (Chips RamNibbles) s h = h.bus.in_range.ram.has_count
list_has_its_length (Chips StatusCharacters) s h = h.bus.in_range.status.has_count
list_has_its_length (Chips RamPorts) s h = h.bus.in_range.ram_ports.has_count
list_has_its_length RomPorts s h = h.bus.in_range.rom_ports.has_count
list_has_its_length IndexRegisters s h = h.processor.r.has_count
list_has_its_length (Chips BankSrcBytes) s h = h.bus.in_range.ram_src.has_count
list_has_its_length (ChainBits n) s h = elim (cases_lt n (chain_count s.bus.board)) [ inl lt ↦ (h.bus.in_range.chain_bits n lt).has_count | inr past ↦ absent_chain_has_no_bits s n h past ]
list_has_its_length Keys s h = h.bus.in_range.keys.has_count

-- after one more byte is written, the front of the buffer has one more byte of the list
pub buffer_extended : (out front list : List ℕ) (at i byte : ℕ) → at + i < length out → i < length list → byte ≡ get_or list i 0 → take (at + i) out ≡ front ++ take i list → take (at + (i + 1)) (slice_set out (at + i) byte) ≡ front ++ take (i + 1) list
buffer_extended out front list at i byte inside lt is so_far =
    let more : take (i + 1) list ≡ take i list ++ byte ∷ [] = take_more list i 0 lt ∙ ap (λ b. take i list ++ b ∷ []) (sym is) in
    let next : at + (i + 1) ≡ at + i + 1 = omega arith in
    ap (λ n. take n (slice_set out (at + i) byte)) next ∙ take_more_set out (at + i) byte inside ∙ ap (λ l. l ++ byte ∷ []) so_far ∙ append_assoc front (take i list) (byte ∷ []) ∙ ap (λ l. front ++ l) (sym more)

-- the lists of a new bench have their fixed lengths
pub new_bench_lengths : (s : BenchState) → s ≡ new_bench_state → HasFixedLengths s.bus
unfolding zero_bus
new_bench_lengths s e = rw e (record {
  rom = length-replicate {A = ℕ} 4096 0;
  ram = length-replicate {A = ℕ} 2048 0;
  status = length-replicate {A = ℕ} 512 0;
  ram_ports = length-replicate {A = ℕ} 32 0;
  rom_ports = length-replicate {A = ℕ} 16 0;
})
