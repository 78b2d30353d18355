-- The chips of a rig still match the board after one bank, ROM or chain is replaced. The new bank
-- must have the same chip count, the new ROM the same masks, and the new chain the same length.
use Rattle.std.proofs.Common.{◌≡◌, ℕ, ◌<◌, List, [], Some, None, length, get_or, slice_set, sym, ap, ◌∙◌}
use Rattle.std.proofs.lemmas.List.{length-set, get_or_default}
use Rattle.mcs_nibble.proofs.FlatRowsLemmas.{value_unchanged-by_set}
use Rattle.mcs_ram4002.specs.RamBank.{BankState}
use Rattle.mcs_rom4001.specs.Roms.{PortState}
use Rattle.mcs_board.specs.RigState.{RigParts, MatchesBoard, absent_bank, masks_of_rom}

pub matches_board-after_set_bank : {p : RigParts} {r k c : ℕ} → MatchesBoard p r k c → (i : ℕ) (e d : BankState) → i < length p.banks → e ≡ get_or p.banks i e → d.chip_count ≡ e.chip_count → MatchesBoard (record p { banks = slice_set p.banks i d }) r k c
matches_board-after_set_bank {p = p} v i e d l is same = record {
  roms_len = v.roms_len;
  banks_len = length-set p.banks i d ∙ v.banks_len;
  chains_len = v.chains_len;
  keys_len = v.keys_len;
  chains_fit = v.chains_fit;
  program_len = v.program_len;
  absent = v.absent;
  masks = v.masks;
  chip_count = λ n. value_unchanged-by_set (λ (x : BankState). x.chip_count) absent_bank p.banks i n d l (same ∙ ap (λ (x : BankState). x.chip_count) (is ∙ get_or_default p.banks i e absent_bank l)) ∙ v.chip_count n;
  bits = v.bits;
  src = v.src;
}

pub matches_board-after_set_rom : {p : RigParts} {r k c : ℕ} → MatchesBoard p r k c → (i : ℕ) (e d : PortState) → i < length p.roms → get_or p.roms i None ≡ Some e → d.mask ≡ e.mask → MatchesBoard (record p { roms = slice_set p.roms i (Some d) }) r k c
matches_board-after_set_rom {p = p} v i e d l here same = record {
  roms_len = length-set p.roms i (Some d) ∙ v.roms_len;
  banks_len = v.banks_len;
  chains_len = v.chains_len;
  keys_len = v.keys_len;
  chains_fit = v.chains_fit;
  program_len = v.program_len;
  absent = v.absent;
  masks = λ n. value_unchanged-by_set masks_of_rom None p.roms i n (Some d) l (ap Some same ∙ ap masks_of_rom (sym here)) ∙ v.masks n;
  chip_count = v.chip_count;
  bits = v.bits;
  src = v.src;
}

pub matches_board-after_set_chain : {p : RigParts} {r k c : ℕ} → MatchesBoard p r k c → (i : ℕ) (d : List ℕ) → i < length p.chains → length d ≡ length (get_or p.chains i []) → MatchesBoard (record p { chains = slice_set p.chains i d }) r k c
matches_board-after_set_chain {p = p} v i d l same = record {
  roms_len = v.roms_len;
  banks_len = v.banks_len;
  chains_len = length-set p.chains i d ∙ v.chains_len;
  keys_len = v.keys_len;
  chains_fit = v.chains_fit;
  program_len = v.program_len;
  absent = v.absent;
  masks = v.masks;
  chip_count = v.chip_count;
  bits = λ n h. value_unchanged-by_set (λ (row : List ℕ). length row) [] p.chains i n d l same ∙ v.bits n h;
  src = v.src;
}
