-- The flat state of a rig is valid.
use Rattle.std.proofs.Common.{◌≡◌, ℕ, ◌+◌, ◌*◌, ◌/◌, ◌<◌, ◌≤◌, inl, inr, List, [], Option, Some, None, length, get_or, slice_index, refl, sym, ap, ◌∙◌, subst, arith}
use Rattle.std.specs.Prelude.{All, IfSome, MatchOption}
use Rattle.std.proofs.lemmas.Bool.{cases_lt}
use Rattle.std.proofs.lemmas.List.{get_or_past}
use Rattle.mcs_nibble.specs.declared.lines.LineMask.{LineMask}
use Rattle.mcs_nibble.specs.Ports.{latch_value}
use Rattle.mcs_nibble.specs.Tables.{column, flat_rows}
use Rattle.mcs_nibble.proofs.TableLemmas.{length-table_of}
use Rattle.mcs_nibble.proofs.FlatRowsLemmas.{length-flat_rows, length-column}
use Rattle.mcs_nibble.proofs.PortLemmas.{latch_value-zero}
use Rattle.mcs_ram4002.specs.RamBank.{BankState, IsValidBank}
use Rattle.mcs_ram4002.proofs.BelowLimit.{element-below_limit, flat_rows-below_limit, column-below_limit}
use Rattle.mcs_rom4001.specs.Roms.{PortState, IsValidPort}
use Rattle.mcs_model.specs.Boards.{rom_masks, chain_count}
use Rattle.mcs_model.specs.Validity.{IsValidBoard, IsValidBus}
use Rattle.mcs_board.specs.RigState.{RigParts, absent_bank, latch_of_rom, masks_of_rom, wired_chains, state_of_rig, MatchesBoard}
use Rattle.mcs_board.proofs.ClockLemmas.{wired_chains-at_index}
use Rattle.mcs_board.proofs.RigLemmas.{src-in_flat_list, main_nibble-in_flat_list, status-in_flat_list, ram_latch-in_flat_list, rom_latch-in_flat_list}

-- holds if each chip on a rig is valid: the ROM bytes are below 256, and each ROM port and each
-- bank is valid
pub record AreValidChips (p : RigParts) : Type 0 where
  pub program : All (λ byte. byte < 256) p.program
  pub roms : (k : ℕ) → k < length p.roms → IfSome (get_or p.roms k None) IsValidPort
  pub banks : (k : ℕ) → k < length p.banks → IsValidBank (get_or p.banks k absent_bank)

-- ---- ROMs

each_rom-valid : (roms : List (Option PortState)) → ((k : ℕ) → k < length roms → IfSome (get_or roms k None) IsValidPort) → (k : ℕ) → IfSome (get_or roms k None) IsValidPort
each_rom-valid roms valid k =
    elim (cases_lt k (length roms)) [
      | inl l ↦ valid k l
      | inr beyond ↦ subst (λ (r : Option PortState). IfSome r IsValidPort) (sym (get_or_past roms k None beyond)) tt
    ]

rom_latch-below_16 : (rom : Option PortState) → IfSome rom IsValidPort → latch_of_rom rom < 16
rom_latch-below_16 (Some r) valid = valid.latch
rom_latch-below_16 None valid = omega arith

-- holds if the latch `n` has a 0 bit for each input line of the ROM, or is 0 if the ROM is absent
abbrev IsMaskedLatch : ℕ → Option (List LineMask) → Type 0
IsMaskedLatch n masks = MatchOption masks (n ≡ 0) (λ mask. latch_value mask n ≡ n)

rom_latch-is_masked : (rom : Option PortState) (n : ℕ) → IfSome rom IsValidPort → n ≡ latch_of_rom rom → IsMaskedLatch n (masks_of_rom rom)
rom_latch-is_masked (Some r) n valid is = ap (latch_value r.mask) is ∙ valid.inputs ∙ sym is
rom_latch-is_masked None n valid is = is

zero_latch-is_masked : (masks : Option (List LineMask)) (n : ℕ) → n ≡ 0 → IsMaskedLatch n masks
zero_latch-is_masked (Some mask) n is = ap (latch_value mask) is ∙ latch_value-zero mask ∙ sym is
zero_latch-is_masked None n is = is

-- ---- banks

module _ (banks : List BankState) (valid : (k : ℕ) → k < length banks → IsValidBank (get_or banks k absent_bank)) where
  -- A property of the absent bank and of every valid bank holds for each bank of the list.
  property-at_each_bank : (P : BankState → Type 0) → P absent_bank → ((b : BankState) → IsValidBank b → P b) → (k : ℕ) → P (get_or banks k absent_bank)
  property-at_each_bank P none each k =
      elim (cases_lt k (length banks)) [
        | inl l ↦ each (get_or banks k absent_bank) (valid k l)
        | inr beyond ↦ subst P (sym (get_or_past banks k absent_bank beyond)) none
      ]

-- ---- the flat state of the rig

pub state_of_rig-valid : (p : RigParts) (rom_sockets bank_sockets chain_sockets : ℕ) → IsValidBoard p.board → MatchesBoard p rom_sockets bank_sockets chain_sockets → AreValidChips p → ((i : ℕ) → i < chain_count p.board → All (λ bit. bit < 2) (get_or (wired_chains p.board p.chains) i [])) → All (λ key. key < 2) p.keys → p.test < 2 → IsValidBus (state_of_rig p)
state_of_rig-valid p rom_sockets bank_sockets chain_sockets board v chips bits keys test =
    let roms = each_rom-valid p.roms chips.roms in
    let bank = property-at_each_bank p.banks chips.banks in
    record {
      board = board;
      in_range = record {
        rom = record { has_count = v.program_len; below = chips.program };
        ram = record { has_count = length-flat_rows 8 256 (λ (x : BankState). x.main) absent_bank p.banks; below = flat_rows-below_limit 8 256 16 (λ (x : BankState). x.main) absent_bank p.banks (λ i k. bank (λ b. slice_index b.main k < 16) (omega arith) (λ b w. element-below_limit 16 b.main k (omega arith) w.main) i) };
        status = record { has_count = length-flat_rows 8 64 (λ (x : BankState). x.status) absent_bank p.banks; below = flat_rows-below_limit 8 64 16 (λ (x : BankState). x.status) absent_bank p.banks (λ i k. bank (λ b. slice_index b.status k < 16) (omega arith) (λ b w. element-below_limit 16 b.status k (omega arith) w.status) i) };
        ram_ports = record { has_count = length-flat_rows 8 4 (λ (x : BankState). x.ports) absent_bank p.banks; below = flat_rows-below_limit 8 4 16 (λ (x : BankState). x.ports) absent_bank p.banks (λ i k. bank (λ b. slice_index b.ports k < 16) (omega arith) (λ b w. element-below_limit 16 b.ports k (omega arith) w.ports) i) };
        rom_ports = record { has_count = length-column 16 latch_of_rom None p.roms; below = column-below_limit 16 16 latch_of_rom None p.roms (λ i. rom_latch-below_16 (get_or p.roms i None) (roms i)) };
        rom_src = v.src;
        ram_src = record { has_count = length-column 8 (λ (x : BankState). x.src) absent_bank p.banks; below = column-below_limit 8 256 (λ (x : BankState). x.src) absent_bank p.banks (λ i. bank (λ b. b.src < 256) (omega arith) (λ b w. w.src) i) };
        chains = length-table_of (chain_count p.board) _;
        chain_bits = λ i h. record { has_count = ap length (wired_chains-at_index p.board p.chains i h) ∙ v.bits i h; below = bits i h };
        keys = record { has_count = v.keys_len; below = keys };
        test = test;
      };
      absent = record {
        rom = v.absent;
        ram = λ n src l chip_absent.
            elim (cases_lt n 8) [
              | inl h ↦ main_nibble-in_flat_list p.banks n src (get_or p.banks n absent_bank) h l refl ∙ bank (λ b. b.chip_count ≤ src / 64 → slice_index b.main src ≡ 0) (λ _. refl) (λ b w. w.absent_main src l) n (let e = v.chip_count n in omega arith)
              | inr h ↦ let len = length-flat_rows 8 256 (λ (x : BankState). x.main) absent_bank p.banks in get_or_past (flat_rows 8 256 (λ (x : BankState). x.main) absent_bank p.banks) (n * 256 + src) 0 (omega arith)
            ];
        status = λ n high k h4 k4 chip_absent.
            elim (cases_lt n 8) [
              | inl h ↦ status-in_flat_list p.banks n (high * 4 + k) (get_or p.banks n absent_bank) h (omega arith) refl ∙ bank (λ b. b.chip_count ≤ high / 4 → slice_index b.status (high * 4 + k) ≡ 0) (λ _. refl) (λ b w. w.absent_status high k h4 k4) n (let e = v.chip_count n in omega arith)
              | inr h ↦ let len = length-flat_rows 8 64 (λ (x : BankState). x.status) absent_bank p.banks in get_or_past (flat_rows 8 64 (λ (x : BankState). x.status) absent_bank p.banks) (n * 64 + (high * 4 + k)) 0 (omega arith)
            ];
        ram_ports = λ n chip l chip_absent.
            elim (cases_lt n 8) [
              | inl h ↦ ram_latch-in_flat_list p.banks n chip (get_or p.banks n absent_bank) h l refl ∙ bank (λ b. b.chip_count ≤ chip → slice_index b.ports chip ≡ 0) (λ _. refl) (λ b w. w.absent_port chip l) n (let e = v.chip_count n in omega arith)
              | inr h ↦ let len = length-flat_rows 8 4 (λ (x : BankState). x.ports) absent_bank p.banks in get_or_past (flat_rows 8 4 (λ (x : BankState). x.ports) absent_bank p.banks) (n * 4 + chip) 0 (omega arith)
            ];
        rom_ports = λ chip.
            elim (cases_lt chip 16) [
              | inl h ↦ subst (IsMaskedLatch (slice_index (column 16 latch_of_rom None p.roms) chip)) (v.masks chip) (rom_latch-is_masked (get_or p.roms chip None) _ (roms chip) (rom_latch-in_flat_list p.roms chip (get_or p.roms chip None) h refl))
              | inr h ↦ zero_latch-is_masked (rom_masks p.board chip) _ (let l = length-column 16 latch_of_rom None p.roms in get_or_past (column 16 latch_of_rom None p.roms) chip 0 (omega arith))
            ];
        ram_src = λ n none.
            elim (cases_lt n 8) [
              | inl h ↦ src-in_flat_list p.banks n (get_or p.banks n absent_bank) h refl ∙ bank (λ b. b.chip_count ≡ 0 → b.src ≡ 0) (λ _. refl) (λ b w. w.absent_src) n (v.chip_count n ∙ none)
              | inr h ↦ let l = length-column 8 (λ (x : BankState). x.src) absent_bank p.banks in get_or_past (column 8 (λ (x : BankState). x.src) absent_bank p.banks) n 0 (omega arith)
            ];
      };
    }
