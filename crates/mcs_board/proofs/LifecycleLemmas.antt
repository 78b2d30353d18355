-- The flat state of a rig after the rig is created, wired to a board or reset.
use Rattle.std.proofs.Common.{◌≡◌, ℕ, ◌*◌, ◌/◌, ◌<◌, ◌≤◌, inl, inr, List, [], Option, Some, None, is_some, length, get_or, slice_index, replicate, refl, sym, ap, ◌∙◌, arith, if◌then◌else◌}
use Rattle.std.proofs.lemmas.Bool.{cases_lt}
use Rattle.std.proofs.lemmas.List.{get_or-replicate, get_or_past, length-replicate, length-map, get_or-map}
use Rattle.mcs_nibble.specs.declared.lines.LineMask.{LineMask}
use Rattle.mcs_nibble.specs.Tables.{table_of, column, flat_rows}
use Rattle.mcs_nibble.proofs.TableLemmas.{length-table_of, get_or-table_of, table_of-unique}
use Rattle.mcs_nibble.proofs.FlatRowsLemmas.{zero-flat_rows, zero-column}
use Rattle.mcs_ram4002.specs.RamBank.{BankState, blank_bank}
use Rattle.mcs_rom4001.specs.Roms.{PortState}
use Rattle.mcs_model.specs.declared.board.BoardParts.{BoardParts}
use Rattle.mcs_model.specs.declared.board.ChainPart.{ChainPart}
use Rattle.mcs_model.specs.Boards.{rom_masks, chain_count, chain_bits, no_chain, key_count, empty_parts}
use Rattle.mcs_model.specs.Bus.{zero_bus}
use Rattle.mcs_model.specs.ChipWrites.{rom_of_board, zero_chains, after_reset, after_board_change}
use Rattle.mcs_board.specs.RigState.{RigParts, absent_bank, latch_of_rom, masks_of_rom, wired_chains, state_of_rig, MatchesBoard}
use Rattle.mcs_board.specs.Fitting.{FitsSockets, port_after_wiring, port_after_reset}
use Rattle.mcs_ram4002.proofs.BankLemmas.{slice_index-zeros}

-- holds if each bank `k` of the list has `chip_count k` chips, and all values of the bank are 0
pub record AllBlank (banks : List BankState) (chip_count : ℕ → ℕ) : Type 0 where
  pub at : (k : ℕ) → k < length banks → get_or banks k absent_bank ≡ blank_bank (chip_count k)

-- holds if all values of a list of banks are 0 in the flat state
record ReadsAsZeros (banks : List BankState) : Type 0 where
  ram : flat_rows 8 256 (λ b. b.main) absent_bank banks ≡ replicate 2048 0
  status : flat_rows 8 64 (λ b. b.status) absent_bank banks ≡ replicate 512 0
  ports : flat_rows 8 4 (λ b. b.ports) absent_bank banks ≡ replicate 32 0
  src : column 8 (λ b. b.src) absent_bank banks ≡ replicate 8 0

blank_banks-read_as_zeros : (banks : List BankState) (chip_count : ℕ → ℕ) → AllBlank banks chip_count → ReadsAsZeros banks
blank_banks-read_as_zeros banks chip_count blank = record {
  ram = zero-flat_rows 8 256 (λ (b : BankState). b.main) absent_bank banks (λ i k.
      elim (cases_lt i (length banks)) [
        | inl h ↦ ap (λ (b : BankState). slice_index b.main k) (blank.at i h) ∙ slice_index-zeros 256 k
        | inr h ↦ ap (λ (b : BankState). slice_index b.main k) (get_or_past banks i absent_bank h)
      ]);
  status = zero-flat_rows 8 64 (λ (b : BankState). b.status) absent_bank banks (λ i k.
      elim (cases_lt i (length banks)) [
        | inl h ↦ ap (λ (b : BankState). slice_index b.status k) (blank.at i h) ∙ slice_index-zeros 64 k
        | inr h ↦ ap (λ (b : BankState). slice_index b.status k) (get_or_past banks i absent_bank h)
      ]);
  ports = zero-flat_rows 8 4 (λ (b : BankState). b.ports) absent_bank banks (λ i k.
      elim (cases_lt i (length banks)) [
        | inl h ↦ ap (λ (b : BankState). slice_index b.ports k) (blank.at i h) ∙ slice_index-zeros 4 k
        | inr h ↦ ap (λ (b : BankState). slice_index b.ports k) (get_or_past banks i absent_bank h)
      ]);
  src = zero-column 8 (λ (b : BankState). b.src) absent_bank banks (λ i.
      elim (cases_lt i (length banks)) [
        | inl h ↦ ap (λ (b : BankState). b.src) (blank.at i h)
        | inr h ↦ ap (λ (b : BankState). b.src) (get_or_past banks i absent_bank h)
      ]);
}

-- If all bits of a rig's chains are 0, the chains in the flat state are the board's chains with all
-- bits 0.
wired_chains-zero : (b : BoardParts) (chains : List (List ℕ)) → chain_count b ≤ length chains → ((k : ℕ) → k < chain_count b → get_or chains k [] ≡ replicate (chain_bits b k) 0) → wired_chains b chains ≡ zero_chains b
wired_chains-zero b chains fit rows =
    sym (table_of-unique (chain_count b) (λ i. get_or chains i []) (zero_chains b) [] (length-map b.chains.items _)
    (λ k h. get_or-map (λ (c : ChainPart). replicate (10 * c.chips) 0) b.chains.items k no_chain [] h ∙ sym (rows k h)))

-- If the port latches of all ROMs are 0, all 16 ROM latches of the flat state are 0.
rom_latches-zero : (roms : List (Option PortState)) → ((k : ℕ) → latch_of_rom (get_or roms k None) ≡ 0) → column 16 latch_of_rom None roms ≡ replicate 16 0
rom_latches-zero roms h = zero-column 16 latch_of_rom None roms h

latch-zero_after_reset : (rom : Option PortState) → latch_of_rom (port_after_reset rom) ≡ 0
latch-zero_after_reset (Some r) = refl
latch-zero_after_reset None = refl

masks-unchanged_by_reset : (rom : Option PortState) → masks_of_rom (port_after_reset rom) ≡ masks_of_rom rom
masks-unchanged_by_reset (Some r) = refl
masks-unchanged_by_reset None = refl

masks-after_wiring : (mask : Option (List LineMask)) → masks_of_rom (port_after_wiring mask) ≡ mask
masks-after_wiring (Some m) = refl
masks-after_wiring None = refl

latch-zero_after_wiring : (mask : Option (List LineMask)) → latch_of_rom (port_after_wiring mask) ≡ 0
latch-zero_after_wiring (Some m) = refl
latch-zero_after_wiring None = refl

-- After wiring, each ROM socket has the port that the board requires. The lemma requires that the
-- board has no ROM beyond the sockets.
pub each_socket-after_wiring : (b : BoardParts) (roms roms' : List (Option PortState)) → length roms' ≡ length roms → ((k : ℕ) → k < length roms → get_or roms' k None ≡ port_after_wiring (rom_masks b k)) → ((k : ℕ) → length roms ≤ k → rom_masks b k ≡ None) → (k : ℕ) → get_or roms' k None ≡ port_after_wiring (rom_masks b k)
each_socket-after_wiring b roms roms' l h absent k =
    elim (cases_lt k (length roms)) [
      | inl below ↦ h k below
      | inr beyond ↦ get_or_past roms' k None (omega arith) ∙ sym (ap port_after_wiring (absent k beyond))
    ]

pub each_socket-after_reset : (roms roms' : List (Option PortState)) → length roms' ≡ length roms → ((k : ℕ) → k < length roms → get_or roms' k None ≡ port_after_reset (get_or roms k None)) → (k : ℕ) → get_or roms' k None ≡ port_after_reset (get_or roms k None)
each_socket-after_reset roms roms' l h k =
    elim (cases_lt k (length roms)) [
      | inl below ↦ h k below
      | inr beyond ↦ get_or_past roms' k None (omega arith) ∙ sym (ap port_after_reset (get_or_past roms k None beyond))
    ]

length-rom_of_board : (b : BoardParts) (bytes : List ℕ) → length (rom_of_board b bytes) ≡ 4096
unfolding rom_of_board
length-rom_of_board b bytes = length-table_of 4096 _

rom_of_board-zero_past_end : (b : BoardParts) (bytes : List ℕ) (at : ℕ) → 4096 ≤ at → slice_index (rom_of_board b bytes) at ≡ 0
rom_of_board-zero_past_end b bytes at h = let l = length-rom_of_board b bytes in get_or_past (rom_of_board b bytes) at 0 (omega arith)

-- `rom_of_board` sets the bytes of each absent ROM to 0.
rom_of_board-zero_if_absent : (b : BoardParts) (bytes : List ℕ) (at : ℕ) → rom_masks b (at / 256) ≡ None → slice_index (rom_of_board b bytes) at ≡ 0
unfolding rom_of_board
rom_of_board-zero_if_absent b bytes at none =
    elim (cases_lt at 4096) [
      | inl h ↦ get_or-table_of 4096 (λ k. if is_some (rom_masks b (k / 256)) then slice_index bytes k else 0) at 0 h ∙ ap (λ m. if is_some m then slice_index bytes at else 0) none
      | inr h ↦ rom_of_board-zero_past_end b bytes at h
    ]

-- holds if `new` has the contents of rig `old` after that rig is wired to the board of `new`
pub record IsRewired (old new : RigParts) : Type 0 where
  pub roms : (k : ℕ) → get_or new.roms k None ≡ port_after_wiring (rom_masks new.board k)
  pub program : new.program ≡ rom_of_board new.board old.program
  pub banks : AllBlank new.banks (slice_index new.board.banks)
  pub fit : chain_count new.board ≤ length new.chains
  pub chains : (k : ℕ) → k < chain_count new.board → get_or new.chains k [] ≡ replicate (chain_bits new.board k) 0
  pub keys_up : new.keys ≡ replicate (key_count new.board) 0
  pub src : new.rom_src ≡ 0
  pub test : new.test ≡ old.test

-- The flat state of a rewired rig is the state that `after_board_change` gives.
pub state-after_wiring : (old new : RigParts) → IsRewired old new → state_of_rig new ≡ after_board_change (state_of_rig old) new.board
unfolding zero_bus
state-after_wiring old new w =
    let z = blank_banks-read_as_zeros new.banks (slice_index new.board.banks) w.banks in
    let ports = rom_latches-zero new.roms (λ k. ap latch_of_rom (w.roms k) ∙ latch-zero_after_wiring (rom_masks new.board k)) in
    let cs = wired_chains-zero new.board new.chains w.fit w.chains in
    rw (w.program, z.ram, z.status, z.ports, ports, z.src, cs, w.keys_up, w.src, w.test) refl

-- The flat state of a rig after a reset is the state that `after_reset` gives.
pub state-after_reset : (p : RigParts) (roms : List (Option PortState)) (banks : List BankState) (chains : List (List ℕ)) (chip_count : ℕ → ℕ) → ((k : ℕ) → get_or roms k None ≡ port_after_reset (get_or p.roms k None)) → AllBlank banks chip_count → chain_count p.board ≤ length chains → ((k : ℕ) → k < chain_count p.board → get_or chains k [] ≡ replicate (chain_bits p.board k) 0) → state_of_rig (record p { roms = roms; banks = banks; chains = chains; rom_src = 0 }) ≡ after_reset (state_of_rig p)
unfolding zero_bus
state-after_reset p roms banks chains chip_count every blank fit rows =
    let z = blank_banks-read_as_zeros banks chip_count blank in
    let ports = rom_latches-zero roms (λ k. ap latch_of_rom (every k) ∙ latch-zero_after_reset (get_or p.roms k None)) in
    let cs = wired_chains-zero p.board chains fit rows in
    rw (z.ram, z.status, z.ports, ports, z.src, cs) refl

-- The chips of a rig still match its board after a reset.
pub matches_board-after_reset : (p : RigParts) (roms : List (Option PortState)) (banks : List BankState) (chains : List (List ℕ)) (rom_sockets bank_sockets chain_sockets : ℕ) → MatchesBoard p rom_sockets bank_sockets chain_sockets → length roms ≡ length p.roms → length banks ≡ length p.banks → length chains ≡ length p.chains → ((k : ℕ) → get_or roms k None ≡ port_after_reset (get_or p.roms k None)) → AllBlank banks (λ k. (get_or p.banks k absent_bank).chip_count) → ((k : ℕ) → k < chain_count p.board → get_or chains k [] ≡ replicate (chain_bits p.board k) 0) → MatchesBoard (record p { roms = roms; banks = banks; chains = chains; rom_src = 0 }) rom_sockets bank_sockets chain_sockets
matches_board-after_reset p roms banks chains rom_sockets bank_sockets chain_sockets v rl bl cl every blank rows = record {
  roms_len = rl ∙ v.roms_len;
  banks_len = bl ∙ v.banks_len;
  chains_len = cl ∙ v.chains_len;
  keys_len = v.keys_len;
  chains_fit = v.chains_fit;
  program_len = v.program_len;
  absent = v.absent;
  masks = λ k. ap masks_of_rom (every k) ∙ masks-unchanged_by_reset (get_or p.roms k None) ∙ v.masks k;
  chip_count = λ k.
      elim (cases_lt k (length banks)) [
        | inl below ↦ ap (λ (x : BankState). x.chip_count) (blank.at k below) ∙ v.chip_count k
        | inr beyond ↦ ap (λ (x : BankState). x.chip_count) (get_or_past banks k absent_bank beyond ∙ sym (get_or_past p.banks k absent_bank (omega arith))) ∙ v.chip_count k
      ];
  bits = λ i h. ap length (rows i h) ∙ length-replicate {A = ℕ} (chain_bits p.board i) 0;
  src = omega arith;
}

-- The chips of a rewired rig match its new board.
pub matches_board-after_wiring : (old new : RigParts) (rom_sockets bank_sockets chain_sockets chain_size : ℕ) → FitsSockets new.board rom_sockets bank_sockets chain_sockets chain_size → length new.roms ≡ rom_sockets → length new.banks ≡ bank_sockets → length new.chains ≡ chain_sockets → IsRewired old new → MatchesBoard new rom_sockets bank_sockets chain_sockets
matches_board-after_wiring old new rom_sockets bank_sockets chain_sockets chain_size fits rl bl cl w = record {
  roms_len = rl;
  banks_len = bl;
  chains_len = cl;
  keys_len = ap length w.keys_up ∙ length-replicate {A = ℕ} (key_count new.board) 0;
  chains_fit = fits.chains;
  program_len = ap length w.program ∙ length-rom_of_board new.board old.program;
  absent = λ at none. ap (λ xs. slice_index xs at) w.program ∙ rom_of_board-zero_if_absent new.board old.program at none;
  masks = λ k. ap masks_of_rom (w.roms k) ∙ masks-after_wiring (rom_masks new.board k);
  chip_count = λ k.
      elim (cases_lt k (length new.banks)) [
        | inl below ↦ ap (λ (x : BankState). x.chip_count) (w.banks.at k below)
        | inr beyond ↦ ap (λ (x : BankState). x.chip_count) (get_or_past new.banks k absent_bank beyond) ∙ sym (fits.banks k (omega arith))
      ];
  bits = λ i h. ap length (w.chains i h) ∙ length-replicate {A = ℕ} (chain_bits new.board i) 0;
  src = let e = w.src in omega arith;
}

get_or-replicate_default : {X : Type 0} (n k : ℕ) (x : X) → get_or (replicate n x) k x ≡ x
get_or-replicate_default n k x =
    elim (cases_lt k n) [
      | inl h ↦ get_or-replicate n k x x h
      | inr h ↦ let l = length-replicate n x in get_or_past (replicate n x) k x (omega arith)
    ]

chip_count-of_blank_banks : (n k : ℕ) → (get_or (replicate n (blank_bank 0)) k absent_bank).chip_count ≡ 0
chip_count-of_blank_banks n k =
    elim (cases_lt k n) [
      | inl h ↦ ap (λ (x : BankState). x.chip_count) (get_or-replicate n k (blank_bank 0) absent_bank h)
      | inr h ↦ let l = length-replicate n (blank_bank 0) in ap (λ (x : BankState). x.chip_count) (get_or_past (replicate n (blank_bank 0)) k absent_bank (omega arith))
    ]

-- the contents of a new rig
abbrev pub new_parts : ℕ → ℕ → ℕ → RigParts
new_parts rom_sockets bank_sockets chain_sockets = record {
  board = empty_parts;
  roms = replicate rom_sockets None;
  program = replicate 4096 0;
  banks = replicate bank_sockets (blank_bank 0);
  chains = replicate chain_sockets [];
  keys = replicate 0 0;
  rom_src = 0;
  test = 1;
}

-- The sockets of a new rig match the empty board.
pub matches_board-of_new_rig : (rom_sockets bank_sockets chain_sockets : ℕ) → MatchesBoard (new_parts rom_sockets bank_sockets chain_sockets) rom_sockets bank_sockets chain_sockets
matches_board-of_new_rig rom_sockets bank_sockets chain_sockets = record {
  roms_len = length-replicate rom_sockets None;
  banks_len = length-replicate bank_sockets (blank_bank 0);
  chains_len = length-replicate chain_sockets [];
  keys_len = refl;
  chains_fit = omega arith;
  program_len = length-replicate {A = ℕ} 4096 0;
  absent = λ at none. slice_index-zeros 4096 at;
  masks = λ k. ap masks_of_rom (get_or-replicate_default rom_sockets k None) ∙ sym (get_or-replicate_default 16 k None);
  chip_count = λ k. chip_count-of_blank_banks bank_sockets k ∙ sym (slice_index-zeros 8 k);
  bits = λ i h. absurd (omega arith);
  src = omega arith;
}

-- The flat state of a new rig is all 0, except for TEST, which is 1.
pub state-of_new_rig : (rom_sockets bank_sockets chain_sockets : ℕ) → state_of_rig (new_parts rom_sockets bank_sockets chain_sockets) ≡ record zero_bus { test = 1 }
unfolding zero_bus table_of
state-of_new_rig rom_sockets bank_sockets chain_sockets =
    let blank : AllBlank (replicate bank_sockets (blank_bank 0)) (λ _. 0) = record { at = λ k h. let l = length-replicate bank_sockets (blank_bank 0) in get_or-replicate bank_sockets k (blank_bank 0) absent_bank (omega arith) } in
    let z = blank_banks-read_as_zeros (replicate bank_sockets (blank_bank 0)) (λ _. 0) blank in
    let ports = rom_latches-zero (replicate rom_sockets None) (λ k. ap latch_of_rom (get_or-replicate_default rom_sockets k None)) in
    rw (z.ram, z.status, z.ports, ports, z.src) refl
