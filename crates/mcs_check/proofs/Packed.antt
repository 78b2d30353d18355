-- Two machines with the same board, ROM bytes and state vector are equal.
use Rattle.std.proofs.Common.{◌≡◌, ◌<◌, ◌+◌, ◌*◌, ◌/◌, ◌%◌, ℕ, zero, suc, inl, inr, true, not, List, [], Option, Some, None, is_some, length, get_or, slice_index, slice_index_or, nat_lt, nat_le, refl, sym, ap, ◌∙◌, subst, arith}
use Rattle.std.specs.List.{Contains}
use Rattle.std.proofs.Math.Nat.{mod-eq_of_lt}
use Rattle.std.proofs.lemmas.Bool.{lt-ltb, cases_lt, leb-true, and_parts, not-false}
use Rattle.std.proofs.lemmas.List.{ext_get_or, get_or-map, get_or_past}
use Rattle.std.proofs.lemmas.List.Elements.{All-get_or}
use Rattle.mcs_nibble.specs.declared.lines.LineMask.{LineMask}
use Rattle.mcs_model.specs.declared.board.BoardParts.{BoardParts}
use Rattle.mcs_model.specs.declared.regs.Regs.{Regs}
use Rattle.mcs_model.specs.declared.board.ChainPart.{ChainPart}
use Rattle.mcs_model.specs.Boards.{board_fault_of, chain_bits, chain_count, chain_part, is_chain_size, rom_masks, no_chain}
use Rattle.mcs_model.proofs.ListLemmas.{test_false-if_list_any_false}
use Rattle.mcs_model.proofs.ValidBoardLemmas.{sound}
use Rattle.mcs_model.specs.Bus.{BusState, chips_of, ram_index, ram_port_index, status_index}
use Rattle.mcs_model.specs.Validity.{AreBelow, IsValidBus, IsValidRegs}
use Rattle.mcs_drive.specs.TrackedMachine.{Counts, TrackedMachine}
use Rattle.mcs_check.specs.declared.cells.StateByte.{StateByte}
use Rattle.mcs_check.specs.declared.cells.CellList.{CellList}
use Rattle.mcs_check.specs.declared.cells.CellList.TheVariants.{RamNibbles, StatusCharacters, RamPorts, RomPorts, BankSrcBytes, Registers, Counters, Chain}
use Rattle.mcs_check.specs.Cells.{state_byte_value, state_byte_of, counters_of, values_in_list, max_cell_count, is_narrow, board_has_cell, vector_of, IsComplete}
use Rattle.mcs_check.specs.StateVectors.{IsOnBoard}
use Rattle.mcs_check.specs.BusAgreement.{AgreesInChips}
use Rattle.mcs_check.proofs.Agreeing.{equal_buses-if_they_agree}

equal_state_bytes-if_equal_vectors : (s t : TrackedMachine) (layout : List StateByte) (c : StateByte) → Contains layout c → vector_of layout s ≡ vector_of layout t → state_byte_value s c ≡ state_byte_value t c
equal_state_bytes-if_equal_vectors s t layout c h e =
    ap (state_byte_value s) (sym h.2) ∙ sym (get_or-map (state_byte_value s) layout h.0 c 0 h.1) ∙ ap (λ (xs : List ℕ). get_or xs h.0 0) e ∙ get_or-map (state_byte_value t) layout h.0 c 0 h.1 ∙ ap (state_byte_value t) h.2

-- ---- two cells in a byte

item-below_limit : (count limit : ℕ) (xs : List ℕ) (i : ℕ) → 0 < limit → AreBelow count limit xs → slice_index xs i < limit
item-below_limit count limit xs i some h =
    elim (cases_lt i (length xs)) [
      | inl within ↦ All-get_or (λ n. n < limit) xs i 0 within h.below
      | inr past ↦ (let zero = get_or_past xs i 0 past in omega arith)
    ]

chain_bit-below_16 : (t : TrackedMachine) (n i : ℕ) → IsValidBus t.1 → slice_index (slice_index_or t.1.chains n []) i < 16
chain_bit-below_16 t n i bus =
    elim (cases_lt n (chain_count t.1.board)) [
      | inl there ↦ (let small = item-below_limit (chain_bits t.1.board n) 2 (slice_index_or t.1.chains n []) i (omega arith) (bus.in_range.chain_bits n there) in omega arith)
      | inr past ↦
          let many = bus.in_range.chains in
          let none : slice_index_or t.1.chains n [] ≡ [] = get_or_past t.1.chains n [] (omega arith) in
          let zero : slice_index (slice_index_or t.1.chains n []) i ≡ 0 = ap (λ (xs : List ℕ). slice_index xs i) none in
          omega arith
    ]

narrow_cell-below_16 : (t : TrackedMachine) → IsValidRegs t.0 → IsValidBus t.1 → (list : CellList) → is_narrow list ≡ true → (i : ℕ) → slice_index (values_in_list t list) i < 16
narrow_cell-below_16 t regs bus RamNibbles narrow i = item-below_limit 2048 16 t.1.ram i (omega arith) bus.in_range.ram
narrow_cell-below_16 t regs bus StatusCharacters narrow i = item-below_limit 512 16 t.1.status i (omega arith) bus.in_range.status
narrow_cell-below_16 t regs bus RamPorts narrow i = item-below_limit 32 16 t.1.ram_ports i (omega arith) bus.in_range.ram_ports
narrow_cell-below_16 t regs bus RomPorts narrow i = item-below_limit 16 16 t.1.rom_ports i (omega arith) bus.in_range.rom_ports
narrow_cell-below_16 t regs bus BankSrcBytes narrow i = absurd (cc)
narrow_cell-below_16 t regs bus Registers narrow i = item-below_limit 16 16 t.0.r i (omega arith) regs.r
narrow_cell-below_16 t regs bus Counters narrow i = absurd (cc)
narrow_cell-below_16 t regs bus (Chain n) narrow i = chain_bit-below_16 t n i bus

equal_nibbles-if_equal_bytes : (a b c d : ℕ) → a < 16 → b < 16 → c < 16 → d < 16 → a % 16 * 16 + b % 16 ≡ c % 16 * 16 + d % 16 → (a ≡ c) × (b ≡ d)
equal_nibbles-if_equal_bytes a b c d la lb lc ld e = (omega arith, omega arith)

-- Suppose that cells `f` and `g` are the pair that contains cell `i`. If their byte in the state
-- vector has the same value in two machines, cell `i` also has the same value in both machines.
equal_cells-if_equal_pair_bytes : (s t : TrackedMachine) (list : CellList) (i f g : ℕ) → ((j : ℕ) → slice_index (values_in_list s list) j < 16) → ((j : ℕ) → slice_index (values_in_list t list) j < 16) → f ≡ 2 * (i / 2) → g ≡ 2 * (i / 2) + 1 →
    slice_index (values_in_list s list) f % 16 * 16 + slice_index (values_in_list s list) g % 16 ≡ slice_index (values_in_list t list) f % 16 * 16 + slice_index (values_in_list t list) g % 16 →
    slice_index (values_in_list s list) i ≡ slice_index (values_in_list t list) i
equal_cells-if_equal_pair_bytes s t list i f g small-s small-t first second e =
    let parts = equal_nibbles-if_equal_bytes _ _ _ _ (small-s f) (small-s g) (small-t f) (small-t g) e in
    elim (cases_lt (i % 2) 1) [
      | inl even ↦ (let at : i ≡ f = omega arith in ap (slice_index (values_in_list s list)) at ∙ parts.0 ∙ ap (slice_index (values_in_list t list)) (sym at))
      | inr odd ↦ (let at : i ≡ g = omega arith in ap (slice_index (values_in_list s list)) at ∙ parts.1 ∙ ap (slice_index (values_in_list t list)) (sym at))
    ]

-- ---- cells of the chips that the board has

equal_cells-if_equal_state_bytes : (s t : TrackedMachine) → IsValidRegs s.0 → IsValidBus s.1 → IsValidRegs t.0 → IsValidBus t.1 → (list : CellList) (i : ℕ) → i < max_cell_count list → state_byte_value s (state_byte_of list i) ≡ state_byte_value t (state_byte_of list i) → slice_index (values_in_list s list) i ≡ slice_index (values_in_list t list) i
equal_cells-if_equal_state_bytes s t rs bs rt bt RamNibbles i few e = equal_cells-if_equal_pair_bytes s t RamNibbles i (2 * (i / 2 % 1024) % 2048) ((2 * (i / 2 % 1024) + 1) % 2048) (narrow_cell-below_16 s rs bs RamNibbles refl) (narrow_cell-below_16 t rt bt RamNibbles refl) (omega arith) (omega arith) e
equal_cells-if_equal_state_bytes s t rs bs rt bt StatusCharacters i few e = equal_cells-if_equal_pair_bytes s t StatusCharacters i (2 * (i / 2 % 1024) % 512) ((2 * (i / 2 % 1024) + 1) % 512) (narrow_cell-below_16 s rs bs StatusCharacters refl) (narrow_cell-below_16 t rt bt StatusCharacters refl) (omega arith) (omega arith) e
equal_cells-if_equal_state_bytes s t rs bs rt bt RamPorts i few e = equal_cells-if_equal_pair_bytes s t RamPorts i (2 * (i / 2 % 1024) % 32) ((2 * (i / 2 % 1024) + 1) % 32) (narrow_cell-below_16 s rs bs RamPorts refl) (narrow_cell-below_16 t rt bt RamPorts refl) (omega arith) (omega arith) e
equal_cells-if_equal_state_bytes s t rs bs rt bt RomPorts i few e = equal_cells-if_equal_pair_bytes s t RomPorts i (2 * (i / 2 % 1024) % 16) ((2 * (i / 2 % 1024) + 1) % 16) (narrow_cell-below_16 s rs bs RomPorts refl) (narrow_cell-below_16 t rt bt RomPorts refl) (omega arith) (omega arith) e
equal_cells-if_equal_state_bytes s t rs bs rt bt Registers i few e = equal_cells-if_equal_pair_bytes s t Registers i (2 * (i / 2 % 1024) % 16) ((2 * (i / 2 % 1024) + 1) % 16) (narrow_cell-below_16 s rs bs Registers refl) (narrow_cell-below_16 t rt bt Registers refl) (omega arith) (omega arith) e
equal_cells-if_equal_state_bytes s t rs bs rt bt (Chain n) i few e = equal_cells-if_equal_pair_bytes s t (Chain n) i (2 * (i / 2 % 1024) % 256) ((2 * (i / 2 % 1024) + 1) % 256) (narrow_cell-below_16 s rs bs (Chain n) refl) (narrow_cell-below_16 t rt bt (Chain n) refl) (omega arith) (omega arith) e
equal_cells-if_equal_state_bytes s t rs bs rt bt BankSrcBytes i few e =
    let at : i % 8 ≡ i = mod-eq_of_lt few in
    ap (slice_index (values_in_list s BankSrcBytes)) (sym at) ∙ e ∙ ap (slice_index (values_in_list t BankSrcBytes)) at
equal_cells-if_equal_state_bytes s t rs bs rt bt Counters i few e =
    let at : i % 18 ≡ i = mod-eq_of_lt few in
    ap (slice_index (values_in_list s Counters)) (sym at) ∙ e ∙ ap (slice_index (values_in_list t Counters)) at

equal_cells-if_equal_vectors : (b : BoardParts) (rom levels : List ℕ) (s t : TrackedMachine) (layout : List StateByte) → IsOnBoard b rom levels s → IsOnBoard b rom levels t → IsComplete s.1.board layout → vector_of layout s ≡ vector_of layout t → (list : CellList) (i : ℕ) → i < max_cell_count list → board_has_cell s.1.board list i ≡ true → slice_index (values_in_list s list) i ≡ slice_index (values_in_list t list) i
equal_cells-if_equal_vectors b rom levels s t layout on-s on-t whole e list i few there =
    equal_cells-if_equal_state_bytes s t on-s.registers on-s.bus on-t.registers on-t.bus list i few (equal_state_bytes-if_equal_vectors s t layout (state_byte_of list i) (whole list i few there) e)

equal_lists-if_equal_numbers : (xs ys : List ℕ) (n : ℕ) → length xs ≡ n → length ys ≡ n → ((i : ℕ) → i < n → slice_index xs i ≡ slice_index ys i) → xs ≡ ys
equal_lists-if_equal_numbers xs ys n lx ly h = ext_get_or 0 xs ys (lx ∙ sym ly) (λ i l. h i (omega arith))

-- if item `i` of a list is above some number, `i` is below the length of the list
index-in-list : (xs : List ℕ) (i n : ℕ) → n < slice_index xs i → i < length xs
index-in-list xs i n h =
    elim (cases_lt i (length xs)) [
      | inl within ↦ within
      | inr past ↦ (let zero = get_or_past xs i 0 past in absurd (omega arith))
    ]

is_some-if_some : {X : Type 0} (o : Option X) (x : X) → o ≡ Some x → is_some o ≡ true
is_some-if_some o x e = ap is_some e

-- ---- the registers

equal_addresses-if_equal_bytes : (a b : ℕ) → a / 256 ≡ b / 256 → a % 256 ≡ b % 256 → a ≡ b
equal_addresses-if_equal_bytes a b high low = omega arith

all-below_3 : (P : ℕ → Type 0) → P 0 → P 1 → P 2 → (k : ℕ) → k < 3 → P k
all-below_3 P a b c zero h = a
all-below_3 P a b c (suc zero) h = b
all-below_3 P a b c (suc (suc zero)) h = c
all-below_3 P a b c (suc (suc (suc k))) h = absurd (omega arith)

equal_lists_of_3-if_equal_numbers : (xs ys : List ℕ) → length xs ≡ 3 → length ys ≡ 3 → slice_index xs 0 ≡ slice_index ys 0 → slice_index xs 1 ≡ slice_index ys 1 → slice_index xs 2 ≡ slice_index ys 2 → xs ≡ ys
equal_lists_of_3-if_equal_numbers xs ys lx ly a b c = equal_lists-if_equal_numbers xs ys 3 lx ly (all-below_3 (λ k. slice_index xs k ≡ slice_index ys k) a b c)

equal_registers-if_equal_fields : (s t : Regs) → s.acc ≡ t.acc → s.cy ≡ t.cy → s.r ≡ t.r → s.pc ≡ t.pc → s.ret ≡ t.ret → s.dcl ≡ t.dcl → s.owed ≡ t.owed → s ≡ t
equal_registers-if_equal_fields s t a b c d e f g =
    ap (λ x. record s { acc = x }) a
    ∙ ap (λ x. record s { acc = t.acc; cy = x }) b
    ∙ ap (λ x. record s { acc = t.acc; cy = t.cy; r = x }) c
    ∙ ap (λ x. record s { acc = t.acc; cy = t.cy; r = t.r; pc = x }) d
    ∙ ap (λ x. record t { ret = x; dcl = s.dcl; owed = s.owed }) e
    ∙ ap (λ x. record t { dcl = x; owed = s.owed }) f
    ∙ ap (λ x. record t { owed = x }) g

-- ---- the counts

equal_cycle_counts-if_equal_bytes : (a b : ℕ) → a / 65536 ≡ b / 65536 → a / 256 % 256 ≡ b / 256 % 256 → a % 256 ≡ b % 256 → a ≡ b
equal_cycle_counts-if_equal_bytes a b high middle low = omega arith

equal_counts-if_equal_fields : (s t : Counts) → s.calls ≡ t.calls → s.elapsed ≡ t.elapsed → s.seen ≡ t.seen → s ≡ t
equal_counts-if_equal_fields s t a b c = ap (λ x. record s { calls = x }) a ∙ ap (λ x. record s { calls = t.calls; elapsed = x }) b ∙ ap (λ x. record t { seen = x }) c

-- ---- the chips

chain_bit_index-below_256 : (b : BoardParts) (n i : ℕ) → board_fault_of b ≡ None → i < chain_bits b n → i < 256
chain_bit_index-below_256 b n i v h =
    elim (cases_lt n (chain_count b)) [
      | inl there ↦
          let size = not-false _ (test_false-if_list_any_false (λ (c : ChainPart). not (is_chain_size c)) b.chains.items n no_chain (sound b v).values.chains there) in
          let few = leb-true _ _ (and_parts (nat_lt 0 (chain_part b n).chips) (nat_le (chain_part b n).chips 8) size).1 in
          omega arith
      | inr past ↦
          let none : chain_part b n ≡ no_chain = get_or_past b.chains.items n no_chain past in
          let bits : chain_bits b n ≡ 0 = ap (λ (c : ChainPart). 10 * c.chips) none in
          omega arith
    ]

rom_chip-below_16 : (b : BoardParts) (chip : ℕ) (mask : List LineMask) → length b.roms ≡ 16 → rom_masks b chip ≡ Some mask → chip < 16
rom_chip-below_16 b chip mask len is =
    elim (cases_lt chip 16) [
      | inl few ↦ few
      | inr past ↦ (let none : rom_masks b chip ≡ None = get_or_past b.roms chip None (omega arith) in absurd (cc))
    ]

board_has_cell-of_ram_nibble : (b : BoardParts) (bank src : ℕ) → src < 256 → src / 64 < slice_index b.banks bank → board_has_cell b RamNibbles (ram_index bank src) ≡ true
board_has_cell-of_ram_nibble b bank src small there =
    let high : ram_index bank src / 256 ≡ bank = omega arith in
    let low : ram_index bank src % 256 / 64 ≡ src / 64 = omega arith in
    rw (high, low) (lt-ltb _ _ there)

board_has_cell-of_status_character : (b : BoardParts) (bank high k : ℕ) → high < 16 → k < 4 → high / 4 < slice_index b.banks bank → board_has_cell b StatusCharacters (status_index bank high k) ≡ true
board_has_cell-of_status_character b bank high k small few there =
    let at : status_index bank high k / 64 ≡ bank = omega arith in
    let chip : status_index bank high k % 64 / 16 ≡ high / 4 = omega arith in
    rw (at, chip) (lt-ltb _ _ there)

board_has_cell-of_ram_port : (b : BoardParts) (bank chip : ℕ) → chip < 4 → chip < slice_index b.banks bank → board_has_cell b RamPorts (ram_port_index bank chip) ≡ true
board_has_cell-of_ram_port b bank chip small there =
    let at : ram_port_index bank chip / 4 ≡ bank = omega arith in
    let low : ram_port_index bank chip % 4 ≡ chip = omega arith in
    rw (at, low) (lt-ltb _ _ there)

-- ---- the machine

pub equal_machines-if_equal_vectors : (b : BoardParts) (rom levels : List ℕ) (layout : List StateByte) (s t : TrackedMachine) → IsComplete b layout → IsOnBoard b rom levels s → IsOnBoard b rom levels t → vector_of layout s ≡ vector_of layout t → s ≡ t
equal_machines-if_equal_vectors b rom levels layout s t complete on-s on-t e =
    let whole : IsComplete s.1.board layout = subst (λ (d : BoardParts). IsComplete d layout) (sym on-s.board) complete in
    let n : (list : CellList) (i : ℕ) → i < max_cell_count list → board_has_cell s.1.board list i ≡ true → slice_index (values_in_list s list) i ≡ slice_index (values_in_list t list) i = equal_cells-if_equal_vectors b rom levels s t layout on-s on-t whole e in
    let k : (i : ℕ) → i < 18 → slice_index (counters_of s.0 s.1.rom_src s.2) i ≡ slice_index (counters_of t.0 t.1.rom_src t.2) i = λ i h. n Counters i h refl in
    let board : s.1.board ≡ t.1.board = on-s.board ∙ sym on-t.board in
    let banks : length s.1.board.banks ≡ 8 = on-s.bus.board.sized.banks in
    let v = on-s.bus.in_range in
    let w = on-t.bus.in_range in
    let pc : s.0.pc ≡ t.0.pc = equal_addresses-if_equal_bytes s.0.pc t.0.pc (k 4 (omega arith)) (k 5 (omega arith)) in
    let ret : s.0.ret ≡ t.0.ret = equal_lists_of_3-if_equal_numbers s.0.ret t.0.ret on-s.registers.ret.has_count on-t.registers.ret.has_count
    (equal_addresses-if_equal_bytes _ _ (k 6 (omega arith)) (k 7 (omega arith))) (equal_addresses-if_equal_bytes _ _ (k 8 (omega arith)) (k 9 (omega arith))) (equal_addresses-if_equal_bytes _ _ (k 10 (omega arith)) (k 11 (omega arith))) in
    let r : s.0.r ≡ t.0.r = equal_lists-if_equal_numbers s.0.r t.0.r 16 on-s.registers.r.has_count on-t.registers.r.has_count (λ i h. n Registers i h refl) in
    let registers : s.0 ≡ t.0 = equal_registers-if_equal_fields s.0 t.0 (k 0 (omega arith)) (k 1 (omega arith)) r pc ret (k 2 (omega arith)) (k 3 (omega arith)) in
    let bank-few : (bank m : ℕ) → m < chips_of s.1 bank → bank < 8 = λ bank m h. (let l = index-in-list s.1.board.banks bank m h in omega arith) in
    let chain : (c i : ℕ) → i < chain_bits s.1.board c → slice_index (slice_index_or s.1.chains c []) i ≡ slice_index (slice_index_or t.1.chains c []) i = λ c i h. n (Chain c) i (chain_bit_index-below_256 s.1.board c i on-s.bus.board.valid h) (lt-ltb _ _ h) in
    let chains : s.1.chains ≡ t.1.chains =
    ext_get_or [] s.1.chains t.1.chains (v.chains ∙ ap chain_count board ∙ sym w.chains) (λ c h.
    let there : c < chain_count s.1.board = (let len = v.chains in omega arith) in
    let there-t : c < chain_count t.1.board = subst (λ (d : BoardParts). c < chain_count d) board there in
    equal_lists-if_equal_numbers (get_or s.1.chains c []) (get_or t.1.chains c []) (chain_bits s.1.board c) (v.chain_bits c there).has_count
    ((w.chain_bits c there-t).has_count ∙ ap (λ (d : BoardParts). chain_bits d c) (sym board)) (λ i l. chain c i l)) in
    let agrees : AgreesInChips s.1 t.1 = record {
      board = board;
      rom = on-s.rom ∙ sym on-t.rom;
      ram = λ bank src small there. n RamNibbles (ram_index bank src) (let few = bank-few bank (src / 64) there in omega arith) (board_has_cell-of_ram_nibble s.1.board bank src small there);
      status = λ bank high c small few there. n StatusCharacters (status_index bank high c) (let l = bank-few bank (high / 4) there in omega arith) (board_has_cell-of_status_character s.1.board bank high c small few there);
      ram_ports = λ bank chip small there. n RamPorts (ram_port_index bank chip) (let l = bank-few bank chip there in omega arith) (board_has_cell-of_ram_port s.1.board bank chip small there);
      rom_ports = λ chip mask is. n RomPorts chip (rom_chip-below_16 s.1.board chip mask on-s.bus.board.sized.roms is) (is_some-if_some (rom_masks s.1.board chip) mask is);
      rom_src = k 12 (omega arith);
      ram_src = λ bank there. n BankSrcBytes bank (bank-few bank 0 there) (lt-ltb _ _ there);
      chains = chains;
      keys = on-s.keys ∙ sym on-t.keys;
      test = on-s.test ∙ sym on-t.test;
    } in
    ap (λ (x : Regs). (x, s.1, s.2)) registers ∙ ap (λ (m : BusState). (t.0, m, s.2)) (equal_buses-if_they_agree s.1 t.1 on-s.bus on-t.bus agrees)
    ∙ ap (λ (n : Counts). (t.0, t.1, n)) (equal_counts-if_equal_fields s.2 t.2 (k 13 (omega arith)) (equal_cycle_counts-if_equal_bytes s.2.elapsed t.2.elapsed (k 14 (omega arith)) (k 15 (omega arith)) (k 16 (omega arith))) (k 17 (omega arith)))
