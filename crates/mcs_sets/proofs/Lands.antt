-- The law of one step: the landing of a machine's own choice describes the machine after the
-- instruction.
use Rattle.std.proofs.Common.{◌≡◌, ◌≢◌, ◌<◌, ◌≤◌, ◌+◌, inl, inr, ◌-◌, ◌*◌, ◌/◌, ◌%◌, ◌||◌, ℕ, zero, suc, List, [], ◌∷◌, length, replicate, Bool, true, false, cond, Option, Some, None, slice_index, slice_set, nat_lt, refl, sym, ap, ◌∙◌, arith, eqb}
use Rattle.std.proofs.lemmas.Bool.{cases_eq, cases_lt, eq-eqb, ne_eqb, lt-ltb, le-ltb}
use Rattle.std.proofs.lemmas.List.{get_or-set_same, get_or-set_other, get_or-replicate, length-set}
use Rattle.mcs_nibble.specs.declared.lines.LineMask.{LineMask}
use Rattle.mcs_nibble.specs.Ports.{latch_value}
use Rattle.mcs_model.specs.declared.regs.Regs.{Regs}
use Rattle.mcs_model.specs.declared.op.Op.{Op}
use Rattle.mcs_model.specs.declared.op.Op.TheVariants.{Jcn, Fim, Src, Fin, Jin, Jms, Inc, Isz, Add, Sub, Ld, Xch, Bbl, Wrm, Wmp, Wrr, Wr0, Wr1, Wr2, Wr3, Daa}
use Rattle.mcs_model.specs.declared.board.BoardParts.{BoardParts}
use Rattle.mcs_model.specs.Boards.{rom_masks}
use Rattle.mcs_model.specs.Bus.{BusState, fetch_of, ram_of, status_of, chips_of, src_of, has_chip, after_src, with_ram, after_ram, with_status, after_status}
use Rattle.mcs_model.specs.Effect.{registers_after, after_fetch, with_pc_on_page, address_on_page_of, is_taken, after_daa}
use Rattle.mcs_model.specs.Levels.{clock_levels, after_chain_clocks, with_rom_ports_at, after_ram_port, after_rom_port}
use Rattle.mcs_model.specs.Registers.{register_of, with_register}
use Rattle.mcs_drive.specs.TrackedMachine.{TrackedMachine, calls_after}
use Rattle.mcs_sets.specs.declared.landing.Landing.{Landing}
use Rattle.mcs_sets.specs.Entries.{value_at}
use Rattle.mcs_sets.specs.Landing.{LandingIsCorrect, StandInFits, stand_in_before, landing, machine_after, choice_of, value_after, LandingDescribes}
use Rattle.mcs_sets.proofs.Locations.{AgreesWithLanding, HaveSameSrcBytes, landing-describes-if-none-changes, landing-describes-if-one-register-changes, landing-describes-if-pair-changes}

-- ---- the SRC bytes

src-bytes-unchanged-in-either-case : (b : Bool) (s m n : BusState) → m.rom_src ≡ s.rom_src → m.ram_src ≡ s.ram_src → n.rom_src ≡ s.rom_src → n.ram_src ≡ s.ram_src → ((cond b m n).rom_src ≡ s.rom_src) × ((cond b m n).ram_src ≡ s.ram_src)
src-bytes-unchanged-in-either-case true s m n e f g h = (e, f)
src-bytes-unchanged-in-either-case false s m n e f g h = (g, h)

src-bytes-unchanged-by-ram-write : (m : BusState) (bank src n : ℕ) → ((with_ram m bank src n).rom_src ≡ m.rom_src) × ((with_ram m bank src n).ram_src ≡ m.ram_src)
unfolding with_ram
src-bytes-unchanged-by-ram-write m bank src n = src-bytes-unchanged-in-either-case (has_chip m bank src) m _ m refl refl refl refl

src-bytes-unchanged-by-status-write : (m : BusState) (bank high k n : ℕ) → ((with_status m bank high k n).rom_src ≡ m.rom_src) × ((with_status m bank high k n).ram_src ≡ m.ram_src)
unfolding with_status
src-bytes-unchanged-by-status-write m bank high k n = src-bytes-unchanged-in-either-case (nat_lt (high / 4) (chips_of m bank)) m _ m refl refl refl refl

src-bytes-unchanged-by-ram_port-write : (m : BusState) (bank n : ℕ) → ((after_ram_port m bank n).rom_src ≡ m.rom_src) × ((after_ram_port m bank n).ram_src ≡ m.ram_src)
unfolding after_ram_port after_chain_clocks
src-bytes-unchanged-by-ram_port-write m bank n = src-bytes-unchanged-in-either-case (has_chip m bank (src_of m bank)) m _ m refl refl refl refl

src-bytes-unchanged-by-masked-write : (m : BusState) (n : ℕ) (o : Option (List LineMask)) → ((elim o as (λ _. BusState) [ Some mask ↦ after_chain_clocks (clock_levels m) (with_rom_ports_at m (m.rom_src / 16) (latch_value mask n)) | None ↦ m ]).rom_src ≡ m.rom_src) × ((elim o as (λ _. BusState) [ Some mask ↦ after_chain_clocks (clock_levels m) (with_rom_ports_at m (m.rom_src / 16) (latch_value mask n)) | None ↦ m ]).ram_src ≡ m.ram_src)
unfolding after_chain_clocks
src-bytes-unchanged-by-masked-write m n (Some mask) = (refl, refl)
src-bytes-unchanged-by-masked-write m n None = (refl, refl)

src-bytes-unchanged-by-rom_port-write : (m : BusState) (n : ℕ) → ((after_rom_port m n).rom_src ≡ m.rom_src) × ((after_rom_port m n).ram_src ≡ m.ram_src)
unfolding after_rom_port
src-bytes-unchanged-by-rom_port-write m n = src-bytes-unchanged-by-masked-write m n (rom_masks m.board (m.rom_src / 16))

src-bytes-unchanged-by-after_ram : (m : BusState) (bank n : ℕ) → ((after_ram m bank n).rom_src ≡ m.rom_src) × ((after_ram m bank n).ram_src ≡ m.ram_src)
unfolding after_ram
src-bytes-unchanged-by-after_ram m bank n = src-bytes-unchanged-by-ram-write m bank (src_of m bank) n

src-bytes-unchanged-by-after_status : (m : BusState) (bank k n : ℕ) → ((after_status m bank k n).rom_src ≡ m.rom_src) × ((after_status m bank k n).ram_src ≡ m.ram_src)
unfolding after_status
src-bytes-unchanged-by-after_status m bank k n = src-bytes-unchanged-by-status-write m bank (src_of m bank / 16) k n

-- ---- the registers

-- a conditional jump sets the program counter, and changes neither the accumulator, the carry, the
-- bank, the index registers nor the return addresses
registers-after-conditional-jump : (b : Bool) (s : Regs) (w : ℕ) → ((cond b (with_pc_on_page s w) s).acc ≡ s.acc) × ((cond b (with_pc_on_page s w) s).cy ≡ s.cy) × ((cond b (with_pc_on_page s w) s).dcl ≡ s.dcl) × ((cond b (with_pc_on_page s w) s).r ≡ s.r) × ((cond b (with_pc_on_page s w) s).ret ≡ s.ret) × ((cond b (with_pc_on_page s w) s).pc ≡ cond b (address_on_page_of s.pc w) s.pc)
registers-after-conditional-jump true s w = (refl, refl, refl, refl, refl, refl)
registers-after-conditional-jump false s w = (refl, refl, refl, refl, refl, refl)

-- the jump of an ISZ sets the program counter, and changes neither the accumulator, the carry, the
-- bank, the index registers nor the return addresses
registers-after-isz-jump : (b : Bool) (s : Regs) (w : ℕ) → ((cond b s (with_pc_on_page s w)).acc ≡ s.acc) × ((cond b s (with_pc_on_page s w)).cy ≡ s.cy) × ((cond b s (with_pc_on_page s w)).dcl ≡ s.dcl) × ((cond b s (with_pc_on_page s w)).r ≡ s.r) × ((cond b s (with_pc_on_page s w)).ret ≡ s.ret) × ((cond b s (with_pc_on_page s w)).pc ≡ cond b s.pc (address_on_page_of s.pc w))
registers-after-isz-jump true s w = (refl, refl, refl, refl, refl, refl)
registers-after-isz-jump false s w = (refl, refl, refl, refl, refl, refl)

-- the accumulator after DAA, if it was `a` and the carry was `c` before DAA
abbrev daa_acc : ℕ → ℕ → ℕ
daa_acc a c = cond (eqb c 1 || nat_lt 9 a) ((a + 6) % 16) a

abbrev daa_cy : ℕ → ℕ → ℕ
daa_cy a c = cond (eqb c 1 || nat_lt 9 a) (cond (nat_lt 15 (a + 6)) 1 c) c

registers-after-conditional-daa : (b : Bool) (s : Regs) (x y : ℕ) → ((cond b (record s { acc = x; cy = y }) s).acc ≡ cond b x s.acc) × ((cond b (record s { acc = x; cy = y }) s).cy ≡ cond b y s.cy) × ((cond b (record s { acc = x; cy = y }) s).dcl ≡ s.dcl) × ((cond b (record s { acc = x; cy = y }) s).r ≡ s.r) × ((cond b (record s { acc = x; cy = y }) s).ret ≡ s.ret) × ((cond b (record s { acc = x; cy = y }) s).pc ≡ s.pc)
registers-after-conditional-daa true s x y = (refl, refl, refl, refl, refl, refl)
registers-after-conditional-daa false s x y = (refl, refl, refl, refl, refl, refl)

registers-after-daa : (s : Regs) → ((after_daa s).acc ≡ daa_acc s.acc s.cy) × ((after_daa s).cy ≡ daa_cy s.acc s.cy) × ((after_daa s).dcl ≡ s.dcl) × ((after_daa s).r ≡ s.r) × ((after_daa s).ret ≡ s.ret) × ((after_daa s).pc ≡ s.pc)
registers-after-daa s = registers-after-conditional-daa (eqb s.cy 1 || nat_lt 9 s.acc) s ((s.acc + 6) % 16) (cond (nat_lt 15 (s.acc + 6)) 1 s.cy)

-- each stand-in register has the value `v`
stand-in-register-value : (v r : ℕ) → r < 16 → slice_index (replicate 16 v) r ≡ v
stand-in-register-value v r h = get_or-replicate 16 r v 0 h

-- a stand-in register that is set to `x` has the value `x`
stand-in-register-after-set : (v r x : ℕ) → r < 16 → cond (nat_lt r 16) (slice_index (slice_set (replicate 16 v) r x) r) 0 ≡ x
stand-in-register-after-set v r x h = let lt : nat_lt r 16 ≡ true = lt-ltb r 16 h in rw lt (get_or-set_same (replicate 16 v) r x 0 h)

-- ---- the return addresses

return-addresses-agree-after-jms : (a b : List ℕ) (n at calls : ℕ) → calls ≡ n + 1 → ((k : ℕ) → k < 3 → k < n → slice_index a k ≡ slice_index b k) →
    (k : ℕ) → k < 3 → k < calls → slice_index (at ∷ slice_index a 0 ∷ slice_index a 1 ∷ []) k ≡ slice_index (at ∷ slice_index b 0 ∷ slice_index b 1 ∷ []) k
return-addresses-agree-after-jms a b n at calls e h zero small inside = refl
return-addresses-agree-after-jms a b n at calls e h (suc zero) small inside = h 0 (omega arith) (omega arith)
return-addresses-agree-after-jms a b n at calls e h (suc (suc zero)) small inside = h 1 (omega arith) (omega arith)
return-addresses-agree-after-jms a b n at calls e h (suc (suc (suc k))) small inside = absurd (omega arith)

return-addresses-agree-after-bbl : (a b : List ℕ) (n at : ℕ) → ((k : ℕ) → k < 3 → k < n → slice_index a k ≡ slice_index b k) →
    (k : ℕ) → k < 3 → k < n - 1 → slice_index (slice_index a 1 ∷ slice_index a 2 ∷ at ∷ []) k ≡ slice_index (slice_index b 1 ∷ slice_index b 2 ∷ at ∷ []) k
return-addresses-agree-after-bbl a b n at h zero small inside = h 1 (omega arith) (omega arith)
return-addresses-agree-after-bbl a b n at h (suc zero) small inside = h 2 (omega arith) (omega arith)
return-addresses-agree-after-bbl a b n at h (suc (suc zero)) small inside = refl
return-addresses-agree-after-bbl a b n at h (suc (suc (suc k))) small inside = absurd (omega arith)

-- ---- a write to a register pair

pair-write-equals-stand-in-write : (l q : List ℕ) (k a b x y : ℕ) → length q ≡ 16 → k < 8 → a ≡ x → b ≡ y →
    slice_set (slice_set l (2 * k) a) (2 * k + 1) b
    ≡ slice_set (slice_set l (2 * k) (cond (nat_lt (2 * k) 16) (slice_index (slice_set (slice_set q (2 * k) x) (2 * k + 1) y) (2 * k)) 0)) (2 * k + 1)
    (cond (nat_lt (2 * k + 1) 16) (slice_index (slice_set (slice_set q (2 * k) x) (2 * k + 1) y) (2 * k + 1)) 0)
pair-write-equals-stand-in-write l q k a b x y len small e f =
    let low : 2 * k < 16 = omega arith in
    let high : 2 * k + 1 < 16 = omega arith in
    let low_in_range : nat_lt (2 * k) 16 ≡ true = lt-ltb (2 * k) 16 low in
    let high_in_range : nat_lt (2 * k + 1) 16 ≡ true = lt-ltb (2 * k + 1) 16 high in
    let set = slice_set q (2 * k) x in
    let equal_lengths : length set ≡ length q = length-set q (2 * k) x in
    let low_in_list : 2 * k < length q = omega arith in
    let high_in_list : 2 * k + 1 < length set = omega arith in
    let different_indices : 2 * k ≢ 2 * k + 1 = λ z. omega arith in
    let upper : cond (nat_lt (2 * k) 16) (slice_index (slice_set set (2 * k + 1) y) (2 * k)) 0 ≡ x =
    rw low_in_range (get_or-set_other set (2 * k + 1) (2 * k) y 0 different_indices ∙ get_or-set_same q (2 * k) x 0 low_in_list) in
    let lower : cond (nat_lt (2 * k + 1) 16) (slice_index (slice_set set (2 * k + 1) y) (2 * k + 1)) 0 ≡ y =
    rw high_in_range (get_or-set_same set (2 * k + 1) y 0 high_in_list) in
    ap (λ (z : ℕ). slice_set (slice_set l (2 * k) z) (2 * k + 1) b) (e ∙ sym upper)
    ∙ ap (λ (z : ℕ). slice_set (slice_set l (2 * k) (cond (nat_lt (2 * k) 16) (slice_index (slice_set set (2 * k + 1) y) (2 * k)) 0)) (2 * k + 1) z) (f ∙ sym lower)

-- ---- SRC

-- the bus after an SRC that sends `byte` to the chips; `b` is true if the bank has a chip
abbrev bus_with_src_byte : Bool → BusState → ℕ → ℕ → BusState
bus_with_src_byte b m bank byte = cond b (record m { rom_src = byte; ram_src = slice_set m.ram_src bank byte }) (record m { rom_src = byte })

ram_src-nibble-after-src : (b : Bool) (m : BusState) (bank byte k : ℕ) → length m.ram_src ≡ 8 → bank < 8 → 18 ≤ k → k < 26 →
    slice_index (bus_with_src_byte b m bank byte).ram_src (k - 18) / 16 ≡ cond (eqb k (cond b (18 + bank) 26)) (byte / 16) (slice_index m.ram_src (k - 18) / 16)
ram_src-nibble-after-src false m bank byte k len small low high =
    let not_26 : eqb k 26 ≡ false = ne_eqb k 26 (λ e. omega arith) in rw not_26 refl
ram_src-nibble-after-src true m bank byte k len small low high =
    elim (cases_eq k (18 + bank)) [
      | inl e ↦
          let is_bank_location : eqb k (18 + bank) ≡ true = eq-eqb k (18 + bank) e in
          let bank_index : k - 18 ≡ bank = omega arith in
          let bank_in_list : bank < length m.ram_src = omega arith in
          rw is_bank_location (ap (λ (j : ℕ). slice_index (slice_set m.ram_src bank byte) j / 16) bank_index ∙ ap (λ (n : ℕ). n / 16) (get_or-set_same m.ram_src bank byte 0 bank_in_list))
      | inr ne ↦
          let not_bank_location : eqb k (18 + bank) ≡ false = ne_eqb k (18 + bank) ne in
          let other_bank : k - 18 ≢ bank = λ e. ne (omega arith) in
          rw not_bank_location (ap (λ (n : ℕ). n / 16) (get_or-set_other m.ram_src bank (k - 18) byte 0 other_bank))
    ]

rom_src-after-src : (b : Bool) (m : BusState) (bank byte : ℕ) → (bus_with_src_byte b m bank byte).rom_src ≡ byte
rom_src-after-src true m bank byte = refl
rom_src-after-src false m bank byte = refl

ram_src-length-after-src : (b : Bool) (m : BusState) (bank byte : ℕ) → length (bus_with_src_byte b m bank byte).ram_src ≡ length m.ram_src
ram_src-length-after-src true m bank byte = length-set m.ram_src bank byte
ram_src-length-after-src false m bank byte = refl

not-second-location-below-18 : (b : Bool) (bank k : ℕ) → k < 18 → eqb k (cond b (18 + bank) 26) ≡ false
not-second-location-below-18 true bank k h = ne_eqb k (18 + bank) (λ e. omega arith)
not-second-location-below-18 false bank k h = ne_eqb k 26 (λ e. omega arith)

locations-after-src : (b : Bool) (s t : TrackedMachine) (byte v : ℕ) (o : Landing) → byte / 16 ≡ v → t.1 ≡ bus_with_src_byte b s.1 s.0.dcl byte → t.0.dcl ≡ o.regs.dcl → t.0.r ≡ s.0.r →
    o.first_location ≡ 17 → o.first_value ≡ v → o.second_location ≡ cond b (18 + s.0.dcl) 26 → o.second_value ≡ v → s.0.dcl < 8 → length s.1.ram_src ≡ 8 →
    (k : ℕ) → k < 26 → value_at t k ≡ value_after o k (value_at s k)
locations-after-src b s t byte v o upper bus bank regs first first_value second second_value small len k h =
    elim (cases_eq k 16) [
      | inl e ↦ let is_16 : eqb k 16 ≡ true = eq-eqb k 16 e in rw is_16 bank
      | inr ne ↦
          let is_16 : eqb k 16 ≡ false = ne_eqb k 16 ne in
          elim (cases_lt k 16) [
            | inl low ↦
                let lt : nat_lt k 16 ≡ true = lt-ltb k 16 low in
                let below_18 : k < 18 = omega arith in
                let f : eqb k o.first_location ≡ false = ne_eqb k o.first_location (λ e. omega arith) in
                let g : eqb k o.second_location ≡ false = ap (eqb k) second ∙ not-second-location-below-18 b s.0.dcl k below_18 in
                rw (is_16, lt, f, g) (ap (λ (l : List ℕ). slice_index l k) regs)
            | inr high ↦
                let lt : nat_lt k 16 ≡ false = le-ltb k 16 high in
                elim (cases_eq k 17) [
                  | inl e ↦
                      let is_17 : eqb k 17 ≡ true = eq-eqb k 17 e in
                      let f : eqb k o.first_location ≡ true = ap (eqb k) first ∙ is_17 in
                      rw (is_16, lt, f, is_17) (ap (λ (m : BusState). m.rom_src / 16) bus ∙ ap (λ (n : ℕ). n / 16) (rom_src-after-src b s.1 s.0.dcl byte) ∙ upper ∙ sym first_value)
                  | inr other ↦
                      let is_17 : eqb k 17 ≡ false = ne_eqb k 17 other in
                      let f : eqb k o.first_location ≡ false = ap (eqb k) first ∙ is_17 in
                      let at_least_18 : 18 ≤ k = omega arith in
                      rw (is_16, lt, f, is_17) (ap (λ (m : BusState). slice_index m.ram_src (k - 18) / 16) bus ∙ ram_src-nibble-after-src b s.1 s.0.dcl byte k len small at_least_18 h
                      ∙ ap (λ (n : ℕ). cond (eqb k (cond b (18 + s.0.dcl) 26)) n (slice_index s.1.ram_src (k - 18) / 16)) (upper ∙ sym second_value)
                      ∙ ap (λ (n : ℕ). cond (eqb k n) o.second_value (slice_index s.1.ram_src (k - 18) / 16)) (sym second))
                ]
          ]
    ]

landing-of-src-is-correct : (k : ℕ) (s : TrackedMachine) (m : BusState) (ret : List ℕ) → StandInFits (Src k) s m ret → LandingDescribes s (machine_after (Src k) s) (landing (Src k) s.0.pc ret s.2.calls m (choice_of (Src k) s))
unfolding after_src
landing-of-src-is-correct k s m ret fit =
    let valid_op = fit.valid in
    let high : 2 * k + 1 < 16 = omega arith in
    let v = register_of s.0 (2 * k) in
    let w = register_of s.0 (2 * k + 1) in
    let nibble : w < 16 = fit.nibbles (2 * k + 1) high in
    let upper : (v * 16 + w) / 16 ≡ v = omega arith in
    let b = nat_lt 0 (chips_of s.1 s.0.dcl) in
    record {
      pc = refl;
      calls = refl;
      ret = fit.ret;
      acc = refl;
      cy = refl;
      locations = locations-after-src b s (machine_after (Src k) s) (v * 16 + w) v (landing (Src k) s.0.pc ret s.2.calls m (choice_of (Src k) s)) upper refl refl refl refl refl
          (ap (λ (p : BoardParts). cond (nat_lt 0 (slice_index p.banks s.0.dcl)) (18 + s.0.dcl) 26) fit.board) refl fit.bank fit.banks;
      registers = fit.registers;
      banks = ram_src-length-after-src b s.1 s.0.dcl (v * 16 + w) ∙ fit.banks;
    }

-- ---- instructions that change no index register

landing-correct-if-no-register-changes : (op : Op) (s : TrackedMachine) (m : BusState) (ret : List ℕ) → StandInFits op s m ret → HaveSameSrcBytes s (machine_after op s) →
    AgreesWithLanding (machine_after op s) (landing op s.0.pc ret s.2.calls m (choice_of op s)) →
    (registers_after op (after_fetch op s.0) s.1).r ≡ s.0.r →
    (landing op s.0.pc ret s.2.calls m (choice_of op s)).first_location ≡ 26 → (landing op s.0.pc ret s.2.calls m (choice_of op s)).second_location ≡ 26 →
    LandingDescribes s (machine_after op s) (landing op s.0.pc ret s.2.calls m (choice_of op s))
landing-correct-if-no-register-changes op s m ret fit src agrees r first second = landing-describes-if-none-changes s (machine_after op s) (landing op s.0.pc ret s.2.calls m (choice_of op s)) fit.registers fit.banks agrees src r first second

pub landing-is-correct : LandingIsCorrect
unfolding fetch_of ram_of status_of
landing-is-correct (Jcn c w) s m ret fit =
    let level : s.1.test % 2 ≡ s.1.test = let valid_test = fit.test in omega arith in
    let x = after_fetch (Jcn c w) s.0 in
    let y = after_fetch (Jcn c w) (stand_in_before (Jcn c w) s.0.pc ret (choice_of (Jcn c w) s)) in
    let e = registers-after-conditional-jump (is_taken c x s.1.test) x w in
    let f = registers-after-conditional-jump (is_taken c y (s.1.test % 2)) y w in
    landing-correct-if-no-register-changes (Jcn c w) s m ret fit (record { rom = refl; ram = refl })
    (record {
      pc = e.5 ∙ ap (λ (t : ℕ). cond (is_taken c x t) (address_on_page_of x.pc w) x.pc) (sym level) ∙ sym f.5;
      calls = refl;
      ret = λ k h l. ap (λ (xs : List ℕ). slice_index xs k) e.4 ∙ fit.ret k h l ∙ ap (λ (xs : List ℕ). slice_index xs k) (sym f.4);
      acc = e.0 ∙ sym f.0;
      cy = e.1 ∙ sym f.1;
      dcl = e.2 ∙ sym f.2;
    })
    e.3 refl refl
landing-is-correct Daa s m ret fit =
    let e = registers-after-daa (after_fetch Daa s.0) in
    let f = registers-after-daa (after_fetch Daa (stand_in_before Daa s.0.pc ret (choice_of Daa s))) in
    landing-correct-if-no-register-changes Daa s m ret fit (record { rom = refl; ram = refl })
    (record {
      pc = e.5 ∙ sym f.5;
      calls = refl;
      ret = λ k h l. ap (λ (xs : List ℕ). slice_index xs k) e.4 ∙ fit.ret k h l ∙ ap (λ (xs : List ℕ). slice_index xs k) (sym f.4);
      acc = e.0 ∙ sym f.0;
      cy = e.1 ∙ sym f.1;
      dcl = e.2 ∙ sym f.2;
    })
    e.3 refl refl
landing-is-correct (Add r) s m ret fit =
    let v = stand-in-register-value (register_of s.0 r) r fit.valid in
    landing-correct-if-no-register-changes (Add r) s m ret fit (record { rom = refl; ram = refl })
    (record {
      pc = refl;
      calls = refl;
      ret = fit.ret;
      dcl = refl;
      acc = ap (λ (x : ℕ). (s.0.acc + x + s.0.cy) % 16) (sym v);
      cy = ap (λ (x : ℕ). (s.0.acc + x + s.0.cy) / 16) (sym v);
    })
    refl refl refl
landing-is-correct (Sub r) s m ret fit =
    let v = stand-in-register-value (register_of s.0 r) r fit.valid in
    landing-correct-if-no-register-changes (Sub r) s m ret fit (record { rom = refl; ram = refl })
    (record {
      pc = refl;
      calls = refl;
      ret = fit.ret;
      dcl = refl;
      acc = ap (λ (x : ℕ). (s.0.acc + (15 - x) + (1 - s.0.cy)) % 16) (sym v);
      cy = ap (λ (x : ℕ). (s.0.acc + (15 - x) + (1 - s.0.cy)) / 16) (sym v);
    })
    refl refl refl
landing-is-correct (Ld r) s m ret fit =
    landing-correct-if-no-register-changes (Ld r) s m ret fit (record { rom = refl; ram = refl })
    (record { pc = refl; calls = refl; ret = fit.ret; dcl = refl; cy = refl; acc = sym (stand-in-register-value (register_of s.0 r) r fit.valid) })
    refl refl refl
landing-is-correct (Jin k) s m ret fit =
    let valid_op = fit.valid in
    let a = register_of s.0 (2 * k) in
    let b = register_of s.0 (2 * k + 1) in
    let different_registers : 2 * k ≡ 2 * k + 1 → ⊥ = λ e. omega arith in
    let low : 2 * k < 16 = omega arith in
    let high : 2 * k + 1 < 16 = omega arith in
    let upper : slice_index (slice_set (replicate 16 a) (2 * k + 1) b) (2 * k) ≡ a = get_or-set_other (replicate 16 a) (2 * k + 1) (2 * k) b 0 different_registers ∙ stand-in-register-value a (2 * k) low in
    let lower : slice_index (slice_set (replicate 16 a) (2 * k + 1) b) (2 * k + 1) ≡ b = get_or-set_same (replicate 16 a) (2 * k + 1) b 0 high in
    landing-correct-if-no-register-changes (Jin k) s m ret fit (record { rom = refl; ram = refl })
    (record {
      pc = ap (λ (x : ℕ). address_on_page_of ((s.0.pc + 1) % 4096) (x * 16 + b)) (sym upper) ∙ ap (λ (y : ℕ). address_on_page_of ((s.0.pc + 1) % 4096) (slice_index (slice_set (replicate 16 a) (2 * k + 1) b) (2 * k) * 16 + y)) (sym lower);
      calls = refl;
      ret = fit.ret;
      dcl = refl;
      cy = refl;
      acc = refl;
    })
    refl refl refl
landing-is-correct (Jms h b) s m ret fit =
    let calls_below_three = fit.calls in
    let one_more_call : calls_after (Some (Jms h b)) s.2.calls ≡ s.2.calls + 1 = let lt : nat_lt s.2.calls 3 ≡ true = lt-ltb s.2.calls 3 calls_below_three in rw lt refl in
    landing-correct-if-no-register-changes (Jms h b) s m ret fit (record { rom = refl; ram = refl })
    (record {
      pc = refl;
      calls = refl;
      dcl = refl;
      cy = refl;
      acc = refl;
      ret = return-addresses-agree-after-jms s.0.ret ret s.2.calls ((s.0.pc + 2) % 4096) (calls_after (Some (Jms h b)) s.2.calls) one_more_call fit.ret;
    })
    refl refl refl
landing-is-correct (Bbl d) s m ret fit =
    let calls_above_zero = fit.calls in
    landing-correct-if-no-register-changes (Bbl d) s m ret fit (record { rom = refl; ram = refl })
    (record {
      pc = fit.ret 0 (omega arith) calls_above_zero;
      calls = refl;
      dcl = refl;
      cy = refl;
      acc = refl;
      ret = return-addresses-agree-after-bbl s.0.ret ret s.2.calls ((s.0.pc + 1) % 4096) fit.ret;
    })
    refl refl refl
landing-is-correct (Fim k b) s m ret fit =
    let valid_op = fit.valid in
    let low : 2 * k < 16 = omega arith in
    let high : 2 * k + 1 < 16 = omega arith in
    landing-describes-if-pair-changes s (machine_after (Fim k b) s) (landing (Fim k b) s.0.pc ret s.2.calls m (choice_of (Fim k b) s)) k valid_op fit.registers fit.banks
    (record { pc = refl; calls = refl; ret = fit.ret; dcl = refl; cy = refl; acc = refl }) (record { rom = refl; ram = refl })
    (pair-write-equals-stand-in-write s.0.r (replicate 16 0) k (b / 16) (b % 16) (b / 16) (b % 16) refl valid_op refl refl) refl refl
landing-is-correct (Fin k) s m ret fit =
    let valid_op = fit.valid in
    let a = register_of s.0 0 in
    let b = register_of s.0 1 in
    let from = address_on_page_of ((s.0.pc + 1) % 4096) (a * 16 + b) in
    let byte = slice_index s.1.rom from in
    let byte_in_rom = slice_index m.rom from in
    let equal_bytes : byte ≡ byte_in_rom = ap (λ (xs : List ℕ). slice_index xs from) (sym fit.rom) in
    landing-describes-if-pair-changes s (machine_after (Fin k) s) (landing (Fin k) s.0.pc ret s.2.calls m (choice_of (Fin k) s)) k valid_op fit.registers fit.banks
    (record { pc = refl; calls = refl; ret = fit.ret; dcl = refl; cy = refl; acc = refl }) (record { rom = refl; ram = refl })
    (pair-write-equals-stand-in-write s.0.r (slice_set (replicate 16 a) 1 b) k (byte / 16) (byte % 16) (byte_in_rom / 16) (byte_in_rom % 16) refl valid_op (ap (λ (x : ℕ). x / 16) equal_bytes) (ap (λ (x : ℕ). x % 16) equal_bytes)) refl refl
landing-is-correct (Inc r) s m ret fit =
    let valid_op = fit.valid in
    let v = register_of s.0 r in
    landing-describes-if-one-register-changes s (machine_after (Inc r) s) (landing (Inc r) s.0.pc ret s.2.calls m (choice_of (Inc r) s)) r valid_op fit.registers fit.banks
    (record { pc = refl; calls = refl; ret = fit.ret; dcl = refl; cy = refl; acc = refl }) (record { rom = refl; ram = refl })
    (ap (slice_set s.0.r r) (ap (λ (x : ℕ). (x + 1) % 16) (sym (stand-in-register-value v r valid_op)) ∙ sym (stand-in-register-after-set v r ((slice_index (replicate 16 v) r + 1) % 16) valid_op))) refl refl
landing-is-correct (Xch r) s m ret fit =
    let valid_op = fit.valid in
    let v = register_of s.0 r in
    landing-describes-if-one-register-changes s (machine_after (Xch r) s) (landing (Xch r) s.0.pc ret s.2.calls m (choice_of (Xch r) s)) r valid_op fit.registers fit.banks
    (record { pc = refl; calls = refl; ret = fit.ret; dcl = refl; cy = refl; acc = sym (stand-in-register-value v r valid_op) }) (record { rom = refl; ram = refl })
    (ap (slice_set s.0.r r) (sym (stand-in-register-after-set v r s.0.acc valid_op))) refl refl
landing-is-correct (Isz r w) s m ret fit =
    let valid_op = fit.valid in
    let v = register_of s.0 r in
    let x = after_fetch (Isz r w) s.0 in
    let y = after_fetch (Isz r w) (stand_in_before (Isz r w) s.0.pc ret (choice_of (Isz r w) s)) in
    let n = (v + 1) % 16 in
    let i = (slice_index (replicate 16 v) r + 1) % 16 in
    let equal_values : n ≡ i = ap (λ (z : ℕ). (z + 1) % 16) (sym (stand-in-register-value v r valid_op)) in
    let e = registers-after-isz-jump (eqb n 0) (with_register x r n) w in
    let f = registers-after-isz-jump (eqb i 0) (with_register y r i) w in
    let o = landing (Isz r w) s.0.pc ret s.2.calls m (choice_of (Isz r w) s) in
    let value : o.first_value ≡ i = ap (λ (xs : List ℕ). cond (nat_lt r 16) (slice_index xs r) 0) f.3 ∙ stand-in-register-after-set v r i valid_op in
    landing-describes-if-one-register-changes s (machine_after (Isz r w) s) o r valid_op fit.registers fit.banks
    (record {
      pc = e.5 ∙ ap (λ (z : ℕ). cond (eqb z 0) x.pc (address_on_page_of x.pc w)) equal_values ∙ sym f.5;
      calls = refl;
      ret = λ k h l. ap (λ (xs : List ℕ). slice_index xs k) e.4 ∙ fit.ret k h l ∙ ap (λ (xs : List ℕ). slice_index xs k) (sym f.4);
      acc = e.0 ∙ sym f.0;
      cy = e.1 ∙ sym f.1;
      dcl = e.2 ∙ sym f.2;
    })
    (record { rom = refl; ram = refl })
    (e.3 ∙ ap (slice_set s.0.r r) (equal_values ∙ sym value)) refl refl
landing-is-correct (Src k) s m ret fit = landing-of-src-is-correct k s m ret fit
landing-is-correct Wrm s m ret fit =
    let same_src = src-bytes-unchanged-by-after_ram s.1 s.0.dcl s.0.acc in
    landing-correct-if-no-register-changes Wrm s m ret fit (record { rom = same_src.0; ram = same_src.1 }) (record { pc = refl; calls = refl; ret = fit.ret; dcl = refl; cy = refl; acc = refl }) refl refl refl
landing-is-correct Wmp s m ret fit =
    let same_src = src-bytes-unchanged-by-ram_port-write s.1 s.0.dcl s.0.acc in
    landing-correct-if-no-register-changes Wmp s m ret fit (record { rom = same_src.0; ram = same_src.1 }) (record { pc = refl; calls = refl; ret = fit.ret; dcl = refl; cy = refl; acc = refl }) refl refl refl
landing-is-correct Wrr s m ret fit =
    let same_src = src-bytes-unchanged-by-rom_port-write s.1 s.0.acc in
    landing-correct-if-no-register-changes Wrr s m ret fit (record { rom = same_src.0; ram = same_src.1 }) (record { pc = refl; calls = refl; ret = fit.ret; dcl = refl; cy = refl; acc = refl }) refl refl refl
landing-is-correct Wr0 s m ret fit =
    let same_src = src-bytes-unchanged-by-after_status s.1 s.0.dcl 0 s.0.acc in
    landing-correct-if-no-register-changes Wr0 s m ret fit (record { rom = same_src.0; ram = same_src.1 }) (record { pc = refl; calls = refl; ret = fit.ret; dcl = refl; cy = refl; acc = refl }) refl refl refl
landing-is-correct Wr1 s m ret fit =
    let same_src = src-bytes-unchanged-by-after_status s.1 s.0.dcl 1 s.0.acc in
    landing-correct-if-no-register-changes Wr1 s m ret fit (record { rom = same_src.0; ram = same_src.1 }) (record { pc = refl; calls = refl; ret = fit.ret; dcl = refl; cy = refl; acc = refl }) refl refl refl
landing-is-correct Wr2 s m ret fit =
    let same_src = src-bytes-unchanged-by-after_status s.1 s.0.dcl 2 s.0.acc in
    landing-correct-if-no-register-changes Wr2 s m ret fit (record { rom = same_src.0; ram = same_src.1 }) (record { pc = refl; calls = refl; ret = fit.ret; dcl = refl; cy = refl; acc = refl }) refl refl refl
landing-is-correct Wr3 s m ret fit =
    let same_src = src-bytes-unchanged-by-after_status s.1 s.0.dcl 3 s.0.acc in
    landing-correct-if-no-register-changes Wr3 s m ret fit (record { rom = same_src.0; ram = same_src.1 }) (record { pc = refl; calls = refl; ret = fit.ret; dcl = refl; cy = refl; acc = refl }) refl refl refl
landing-is-correct op s m ret fit = landing-correct-if-no-register-changes op s m ret fit (record { rom = refl; ram = refl }) (record { pc = refl; calls = refl; ret = fit.ret; dcl = refl; cy = refl; acc = refl }) refl refl refl
