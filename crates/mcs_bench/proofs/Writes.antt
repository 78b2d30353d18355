-- Only WRM changes a RAM nibble, and WRM changes only the selected RAM nibble.
use Rattle.std.proofs.Common.{◌≡◌, ◌≢◌, ℕ, ◌+◌, ◌*◌, ◌/◌, ◌<◌, Bool, true, false, ◌||◌, ◌&&◌, not, cond, List, [], ◌∷◌, Option, Some, None, slice_index, slice_set, length, unwrap_or, inl, inr, refl, sym, ap, ◌∙◌, arith, eqb, eq-eqb, nat_lt}
use Rattle.std.proofs.lemmas.Bool.{cases_eq}
use Rattle.std.proofs.lemmas.List.{get_or-set_other, get_or-set_same, set-get_or}
use Rattle.std.proofs.lemmas.Bool.Decides.{nat_tests}
use Rattle.mcs_model.specs.declared.regs.Regs.{Regs}
use Rattle.mcs_model.specs.declared.op.Op.{Op}
use Rattle.mcs_model.specs.declared.op.Op.TheVariants.{Nop, Jcn, Fim, Src, Fin, Jin, Jun, Jms, Inc, Isz, Add, Sub, Ld, Xch, Bbl, Ldm, Wrm, Wmp, Wrr, Wr0, Wr1, Wr2, Wr3, Sbm, Rdm, Rdr, Adm, Rd0, Rd1, Rd2, Rd3, Clb, Clc, Iac, Cmc, Cma, Ral, Rar, Tcc, Dac, Tcs, Stc, Daa, Kbp, Dcl}
use Rattle.mcs_nibble.specs.declared.lines.LineMask.{LineMask}
use Rattle.mcs_model.specs.Boards.{rom_masks}
use Rattle.mcs_model.specs.Bus.{BusState, after_src, after_ram, after_status, src_of, chips_of, has_chip, with_ram, with_status}
use Rattle.mcs_model.specs.Levels.{after_ram_port, after_rom_port, after_chain_clocks}
use Rattle.mcs_model.specs.Effect.{cycle_of, effect, bus_after, instruction_at}
use Rattle.mcs_model.specs.Running.{Machine, after_cycles, has_changed}
use Rattle.mcs_model.specs.Listed.{is_listed}

ram-of-cond : (b : Bool) (x y : BusState) (ram : List ℕ) → x.ram ≡ ram → y.ram ≡ ram → (cond b x y).ram ≡ ram
ram-of-cond true x y ram e f = e
ram-of-cond false x y ram e f = f

ram-unchanged-by-src : (m : BusState) (bank byte : ℕ) → (after_src m bank byte).ram ≡ m.ram
unfolding after_src
ram-unchanged-by-src m bank byte = ram-of-cond (nat_lt 0 (chips_of m bank)) _ _ m.ram refl refl

ram-unchanged-by-status-write : (m : BusState) (bank k n : ℕ) → (after_status m bank k n).ram ≡ m.ram
unfolding after_status with_status
ram-unchanged-by-status-write m bank k n = ram-of-cond (nat_lt (src_of m bank / 16 / 4) (chips_of m bank)) _ _ m.ram refl refl

ram-unchanged-by-ram-port-write : (m : BusState) (bank n : ℕ) → (after_ram_port m bank n).ram ≡ m.ram
unfolding after_ram_port after_chain_clocks
ram-unchanged-by-ram-port-write m bank n = ram-of-cond (has_chip m bank (src_of m bank)) _ _ m.ram refl refl

ram-unchanged-for-any-masks : (o : Option (List LineMask)) (m : BusState) (f : List LineMask → BusState) → ((mask : List LineMask) → (f mask).ram ≡ m.ram) → (elim o as (λ _. BusState) [ Some mask ↦ f mask | None ↦ m ]).ram ≡ m.ram
ram-unchanged-for-any-masks None m f h = refl
ram-unchanged-for-any-masks (Some mask) m f h = h mask

ram-unchanged-by-rom-port-write : (m : BusState) (n : ℕ) → (after_rom_port m n).ram ≡ m.ram
unfolding after_rom_port after_chain_clocks
ram-unchanged-by-rom-port-write m n = ram-unchanged-for-any-masks (rom_masks m.board (m.rom_src / 16)) m _ (λ mask. refl)

-- an instruction other than WRM changes no RAM nibble
ram-unchanged-by-other-op : (op : Op) (s : Regs) (m : BusState) → op ≢ Wrm → (bus_after op s m).ram ≡ m.ram
ram-unchanged-by-other-op Nop s m h = refl
ram-unchanged-by-other-op (Jcn a b) s m h = refl
ram-unchanged-by-other-op (Fim a b) s m h = refl
ram-unchanged-by-other-op (Src a) s m h = ram-unchanged-by-src m s.dcl _
ram-unchanged-by-other-op (Fin a) s m h = refl
ram-unchanged-by-other-op (Jin a) s m h = refl
ram-unchanged-by-other-op (Jun a b) s m h = refl
ram-unchanged-by-other-op (Jms a b) s m h = refl
ram-unchanged-by-other-op (Inc a) s m h = refl
ram-unchanged-by-other-op (Isz a b) s m h = refl
ram-unchanged-by-other-op (Add a) s m h = refl
ram-unchanged-by-other-op (Sub a) s m h = refl
ram-unchanged-by-other-op (Ld a) s m h = refl
ram-unchanged-by-other-op (Xch a) s m h = refl
ram-unchanged-by-other-op (Bbl a) s m h = refl
ram-unchanged-by-other-op (Ldm a) s m h = refl
ram-unchanged-by-other-op Wrm s m h = absurd (h refl)
ram-unchanged-by-other-op Wmp s m h = ram-unchanged-by-ram-port-write m s.dcl s.acc
ram-unchanged-by-other-op Wrr s m h = ram-unchanged-by-rom-port-write m s.acc
ram-unchanged-by-other-op Wr0 s m h = ram-unchanged-by-status-write m s.dcl 0 s.acc
ram-unchanged-by-other-op Wr1 s m h = ram-unchanged-by-status-write m s.dcl 1 s.acc
ram-unchanged-by-other-op Wr2 s m h = ram-unchanged-by-status-write m s.dcl 2 s.acc
ram-unchanged-by-other-op Wr3 s m h = ram-unchanged-by-status-write m s.dcl 3 s.acc
ram-unchanged-by-other-op Sbm s m h = refl
ram-unchanged-by-other-op Rdm s m h = refl
ram-unchanged-by-other-op Rdr s m h = refl
ram-unchanged-by-other-op Adm s m h = refl
ram-unchanged-by-other-op Rd0 s m h = refl
ram-unchanged-by-other-op Rd1 s m h = refl
ram-unchanged-by-other-op Rd2 s m h = refl
ram-unchanged-by-other-op Rd3 s m h = refl
ram-unchanged-by-other-op Clb s m h = refl
ram-unchanged-by-other-op Clc s m h = refl
ram-unchanged-by-other-op Iac s m h = refl
ram-unchanged-by-other-op Cmc s m h = refl
ram-unchanged-by-other-op Cma s m h = refl
ram-unchanged-by-other-op Ral s m h = refl
ram-unchanged-by-other-op Rar s m h = refl
ram-unchanged-by-other-op Tcc s m h = refl
ram-unchanged-by-other-op Dac s m h = refl
ram-unchanged-by-other-op Tcs s m h = refl
ram-unchanged-by-other-op Stc s m h = refl
ram-unchanged-by-other-op Daa s m h = refl
ram-unchanged-by-other-op Kbp s m h = refl
ram-unchanged-by-other-op Dcl s m h = refl

ram-unchanged-unless-wrm : (o : Option Op) (s : Machine) → o ≢ Some Wrm → (unwrap_or (elim o [ Some op ↦ Some (effect op s.0 s.1) | None ↦ None ]) s).1.ram ≡ s.1.ram
ram-unchanged-unless-wrm None s h = refl
ram-unchanged-unless-wrm (Some op) s h = ram-unchanged-by-other-op op _ s.1 (λ e. h (ap Some e))

-- a cycle changes no RAM nibble if the instruction at the program counter is not WRM
pub ram-unchanged-by-cycle-without-wrm : (s : Machine) → instruction_at s.0 s.1 ≢ Some Wrm → (after_cycles 1 s).1.ram ≡ s.1.ram
unfolding cycle_of
ram-unchanged-by-cycle-without-wrm s h =
    elim (eqb s.0.owed 1) as (λ v. (unwrap_or (cond v (Some (record s.0 { owed = 0 }, s.1)) (elim (instruction_at s.0 s.1) [ Some op ↦ Some (effect op s.0 s.1) | None ↦ None ])) s).1.ram ≡ s.1.ram) [
      | true ↦ refl
      | false ↦ ram-unchanged-unless-wrm (instruction_at s.0 s.1) s h
    ]

-- a pending second cycle changes no RAM nibble
pub ram-unchanged-by-second-cycle : (s : Machine) → s.0.owed ≡ 1 → (after_cycles 1 s).1.ram ≡ s.1.ram
unfolding cycle_of
ram-unchanged-by-second-cycle s e = rw e refl

-- if no second cycle is pending and WRM is at the program counter, the next cycle has the effect of
-- WRM
pub cycle-has-effect-of-wrm : (s : Machine) → s.0.owed ≢ 1 → instruction_at s.0 s.1 ≡ Some Wrm → after_cycles 1 s ≡ effect Wrm s.0 s.1
unfolding cycle_of
cycle-has-effect-of-wrm s free at = let e : eqb s.0.owed 1 ≡ false = grind (arith, nat_tests) in rw (e, at) refl

-- ---- changes of watched RAM nibbles

pub no-watch-changed-if-ram-equal : (watches : List ℕ) (s t : Machine) → s.1.ram ≡ t.1.ram → has_changed watches s t ≡ false
no-watch-changed-if-ram-equal [] s t e = refl
no-watch-changed-if-ram-equal (w ∷ ws) s t e = let here : eqb (slice_index s.1.ram w) (slice_index t.1.ram w) ≡ true = eq-eqb _ _ (ap (λ (xs : List ℕ). slice_index xs w) e) in rw (here, no-watch-changed-if-ram-equal ws s t e) refl

or-absorbs-and : (b x : Bool) → (b || (x && b)) ≡ b
or-absorbs-and true x = refl
or-absorbs-and false true = refl
or-absorbs-and false false = refl

-- If no RAM nibble changed except the one at the index `place`, `has_changed` is true exactly when
-- that RAM nibble changed and is watched.
pub has_changed-if-one-index-changed : (watches : List ℕ) (s t : Machine) (place : ℕ) → ((w : ℕ) → w ≢ place → slice_index s.1.ram w ≡ slice_index t.1.ram w) → has_changed watches s t ≡ (is_listed watches place && not (eqb (slice_index s.1.ram place) (slice_index t.1.ram place)))
has_changed-if-one-index-changed [] s t place others = refl
has_changed-if-one-index-changed (w ∷ ws) s t place others =
    elim (cases_eq w place) [
      | inl e ↦ (
          let on : eqb w place ≡ true = eq-eqb w place e in
          rw (on, has_changed-if-one-index-changed ws s t place others, e) (or-absorbs-and (not (eqb (slice_index s.1.ram place) (slice_index t.1.ram place))) (is_listed ws place)))
      | inr ne ↦ (
          let off : eqb w place ≡ false = grind (arith, nat_tests) in
          let same : eqb (slice_index s.1.ram w) (slice_index t.1.ram w) ≡ true = eq-eqb _ _ (others w ne) in
          rw (off, same) (has_changed-if-one-index-changed ws s t place others))
    ]

other-index-unchanged-by-set : (b : Bool) (m : BusState) (place n w : ℕ) → w ≢ place → slice_index m.ram w ≡ slice_index (cond b (record m { ram = slice_set m.ram place n }) m).ram w
other-index-unchanged-by-set true m place n w ne = sym (get_or-set_other m.ram place w n 0 ne)
other-index-unchanged-by-set false m place n w ne = refl

-- a write changes only the selected RAM nibble
pub write-keeps-other-nibbles : (m : BusState) (bank n w : ℕ) → w ≢ bank * 256 + src_of m bank → slice_index m.ram w ≡ slice_index (after_ram m bank n).ram w
unfolding after_ram with_ram
write-keeps-other-nibbles m bank n w ne = other-index-unchanged-by-set (has_chip m bank (src_of m bank)) m (bank * 256 + src_of m bank) n w ne

-- ---- the value of the selected RAM nibble after a write

value-after-conditional-same-write : (b : Bool) (m : BusState) (place n : ℕ) → slice_index m.ram place ≡ n → slice_index (cond b (record m { ram = slice_set m.ram place n }) m).ram place ≡ n
value-after-conditional-same-write true m place n e = ap (λ v. slice_index (slice_set m.ram place v) place) (sym e) ∙ ap (λ (xs : List ℕ). slice_index xs place) (set-get_or m.ram place 0) ∙ e
value-after-conditional-same-write false m place n e = e

pub ram-unchanged-by-write-to-absent-chip : (m : BusState) (bank n : ℕ) → has_chip m bank (src_of m bank) ≡ false → (after_ram m bank n).ram ≡ m.ram
unfolding after_ram with_ram
ram-unchanged-by-write-to-absent-chip m bank n off = rw off refl

-- if the selected RAM nibble has the value `n`, writing `n` leaves its value unchanged
pub value-after-same-write : (m : BusState) (bank n : ℕ) → slice_index m.ram (bank * 256 + src_of m bank) ≡ n → slice_index (after_ram m bank n).ram (bank * 256 + src_of m bank) ≡ n
unfolding after_ram with_ram
value-after-same-write m bank n e = value-after-conditional-same-write (has_chip m bank (src_of m bank)) m (bank * 256 + src_of m bank) n e

pub value-after-write : (m : BusState) (bank n : ℕ) → has_chip m bank (src_of m bank) ≡ true → bank * 256 + src_of m bank < length m.ram → slice_index (after_ram m bank n).ram (bank * 256 + src_of m bank) ≡ n
unfolding after_ram with_ram
value-after-write m bank n on l = rw on (get_or-set_same m.ram (bank * 256 + src_of m bank) n 0 l)
