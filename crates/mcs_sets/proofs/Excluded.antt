-- An entry that passes the checks excludes mistakes and conditions.
use Rattle.std.proofs.Common.{◌≡◌, ◌<◌, ◌+◌, ◌-◌, ◌*◌, ◌/◌, ◌%◌, ◌&&◌, ℕ, zero, suc, List, [], ◌∷◌, Bool, true, false, not, Option, Some, None, is_none, nat_lt, length, get_or, slice_index, refl, subst, sym, ap, ◌∙◌, arith, eqb}
use Rattle.std.proofs.lemmas.Bool.{and_left, and_right, or_from, not_from_true, ne_eqb, lt-ltb, le-ltb}
use Rattle.mcs_model.specs.declared.board.BoardParts.{BoardParts}
use Rattle.mcs_model.specs.declared.regs.Regs.{Regs}
use Rattle.mcs_model.specs.declared.op.Op.{Op}
use Rattle.mcs_model.specs.declared.op.Op.TheVariants.{Jcn, Fim, Fin, Jun, Jms, Isz, Bbl}
use Rattle.mcs_model.specs.Boards.{rom_masks}
use Rattle.mcs_model.specs.Command.{lacks_rom}
use Rattle.mcs_model.specs.Effect.{instruction_at}
use Rattle.mcs_drive.specs.TrackedMachine.{TrackedMachine}
use Rattle.mcs_check.specs.declared.common_mistakes.Mistakes.{Mistakes}
use Rattle.mcs_check.specs.declared.conditions.Condition.{Condition}
use Rattle.mcs_check.specs.Conditions.{is_met, are_met}
use Rattle.mcs_check.specs.Mistaken.{makes_call_mistake, makes_chip_mistake, makes_port_mistake, has_input, has_output, is_fourth_call, is_unmatched_return, cycle_makes_mistake, is_rdr, is_wrr, lacks_selected_ram, reads_absent_rom, last_address_read, op_makes_mistake, uses_ram}
use Rattle.mcs_sets.specs.declared.entries.Entry.{Entry}
use Rattle.mcs_sets.specs.Entries.{contains, value_at, Covers}
use Rattle.mcs_sets.specs.Excluding.{ForAllIn, HasChipsOfBank, MakesNoMistake, reads_next_address}
use Rattle.mcs_sets.specs.Landing.{CallsAllow}
use Rattle.mcs_sets.proofs.Memory.{member-below-16}

-- a conjunction of `a`, `b` and `c` is false if `c` is false whenever `a` and `b` are true
false-under-two-guards : (a b c : Bool) → (a ≡ true → b ≡ true → c ≡ false) → (a && b && c) ≡ false
false-under-two-guards false b c h = refl
false-under-two-guards true false c h = refl
false-under-two-guards true true c h = h refl refl

false-under-one-guard : (a c : Bool) → (a ≡ true → c ≡ false) → (a && c) ≡ false
false-under-one-guard false c h = refl
false-under-one-guard true c h = h refl

-- ---- calls

no-fourth-call-if-calls-allow : (op : Op) (calls : ℕ) → CallsAllow op calls → is_fourth_call op calls ≡ false
no-fourth-call-if-calls-allow (Jms h b) calls fits = let below_three : calls < 3 = fits in le-ltb 2 calls (omega arith)
no-fourth-call-if-calls-allow _ calls fits = refl

no-unmatched-return-if-calls-allow : (op : Op) (calls : ℕ) → CallsAllow op calls → is_unmatched_return op calls ≡ false
no-unmatched-return-if-calls-allow (Bbl d) calls fits = let above_zero : 0 < calls = fits in ne_eqb calls 0 (λ e. omega arith)
no-unmatched-return-if-calls-allow _ calls fits = refl

no-call-mistake-if-calls-allow : (mistakes : Mistakes) (op : Op) (s : TrackedMachine) → CallsAllow op s.2.calls → makes_call_mistake mistakes op s ≡ false
no-call-mistake-if-calls-allow mistakes op s fits =
    or_from _ _ (and_right mistakes.fourth_call _ (no-fourth-call-if-calls-allow op s.2.calls fits)) (and_right mistakes.unmatched_return _ (no-unmatched-return-if-calls-allow op s.2.calls fits))

-- ---- RAM

value_at-of-bank-src-byte : (s : TrackedMachine) (k bank : ℕ) → k ≡ 18 + bank → value_at s k ≡ slice_index s.1.ram_src bank / 16
value_at-of-bank-src-byte s k bank e =
    let a : eqb k 16 ≡ false = ne_eqb k 16 (λ x. omega arith) in
    let b : nat_lt k 16 ≡ false = le-ltb k 16 (omega arith) in
    let c : eqb k 17 ≡ false = ne_eqb k 17 (λ x. omega arith) in
    let d : k - 18 ≡ bank = omega arith in
    rw (a, b, c, d) refl

byte-selects-present-chip : (n chips : ℕ) → n / 16 / 4 < chips → n / 64 < chips
byte-selects-present-chip n chips h = omega arith

no-absent-ram-selected : (board : BoardParts) (e : Entry) (s : TrackedMachine) → s.1.board ≡ board → Covers e s → ForAllIn (slice_index e.sets 16) (HasChipsOfBank board e) → lacks_selected_ram s.0 s.1 ≡ false
no-absent-ram-selected board e s same is all =
    let bank = all s.0.dcl (is.locations 16 (omega arith)) in
    let n = slice_index s.1.ram_src s.0.dcl in
    let bank_exists = bank.bank_exists in
    let set = slice_index e.sets (18 + s.0.dcl) in
    let in_set : contains set (n / 16) ≡ true = subst (λ (x : ℕ). contains set x ≡ true) (value_at-of-bank-src-byte s (18 + s.0.dcl) s.0.dcl refl) (is.locations (18 + s.0.dcl) (omega arith)) in
    let chip : n / 64 < slice_index board.banks s.0.dcl = byte-selects-present-chip n (slice_index board.banks s.0.dcl) (bank.chips (n / 16) in_set) in
    let chip_present : n / 64 < slice_index s.1.board.banks s.0.dcl = subst (λ (b : BoardParts). n / 64 < slice_index b.banks s.0.dcl) (sym same) chip in
    not_from_true _ (lt-ltb (n / 64) (slice_index s.1.board.banks s.0.dcl) chip_present)

-- ---- ROM

page-of-fin-address : (p a b : ℕ) → a < 16 → b < 16 → (256 * p + (a * 16 + b)) / 256 ≡ p
page-of-fin-address p a b u v = omega arith

rom-at-last_address_read : (board : BoardParts) (op : Op) (s : Regs) → slice_index s.r 0 < 16 → slice_index s.r 1 < 16 → lacks_rom board s.pc ≡ false → (reads_next_address op ≡ true → lacks_rom board ((s.pc + 1) % 4096) ≡ false) → lacks_rom board (last_address_read op s) ≡ false
rom-at-last_address_read board (Jcn c b) s u v here next = next refl
rom-at-last_address_read board (Fim k b) s u v here next = next refl
rom-at-last_address_read board (Fin k) s u v here next =
    ap (λ (p : ℕ). is_none (rom_masks board p)) (page-of-fin-address ((s.pc + 1) % 4096 / 256) (slice_index s.r 0) (slice_index s.r 1) u v) ∙ next refl
rom-at-last_address_read board (Jun h b) s u v here next = next refl
rom-at-last_address_read board (Jms h b) s u v here next = next refl
rom-at-last_address_read board (Isz r b) s u v here next = next refl
rom-at-last_address_read board _ s u v here next = here

no-absent-rom-read : (board : BoardParts) (e : Entry) (op : Op) (s : TrackedMachine) → Covers e s → lacks_rom board e.at ≡ false → (reads_next_address op ≡ true → lacks_rom board ((e.at + 1) % 4096) ≡ false) → reads_absent_rom op s.0 board ≡ false
no-absent-rom-read board e op s is here next =
    let first = member-below-16 (slice_index e.sets 0) (slice_index s.0.r 0) (is.locations 0 (omega arith)) in
    let second = member-below-16 (slice_index e.sets 1) (slice_index s.0.r 1) (is.locations 1 (omega arith)) in
    let at : lacks_rom board s.0.pc ≡ false = subst (λ (a : ℕ). lacks_rom board a ≡ false) (sym is.at) here in
    let at_next : reads_next_address op ≡ true → lacks_rom board ((s.0.pc + 1) % 4096) ≡ false = subst (λ (a : ℕ). reads_next_address op ≡ true → lacks_rom board ((a + 1) % 4096) ≡ false) (sym is.at) next in
    or_from _ _ at (rom-at-last_address_read board op s.0 first second at at_next)

-- ---- all mistakes

-- holds if an entry passes the checks that exclude mistakes
pub record PassesChecks (board : BoardParts) (e : Entry) (op : Op) (mistakes : Mistakes) : Type 0 where
  pub calls : CallsAllow op e.calls
  pub ram : mistakes.absent_ram ≡ true → uses_ram op ≡ true → ForAllIn (slice_index e.sets 16) (HasChipsOfBank board e)
  pub own_rom : mistakes.absent_rom ≡ true → lacks_rom board e.at ≡ false
  pub next_rom : mistakes.absent_rom ≡ true → reads_next_address op ≡ true → lacks_rom board ((e.at + 1) % 4096) ≡ false
  pub inputs : mistakes.port_without_inputs ≡ true → is_rdr op ≡ true → ForAllIn (slice_index e.sets 17) (λ n. has_input board n ≡ true)
  pub outputs : mistakes.port_without_outputs ≡ true → is_wrr op ≡ true → ForAllIn (slice_index e.sets 17) (λ n. has_output board n ≡ true)

no-chip-mistake-if-checks-pass : (board : BoardParts) (e : Entry) (op : Op) (mistakes : Mistakes) (s : TrackedMachine) → s.1.board ≡ board → Covers e s → PassesChecks board e op mistakes → makes_chip_mistake mistakes op s ≡ false
no-chip-mistake-if-checks-pass board e op mistakes s same is h =
    or_from _ _
    (false-under-two-guards mistakes.absent_ram (uses_ram op) (lacks_selected_ram s.0 s.1) (λ a u. no-absent-ram-selected board e s same is (h.ram a u)))
    (false-under-one-guard mistakes.absent_rom (reads_absent_rom op s.0 s.1.board)
    (λ a. subst (λ (b : BoardParts). reads_absent_rom op s.0 b ≡ false) (sym same) (no-absent-rom-read board e op s is (h.own_rom a) (h.next_rom a))))

no-port-mistake-if-checks-pass : (board : BoardParts) (e : Entry) (op : Op) (mistakes : Mistakes) (s : TrackedMachine) → s.1.board ≡ board → Covers e s → PassesChecks board e op mistakes → makes_port_mistake mistakes op s ≡ false
no-port-mistake-if-checks-pass board e op mistakes s same is h =
    let n = s.1.rom_src / 16 in
    let rom_in_set : contains (slice_index e.sets 17) n ≡ true = is.locations 17 (omega arith) in
    or_from _ _
    (false-under-two-guards mistakes.port_without_inputs (is_rdr op) (not (has_input s.1.board n)) (λ a r. not_from_true _ (subst (λ (b : BoardParts). has_input b n ≡ true) (sym same) (h.inputs a r n rom_in_set))))
    (false-under-two-guards mistakes.port_without_outputs (is_wrr op) (not (has_output s.1.board n)) (λ a r. not_from_true _ (subst (λ (b : BoardParts). has_output b n ≡ true) (sym same) (h.outputs a r n rom_in_set))))

pub no-mistake-if-checks-pass : (board : BoardParts) (e : Entry) (op : Op) (mistakes : Mistakes) → PassesChecks board e op mistakes → MakesNoMistake board e op mistakes
no-mistake-if-checks-pass board e op mistakes h = λ s same is.
    or_from _ _
    (or_from _ _ (no-call-mistake-if-calls-allow mistakes op s (subst (CallsAllow op) (sym is.calls) h.calls)) (no-chip-mistake-if-checks-pass board e op mistakes s same is h))
    (no-port-mistake-if-checks-pass board e op mistakes s same is h)

no-mistake-at-given-op : (b : Bool) (o : Option Op) (mistakes : Mistakes) (op : Op) (s : TrackedMachine) → o ≡ Some op → op_makes_mistake mistakes op s ≡ false → (b && elim o as (λ _. Bool) [ Some op ↦ op_makes_mistake mistakes op s | None ↦ mistakes.invalid_opcode ]) ≡ false
no-mistake-at-given-op b o mistakes op s op_found none = rw op_found (and_right b _ none)

pub cycle-makes-no-mistake : (mistakes : Mistakes) (op : Op) (s : TrackedMachine) → instruction_at s.0 s.1 ≡ Some op → op_makes_mistake mistakes op s ≡ false → cycle_makes_mistake mistakes s ≡ false
cycle-makes-no-mistake mistakes op s op_found none = no-mistake-at-given-op (not (eqb s.0.owed 1)) (instruction_at s.0 s.1) mistakes op s op_found none

-- ---- conditions

pub conjunction-unmet : (t : TrackedMachine) (cs : List Condition) (i : ℕ) (d : Condition) → i < length cs → is_met t (get_or cs i d) ≡ false → are_met t cs ≡ false
conjunction-unmet t [] i d inside h = absurd (omega arith)
conjunction-unmet t (c ∷ cs) zero d inside h = and_left (is_met t c) (are_met t cs) h
conjunction-unmet t (c ∷ cs) (suc i) d inside h = and_right (is_met t c) (are_met t cs) (conjunction-unmet t cs i d (omega arith) h)
