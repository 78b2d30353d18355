-- A cycle that changes nothing in a scope does not change whether the conditions in the scope are
-- met, except for mistakes.
use Rattle.std.proofs.Common.{◌≡◌, ◌⊎◌, ◌<◌, ◌≤◌, ℕ, ◌+◌, ◌*◌, ◌/◌, ◌%◌, inl, inr, arith, Bool, true, false, not, cond, ◌&&◌, ◌||◌, List, [], ◌∷◌, Option, Some, None, unwrap_or, slice_index, slice_index_or, slice_set, nat_le, nat_lt, get_or-set_other, refl, sym, ap, ◌∙◌, eqb}
use Rattle.std.proofs.lemmas.Bool.{and_cases, and_from, and_left, and_parts, and_right, both_ways, cases_eq, leb-true, not-true, not_from_false, or_from, or_parts}
use Rattle.mcs_model.specs.declared.regs.Regs.{Regs}
use Rattle.mcs_model.specs.declared.op.Op.{Op}
use Rattle.mcs_model.specs.declared.op.Op.TheVariants.{Jcn, Fim, Src, Fin, Inc, Isz, Xch, Wrm, Wmp, Wrr, Wr0, Wr1, Wr2, Wr3, Daa}
use Rattle.mcs_model.specs.Bus.{BusState, fetch_of}
use Rattle.mcs_model.specs.Effect.{address_on_page_of, after_fetch, bus_after, cycle_of, effect, instruction_at, is_taken, registers_after, with_pc_on_page}
use Rattle.mcs_model.specs.Registers.{pair_of, register_of, with_pair, with_register}
use Rattle.mcs_drive.specs.TrackedMachine.{Counts, Observer, TrackedMachine, begins_at, condition_holds_at, counts_after, cycled, machine_in, next_op, without_levels}
use Rattle.mcs_drive.proofs.Tracking.{with_counts}
use Rattle.mcs_check.specs.declared.cells.CellList.{CellList}
use Rattle.mcs_check.specs.declared.cells.CellList.TheVariants.{RamNibbles, StatusCharacters, RamPorts, RomPorts, BankSrcBytes, Registers, Counters, Chain}
use Rattle.mcs_check.specs.declared.common_mistakes.Mistakes.{Mistakes}
use Rattle.mcs_check.specs.declared.conditions.Comparison.{Comparison}
use Rattle.mcs_check.specs.declared.conditions.Condition.{Condition}
use Rattle.mcs_check.specs.declared.conditions.Condition.TheVariants.{Compare, Mistaken}
use Rattle.mcs_check.specs.declared.scope.Scope.{Scope}
use Rattle.mcs_check.specs.Cells.{max_cell_count, values_in_list}
use Rattle.mcs_check.specs.Conditions.{PropertyConditions, are_met, comparison_is_met, is_met, meets_none, observer_of_property, part_of}
use Rattle.mcs_check.specs.Mistaken.{makes_call_mistake, makes_chip_mistake, makes_port_mistake, has_input, has_output, is_fourth_call, is_unmatched_return, cycle_makes_mistake, is_rdr, is_wrr, lacks_selected_ram, reads_absent_rom, op_makes_mistake, uses_ram}
use Rattle.mcs_check.specs.Scopes.{all_mistakes, changes, cycle_may_change_scope, makes_mistake_in_scope, has_all_conditions, has_cell, has_condition, has_all_lists, has_register}
use Rattle.mcs_check.proofs.Ignoring.{conditions-ignore}

-- ---- conditions without mistakes

-- `is_met`, `are_met` and `meets_none` for a machine whose next cycle is assumed to make no mistake
abbrev pub is_met_without_mistakes : TrackedMachine → Condition → Bool
is_met_without_mistakes t (Compare x) = comparison_is_met t x
is_met_without_mistakes t (Mistaken kinds) = false

abbrev pub are_met_without_mistakes : TrackedMachine → List Condition → Bool
are_met_without_mistakes t [] = true
are_met_without_mistakes t (x ∷ xs) = is_met_without_mistakes t x && are_met_without_mistakes t xs

abbrev pub meets_none_without_mistakes : List (List Condition) → TrackedMachine → Bool
meets_none_without_mistakes [] t = true
meets_none_without_mistakes (xs ∷ never_lists) t = not (are_met_without_mistakes t xs) && meets_none_without_mistakes never_lists t

unmet_without_mistakes-if_unmet : (t : TrackedMachine) (x : Condition) → is_met t x ≡ false → is_met_without_mistakes t x ≡ false
unmet_without_mistakes-if_unmet t (Compare x) e = e
unmet_without_mistakes-if_unmet t (Mistaken kinds) e = refl

list_unmet_without_mistakes-if_unmet : (t : TrackedMachine) (xs : List Condition) → are_met t xs ≡ false → are_met_without_mistakes t xs ≡ false
list_unmet_without_mistakes-if_unmet t [] e = e
list_unmet_without_mistakes-if_unmet t (x ∷ xs) e =
    elim (and_cases (is_met t x) (are_met t xs) e) [
      | inl first ↦ and_left (is_met_without_mistakes t x) (are_met_without_mistakes t xs) (unmet_without_mistakes-if_unmet t x first)
      | inr later ↦ and_right (is_met_without_mistakes t x) (are_met_without_mistakes t xs) (list_unmet_without_mistakes-if_unmet t xs later)
    ]

pub meets_none_without_mistakes-if_meets_none : (never_lists : List (List Condition)) (t : TrackedMachine) → meets_none never_lists t ≡ true → meets_none_without_mistakes never_lists t ≡ true
meets_none_without_mistakes-if_meets_none [] t e = refl
meets_none_without_mistakes-if_meets_none (xs ∷ never_lists) t e =
    let parts = and_parts (not (are_met t xs)) (meets_none never_lists t) e in
    and_from (not (are_met_without_mistakes t xs)) (meets_none_without_mistakes never_lists t)
    (not_from_false (are_met_without_mistakes t xs) (list_unmet_without_mistakes-if_unmet t xs (not-true (are_met t xs) parts.0)))
    (meets_none_without_mistakes-if_meets_none never_lists t parts.1)

-- ---- a cycle that makes no mistake makes none of the mistakes in `kinds`

and-false_if_tail_false : (a u l : Bool) → (u && l) ≡ false → (a && u && l) ≡ false
and-false_if_tail_false true u l e = e
and-false_if_tail_false false u l e = refl

or_of_ands-false_if_or_false : (a b x y : Bool) → (x || y) ≡ false → ((a && x) || (b && y)) ≡ false
or_of_ands-false_if_or_false a b x y e = (let parts = or_parts x y e in or_from (a && x) (b && y) (and_right a x parts.0) (and_right b y parts.1))

or_of_three-false_if_other_or_false : (a b c x y z : Bool) → (a ≡ false → x ≡ false) → (b ≡ false → y ≡ false) → (c ≡ false → z ≡ false) → (a || b || c) ≡ false → (x || y || z) ≡ false
or_of_three-false_if_other_or_false false false false x y z f g h e = rw (f refl, g refl, h refl) refl
or_of_three-false_if_other_or_false true b c x y z f g h e = absurd (cc)
or_of_three-false_if_other_or_false false true c x y z f g h e = absurd (cc)
or_of_three-false_if_other_or_false false false true x y z f g h e = absurd (cc)

no_call_mistake-of_kinds : (kinds : Mistakes) (op : Op) (s : TrackedMachine) → makes_call_mistake all_mistakes op s ≡ false → makes_call_mistake kinds op s ≡ false
no_call_mistake-of_kinds kinds op s e = or_of_ands-false_if_or_false kinds.fourth_call kinds.unmatched_return (is_fourth_call op s.2.calls) (is_unmatched_return op s.2.calls) e

no_chip_mistake-of_kinds : (kinds : Mistakes) (op : Op) (s : TrackedMachine) → makes_chip_mistake all_mistakes op s ≡ false → makes_chip_mistake kinds op s ≡ false
no_chip_mistake-of_kinds kinds op s e =
    let parts = or_parts (uses_ram op && lacks_selected_ram s.0 s.1) (reads_absent_rom op s.0 s.1.board) e in
    or_from (kinds.absent_ram && uses_ram op && lacks_selected_ram s.0 s.1) (kinds.absent_rom && reads_absent_rom op s.0 s.1.board)
    (and-false_if_tail_false kinds.absent_ram (uses_ram op) (lacks_selected_ram s.0 s.1) parts.0)
    (and_right kinds.absent_rom (reads_absent_rom op s.0 s.1.board) parts.1)

no_port_mistake-of_kinds : (kinds : Mistakes) (op : Op) (s : TrackedMachine) → makes_port_mistake all_mistakes op s ≡ false → makes_port_mistake kinds op s ≡ false
no_port_mistake-of_kinds kinds op s e =
    let input = not (has_input s.1.board (s.1.rom_src / 16)) in
    let output = not (has_output s.1.board (s.1.rom_src / 16)) in
    let parts = or_parts (is_rdr op && input) (is_wrr op && output) e in
    or_from (kinds.port_without_inputs && is_rdr op && input) (kinds.port_without_outputs && is_wrr op && output)
    (and-false_if_tail_false kinds.port_without_inputs (is_rdr op) input parts.0)
    (and-false_if_tail_false kinds.port_without_outputs (is_wrr op) output parts.1)

no_op_mistake-of_kinds : (kinds : Mistakes) (op : Op) (s : TrackedMachine) → op_makes_mistake all_mistakes op s ≡ false → op_makes_mistake kinds op s ≡ false
no_op_mistake-of_kinds kinds op s e =
    or_of_three-false_if_other_or_false (makes_call_mistake all_mistakes op s) (makes_chip_mistake all_mistakes op s) (makes_port_mistake all_mistakes op s)
    (makes_call_mistake kinds op s) (makes_chip_mistake kinds op s) (makes_port_mistake kinds op s)
    (no_call_mistake-of_kinds kinds op s) (no_chip_mistake-of_kinds kinds op s) (no_port_mistake-of_kinds kinds op s) e

no_cycle_mistake-by_cases : (kinds : Mistakes) (s : TrackedMachine) (b : Bool) (o : Option Op) →
    (b && elim o as (λ _. Bool) [ Some op ↦ op_makes_mistake all_mistakes op s | None ↦ true ]) ≡ false →
    (b && elim o as (λ _. Bool) [ Some op ↦ op_makes_mistake kinds op s | None ↦ kinds.invalid_opcode ]) ≡ false
no_cycle_mistake-by_cases kinds s false o e = refl
no_cycle_mistake-by_cases kinds s true None e = absurd (cc)
no_cycle_mistake-by_cases kinds s true (Some op) e = no_op_mistake-of_kinds kinds op s e

no_cycle_mistake-of_kinds : (kinds : Mistakes) (s : TrackedMachine) → cycle_makes_mistake all_mistakes s ≡ false → cycle_makes_mistake kinds s ≡ false
no_cycle_mistake-of_kinds kinds s e = no_cycle_mistake-by_cases kinds s (not (eqb s.0.owed 1)) (instruction_at s.0 s.1) e

-- ---- before a cycle that makes no mistake, conditions with and without mistakes agree

second_false-if_and_false : (b m : Bool) → b ≡ true → (b && m) ≡ false → m ≡ false
second_false-if_and_false b m is e = sym (ap (λ c. c && m) is) ∙ e

is_met-equal_without_mistakes : (c : Scope) (t : TrackedMachine) → makes_mistake_in_scope c t ≡ false → (x : Condition) → has_condition c x ≡ true → is_met t x ≡ is_met_without_mistakes t x
is_met-equal_without_mistakes c t free (Compare x) has = refl
is_met-equal_without_mistakes c t free (Mistaken kinds) has = no_cycle_mistake-of_kinds kinds t (second_false-if_and_false c.mistakes (cycle_makes_mistake all_mistakes t) has free)

are_met-equal_without_mistakes : (c : Scope) (t : TrackedMachine) → makes_mistake_in_scope c t ≡ false → (xs : List Condition) → has_all_conditions c xs ≡ true → are_met t xs ≡ are_met_without_mistakes t xs
are_met-equal_without_mistakes c t free [] has = refl
are_met-equal_without_mistakes c t free (x ∷ xs) has =
    let parts = and_parts (has_condition c x) (has_all_conditions c xs) has in
    ap (λ b. b && are_met t xs) (is_met-equal_without_mistakes c t free x parts.0) ∙ ap (λ b. is_met_without_mistakes t x && b) (are_met-equal_without_mistakes c t free xs parts.1)

meets_none-equal_without_mistakes : (c : Scope) (t : TrackedMachine) → makes_mistake_in_scope c t ≡ false → (never_lists : List (List Condition)) → has_all_lists c never_lists ≡ true → meets_none never_lists t ≡ meets_none_without_mistakes never_lists t
meets_none-equal_without_mistakes c t free [] has = refl
meets_none-equal_without_mistakes c t free (xs ∷ never_lists) has =
    let parts = and_parts (has_all_conditions c xs) (has_all_lists c never_lists) has in
    ap (λ b. not b && meets_none never_lists t) (are_met-equal_without_mistakes c t free xs parts.0) ∙ ap (λ b. not (are_met_without_mistakes t xs) && b) (meets_none-equal_without_mistakes c t free never_lists parts.1)

-- ---- machines that agree in a scope

pub record AgreesInScope (c : Scope) (s t : TrackedMachine) : Type 0 where
  pub seen : t.2.seen ≡ s.2.seen
  pub elapsed : t.2.elapsed ≡ s.2.elapsed
  pub registers : (r : ℕ) → has_register c r ≡ true → register_of t.0 r ≡ register_of s.0 r
  pub chips : c.chips ≡ true → t.1 ≡ s.1

counter_value-equal_in_scope : (c : Scope) (s t : TrackedMachine) → AgreesInScope c s t → (k : ℕ) → 14 ≤ k → k < 18 → slice_index (values_in_list s Counters) k ≡ slice_index (values_in_list t Counters) k
counter_value-equal_in_scope c s t same k from below =
    let value = λ (m : TrackedMachine). slice_index (values_in_list m Counters) in
    elim (cases_eq k 14) [
      | inl high ↦ ap (value s) high ∙ ap (λ (n : ℕ). n / 65536) (sym same.elapsed) ∙ ap (value t) (sym high)
      | inr not_high ↦ elim (cases_eq k 15) [
        | inl middle ↦ ap (value s) middle ∙ ap (λ (n : ℕ). n / 256 % 256) (sym same.elapsed) ∙ ap (value t) (sym middle)
        | inr not_middle ↦ elim (cases_eq k 16) [
          | inl low ↦ ap (value s) low ∙ ap (λ (n : ℕ). n % 256) (sym same.elapsed) ∙ ap (value t) (sym low)
          | inr not_low ↦ (let last : k ≡ 17 = omega arith in ap (value s) last ∙ sym same.seen ∙ ap (value t) (sym last))
        ]
      ]
    ]

cell_value-equal_in_scope : (c : Scope) (s t : TrackedMachine) → AgreesInScope c s t → (list : CellList) (i : ℕ) → has_cell c list i ≡ true → slice_index (values_in_list s list) (i % max_cell_count list) ≡ slice_index (values_in_list t list) (i % max_cell_count list)
cell_value-equal_in_scope c s t same Registers i has = sym (same.registers (i % 16) has)
cell_value-equal_in_scope c s t same Counters i has = counter_value-equal_in_scope c s t same (i % 18) (leb-true 14 (i % 18) has) (omega arith)
cell_value-equal_in_scope c s t same RamNibbles i has = ap (λ (m : BusState). slice_index m.ram (i % 2048)) (sym (same.chips has))
cell_value-equal_in_scope c s t same StatusCharacters i has = ap (λ (m : BusState). slice_index m.status (i % 512)) (sym (same.chips has))
cell_value-equal_in_scope c s t same RamPorts i has = ap (λ (m : BusState). slice_index m.ram_ports (i % 32)) (sym (same.chips has))
cell_value-equal_in_scope c s t same RomPorts i has = ap (λ (m : BusState). slice_index m.rom_ports (i % 16)) (sym (same.chips has))
cell_value-equal_in_scope c s t same BankSrcBytes i has = ap (λ (m : BusState). slice_index m.ram_src (i % 8)) (sym (same.chips has))
cell_value-equal_in_scope c s t same (Chain n) i has = ap (λ (m : BusState). slice_index (slice_index_or m.chains n []) (i % 256)) (sym (same.chips has))

comparison_is_met-equal_in_scope : (c : Scope) (s t : TrackedMachine) → AgreesInScope c s t → (x : Comparison) → has_cell c x.cell.list x.cell.index ≡ true → comparison_is_met s x ≡ comparison_is_met t x
comparison_is_met-equal_in_scope c s t same x has =
    ap (λ (n : ℕ). cond x.inside (nat_le x.low (part_of n x.part) && nat_le (part_of n x.part) x.high) (not (nat_le x.low (part_of n x.part) && nat_le (part_of n x.part) x.high)))
    (cell_value-equal_in_scope c s t same x.cell.list x.cell.index has)

is_met-equal_in_scope : (c : Scope) (s t : TrackedMachine) → AgreesInScope c s t → (x : Condition) → has_condition c x ≡ true → is_met_without_mistakes s x ≡ is_met_without_mistakes t x
is_met-equal_in_scope c s t same (Compare x) has = comparison_is_met-equal_in_scope c s t same x has
is_met-equal_in_scope c s t same (Mistaken kinds) has = refl

are_met-equal_in_scope : (c : Scope) (s t : TrackedMachine) → AgreesInScope c s t → (xs : List Condition) → has_all_conditions c xs ≡ true → are_met_without_mistakes s xs ≡ are_met_without_mistakes t xs
are_met-equal_in_scope c s t same [] has = refl
are_met-equal_in_scope c s t same (x ∷ xs) has =
    let parts = and_parts (has_condition c x) (has_all_conditions c xs) has in
    ap (λ b. b && are_met_without_mistakes s xs) (is_met-equal_in_scope c s t same x parts.0) ∙ ap (λ b. is_met_without_mistakes t x && b) (are_met-equal_in_scope c s t same xs parts.1)

pub keeps-same : (c : Scope) (s t : TrackedMachine) → AgreesInScope c s t → (never_lists : List (List Condition)) → has_all_lists c never_lists ≡ true → meets_none_without_mistakes never_lists s ≡ meets_none_without_mistakes never_lists t
keeps-same c s t same [] has = refl
keeps-same c s t same (xs ∷ never_lists) has =
    let parts = and_parts (has_all_conditions c xs) (has_all_lists c never_lists) has in
    ap (λ b. not b && meets_none_without_mistakes never_lists s) (are_met-equal_in_scope c s t same xs parts.0) ∙ ap (λ b. not (are_met_without_mistakes t xs) && b) (keeps-same c s t same never_lists parts.1)

-- ---- a cycle

registers_differ-if_one_in_scope : (c : Scope) (i r : ℕ) → has_register c i ≡ true → has_register c r ≡ false → i ≡ r → ⊥
registers_differ-if_one_in_scope c i r seen rest e = both_ways (has_register c r) rest (ap (has_register c) (sym e) ∙ seen)

pub register_unchanged-by_set_outside_scope : (c : Scope) (xs : List ℕ) (r i n : ℕ) → has_register c r ≡ false → has_register c i ≡ true → slice_index (slice_set xs r n) i ≡ slice_index xs i
register_unchanged-by_set_outside_scope c xs r i n rest seen = get_or-set_other xs r i n 0 (registers_differ-if_one_in_scope c i r seen rest)

register_of-cond : (b : Bool) (s t : Regs) (i n : ℕ) → register_of s i ≡ n → register_of t i ≡ n → register_of (cond b s t) i ≡ n
register_of-cond true s t i n e f = e
register_of-cond false s t i n e f = f

register_unchanged-by_pair_outside_scope : (c : Scope) (s : Regs) (k byte i : ℕ) → (has_register c (2 * k) || has_register c (2 * k + 1)) ≡ false → has_register c i ≡ true → register_of (with_pair s k byte) i ≡ register_of s i
register_unchanged-by_pair_outside_scope c s k byte i rest seen =
    let parts = or_parts (has_register c (2 * k)) (has_register c (2 * k + 1)) rest in
    register_unchanged-by_set_outside_scope c (slice_set s.r (2 * k) (byte / 16)) (2 * k + 1) i (byte % 16) parts.1 seen ∙ register_unchanged-by_set_outside_scope c s.r (2 * k) i (byte / 16) parts.0 seen

register_unchanged-by_op_outside_scope : (c : Scope) (op : Op) (s : Regs) (m : BusState) (i : ℕ) → changes c op ≡ false → has_register c i ≡ true → register_of (registers_after op s m) i ≡ register_of s i
register_unchanged-by_op_outside_scope c (Jcn a w) s m i rest seen = register_of-cond (is_taken a s m.test) (with_pc_on_page s w) s i (register_of s i) refl refl
register_unchanged-by_op_outside_scope c (Fim k b) s m i rest seen = register_unchanged-by_pair_outside_scope c s k b i rest seen
register_unchanged-by_op_outside_scope c (Fin k) s m i rest seen = register_unchanged-by_pair_outside_scope c s k (fetch_of m (address_on_page_of s.pc (pair_of s 0))) i rest seen
register_unchanged-by_op_outside_scope c (Inc r) s m i rest seen = register_unchanged-by_set_outside_scope c s.r r i ((register_of s r + 1) % 16) rest seen
register_unchanged-by_op_outside_scope c (Isz r w) s m i rest seen =
    let n = (register_of s r + 1) % 16 in
    register_of-cond (eqb n 0) (with_register s r n) (with_pc_on_page (with_register s r n) w) i (register_of s i) (register_unchanged-by_set_outside_scope c s.r r i n rest seen) (register_unchanged-by_set_outside_scope c s.r r i n rest seen)
register_unchanged-by_op_outside_scope c (Xch r) s m i rest seen = register_unchanged-by_set_outside_scope c s.r r i s.acc rest seen
register_unchanged-by_op_outside_scope c Daa s m i rest seen =
    register_of-cond (eqb s.cy 1 || nat_lt 9 s.acc) (record s { acc = (s.acc + 6) % 16; cy = cond (nat_lt 15 (s.acc + 6)) 1 s.cy }) s i (register_of s i) refl refl
register_unchanged-by_op_outside_scope c _ s m i rest seen = refl

bus_unchanged-by_op_outside_scope : (c : Scope) (op : Op) (s : Regs) (m : BusState) → changes c op ≡ false → c.chips ≡ true → bus_after op s m ≡ m
bus_unchanged-by_op_outside_scope c (Src k) s m rest seen = absurd (both_ways c.chips rest seen)
bus_unchanged-by_op_outside_scope c Wrm s m rest seen = absurd (both_ways c.chips rest seen)
bus_unchanged-by_op_outside_scope c Wmp s m rest seen = absurd (both_ways c.chips rest seen)
bus_unchanged-by_op_outside_scope c Wrr s m rest seen = absurd (both_ways c.chips rest seen)
bus_unchanged-by_op_outside_scope c Wr0 s m rest seen = absurd (both_ways c.chips rest seen)
bus_unchanged-by_op_outside_scope c Wr1 s m rest seen = absurd (both_ways c.chips rest seen)
bus_unchanged-by_op_outside_scope c Wr2 s m rest seen = absurd (both_ways c.chips rest seen)
bus_unchanged-by_op_outside_scope c Wr3 s m rest seen = absurd (both_ways c.chips rest seen)
bus_unchanged-by_op_outside_scope c _ s m rest seen = refl

cycle_agrees_in_scope-by_cases : (c : Scope) (s : TrackedMachine) (n : Counts) (b : Bool) (o : Option Op) → n.seen ≡ s.2.seen → n.elapsed ≡ s.2.elapsed → cycle_may_change_scope c (cond b None o) ≡ false →
    AgreesInScope c s (with_counts n (unwrap_or (cond b (Some (record s.0 { owed = 0 }, s.1)) (elim o as (λ _. Option (Regs × BusState)) [ Some op ↦ Some (effect op s.0 s.1) | None ↦ None ])) (machine_in s)))
cycle_agrees_in_scope-by_cases c s n true o unseen stopped rest = record { seen = unseen; elapsed = stopped; registers = λ r seen. refl; chips = λ seen. refl }
cycle_agrees_in_scope-by_cases c s n false None unseen stopped rest = record { seen = unseen; elapsed = stopped; registers = λ r seen. refl; chips = λ seen. refl }
cycle_agrees_in_scope-by_cases c s n false (Some op) unseen stopped rest = record {
  seen = unseen;
  elapsed = stopped;
  registers = λ r seen. register_unchanged-by_op_outside_scope c op (after_fetch op s.0) s.1 r rest seen;
  chips = λ seen. bus_unchanged-by_op_outside_scope c op s.0 s.1 rest seen;
}

cycle_agrees_in_scope : (w : Observer) (c : Scope) (s : TrackedMachine) → (cycled w s).2.seen ≡ s.2.seen → (cycled w s).2.elapsed ≡ s.2.elapsed → cycle_may_change_scope c (next_op s.0 s.1) ≡ false → AgreesInScope c s (cycled w s)
unfolding cycle_of
cycle_agrees_in_scope w c s unseen stopped rest = cycle_agrees_in_scope-by_cases c s (counts_after w s) (eqb s.0.owed 1) (instruction_at s.0 s.1) unseen stopped rest

-- ---- the property before and after a cycle

-- the property holds if `meets_none_without_mistakes` is true and the next cycle makes no mistake
-- in the scope
pub meets_none-if_no_mistake : (c : Scope) (never_lists : List (List Condition)) (t : TrackedMachine) → has_all_lists c never_lists ≡ true → meets_none_without_mistakes never_lists t ≡ true → makes_mistake_in_scope c t ≡ false → meets_none never_lists t ≡ true
meets_none-if_no_mistake c never_lists t has apart free = meets_none-equal_without_mistakes c t free never_lists has ∙ apart

-- Suppose that the property holds before a cycle that changes neither the stopwatch nor anything in
-- the scope, and sees no mark. `meets_none_without_mistakes` is then true after the cycle.
pub meets_none_without_mistakes-after_cycle : (w : Observer) (c : Scope) (never_lists : List (List Condition)) (s t : TrackedMachine) → has_all_lists c never_lists ≡ true → t.2.seen ≡ s.2.seen → t.2.elapsed ≡ s.2.elapsed → cycle_may_change_scope c (next_op s.0 s.1) ≡ false → meets_none never_lists s ≡ true → t ≡ cycled w s → meets_none_without_mistakes never_lists t ≡ true
meets_none_without_mistakes-after_cycle w c never_lists s t has unseen stopped rest property_holds e =
    let same = cycle_agrees_in_scope w c s (ap (λ (x : TrackedMachine). x.2.seen) (sym e) ∙ unseen) (ap (λ (x : TrackedMachine). x.2.elapsed) (sym e) ∙ stopped) rest in
    ap (meets_none_without_mistakes never_lists) e ∙ sym (keeps-same c s (cycled w s) same never_lists has) ∙ meets_none_without_mistakes-if_meets_none never_lists s property_holds

-- ---- the condition of an observer before and after a cycle

-- if a scope includes no mistakes, `makes_mistake_in_scope` is false
no_mistake_in_scope-if_not_included : (c : Scope) (t : TrackedMachine) → not c.mistakes ≡ true → makes_mistake_in_scope c t ≡ false
no_mistake_in_scope-if_not_included c t none = and_left c.mistakes (cycle_makes_mistake all_mistakes t) (not-true c.mistakes none)

meets_none-equal_in_scope : (c : Scope) (lists : List (List Condition)) (s t : TrackedMachine) → not c.mistakes ≡ true → has_all_lists c lists ≡ true → AgreesInScope c s t → meets_none lists s ≡ meets_none lists t
meets_none-equal_in_scope c lists s t none has same =
    meets_none-equal_without_mistakes c s (no_mistake_in_scope-if_not_included c s none) lists has
    ∙ keeps-same c s t same lists has
    ∙ sym (meets_none-equal_without_mistakes c t (no_mistake_in_scope-if_not_included c t none) lists has)

meets_none-unchanged_by_cycle : (w : Observer) (c : Scope) (lists : List (List Condition)) (s : TrackedMachine) → not c.mistakes ≡ true → has_all_lists c lists ≡ true → (cycled w s).2.seen ≡ s.2.seen → (cycled w s).2.elapsed ≡ s.2.elapsed → cycle_may_change_scope c (next_op s.0 s.1) ≡ false →
    meets_none lists s ≡ meets_none lists (cycled w s)
meets_none-unchanged_by_cycle w c lists s none has unseen stopped rest = meets_none-equal_in_scope c lists s (cycled w s) none has (cycle_agrees_in_scope w c s unseen stopped rest)

-- Suppose that the scope covers the observer's condition and includes no mistakes. A cycle that
-- changes neither the stopwatch nor anything in the scope, and sees no mark, then does not change
-- whether the condition holds.
pub condition_holds-unchanged_by_cycle : (a : PropertyConditions) (c : Scope) (s t : TrackedMachine) → (not c.mistakes && has_all_lists c a.opens) ≡ true → t.2.seen ≡ s.2.seen → t.2.elapsed ≡ s.2.elapsed → cycle_may_change_scope c (next_op s.0 s.1) ≡ false → t ≡ cycled (observer_of_property a) s →
    condition_holds_at (observer_of_property a) s ≡ condition_holds_at (observer_of_property a) t
condition_holds-unchanged_by_cycle a c s t covers unseen stopped rest e =
    let w = observer_of_property a in
    let parts = and_parts (not c.mistakes) (has_all_lists c a.opens) covers in
    let same = meets_none-unchanged_by_cycle w c a.opens s parts.0 parts.1 (ap (λ (x : TrackedMachine). x.2.seen) (sym e) ∙ unseen) (ap (λ (x : TrackedMachine). x.2.elapsed) (sym e) ∙ stopped) rest in
    ap not (sym (conditions-ignore a.opens s) ∙ same ∙ ap (meets_none a.opens) (sym e) ∙ conditions-ignore a.opens t)

-- ---- the beginning of an observer's stopwatch

-- holds if, for any two machines that agree in the scope, the stopwatch begins at both or at
-- neither
abbrev pub IsBeginningCovered : Observer → Scope → Type 0
IsBeginningCovered w c = (s t : TrackedMachine) → AgreesInScope c s t → begins_at w s ≡ begins_at w t

-- `IsBeginningCovered` holds if nothing begins the stopwatch, or if the scope covers the conditions
-- that begin it and includes no mistakes
pub beginning-covered : (a : PropertyConditions) (c : Scope) → (a.begins ≡ []) ⊎ ((not c.mistakes && has_all_lists c a.begins) ≡ true) → IsBeginningCovered (observer_of_property a) c
beginning-covered a c (inl none) s t same = ap (λ (lists : List (List Condition)). not (meets_none lists (without_levels s))) none ∙ ap (λ (lists : List (List Condition)). not (meets_none lists (without_levels t))) (sym none)
beginning-covered a c (inr covers) s t same =
    let parts = and_parts (not c.mistakes) (has_all_lists c a.begins) covers in
    ap not (sym (conditions-ignore a.begins s) ∙ meets_none-equal_in_scope c a.begins s t parts.0 parts.1 same ∙ conditions-ignore a.begins t)
