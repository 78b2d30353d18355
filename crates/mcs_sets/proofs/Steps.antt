-- The effect of one cycle on the machines that an entry covers.
use Rattle.std.proofs.Common.{◌≡◌, ◌≢◌, ◌<◌, ◌+◌, ◌*◌, ◌/◌, ◌%◌, ℕ, inl, inr, List, length, Bool, true, false, cond, Option, Some, None, unwrap_or, slice_index, nat_lt, refl, sym, ap, ◌∙◌, subst, arith, eqb}
use Rattle.std.specs.Prelude.{All}
use Rattle.std.proofs.lemmas.Bool.{cases_lt, cases_Bool, ne_eqb, lt-ltb, agree_below_at}
use Rattle.std.proofs.lemmas.List.{get_or_past}
use Rattle.mcs_model.specs.declared.board.BoardParts.{BoardParts}
use Rattle.mcs_model.specs.declared.regs.Regs.{Regs}
use Rattle.mcs_model.specs.declared.op.Op.{Op}
use Rattle.mcs_model.specs.declared.op.Op.TheVariants.{Jcn, Src, Fin, Jin, Inc, Isz, Add, Sub, Ld, Xch, Sbm, Rdm, Rdr, Adm, Rd0, Rd1, Rd2, Rd3}
use Rattle.mcs_model.specs.Bus.{BusState, ram_of, status_of}
use Rattle.mcs_model.specs.Effect.{effect, cycle_of, instruction_at}
use Rattle.mcs_model.specs.Levels.{port_of}
use Rattle.mcs_model.specs.Registers.{register_of}
use Rattle.mcs_drive.specs.TrackedMachine.{TrackedMachine, machine_in, cycled, calls_after, elapsed_after, seen_after, counts_after, no_observer}
use Rattle.mcs_sets.proofs.Ports.{port-below-16}
use Rattle.mcs_sets.specs.declared.entries.Entry.{Entry}
use Rattle.mcs_sets.specs.declared.landing.Choice.{Choice}
use Rattle.mcs_sets.specs.declared.landing.Landing.{Landing}
use Rattle.mcs_sets.specs.Entries.{contains, acc_values_of, value_at, Covers, IsCovered}
use Rattle.mcs_sets.specs.Closure.{IsBusOf}
use Rattle.mcs_sets.specs.Landing.{StandInFits, op_at, first_operand_of, second_operand_of, first_operand_set, second_operand_set, IsValidOp, CallsAllow, landing, machine_after, choice_of, LandingDescribes, CoversLanding}
use Rattle.mcs_sets.specs.Covering.{AllChoicesCovered, AllowsChoice, LandingsSuffice, IsChoiceCovered, choice_at}
use Rattle.mcs_sets.proofs.Memory.{member-below-16}
use Rattle.mcs_sets.proofs.Running.{instruction_at-is-op_at}
use Rattle.mcs_sets.proofs.Lands.{landing-is-correct}

-- ---- an entry that covers a landing covers the machine that the landing describes

pub covers-machine-after-landing : (e to : Entry) (s t : TrackedMachine) (o : Landing) → Covers e s → LandingDescribes s t o → CoversLanding e to o → Covers to t
covers-machine-after-landing e to s t o is l k = record {
  at = l.pc ∙ sym k.at;
  calls = l.calls ∙ sym k.calls;
  ret = λ j h inside. l.ret j h (subst (λ n. j < n) k.calls inside) ∙ sym (k.ret j h inside);
  acc = ap (λ n. contains (acc_values_of to n) t.0.acc) l.cy ∙ ap (contains (acc_values_of to o.regs.cy)) l.acc ∙ k.acc;
  locations = λ j h. ap (contains (slice_index to.sets j)) (l.locations j h) ∙ k.locations j h (value_at s j) (is.locations j h);
  carry = subst (λ n. n < 2) (sym l.cy) k.carry;
  registers = l.registers;
  banks = l.banks;
}

-- ---- an entry allows the choices of its machines

register-value-allowed : (e : Entry) (s : TrackedMachine) (r : ℕ) → r < 16 → Covers e s → contains (slice_index e.sets r) (register_of s.0 r) ≡ true
register-value-allowed e s r small is =
    let not_16 : r ≢ 16 = λ z. omega arith in
    let is_not_16 : eqb r 16 ≡ false = ne_eqb r 16 not_16 in
    let lt : nat_lt r 16 ≡ true = lt-ltb r 16 small in
    let r_in_range : r < 26 = omega arith in
    let value_is_register : value_at s r ≡ register_of s.0 r = rw (is_not_16, lt) refl in
    ap (contains (slice_index e.sets r)) (sym value_is_register) ∙ is.locations r r_in_range

full-set-has-each-nibble : (n : ℕ) → n < 16 → contains 65535 n ≡ true
full-set-has-each-nibble n h = agree_below_at (contains 65535) (λ _. true) 16 n refl h

level-set-has-each-level : (n : ℕ) → n < 2 → contains 3 n ≡ true
level-set-has-each-level n h = agree_below_at (contains 3) (λ _. true) 2 n refl h

element-below-16 : (l : List ℕ) (k : ℕ) → All (λ n. n < 16) l → slice_index l k < 16
element-below-16 l k h = elim (cases_lt k (length l)) [
  | inl inside ↦ h k 0 inside
  | inr past ↦ let zero_past_end : slice_index l k ≡ 0 = get_or_past l k 0 past in omega arith
]

ram_of-below-16 : (m : BusState) (bank : ℕ) → All (λ n. n < 16) m.ram → ram_of m bank < 16
unfolding ram_of
ram_of-below-16 m bank h = element-below-16 m.ram _ h

status_of-below-16 : (m : BusState) (bank k : ℕ) → All (λ n. n < 16) m.status → status_of m bank k < 16
unfolding status_of
status_of-below-16 m bank k h = element-below-16 m.status _ h

first-operand-allowed : (board : BoardParts) (rom : List ℕ) (op : Op) (e : Entry) (s : TrackedMachine) → IsValidOp op → IsBusOf board rom s.1 → Covers e s → contains (first_operand_set op e) (first_operand_of op s.0 s.1) ≡ true
first-operand-allowed board rom (Src k) e s small of is = register-value-allowed e s (2 * k) (omega arith) is
first-operand-allowed board rom (Fin k) e s small of is = register-value-allowed e s 0 (omega arith) is
first-operand-allowed board rom (Jin k) e s small of is = register-value-allowed e s (2 * k) (omega arith) is
first-operand-allowed board rom (Inc r) e s small of is = register-value-allowed e s r small is
first-operand-allowed board rom (Isz r b) e s small of is = register-value-allowed e s r small is
first-operand-allowed board rom (Add r) e s small of is = register-value-allowed e s r small is
first-operand-allowed board rom (Sub r) e s small of is = register-value-allowed e s r small is
first-operand-allowed board rom (Ld r) e s small of is = register-value-allowed e s r small is
first-operand-allowed board rom (Xch r) e s small of is = register-value-allowed e s r small is
first-operand-allowed board rom Sbm e s small of is = full-set-has-each-nibble (ram_of s.1 s.0.dcl) (ram_of-below-16 s.1 s.0.dcl of.ram)
first-operand-allowed board rom Rdm e s small of is = full-set-has-each-nibble (ram_of s.1 s.0.dcl) (ram_of-below-16 s.1 s.0.dcl of.ram)
first-operand-allowed board rom Adm e s small of is = full-set-has-each-nibble (ram_of s.1 s.0.dcl) (ram_of-below-16 s.1 s.0.dcl of.ram)
first-operand-allowed board rom Rdr e s small of is = full-set-has-each-nibble (port_of s.1) (port-below-16 s.1)
first-operand-allowed board rom Rd0 e s small of is = full-set-has-each-nibble (status_of s.1 s.0.dcl 0) (status_of-below-16 s.1 s.0.dcl 0 of.status)
first-operand-allowed board rom Rd1 e s small of is = full-set-has-each-nibble (status_of s.1 s.0.dcl 1) (status_of-below-16 s.1 s.0.dcl 1 of.status)
first-operand-allowed board rom Rd2 e s small of is = full-set-has-each-nibble (status_of s.1 s.0.dcl 2) (status_of-below-16 s.1 s.0.dcl 2 of.status)
first-operand-allowed board rom Rd3 e s small of is = full-set-has-each-nibble (status_of s.1 s.0.dcl 3) (status_of-below-16 s.1 s.0.dcl 3 of.status)
first-operand-allowed board rom _ e s small of is = refl

second-operand-allowed : (board : BoardParts) (rom : List ℕ) (op : Op) (e : Entry) (s : TrackedMachine) → IsValidOp op → IsBusOf board rom s.1 → Covers e s → contains (second_operand_set op e) (second_operand_of op s.0 s.1) ≡ true
second-operand-allowed board rom (Jcn c b) e s small of is = level-set-has-each-level s.1.test of.test
second-operand-allowed board rom (Fin k) e s small of is = register-value-allowed e s 1 (omega arith) is
second-operand-allowed board rom (Jin k) e s small of is = register-value-allowed e s (2 * k + 1) (omega arith) is
second-operand-allowed board rom _ e s small of is = refl

pub own-choice-allowed : (board : BoardParts) (rom : List ℕ) (op : Op) (e : Entry) (s : TrackedMachine) → IsValidOp op → IsBusOf board rom s.1 → Covers e s → AllowsChoice e op (choice_of op s)
own-choice-allowed board rom op e s valid of is = record {
  acc = is.acc;
  bank = is.locations 16 (omega arith);
  first_operand = first-operand-allowed board rom op e s valid of is;
  second_operand = second-operand-allowed board rom op e s valid of is;
}

-- ---- the cycle

cycle-result-if-not-owed : (b : Bool) (o : Option Op) (op : Op) (s : TrackedMachine) → b ≡ false → o ≡ Some op →
    (unwrap_or (cond b (Some (record s.0 { owed = 0 }, s.1)) (elim o as (λ _. Option (Regs × BusState)) [ Some op ↦ Some (effect op s.0 s.1) | None ↦ None ])) (machine_in s)) ≡ effect op s.0 s.1
cycle-result-if-not-owed b o op s e f = rw (e, f) refl

calls_after-if-not-owed : (b : Bool) (o : Option Op) (op : Op) (n : ℕ) → b ≡ false → o ≡ Some op → calls_after (cond b None o) n ≡ calls_after (Some op) n
calls_after-if-not-owed b o op n e f = rw (e, f) refl

pub cycled-is-machine_after : (op : Op) (s : TrackedMachine) → eqb s.0.owed 1 ≡ false → instruction_at s.0 s.1 ≡ Some op → cycled no_observer s ≡ machine_after op s
unfolding cycle_of
cycled-is-machine_after op s free next =
    let cycle_result = cycle-result-if-not-owed (eqb s.0.owed 1) (instruction_at s.0 s.1) op s free next in
    let opened = calls_after-if-not-owed (eqb s.0.owed 1) (instruction_at s.0 s.1) op s.2.calls free next in
    ap (λ (m : Regs × BusState). (m.0, m.1, counts_after no_observer s)) cycle_result
    ∙ ap (λ (n : ℕ). ((effect op s.0 s.1).0, (effect op s.0 s.1).1, record s.2 { calls = n; elapsed = elapsed_after no_observer s; seen = seen_after no_observer s })) opened

-- a machine after a second cycle, which does no work
abbrev after_second_cycle : TrackedMachine → TrackedMachine
after_second_cycle s = (record s.0 { owed = 0 }, s.1, record s.2 { elapsed = elapsed_after no_observer s; seen = seen_after no_observer s })

cycle-result-if-owed : (b : Bool) (o : Option Op) (s : TrackedMachine) → b ≡ true →
    (unwrap_or (cond b (Some (record s.0 { owed = 0 }, s.1)) (elim o as (λ _. Option (Regs × BusState)) [ Some op ↦ Some (effect op s.0 s.1) | None ↦ None ])) (machine_in s)) ≡ machine_in (after_second_cycle s)
cycle-result-if-owed b o s e = rw e refl

calls_after-if-owed : (b : Bool) (o : Option Op) (n : ℕ) → b ≡ true → calls_after (cond b None o) n ≡ n
calls_after-if-owed b o n e = rw e refl

cycled-is-after_second_cycle : (s : TrackedMachine) → eqb s.0.owed 1 ≡ true → cycled no_observer s ≡ after_second_cycle s
unfolding cycle_of
cycled-is-after_second_cycle s owed =
    ap (λ (m : Regs × BusState). (m.0, m.1, counts_after no_observer s)) (cycle-result-if-owed (eqb s.0.owed 1) (instruction_at s.0 s.1) s owed)
    ∙ ap (λ (n : ℕ). ((after_second_cycle s).0, (after_second_cycle s).1, record s.2 { calls = n; elapsed = elapsed_after no_observer s; seen = seen_after no_observer s })) (calls_after-if-owed (eqb s.0.owed 1) (instruction_at s.0 s.1) s.2.calls owed)

covered-after-second-cycle : (e : Entry) (s : TrackedMachine) → Covers e s → Covers e (after_second_cycle s)
covered-after-second-cycle e s is = record { at = is.at; calls = is.calls; ret = is.ret; acc = is.acc; locations = is.locations; carry = is.carry; registers = is.registers; banks = is.banks }

-- ---- the law

-- the choice that consists of a machine's values is `choice_at` of these values, with `flags` equal
-- to the accumulator plus 16 times the carry
choice_of-is-choice_at : (op : Op) (s : TrackedMachine) → s.0.acc < 16 → s.0.cy < 2 → choice_of op s ≡ choice_at (s.0.acc + 16 * s.0.cy) s.0.dcl (first_operand_of op s.0 s.1) (second_operand_of op s.0 s.1)
choice_of-is-choice_at op s small carry =
    let acc : s.0.acc ≡ (s.0.acc + 16 * s.0.cy) % 16 = omega arith in
    let cy : s.0.cy ≡ (s.0.acc + 16 * s.0.cy) / 16 % 2 = omega arith in
    ap (λ (n : ℕ). let c : Choice = record { acc = n; cy = s.0.cy; bank = s.0.dcl; first_operand = first_operand_of op s.0 s.1; second_operand = second_operand_of op s.0 s.1 } in c) acc
    ∙ ap (λ (n : ℕ). let c : Choice = record { acc = (s.0.acc + 16 * s.0.cy) % 16; cy = n; bank = s.0.dcl; first_operand = first_operand_of op s.0 s.1; second_operand = second_operand_of op s.0 s.1 } in c) cy

own-choice-covered : (board : BoardParts) (rom : List ℕ) (entries : List Entry) (op : Op) (e : Entry) (s : TrackedMachine) → IsValidOp op → IsBusOf board rom s.1 → Covers e s → AllChoicesCovered rom board entries e op → IsChoiceCovered rom board entries e op (choice_of op s)
own-choice-covered board rom entries op e s valid of is all =
    let allowed = own-choice-allowed board rom op e s valid of is in
    let acc_below_16 = member-below-16 (acc_values_of e s.0.cy) s.0.acc allowed.acc in
    let carry = is.carry in
    let equal_choices = choice_of-is-choice_at op s acc_below_16 carry in
    let bank = member-below-16 (slice_index e.sets 16) s.0.dcl allowed.bank in
    let first = member-below-16 (first_operand_set op e) (first_operand_of op s.0 s.1) allowed.first_operand in
    let second = member-below-16 (second_operand_set op e) (second_operand_of op s.0 s.1) allowed.second_operand in
    subst (IsChoiceCovered rom board entries e op) (sym equal_choices)
    (all (s.0.acc + 16 * s.0.cy) s.0.dcl (first_operand_of op s.0 s.1) (second_operand_of op s.0 s.1) (omega arith) bank first second (subst (AllowsChoice e op) equal_choices allowed))

stand-in-fits-machine : (board : BoardParts) (rom : List ℕ) (op : Op) (e : Entry) (s : TrackedMachine) (bus : BusState) → IsValidOp op → CallsAllow op e.calls → IsBusOf board rom s.1 → Covers e s → s.0.dcl < 8 → bus.rom ≡ rom → bus.board ≡ board → StandInFits op s bus e.ret
stand-in-fits-machine board rom op e s bus valid calls of is few same_rom same_board = record {
  valid = valid;
  calls = subst (CallsAllow op) (sym is.calls) calls;
  registers = is.registers;
  banks = is.banks;
  bank = few;
  rom = same_rom ∙ sym of.rom;
  board = same_board ∙ sym of.board;
  test = of.test;
  ret = λ k h inside. is.ret k h (subst (λ n. k < n) is.calls inside);
  nibbles = λ k h. member-below-16 (slice_index e.sets k) (register_of s.0 k) (register-value-allowed e s k h is);
}

pub covered-after-instruction : (board : BoardParts) (rom : List ℕ) (entries : List Entry) (op : Op) (e : Entry) (s : TrackedMachine) → IsValidOp op → CallsAllow op e.calls → op_at rom e.at ≡ Some op → IsBusOf board rom s.1 → Covers e s → eqb s.0.owed 1 ≡ false → AllChoicesCovered rom board entries e op → IsCovered entries (cycled no_observer s)
covered-after-instruction board rom entries op e s valid calls op_in_rom of is free all =
    let covered_choice = own-choice-covered board rom entries op e s valid of is all in
    let next : instruction_at s.0 s.1 ≡ Some op = instruction_at-is-op_at s.0 s.1 ∙ ap (λ (l : List ℕ). op_at l s.0.pc) of.rom ∙ ap (op_at rom) is.at ∙ op_in_rom in
    let fit = stand-in-fits-machine board rom op e s covered_choice.bus valid calls of is covered_choice.bank_exists covered_choice.same_rom covered_choice.same_board in
    let l : LandingDescribes s (machine_after op s) (landing op e.at e.ret e.calls covered_choice.bus (choice_of op s)) =
    subst (λ (n : ℕ). LandingDescribes s (machine_after op s) (landing op e.at e.ret n covered_choice.bus (choice_of op s))) is.calls
    (subst (λ (n : ℕ). LandingDescribes s (machine_after op s) (landing op n e.ret s.2.calls covered_choice.bus (choice_of op s))) is.at (landing-is-correct op s covered_choice.bus e.ret fit)) in
    subst (IsCovered entries) (sym (cycled-is-machine_after op s free next))
    (covered_choice.covered.target, covered_choice.covered.target_is_entry, covers-machine-after-landing e covered_choice.covered.target s (machine_after op s) (landing op e.at e.ret e.calls covered_choice.bus (choice_of op s)) is l covered_choice.covered.covers_landing)

pub landings-suffice : LandingsSuffice
landings-suffice board rom entries op e valid calls op_in_rom all = λ s of is among.
    elim (cases_Bool (eqb s.0.owed 1)) [
      | inl owed ↦ subst (IsCovered entries) (sym (cycled-is-after_second_cycle s owed)) (e, among, covered-after-second-cycle e s is)
      | inr free ↦ covered-after-instruction board rom entries op e s valid calls op_in_rom of is free all
    ]
