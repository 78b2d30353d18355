-- The value read determines the run, so one run for each value covers all input levels.
use Rattle.std.proofs.Common.{◌≡◌, ◌<◌, ◌≤◌, ◌%◌, ◌+◌, ◌-◌, ℕ, suc, Bool, true, false, not, ◌&&◌, cond, Option, Some, None, unwrap_or, length, nat_le, slice_get, subst, refl, sym, ap, ◌∙◌, arith, eqb}
use Rattle.std.specs.List.{sum}
use Rattle.std.proofs.lemmas.Bool.{le-leb}
use Rattle.mcs_model.specs.declared.regs.Regs.{Regs}
use Rattle.mcs_model.specs.declared.op.Op.{Op}
use Rattle.mcs_model.specs.declared.op.Op.TheVariants.{Jcn, Rdr}
use Rattle.mcs_model.specs.Boards.{board_fault_of, key_count}
use Rattle.mcs_model.specs.Validity.{AreBelow}
use Rattle.mcs_model.specs.Bus.{BusState, fetch_of}
use Rattle.mcs_model.specs.Levels.{port_of}
use Rattle.mcs_model.specs.Effect.{cycle_of, effect, instruction_at}
use Rattle.mcs_model.specs.Running.{Machine}
use Rattle.mcs_drive.specs.declared.marks.Mark.{Mark}
use Rattle.mcs_drive.specs.DrivenRuns.{FitsBoard, InputLimits, Levels, with_levels as under_machine, cycled as cycled_machine}
use Rattle.mcs_drive.specs.InputReads.{reads_input, value_read_by, without_levels as plain_machine}
use Rattle.mcs_drive.specs.Marks.{port_shows, shows}
use Rattle.mcs_drive.specs.TrackedMachine.{Observer, TrackedMachine, counts_after, machine_in, with_levels, without_levels, cycled, after_cycles, next_reads_input, value_read, seen_count_after, next_op, condition_holds_at, seen_mark_count, seen_after_reading, shows_next_mark}
use Rattle.mcs_drive.specs.RunsBetweenReads.{IgnoresLevels}
use Rattle.mcs_drive.proofs.LevelLemmas.{at_levels}
use Rattle.mcs_drive.proofs.SeenMarkLemmas.{mark_satisfies-false-if-all-false, seen_after_reading-with_levels, mark_satisfies}
use Rattle.mcs_drive.proofs.Tracking.{with_counts, cycled-with_levels-if-no-read, cycled-decided-by-value-read}
use Rattle.mcs_drive.proofs.ReadPoints.{cycle-board}
use Rattle.mcs_check.specs.ReadPoints.{Begins, CannotRead, ReadsTestPin, HasRead, Reaches, is_bit_subset, set_bits, unpressed_port_value, with_seen}
use Rattle.mcs_check.specs.MachineRules.{LeadsToIn}
use Rattle.mcs_check.proofs.PulledLines.{port_bits-at_most_keys_down}
use Rattle.mcs_check.proofs.Pulling.{port-lt, port_bits-superset_of_unpressed, port_bits-subset_at_highest_levels}
use Rattle.mcs_drive.proofs.EqualExceptLevels.{after_cycles-first, run-alike}

-- ---- one cycle

pub has_read-without_input : (w : Observer) (value : ℕ) (s : TrackedMachine) → board_fault_of s.1.board ≡ None → next_reads_input s ≡ false → HasRead w value s (cycled w s)
has_read-without_input w value s v quiet = λ l fit e. ap without_levels (cycled-with_levels-if-no-read w l s v quiet)

value_read_by_jcn-is_test_level : (m : Levels) (o : Option Op) (b : BusState) (c w : ℕ) → o ≡ Some (Jcn c w) → eqb (c % 2) 1 ≡ true → value_read_by o m b ≡ m.test
value_read_by_jcn-is_test_level m o b c w is odd = rw (is, odd) refl

-- a JCN that tests TEST has read `value` if TEST was at `value` in its cycle, whatever TEST is
-- afterwards
pub has_read-by_jcn : (w : Observer) (value : ℕ) (s t : TrackedMachine) → board_fault_of s.1.board ≡ None → Begins ReadsTestPin s → without_levels t ≡ without_levels (cycled w (s.0, record s.1 { test = value }, s.2)) → HasRead w value s t
has_read-by_jcn w value s t v begins e = λ l fit same.
    let m : Levels = record { keys = s.1.keys; test = value } in
    let is : instruction_at s.0 s.1 ≡ Some (Jcn begins.is.condition begins.is.word) = begins.next ∙ ap Some begins.is.is in
    cycled-decided-by-value-read w l m s v (same ∙ sym (value_read_by_jcn-is_test_level m (instruction_at s.0 s.1) s.1 begins.is.condition begins.is.word is begins.is.odd)) ∙ sym e

-- the machine with `n` in its accumulator
abbrev pub with_accumulator : ℕ → TrackedMachine → TrackedMachine
with_accumulator n s = (record s.0 { acc = n }, s.1, s.2)

accumulator_after_rdr-by_cases : (l : Levels) (s : Machine) (b : Bool) (o : Option Op) → b ≡ false → o ≡ Some Rdr →
    plain_machine (unwrap_or (cond b (Some (record s.0 { owed = 0 }, at_levels l s.1)) (elim o as (λ _. Option (Regs × BusState)) [ Some op ↦ Some (effect op s.0 (at_levels l s.1)) | None ↦ None ])) (under_machine l s))
    ≡ plain_machine (machine_in (with_accumulator (value_read_by o l s.1) (with_counts (record { calls = 0; elapsed = 0; seen = 0 }) (unwrap_or (cond b (Some (record s.0 { owed = 0 }, s.1)) (elim o as (λ _. Option (Regs × BusState)) [ Some op ↦ Some (effect op s.0 s.1) | None ↦ None ])) s))))
accumulator_after_rdr-by_cases l s b o free is = rw (free, is) refl

value_read_by_rdr-is_port_value : (l : Levels) (o : Option Op) (m : BusState) → o ≡ Some Rdr → value_read_by o l m ≡ port_of (at_levels l m)
value_read_by_rdr-is_port_value l o m is = rw is refl

-- an RDR has read `value` if, after its cycle, the accumulator is set to `value` and the count of
-- marks seen is set to the count for `value`
pub port-read : (w : Observer) (value : ℕ) (s : TrackedMachine) → Begins (λ op. op ≡ Rdr) s → HasRead w value s (with_accumulator value (with_seen (seen_after_reading w s value) (cycled w s)))
unfolding cycle_of fetch_of
port-read w value s begins = λ l fit same.
    let is : instruction_at s.0 s.1 ≡ Some Rdr = begins.next ∙ ap Some begins.is in
    let port = port_of (at_levels l s.1) in
    let read : port ≡ value = sym (value_read_by_rdr-is_port_value l (instruction_at s.0 s.1) s.1 is) ∙ same in
    ap (λ (n : ℕ). with_counts (record (counts_after w s) { seen = n }) (plain_machine (cycled_machine (under_machine l (machine_in s))))) (seen_after_reading-with_levels w l s port)
    ∙ ap (with_counts (record (counts_after w s) { seen = seen_after_reading w s port })) (accumulator_after_rdr-by_cases l (machine_in s) (eqb s.0.owed 1) (instruction_at s.0 s.1) begins.free is)
    ∙ ap (λ n. without_levels (with_accumulator n (with_seen (seen_after_reading w s port) (cycled w s)))) same
    ∙ ap (λ v. without_levels (with_accumulator value (with_seen (seen_after_reading w s v) (cycled w s)))) read

-- ---- marks

-- if no value that a cycle can read shows the next mark, the count of marks after the cycle is
-- `seen_count_after` without a shown mark
pub seen_count_correct-if_no_mark_shown : (w : Observer) (s : TrackedMachine) → ((value : ℕ) → shows_next_mark w s value ≡ false) → with_seen (seen_count_after (length w.marks) s.2.seen (condition_holds_at w s) false) (cycled w s) ≡ cycled w s
seen_count_correct-if_no_mark_shown w s unseen = ap (λ b. with_seen (seen_count_after (length w.marks) s.2.seen (condition_holds_at w s) b) (cycled w s)) (sym (unseen (port_of s.1)))

jcn_shows_no_mark : (b : Bool) (o : Option Op) (m : BusState) (value c w : ℕ) (mark : Mark) → o ≡ Some (Jcn c w) → shows (cond b None o) m value mark ≡ false
jcn_shows_no_mark true o m value c w mark is = refl
jcn_shows_no_mark false o m value c w mark is = rw is refl

jcn_shows_no_next_mark : (w : Observer) (s : TrackedMachine) (value : ℕ) → Begins ReadsTestPin s → shows_next_mark w s value ≡ false
jcn_shows_no_next_mark w s value begins =
    mark_satisfies-false-if-all-false (slice_get w.marks (seen_mark_count (length w.marks) s.2.seen)) (shows (next_op s.0 s.1) s.1 value)
    (λ mark. jcn_shows_no_mark (eqb s.0.owed 1) (instruction_at s.0 s.1) s.1 value begins.is.condition begins.is.word mark (begins.next ∙ ap Some begins.is.is))

-- a JCN that tests TEST shows no mark at any level of TEST
pub jcn_shows_no_next_mark-at_any_level : (w : Observer) (s : TrackedMachine) (level value : ℕ) → Begins ReadsTestPin s → shows_next_mark w (s.0, record s.1 { test = level }, s.2) value ≡ false
unfolding fetch_of
jcn_shows_no_next_mark-at_any_level w s level value begins =
    jcn_shows_no_next_mark w (s.0, record s.1 { test = level }, s.2) value (record { free = begins.free; op = begins.op; next = begins.next; is = begins.is })

rdr_shows-is_port_shows : (b : Bool) (o : Option Op) (m : BusState) (value : ℕ) (mark : Mark) → b ≡ false → o ≡ Some Rdr → shows (cond b None o) m value mark ≡ port_shows m value mark
rdr_shows-is_port_shows b o m value mark free is = rw (free, is) refl

-- an RDR that reads `value` shows the next mark if and only if `value` at its port shows this mark
pub rdr_shows_next_mark-is_port_shows : (w : Observer) (s : TrackedMachine) (value : ℕ) (mark : Mark) → Begins (λ op. op ≡ Rdr) s → slice_get w.marks (seen_mark_count (length w.marks) s.2.seen) ≡ Some mark → shows_next_mark w s value ≡ port_shows s.1 value mark
rdr_shows_next_mark-is_port_shows w s value mark begins is =
    ap (λ o. mark_satisfies o (shows (next_op s.0 s.1) s.1 value)) is
    ∙ rdr_shows-is_port_shows (eqb s.0.owed 1) (instruction_at s.0 s.1) s.1 value mark begins.free (begins.next ∙ ap Some begins.is)

pub none-left : (w : Observer) (s : TrackedMachine) (value : ℕ) → slice_get w.marks (seen_mark_count (length w.marks) s.2.seen) ≡ None → shows_next_mark w s value ≡ false
none-left w s value is = ap (λ o. mark_satisfies o (shows (next_op s.0 s.1) s.1 value)) is

-- ---- values that cannot be read

value_read_without_input-is_0 : (o : Option Op) (l : Levels) (m : BusState) → reads_input o ≡ false → value_read_by o l m ≡ 0
value_read_without_input-is_0 (Some Rdr) l m e = absurd (cc)
value_read_without_input-is_0 (Some (Jcn c w)) l m e = rw e refl
value_read_without_input-is_0 _ l m e = refl

reads_no_input-if_no_second_cycle : (b : Bool) (o : Option Op) → (not b && reads_input o) ≡ false → b ≡ false → reads_input o ≡ false
reads_no_input-if_no_second_cycle false o e h = e
reads_no_input-if_no_second_cycle true o e h = absurd (cc)

pub cannot_read-without_input : (limits : InputLimits) (value : ℕ) (s : TrackedMachine) → next_reads_input s ≡ false → eqb s.0.owed 1 ≡ false → (value ≡ 0 → ⊥) → CannotRead limits value s
cannot_read-without_input limits value s quiet free other = λ l allowed e. other (sym e ∙ value_read_without_input-is_0 (instruction_at s.0 s.1) l s.1 (reads_no_input-if_no_second_cycle (eqb s.0.owed 1) (instruction_at s.0 s.1) quiet free))

pub jcn_cannot_read-above_limit : (limits : InputLimits) (value : ℕ) (s : TrackedMachine) → Begins ReadsTestPin s → limits.test < value → CannotRead limits value s
jcn_cannot_read-above_limit limits value s begins large = λ l allowed e.
    let is : instruction_at s.0 s.1 ≡ Some (Jcn begins.is.condition begins.is.word) = begins.next ∙ ap Some begins.is.is in
    let level = value_read_by_jcn-is_test_level l (instruction_at s.0 s.1) s.1 begins.is.condition begins.is.word is begins.is.odd in
    let most = allowed.test in
    absurd (omega arith)

more-at-most-limit : (n least down together : ℕ) → n ≤ least + down → down ≤ together → n - least ≤ together
more-at-most-limit n least down together h k = omega arith

pub rdr_cannot_read-impossible_bits : (limits : InputLimits) (value : ℕ) (s : TrackedMachine) → Begins (λ op. op ≡ Rdr) s → AreBelow (key_count s.1.board) 2 s.1.keys → s.1.keys ≡ limits.keys →
    ((is_bit_subset (unpressed_port_value s.1) value && is_bit_subset value (port_of s.1)) && nat_le (set_bits value - set_bits (unpressed_port_value s.1)) limits.together) ≡ false → CannotRead limits value s
rdr_cannot_read-impossible_bits limits value s begins fit highest outside = λ l allowed e.
    let is : instruction_at s.0 s.1 ≡ Some Rdr = begins.next ∙ ap Some begins.is in
    let read : port_of (at_levels l s.1) ≡ value = sym (value_read_by_rdr-is_port_value l (instruction_at s.0 s.1) s.1 is) ∙ e in
    let below : is_bit_subset value (port_of s.1) ≡ true = ap (λ n. is_bit_subset n (port_of s.1)) (sym read) ∙ port_bits-subset_at_highest_levels limits l s.1 allowed fit highest in
    let above : is_bit_subset (unpressed_port_value s.1) value ≡ true = ap (λ n. is_bit_subset (unpressed_port_value s.1) n) (sym read) ∙ port_bits-superset_of_unpressed l s.1 in
    let few : set_bits (port_of (at_levels l s.1)) ≤ set_bits (unpressed_port_value s.1) + sum l.keys = port_bits-at_most_keys_down l s.1 in
    let down = allowed.together in
    let counted : set_bits value ≤ set_bits (unpressed_port_value s.1) + sum l.keys = subst (λ (n : ℕ). set_bits n ≤ set_bits (unpressed_port_value s.1) + sum l.keys) read few in
    let enough = le-leb _ _ (more-at-most-limit (set_bits value) (set_bits (unpressed_port_value s.1)) (sum l.keys) limits.together counted down) in
    let all : ((is_bit_subset (unpressed_port_value s.1) value && is_bit_subset value (port_of s.1)) && nat_le (set_bits value - set_bits (unpressed_port_value s.1)) limits.together) ≡ true = rw (above, below, enough) refl in
    absurd (cc)

level_or_0-lt : (b : Bool) (n : ℕ) → n < 2 → cond b n 0 < 16
level_or_0-lt true n h = omega arith
level_or_0-lt false n h = omega arith

-- every value that a cycle reads is below 16
value_read-lt_by_cases : (o : Option Op) (l : Levels) (m : BusState) → l.test < 2 → value_read_by o l m < 16
value_read-lt_by_cases (Some Rdr) l m h = port-lt (at_levels l m)
value_read-lt_by_cases (Some (Jcn c w)) l m h = level_or_0-lt (eqb (c % 2) 1) l.test h
value_read-lt_by_cases _ l m h = omega arith

pub value_read-lt : (l : Levels) (s : TrackedMachine) → FitsBoard s.1.board l → value_read l s < 16
value_read-lt l s fit = value_read-lt_by_cases (instruction_at s.0 s.1) l s.1 fit.test

-- ---- a run

next_reads_input-without_levels : (s : TrackedMachine) → next_reads_input (without_levels s) ≡ next_reads_input s
unfolding fetch_of
next_reads_input-without_levels s = refl

pub leads_to-if_read_and_reached : (w : Observer) (p : TrackedMachine → Bool) (n : ℕ) (a x b : TrackedMachine) (l : Levels) → IgnoresLevels p → board_fault_of a.1.board ≡ None → without_levels (cycled w (with_levels l a)) ≡ without_levels x → Reaches w p n x b → LeadsToIn w p (suc n) a b l
leads_to-if_read_and_reached w p n a x b l ignores v first reaches =
    let s = cycled w (with_levels l a) in
    let board : x.1.board ≡ a.1.board = sym (ap (λ (m : TrackedMachine). m.1.board) first) ∙ cycle-board w (with_levels l a) in
    let sound : board_fault_of x.1.board ≡ None = ap board_fault_of board ∙ v in
    let alike : (i : ℕ) → i ≤ n → without_levels (after_cycles w (suc i) (with_levels l a)) ≡ without_levels (after_cycles w i x) = λ i h.
    ap without_levels (after_cycles-first w i (with_levels l a)) ∙ sym (run-alike w i x s sound (sym first) (λ j k. reaches.quiet j (omega arith))) in (
      record {
        more = n;
        quiet = λ i h. sym (next_reads_input-without_levels (after_cycles w (suc i) (with_levels l a))) ∙ ap next_reads_input (alike i (omega arith)) ∙ next_reads_input-without_levels (after_cycles w i x) ∙ reaches.quiet i h;
        property_holds = λ i h. ignores (after_cycles w (suc i) (with_levels l a)) ∙ ap p (alike i h) ∙ sym (ignores (after_cycles w i x)) ∙ reaches.property_holds i h;
        same = alike n (omega arith) ∙ ap without_levels (sym reaches.at);
      },
      refl,
    )
