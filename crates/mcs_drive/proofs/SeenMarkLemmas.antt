-- The input levels affect the marks that a cycle shows only through the value that the cycle reads.
use Rattle.std.proofs.Common.{◌≡◌, ℕ, Bool, true, false, not, cond, ◌&&◌, Option, Some, None, length, slice_get, refl, sym, ap, ◌∙◌, eqb}
use Rattle.mcs_model.specs.declared.board.KeyMatrix.{KeyMatrix}
use Rattle.mcs_model.specs.declared.board.Line.{Line}
use Rattle.mcs_model.specs.declared.board.Line.TheVariants.{Rom}
use Rattle.mcs_model.specs.declared.op.Op.{Op}
use Rattle.mcs_model.specs.declared.op.Op.TheVariants.{Rdr}
use Rattle.mcs_model.specs.Boards.{has_key}
use Rattle.mcs_model.specs.Bus.{BusState, fetch_of}
use Rattle.mcs_model.specs.Effect.{instruction_at}
use Rattle.mcs_model.specs.Levels.{port_of}
use Rattle.mcs_drive.specs.declared.marks.Mark.{Mark}
use Rattle.mcs_drive.specs.DrivenRuns.{Levels}
use Rattle.mcs_drive.specs.InputReads.{reads_input, value_read_by}
use Rattle.mcs_drive.specs.Marks.{column_line, line_shows, shows}
use Rattle.mcs_drive.specs.TrackedMachine.{Observer, TrackedMachine, value_read, next_reads_input, seen_count_after, condition_holds_at, seen_mark_count, seen_after, seen_after_reading, shows_next_mark, with_levels}
use Rattle.mcs_drive.proofs.LevelLemmas.{at_levels}

-- true if `o` contains a mark for which `p` is true
abbrev pub mark_satisfies : Option Mark → (Mark → Bool) → Bool
mark_satisfies o p = elim o [ Some mark ↦ p mark | None ↦ false ]

pub mark_satisfies-false-if-all-false : (o : Option Mark) (p : Mark → Bool) → ((mark : Mark) → p mark ≡ false) → mark_satisfies o p ≡ false
mark_satisfies-false-if-all-false None p h = refl
mark_satisfies-false-if-all-false (Some mark) p h = h mark

mark_satisfies-for-equal-predicates : (o : Option Mark) (p q : Mark → Bool) → ((mark : Mark) → p mark ≡ q mark) → mark_satisfies o p ≡ mark_satisfies o q
mark_satisfies-for-equal-predicates None p q h = refl
mark_satisfies-for-equal-predicates (Some mark) p q h = h mark

-- ---- a cycle that reads no port

op-without-read-shows-no-mark : (o : Option Op) (m : BusState) (value : ℕ) (mark : Mark) → reads_input o ≡ false → shows o m value mark ≡ false
op-without-read-shows-no-mark (Some Rdr) m value mark e = absurd (cc)
op-without-read-shows-no-mark _ m value mark e = refl

cycle-without-read-shows-no-mark : (b : Bool) (o : Option Op) (m : BusState) (value : ℕ) (mark : Mark) → (not b && reads_input o) ≡ false → shows (cond b None o) m value mark ≡ false
cycle-without-read-shows-no-mark true o m value mark e = refl
cycle-without-read-shows-no-mark false o m value mark e = op-without-read-shows-no-mark o m value mark e

pub shows_next_mark-false-if-no-read : (w : Observer) (s : TrackedMachine) (value : ℕ) → next_reads_input s ≡ false → shows_next_mark w s value ≡ false
shows_next_mark-false-if-no-read w s value quiet =
    mark_satisfies-false-if-all-false (slice_get w.marks (seen_mark_count (length w.marks) s.2.seen)) (shows (cond (eqb s.0.owed 1) None (instruction_at s.0 s.1)) s.1 value)
    (λ mark. cycle-without-read-shows-no-mark (eqb s.0.owed 1) (instruction_at s.0 s.1) s.1 value mark quiet)

seen_after_reading-if-no-read : (w : Observer) (s : TrackedMachine) (value : ℕ) → next_reads_input s ≡ false → seen_after_reading w s value ≡ seen_count_after (length w.marks) s.2.seen (condition_holds_at w s) false
seen_after_reading-if-no-read w s value quiet = ap (seen_count_after (length w.marks) s.2.seen (condition_holds_at w s)) (shows_next_mark-false-if-no-read w s value quiet)

-- after a cycle that reads no input, the count of marks is the same at all input levels
pub seen_after-with_levels-if-no-read : (w : Observer) (l : Levels) (s : TrackedMachine) → next_reads_input s ≡ false → seen_after w (with_levels l s) ≡ seen_after w s
unfolding fetch_of
seen_after-with_levels-if-no-read w l s quiet = rw (seen_after_reading-if-no-read w (with_levels l s) (port_of (at_levels l s.1)) quiet, seen_after_reading-if-no-read w s (port_of s.1) quiet) refl

-- ---- the value that is read

shown-mark-decided-by-value-read : (o : Option Op) (l l' : Levels) (m : BusState) (mark : Mark) → value_read_by o l m ≡ value_read_by o l' m → shows o m (port_of (at_levels l m)) mark ≡ shows o m (port_of (at_levels l' m)) mark
shown-mark-decided-by-value-read (Some Rdr) l l' m mark e = ap (λ value. shows (Some Rdr) m value mark) e
shown-mark-decided-by-value-read _ l l' m mark e = refl

next-shown-mark-decided-by-value-read : (b : Bool) (o : Option Op) (l l' : Levels) (m : BusState) (mark : Mark) → value_read_by o l m ≡ value_read_by o l' m → shows (cond b None o) m (port_of (at_levels l m)) mark ≡ shows (cond b None o) m (port_of (at_levels l' m)) mark
next-shown-mark-decided-by-value-read true o l l' m mark e = refl
next-shown-mark-decided-by-value-read false o l l' m mark e = shown-mark-decided-by-value-read o l l' m mark e

-- ---- levels

line_shows-at_levels : (l : Levels) (s : BusState) (m : KeyMatrix) (value : ℕ) (mark : Mark) (line : Line) → line_shows (at_levels l s) m value mark line ≡ line_shows s m value mark line
line_shows-at_levels l s m value mark (Rom chip k) = refl
line_shows-at_levels l s m value mark _ = refl

key-matrix-shows-at_levels : (l : Levels) (s : BusState) (value : ℕ) (mark : Mark) (o : Option KeyMatrix) →
    elim o as (λ _. Bool) [ Some m ↦ line_shows (at_levels l s) m value mark (column_line m mark.column) | None ↦ false ]
    ≡ elim o as (λ _. Bool) [ Some m ↦ line_shows s m value mark (column_line m mark.column) | None ↦ false ]
key-matrix-shows-at_levels l s value mark None = refl
key-matrix-shows-at_levels l s value mark (Some m) = line_shows-at_levels l s m value mark (column_line m mark.column)

shows-at_levels : (l : Levels) (o : Option Op) (s : BusState) (value : ℕ) (mark : Mark) → shows o (at_levels l s) value mark ≡ shows o s value mark
shows-at_levels l (Some Rdr) s value mark = ap (λ b. has_key s.board mark.row mark.column && b) (key-matrix-shows-at_levels l s value mark s.board.keys)
shows-at_levels l _ s value mark = refl

-- the marks that a read shows depend on the value read, not on the input levels
pub seen_after_reading-with_levels : (w : Observer) (l : Levels) (s : TrackedMachine) (value : ℕ) → seen_after_reading w (with_levels l s) value ≡ seen_after_reading w s value
unfolding fetch_of
seen_after_reading-with_levels w l s value =
    let op = cond (eqb s.0.owed 1) None (instruction_at s.0 s.1) in
    ap (seen_count_after (length w.marks) s.2.seen (condition_holds_at w s))
    (mark_satisfies-for-equal-predicates (slice_get w.marks (seen_mark_count (length w.marks) s.2.seen)) (shows op (at_levels l s.1) value) (shows op s.1 value) (shows-at_levels l op s.1 value))

seen_after_reading-decided-by-value-read : (w : Observer) (l l' : Levels) (s : TrackedMachine) → value_read l s ≡ value_read l' s → seen_after_reading w s (port_of (at_levels l s.1)) ≡ seen_after_reading w s (port_of (at_levels l' s.1))
seen_after_reading-decided-by-value-read w l l' s same =
    let op = cond (eqb s.0.owed 1) None (instruction_at s.0 s.1) in
    ap (seen_count_after (length w.marks) s.2.seen (condition_holds_at w s))
    (mark_satisfies-for-equal-predicates (slice_get w.marks (seen_mark_count (length w.marks) s.2.seen)) (shows op s.1 (port_of (at_levels l s.1))) (shows op s.1 (port_of (at_levels l' s.1)))
    (λ mark. next-shown-mark-decided-by-value-read (eqb s.0.owed 1) (instruction_at s.0 s.1) l l' s.1 mark same))

-- if a cycle reads the same value at two sets of input levels, the count of marks after the cycle
-- is the same at both
pub seen_after-decided-by-value-read : (w : Observer) (l l' : Levels) (s : TrackedMachine) → value_read l s ≡ value_read l' s → seen_after w (with_levels l s) ≡ seen_after w (with_levels l' s)
seen_after-decided-by-value-read w l l' s same =
    seen_after_reading-with_levels w l s (port_of (at_levels l s.1)) ∙ seen_after_reading-decided-by-value-read w l l' s same ∙ sym (seen_after_reading-with_levels w l' s (port_of (at_levels l' s.1)))
