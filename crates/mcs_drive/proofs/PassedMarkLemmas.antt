-- If an observer has seen a mark, the key of the mark was at the mark's level.
use Rattle.std.proofs.Common.{◌≡◌, ℕ, zero, suc, ◌+◌, ◌-◌, ◌<◌, ◌≤◌, Bool, true, false, cond, ◌&&◌, List, [], ◌∷◌, ◌++◌, Option, Some, None, inl, inr, length, nat_lt, slice_get, take, refl, sym, ap, ◌∙◌, subst, arith, add-one}
use Rattle.std.proofs.Math.Seq.{take-suc}
use Rattle.std.proofs.lemmas.Bool.{and_cases, cases_lt, le-ltb, lt-ltb, ltb-false, not-true}
use Rattle.std.proofs.lemmas.List.{take_all}
use Rattle.std.proofs.lemmas.Option.{get_or_from_slice_get, slice_get_within}
use Rattle.mcs_model.specs.declared.board.BoardParts.{BoardParts}
use Rattle.mcs_model.specs.Boards.{board_fault_of}
use Rattle.mcs_model.specs.Levels.{port_of}
use Rattle.mcs_drive.specs.declared.marks.Mark.{Mark}
use Rattle.mcs_drive.specs.DrivenRuns.{AreInputsAllowed, FitsBoard, InputLimits, Levels}
use Rattle.mcs_drive.specs.Marks.{IsAtMark, PassesMarks, shows}
use Rattle.mcs_drive.specs.Opening.{BecomesTrue, holds_only_after_marks}
use Rattle.mcs_drive.specs.TrackedMachine.{Observer, TrackedMachine, Holds, driven, seen_count_after, next_op, condition_holds_at, seen_mark_count, shows_next_mark, with_levels}
use Rattle.mcs_drive.proofs.SeenMarkLemmas.{mark_satisfies}
use Rattle.mcs_drive.proofs.ShownMarkLemmas.{at-mark-if-read-shows-mark}
use Rattle.mcs_drive.proofs.ReadPoints.{cycle-board}

-- ---- keys at marks, in order

-- marks that the keys passed before moment `b` are also passed before the next moment
passed-marks-stay-passed : (board : BoardParts) (f : ℕ → Levels) (marks : List Mark) (a b : ℕ) → PassesMarks board f marks a b → PassesMarks board f marks a (suc b)
passed-marks-stay-passed board f [] a b h = tt
passed-marks-stay-passed board f (mark ∷ marks) a b h = (h.0, h.1, (let before = h.2 in omega arith), h.3, passed-marks-stay-passed board f marks (suc h.0) b h.4)

-- if the keys passed `marks` before moment `b` and are at `mark` at moment `b`, they passed all
-- these marks before the next moment
passed-marks-with-next-mark : (board : BoardParts) (f : ℕ → Levels) (marks : List Mark) (mark : Mark) (a b : ℕ) → a ≤ b → IsAtMark board (f b) mark → PassesMarks board f marks a b → PassesMarks board f (marks ++ mark ∷ []) a (suc b)
passed-marks-with-next-mark board f [] mark a b order at h = (b, order, omega arith, at, tt)
passed-marks-with-next-mark board f (first ∷ marks) mark a b order at h =
    (h.0, h.1, (let before = h.2 in omega arith), h.3, passed-marks-with-next-mark board f marks mark (suc h.0) b (let before = h.2 in omega arith) at h.4)

-- ---- the count of marks

seen_mark_count-of-zero : (n : ℕ) → seen_mark_count n 0 ≡ 0
seen_mark_count-of-zero n = rw (le-ltb n 0 (omega arith)) refl

seen_mark_count-if-at-most : (n seen : ℕ) → seen ≤ n → seen_mark_count n seen ≡ seen
seen_mark_count-if-at-most n seen h = rw (le-ltb n seen h) refl

seen_mark_count-after-condition : (n : ℕ) → seen_mark_count n (n + 1) ≡ 0
seen_mark_count-after-condition n = rw (lt-ltb n (n + 1) (omega arith)) refl

seen_mark_count-le-for-test : (b : Bool) (n seen : ℕ) → nat_lt n seen ≡ b → cond b 0 seen ≤ n
seen_mark_count-le-for-test true n seen e = omega arith
seen_mark_count-le-for-test false n seen e = ltb-false n seen e

seen_mark_count-le : (n seen : ℕ) → seen_mark_count n seen ≤ n
seen_mark_count-le n seen = seen_mark_count-le-for-test (nat_lt n seen) n seen refl

-- Holds if the keys were at the seen marks, in order, at moments that are at least `a` and below
-- `i`. If `a` is below `i`, the count `seen` must also be at most the number of marks.
record SeenMarksPassed (board : BoardParts) (f : ℕ → Levels) (marks : List Mark) (a i seen : ℕ) : Type 0 where
  passed : PassesMarks board f (take (seen_mark_count (length marks) seen) marks) a i
  count_at_most : a < i → seen ≤ length marks

-- if the condition does not hold before a cycle, `SeenMarksPassed` still holds after the cycle
seen-marks-passed-after-cycle : (board : BoardParts) (f : ℕ → Levels) (marks : List Mark) (a i seen : ℕ) → a ≤ i → PassesMarks board f (take (seen_mark_count (length marks) seen) marks) a i →
    (o : Option Mark) (p : Mark → Bool) (shown : Bool) → slice_get marks (seen_mark_count (length marks) seen) ≡ o → mark_satisfies o p ≡ shown → ((mark : Mark) → p mark ≡ true → IsAtMark board (f i) mark) →
    SeenMarksPassed board f marks a (suc i) (seen_count_after (length marks) seen false shown)
seen-marks-passed-after-cycle board f marks a i seen order passed o p false is shows at =
    let n = length marks in
    let q = seen_mark_count n seen in
    let same : seen_mark_count n q ≡ q = seen_mark_count-if-at-most n q (seen_mark_count-le n seen) in
    record {
      passed = subst (λ (k : ℕ). PassesMarks board f (take k marks) a (suc i)) (sym same) (passed-marks-stay-passed board f (take q marks) a i passed);
      count_at_most = λ _. seen_mark_count-le n seen;
    }
seen-marks-passed-after-cycle board f marks a i seen order passed None p true is shows at = absurd (cc)
seen-marks-passed-after-cycle board f marks a i seen order passed (Some mark) p true is shows at =
    let n = length marks in
    let q = seen_mark_count n seen in
    let within : q < n = slice_get_within marks q mark is in
    let next : seen_mark_count n (q + 1) ≡ suc q = seen_mark_count-if-at-most n (q + 1) (omega arith) ∙ add-one q in
    let taken : take (suc q) marks ≡ take q marks ++ mark ∷ [] =
    take-suc marks q mark within ∙ ap (λ (x : Mark). take q marks ++ x ∷ []) (get_or_from_slice_get marks q mark mark is) in
    record {
      passed = subst (λ (k : ℕ). PassesMarks board f (take k marks) a (suc i)) (sym next)
          (subst (λ (xs : List Mark). PassesMarks board f xs a (suc i)) (sym taken) (passed-marks-with-next-mark board f (take q marks) mark a i order (at mark shows) passed));
      count_at_most = λ _. omega arith;
    }

-- ---- a run

module _ (w : Observer) where
  driven-board : (f : ℕ → Levels) (k : ℕ) (s : TrackedMachine) → (driven w f k s).1.board ≡ s.1.board
  driven-board f zero s = refl
  driven-board f (suc k) s = cycle-board w (with_levels (f k) (driven w f k s)) ∙ driven-board f k s

  -- if the condition does not hold before cycle `i` of a run, `SeenMarksPassed` still holds after
  -- this cycle
  seen-cycle : (s : TrackedMachine) (f : ℕ → Levels) (a i : ℕ) → board_fault_of s.1.board ≡ None → FitsBoard s.1.board (f i) → a ≤ i → condition_holds_at w (driven w f i s) ≡ false →
      SeenMarksPassed s.1.board f w.marks a i (driven w f i s).2.seen → SeenMarksPassed s.1.board f w.marks a (suc i) (driven w f (suc i) s).2.seen
  seen-cycle s f a i v fit order closed h =
      let x = driven w f i s in
      let y = with_levels (f i) x in
      let n = length w.marks in
      let board : x.1.board ≡ s.1.board = driven-board f i s in
      let p : Mark → Bool = λ mark. shows (next_op y.0 y.1) y.1 (port_of y.1) mark in
      let o = slice_get w.marks (seen_mark_count n x.2.seen) in
      let at : (mark : Mark) → p mark ≡ true → IsAtMark s.1.board (f i) mark = λ mark is.
      subst (λ (b : BoardParts). IsAtMark b (f i) mark) board
      (at-mark-if-read-shows-mark (f i) x.1 mark (next_op y.0 y.1) (ap board_fault_of board ∙ v) (subst (λ (b : BoardParts). FitsBoard b (f i)) (sym board) fit) is) in
      subst (λ (b : Bool). SeenMarksPassed s.1.board f w.marks a (suc i) (seen_count_after n x.2.seen b (shows_next_mark w y (port_of y.1)))) (sym closed)
      (seen-marks-passed-after-cycle s.1.board f w.marks a i x.2.seen order h.passed o p (mark_satisfies o p) refl refl at)

  seen-along : (s : TrackedMachine) (f : ℕ → Levels) → board_fault_of s.1.board ≡ None → ((k : ℕ) → FitsBoard s.1.board (f k)) → (a b : ℕ) → ((i : ℕ) → a ≤ i → i < b → condition_holds_at w (driven w f i s) ≡ false) →
      SeenMarksPassed s.1.board f w.marks a a (driven w f a s).2.seen → (m : ℕ) → a + m ≤ b → SeenMarksPassed s.1.board f w.marks a (a + m) (driven w f (a + m) s).2.seen
  seen-along s f v fit a b false_before first zero h =
      let here : a ≡ a + zero = omega arith in
      subst (λ (i : ℕ). SeenMarksPassed s.1.board f w.marks a i (driven w f i s).2.seen) here first
  seen-along s f v fit a b false_before first (suc m) h =
      let next : suc (a + m) ≡ a + suc m = omega arith in
      subst (λ (i : ℕ). SeenMarksPassed s.1.board f w.marks a i (driven w f i s).2.seen) next
      (seen-cycle s f a (a + m) v (fit (a + m)) (omega arith) (false_before (a + m) (omega arith) (omega arith)) (seen-along s f v fit a b false_before first m (omega arith)))

  -- at moment `a`, `SeenMarksPassed` holds if the number of seen marks is 0
  passed-if-none-seen : (board : BoardParts) (f : ℕ → Levels) (a seen : ℕ) → seen_mark_count (length w.marks) seen ≡ 0 → SeenMarksPassed board f w.marks a a seen
  passed-if-none-seen board f a seen none = record {
    passed = subst (λ (k : ℕ). PassesMarks board f (take k w.marks) a a) (sym none) tt;
    count_at_most = λ less. absurd (omega arith);
  }

  -- immediately after the condition held, the number of seen marks is 0
  none-seen-after-condition : (s : TrackedMachine) (f : ℕ → Levels) (p : ℕ) → condition_holds_at w (driven w f p s) ≡ true → seen_mark_count (length w.marks) (driven w f (suc p) s).2.seen ≡ 0
  none-seen-after-condition s f p is =
      let y = with_levels (f p) (driven w f p s) in
      let n = length w.marks in
      ap (λ b. seen_mark_count n (seen_count_after n y.2.seen b (shows_next_mark w y (port_of y.1)))) is ∙ seen_mark_count-after-condition n

  none-seen-if-condition-held : (s : TrackedMachine) (f : ℕ → Levels) (a b : ℕ) → BecomesTrue (λ i. condition_holds_at w (driven w f i s)) a b → a < b → condition_holds_at w (driven w f (a - 1) s) ≡ true → seen_mark_count (length w.marks) (driven w f a s).2.seen ≡ 0
  none-seen-if-condition-held s f zero b is less held = (let closed = is.false_before 0 (omega arith) less in absurd (cc))
  none-seen-if-condition-held s f (suc p) b is less held =
      let at : suc p - 1 ≡ p = omega arith in
      none-seen-after-condition s f p (ap (λ i. condition_holds_at w (driven w f i s)) (sym at) ∙ held)

  none-seen-at-run-start : (s : TrackedMachine) (f : ℕ → Levels) (a : ℕ) → s.2.seen ≡ 0 → a ≡ 0 → seen_mark_count (length w.marks) (driven w f a s).2.seen ≡ 0
  none-seen-at-run-start s f a none start =
      ap (λ i. seen_mark_count (length w.marks) (driven w f i s).2.seen) start ∙ ap (seen_mark_count (length w.marks)) none ∙ seen_mark_count-of-zero (length w.marks)

  none-seen-at-start : (s : TrackedMachine) (f : ℕ → Levels) (a b : ℕ) → s.2.seen ≡ 0 → BecomesTrue (λ i. condition_holds_at w (driven w f i s)) a b → seen_mark_count (length w.marks) (driven w f a s).2.seen ≡ 0
  none-seen-at-start s f a b none is =
      elim is.start [
        | inl start ↦ none-seen-at-run-start s f a none start
        | inr after ↦ none-seen-if-condition-held s f a b is after.0 after.1
      ]

  -- when the condition becomes true, the count of marks is at most the number of marks
  count-le : (s : TrackedMachine) (f : ℕ → Levels) (a b : ℕ) → s.2.seen ≡ 0 → BecomesTrue (λ i. condition_holds_at w (driven w f i s)) a b → (a < b → (driven w f b s).2.seen ≤ length w.marks) → (driven w f b s).2.seen ≤ length w.marks
  count-le s f a b none is count_at_most =
      elim is.start [
        | inl start ↦ elim (cases_lt a b) [
          | inl less ↦ count_at_most less
          | inr past ↦
              let at : 0 ≡ b = omega arith in
              subst (λ (i : ℕ). (driven w f i s).2.seen ≤ length w.marks) at (omega arith)
        ]
        | inr after ↦ count_at_most after.0
      ]

  -- if the condition holds, and holds only after all marks are seen, the count of marks is at least
  -- the number of marks
  count-ge : (t : TrackedMachine) → holds_only_after_marks w t ≡ true → condition_holds_at w t ≡ true → length w.marks ≤ t.2.seen
  count-ge t turn held =
      elim (and_cases (condition_holds_at w t) (nat_lt t.2.seen (length w.marks)) (not-true (condition_holds_at w t && nat_lt t.2.seen (length w.marks)) turn)) [
        | inl closed ↦ absurd (cc)
        | inr all ↦ ltb-false t.2.seen (length w.marks) all
      ]

  pub marks-precede-condition : (limits : InputLimits) (s : TrackedMachine) → s.2.seen ≡ 0 → board_fault_of s.1.board ≡ None → Holds limits w (holds_only_after_marks w) s →
      (f : ℕ → Levels) → AreInputsAllowed limits s.1.board f → (a b : ℕ) → BecomesTrue (λ i. condition_holds_at w (driven w f i s)) a b → PassesMarks s.1.board f w.marks a b
  marks-precede-condition limits s none v holds f allowed a b is =
      let n = length w.marks in
      let order : a ≤ b = elim is.start [ inl start ↦ omega arith | inr after ↦ (let less = after.0 in omega arith) ] in
      let end : a + (b - a) ≡ b = omega arith in
      let first = passed-if-none-seen s.1.board f a (driven w f a s).2.seen (none-seen-at-start s f a b none is) in
      let last : SeenMarksPassed s.1.board f w.marks a b (driven w f b s).2.seen =
      subst (λ (i : ℕ). SeenMarksPassed s.1.board f w.marks a i (driven w f i s).2.seen) end (seen-along s f v (λ k. (allowed.levels k).fits) a b is.false_before first (b - a) (omega arith)) in
      let most = count-le s f a b none is last.count_at_most in
      let least = count-ge (driven w f b s) (holds f allowed b) is.true_at_end in
      let all : seen_mark_count n (driven w f b s).2.seen ≡ n = seen_mark_count-if-at-most n (driven w f b s).2.seen most ∙ (omega arith) in
      subst (λ (xs : List Mark). PassesMarks s.1.board f xs a b) (ap (λ (k : ℕ). take k w.marks) all ∙ take_all n w.marks (omega arith)) last.passed
