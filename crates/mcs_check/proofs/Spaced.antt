-- Suppose that the state vectors that the search by levels found are a closure. The property then
-- holds for all inputs whose changes are far enough apart, and whose keys stay down for a limited
-- time.
use Rattle.std.proofs.Common.{◌≡◌, ◌≢◌, ◌⊎◌, ◌<◌, ◌≤◌, ◌+◌, ◌-◌, ◌*◌, ℕ, zero, suc, min, List, [], ◌∷◌, Bool, true, false, Option, Some, None, unwrap_or, inl, inr, length, nat_le, nat_lt, slice_index, refl, sym, ap, ◌∙◌, subst, arith, eqb, ◌==◌, ◌&&◌, ◌||◌}
use Rattle.std.specs.List.{All, Contains, slice_get, sum}
use Rattle.std.specs.Str.{bytes_eq}
use Rattle.std.proofs.lemmas.Bool.{and_from, and_parts, cases_Bool, cases_eq, cases_lt, eqb-false, le-leb, leb-false, leb-true, ne_eqb, or_left, or_right}
use Rattle.std.proofs.lemmas.Bool.Decides.{Decides-eqb, not_from_Decides}
use Rattle.std.proofs.lemmas.List.Elements.{All-contains}
use Rattle.std.proofs.lemmas.Option.{slice_get_read, slice_get_within}
use Rattle.std.proofs.lemmas.Slice.Eq.{bytes_eq-Decides}
use Rattle.mcs_model.specs.declared.board.BoardParts.{BoardParts}
use Rattle.mcs_drive.specs.DrivenRuns.{AreAllowed, AreInputsAllowed, AreReleasedWithin, Changes, FitsBoard, Levels}
use Rattle.mcs_drive.specs.TrackedMachine.{Observer, TrackedMachine, Holds}
use Rattle.mcs_drive.specs.RunsBetweenReads.{IgnoresLevels}
use Rattle.mcs_drive.proofs.ReadPoints.{IsClosedAlong, LeadsAlong, holds-along, leads-board}
use Rattle.mcs_search.specs.Rules.{IsExpanded, LeadsInto, Closure}
use Rattle.mcs_check.specs.declared.spacing.Spacing.{Spacing}
use Rattle.mcs_check.specs.declared.spacing.TheConstants.{NO_LEVELS}
use Rattle.mcs_check.specs.Conditions.{observer_of_property}
use Rattle.mcs_check.specs.StateVectors.{IsVectorOf, property_of}
use Rattle.mcs_check.specs.SpacedInputs.{RunsToTimedVector, SpacedSetting, age_at_begin, can_begin_at, down_after, down_at_begin, has_key_down, have_same_key_levels, held_allows, machine_vector, spaced_rules, spacing_after, spacing_of_vector, wait_allows}

-- ---- changes

levels-tell : (l m : Levels) → (l ≡ m) ⊎ (l ≢ m)
levels-tell l m =
    elim (cases_Bool (bytes_eq l.keys m.keys)) [
      | inl same ↦ elim (cases_eq l.test m.test) [
        | inl test ↦
            let keys = (bytes_eq-Decides l.keys m.keys).0 same in
            inl (ap (λ (k : List ℕ). record { keys = k; test = l.test }) keys ∙ ap (λ (t : ℕ). record { keys = m.keys; test = t }) test)
        | inr differ ↦ inr (λ e. differ (ap (λ (x : Levels). x.test) e))
      ]
      | inr differ ↦ inr (λ e. not_from_Decides (bytes_eq l.keys m.keys) (bytes_eq-Decides l.keys m.keys) differ (ap (λ (x : Levels). x.keys) e))
    ]

-- a change of the levels at moment `k`, after moment `a` and not after moment `b`
record IsChangeBetween (f : ℕ → Levels) (a b k : ℕ) : Type 0 where
  after : a < k
  by : k ≤ b
  differs : f k ≢ f a
  changes : Changes f k

-- if the levels at two moments differ, they changed between these moments
change-between : (f : ℕ → Levels) (a b : ℕ) → a < b → f b ≢ f a → (k : ℕ) × IsChangeBetween f a b k
change-between f a zero less differ = absurd (omega arith)
change-between f a (suc b) less differ =
    elim (levels-tell (f b) (f a)) [
      | inl same ↦ (suc b, record { after = less; by = omega arith; differs = differ; changes = λ e. differ (e ∙ same) })
      | inr other ↦ elim (cases_lt a b) [
        | inl later ↦
            let found = change-between f a b later other in
            let by = found.1.by in
            (found.0, record { after = found.1.after; by = omega arith; differs = found.1.differs; changes = found.1.changes })
        | inr past ↦ (let at : b ≡ a = omega arith in absurd (other (ap f at)))
      ]
    ]

-- Holds if the keys are at the same levels at moment `n` as at the `cycles` moments before it.
-- These moments are not before moment 0.
abbrev IsSteady : (ℕ → Levels) → ℕ → ℕ → Type 0
IsSteady f n cycles = (cycles ≤ n) × ((m : ℕ) → m ≤ n → n ≤ m + cycles → (f m).keys ≡ (f n).keys)

steady-now : (f : ℕ → Levels) (n : ℕ) → IsSteady f n 0
steady-now f n = (omega arith, λ m by near. (let at : m ≡ n = omega arith in ap (λ (k : ℕ). (f k).keys) at))

-- the key levels in `l` and `m` are either equal or different
keys-tell : (l m : Levels) → (l.keys ≡ m.keys) ⊎ (l.keys ≢ m.keys)
keys-tell l m =
    elim (cases_Bool (bytes_eq l.keys m.keys)) [
      | inl same ↦ inl ((bytes_eq-Decides l.keys m.keys).0 same)
      | inr differ ↦ inr (not_from_Decides (bytes_eq l.keys m.keys) (bytes_eq-Decides l.keys m.keys) differ)
    ]

-- the index of a key that is down at these levels
key-down : (keys : List ℕ) → 1 ≤ sum keys → (key : ℕ) × (1 ≤ slice_index keys key)
key-down [] down = absurd (omega arith)
key-down (zero ∷ keys) down = (let later = key-down keys down in (suc later.0, later.1))
key-down (suc level ∷ keys) down = (0, omega arith)

-- ---- what a search remembers of given inputs

-- Holds if `s` is what a search remembers of the inputs `f` at moment `n`. The last step began at
-- the levels with index `s.last`. Other levels come no earlier than the age allows. An age of twice
-- `wait` says nothing about the moments before `n`. If the levels at moment `n` are those of the
-- last step, they have stayed the same for `s.down` cycles. If `s.down` is above 0, a key is down
-- at them.
record IsSinceStep (wait : ℕ) (levels : List Levels) (f : ℕ → Levels) (n : ℕ) (s : Spacing) : Type 0 where
  moment : ℕ
  before : moment < n
  same : slice_get levels s.last ≡ Some (f moment)
  late : (m : ℕ) → moment < m → f m ≢ f moment → (n + wait ≤ m + s.age) ⊎ (2 * wait ≤ s.age)
  steady : (f n).keys ≡ (f moment).keys → IsSteady f n s.down
  pressed : 1 ≤ s.down → 1 ≤ sum (f moment).keys

-- holds if no step was made yet, or if `IsSinceStep` holds
abbrev IsRemembered : ℕ → List Levels → (ℕ → Levels) → ℕ → Spacing → Type 0
IsRemembered wait levels f n s = (s.last ≡ NO_LEVELS) ⊎ IsSinceStep wait levels f n s

-- holds if the search can begin a step at moment `n` of the inputs `f`, by the choice `d`
record IsFollowedBy (wait held : ℕ) (levels : List Levels) (f : ℕ → Levels) (n : ℕ) (s : Spacing) (d : ℕ) : Type 0 where
  within : d < length levels
  is : slice_get levels d ≡ Some (f n)
  can : can_begin_at wait held levels s d ≡ true
  late : (m : ℕ) → n < m → f m ≢ f n → n + wait ≤ m + age_at_begin wait s d
  steady : IsSteady f n (down_at_begin levels s d)

-- the levels at two indices have the same key levels if and only if their lists `keys` are equal
keys-compared-when : (o p : Option Levels) (l m : Levels) → o ≡ Some l → p ≡ Some m →
    elim o as (λ _. Bool) [ Some x ↦ elim p as (λ _. Bool) [ Some y ↦ bytes_eq x.keys y.keys | None ↦ false ] | None ↦ false ] ≡ bytes_eq l.keys m.keys
keys-compared-when o p l m first second = rw (first, second) refl

module _ (wait held : ℕ) (levels : List Levels) (f : ℕ → Levels) (spaced : (i j : ℕ) → i < j → Changes f i → Changes f j → i + wait ≤ j) (released : AreReleasedWithin held f) where
  -- ---- after a step

  later-age : (n m age cycles : ℕ) → n + wait ≤ m + age → (n + cycles + wait ≤ m + min (age + cycles) (2 * wait)) ⊎ (2 * wait ≤ min (age + cycles) (2 * wait))
  later-age n m age cycles near =
      elim (cases_lt (age + cycles) (2 * wait)) [ inl below ↦ inl (omega arith) | inr past ↦ inr (omega arith) ]

  -- if the keys are at the same levels at two moments at most `wait` cycles apart, they do not
  -- change between these moments
  same-between : (n k m : ℕ) → k ≤ n + wait → (f k).keys ≡ (f n).keys → n < m → m ≤ k → (f m).keys ≡ (f n).keys
  same-between n k m short back after by =
      elim (keys-tell (f m) (f n)) [
        | inl same ↦ same
        | inr away ↦ elim (cases_lt m k) [
          | inl before ↦
              let first = change-between f n m after (λ e. away (ap (λ (l : Levels). l.keys) e)) in
              let second = change-between f m k before (λ e. away (sym (ap (λ (l : Levels). l.keys) e) ∙ back)) in
              let begun = first.1.after in
              let gone = first.1.by in
              let later = second.1.after in
              let over = second.1.by in
              let apart : first.0 + wait ≤ second.0 = spaced first.0 second.0 (omega arith) first.1.changes second.1.changes in
              absurd (omega arith)
          | inr past ↦ (let at : m ≡ k = omega arith in absurd (away (ap (λ (i : ℕ). (f i).keys) at ∙ back)))
        ]
      ]

  steady-after_step : (n cycles : ℕ) (s : Spacing) (d : ℕ) → IsSteady f n (down_at_begin levels s d) → (f (n + cycles)).keys ≡ (f n).keys → IsSteady f (n + cycles) (down_after wait held levels s d (f n) cycles)
  steady-after_step n cycles s d steady back =
      let known = has_key_down (f n) && nat_le cycles wait in
      elim (cases_Bool known) [
        | inl counted ↦
            let short : cycles ≤ wait = leb-true cycles wait (and_parts (has_key_down (f n)) (nat_le cycles wait) counted).1 in
            let begun : down_at_begin levels s d ≤ n = steady.0 in
            let after : down_after wait held levels s d (f n) cycles ≡ min (down_at_begin levels s d + cycles) held = rw counted refl in
            subst (IsSteady f (n + cycles)) (sym after) (
              omega arith,
              λ m by near. elim (cases_lt n m) [
                | inl later ↦ same-between n (n + cycles) m (omega arith) back later by ∙ sym back
                | inr before ↦ steady.1 m before (omega arith) ∙ sym back
              ],
            )
        | inr unknown ↦
            let after : down_after wait held levels s d (f n) cycles ≡ 0 = rw unknown refl in
            subst (IsSteady f (n + cycles)) (sym after) (steady-now f (n + cycles))
      ]

  pressed-after_step : (n cycles : ℕ) (s : Spacing) (d : ℕ) → 1 ≤ down_after wait held levels s d (f n) cycles → 1 ≤ sum (f n).keys
  pressed-after_step n cycles s d some =
      elim (cases_Bool (has_key_down (f n))) [
        | inl down ↦ leb-true 1 (sum (f n).keys) down
        | inr up ↦
            let none : down_after wait held levels s d (f n) cycles ≡ 0 = rw up refl in
            absurd (omega arith)
      ]

  remembered-after_step : (n cycles : ℕ) (s : Spacing) (d : ℕ) → 0 < cycles → IsFollowedBy wait held levels f n s d → IsRemembered wait levels f (n + cycles) (spacing_after wait held levels s d (f n) cycles)
  remembered-after_step n cycles s d some step = inr (record {
    moment = n;
    before = omega arith;
    same = step.is;
    late = λ m after differ. later-age n m (age_at_begin wait s d) cycles (step.late m after differ);
    steady = λ back. steady-after_step n cycles s d step.steady back;
    pressed = pressed-after_step n cycles s d;
  })

  -- ---- the limit `held`

  -- a key that has been down for `held` cycles is not down in the next cycle
  held-allows : (n : ℕ) (s : Spacing) (d : ℕ) → IsSteady f n (down_at_begin levels s d) → (1 ≤ down_at_begin levels s d → 1 ≤ sum (f n).keys) → held_allows held levels s d ≡ true
  held-allows n s d steady pressed =
      let none = held == 0 in
      let short = nat_lt (down_at_begin levels s d) held in
      elim (cases_Bool none) [
        | inl unlimited ↦ or_left none short unlimited
        | inr limited ↦ elim (cases_Bool short) [
          | inl below ↦ or_right none short below
          | inr past ↦
              let long : held < suc (down_at_begin levels s d) = leb-false (suc (down_at_begin levels s d)) held past in
              let some : held ≢ 0 = eqb-false held 0 limited in
              let begun : down_at_begin levels s d ≤ n = steady.0 in
              let key = key-down (f n).keys (pressed (omega arith)) in
              let release = released (omega arith) key.0 (n - held) in
              let soon : release.0 ≤ held = release.1 in
              let same : (f (n - held + release.0)).keys ≡ (f n).keys = steady.1 (n - held + release.0) (omega arith) (omega arith) in
              let is_up : slice_index (f n).keys key.0 ≡ 0 = sym (ap (λ (keys : List ℕ). slice_index keys key.0) same) ∙ release.2 in
              let is_down = key.1 in
              absurd (omega arith)
        ]
      ]

  -- ---- the three cases of a step

  first-age : (s : Spacing) (d : ℕ) → eqb s.last NO_LEVELS ≡ true → age_at_begin wait s d ≡ wait - 1
  first-age s d first = rw first refl

  same-age : (s : Spacing) → eqb s.last NO_LEVELS ≡ false → age_at_begin wait s s.last ≡ min s.age (wait - 1)
  same-age s stepped = rw (stepped, (Decides-eqb s.last s.last).1 refl) refl

  other-age : (s : Spacing) (d : ℕ) → eqb s.last NO_LEVELS ≡ false → eqb d s.last ≡ false → age_at_begin wait s d ≡ min (s.age - wait) (wait - 1)
  other-age s d stepped other = rw (stepped, other) refl

  first-down : (s : Spacing) (d : ℕ) → eqb s.last NO_LEVELS ≡ true → down_at_begin levels s d ≡ 0
  first-down s d first = rw first refl

  same-down : (s : Spacing) (d : ℕ) → eqb s.last NO_LEVELS ≡ false → have_same_key_levels levels s.last d ≡ true → down_at_begin levels s d ≡ s.down
  same-down s d stepped same = rw (stepped, same) refl

  other-down : (s : Spacing) (d : ℕ) → eqb s.last NO_LEVELS ≡ false → have_same_key_levels levels s.last d ≡ false → down_at_begin levels s d ≡ 0
  other-down s d stepped other = rw (stepped, other) refl

  keys-compared : (i j : ℕ) (l m : Levels) → slice_get levels i ≡ Some l → slice_get levels j ≡ Some m → have_same_key_levels levels i j ≡ bytes_eq l.keys m.keys
  keys-compared i j l m at_i at_j = keys-compared-when (slice_get levels i) (slice_get levels j) l m at_i at_j

  -- if the levels at two indices have the same key levels, their lists `keys` are equal
  keys-equal : (i j : ℕ) (l m : Levels) → slice_get levels i ≡ Some l → slice_get levels j ≡ Some m → have_same_key_levels levels i j ≡ true → l.keys ≡ m.keys
  keys-equal i j l m at_i at_j same = (bytes_eq-Decides l.keys m.keys).0 (sym (keys-compared i j l m at_i at_j) ∙ same)

  -- the keys have stayed at their levels for `down_at_begin` cycles, and if this number is above 0,
  -- a key is down
  steady-at_begin : (n : ℕ) (s : Spacing) (d : ℕ) → eqb s.last NO_LEVELS ≡ false → slice_get levels d ≡ Some (f n) → IsSinceStep wait levels f n s → IsSteady f n (down_at_begin levels s d) × (1 ≤ down_at_begin levels s d → 1 ≤ sum (f n).keys)
  steady-at_begin n s d stepped is since =
      elim (cases_Bool (have_same_key_levels levels s.last d)) [
        | inl same ↦
            let count = same-down s d stepped same in
            let keys : (f since.moment).keys ≡ (f n).keys = keys-equal s.last d (f since.moment) (f n) since.same is same in (
              subst (IsSteady f n) (sym count) (since.steady (sym keys)),
              λ some. subst (λ (k : List ℕ). 1 ≤ sum k) keys (since.pressed (omega arith)),
            )
        | inr other ↦
            let none = other-down s d stepped other in (subst (IsSteady f n) (sym none) (steady-now f n), λ some. absurd (omega arith))
      ]

  -- the index of levels in a list that contains them
  index-of : (l : Levels) → Contains levels l → (d : ℕ) × (d < length levels) × (slice_get levels d ≡ Some l)
  index-of l there = (there.0, there.1, slice_get_read levels (length levels) there.0 l refl there.1 (sym there.2))

  -- neither limit prevents a step at these levels
  can-begin : (n : ℕ) (s : Spacing) (d : ℕ) → wait_allows wait s d ≡ true → IsSteady f n (down_at_begin levels s d) → (1 ≤ down_at_begin levels s d → 1 ≤ sum (f n).keys) → can_begin_at wait held levels s d ≡ true
  can-begin n s d changed steady pressed = and_from (wait_allows wait s d) (held_allows held levels s d) changed (held-allows n s d steady pressed)

  -- neither limit prevents a step at these levels, if no key is known to have been down
  can-begin-up : (n : ℕ) (s : Spacing) (d : ℕ) → wait_allows wait s d ≡ true → down_at_begin levels s d ≡ 0 → can_begin_at wait held levels s d ≡ true
  can-begin-up n s d changed none = can-begin n s d changed (subst (IsSteady f n) (sym none) (steady-now f n)) (λ some. absurd (omega arith))

  followed-first : (n : ℕ) (s : Spacing) → eqb s.last NO_LEVELS ≡ true → Contains levels (f n) → (d : ℕ) × IsFollowedBy wait held levels f n s d
  followed-first n s first there =
      let found = index-of (f n) there in
      let d = found.0 in
      let none = first-down s d first in
      let changed = or_left (eqb s.last NO_LEVELS || eqb d s.last) (nat_le wait s.age) (or_left (eqb s.last NO_LEVELS) (eqb d s.last) first) in (
        d,
        record {
          within = found.1;
          is = found.2;
          can = can-begin-up n s d changed none;
          late = λ m after differ. subst (λ (age : ℕ). n + wait ≤ m + age) (sym (first-age s d first)) (omega arith);
          steady = subst (IsSteady f n) (sym none) (steady-now f n);
        },
      )

  followed-same : (n : ℕ) (s : Spacing) → eqb s.last NO_LEVELS ≡ false → s.last < length levels → (since : IsSinceStep wait levels f n s) → f n ≡ f since.moment → IsFollowedBy wait held levels f n s s.last
  followed-same n s stepped within since same =
      let is = since.same ∙ ap (λ (l : Levels). Some l) (sym same) in
      let begun = steady-at_begin n s s.last stepped is since in
      let changed = or_left (eqb s.last NO_LEVELS || eqb s.last s.last) (nat_le wait s.age) (or_right (eqb s.last NO_LEVELS) (eqb s.last s.last) ((Decides-eqb s.last s.last).1 refl)) in
      record {
        within = within;
        is = is;
        can = can-begin n s s.last changed begun.0 begun.1;
        late = λ m after differ.
            let before = since.before in
            subst (λ (age : ℕ). n + wait ≤ m + age) (sym (same-age s stepped))
            (elim (since.late m (omega arith) (λ e. differ (e ∙ sym same))) [ inl near ↦ omega arith | inr capped ↦ omega arith ]);
        steady = begun.0;
      }

  followed-other : (n : ℕ) (s : Spacing) (d : ℕ) → eqb s.last NO_LEVELS ≡ false → eqb d s.last ≡ false → d < length levels → slice_get levels d ≡ Some (f n) →
      (since : IsSinceStep wait levels f n s) → f n ≢ f since.moment → IsFollowedBy wait held levels f n s d
  followed-other n s d stepped other within is since differ =
      let first = change-between f since.moment n since.before differ in
      let changed = first.1 in
      let after_step = changed.after in
      let by_now = changed.by in
      let came : (n + wait ≤ first.0 + s.age) ⊎ (2 * wait ≤ s.age) = since.late first.0 after_step changed.differs in
      let ready : wait ≤ s.age = elim (since.late n since.before differ) [ inl near ↦ omega arith | inr capped ↦ omega arith ] in
      let begun = steady-at_begin n s d stepped is since in
      record {
        within = within;
        is = is;
        can = can-begin n s d (or_right (eqb s.last NO_LEVELS || eqb d s.last) (nat_le wait s.age) (le-leb wait s.age ready)) begun.0 begun.1;
        late = λ m after away.
            let second = change-between f n m after away in
            let later = second.1.after in
            let by_then = second.1.by in
            let apart : first.0 + wait ≤ second.0 = spaced first.0 second.0 (omega arith) changed.changes second.1.changes in
            subst (λ (age : ℕ). n + wait ≤ m + age) (sym (other-age s d stepped other))
            (elim came [ inl near ↦ omega arith | inr capped ↦ omega arith ]);
        steady = begun.0;
      }

  -- the search can begin a step at each moment of the inputs
  choice-for : (n : ℕ) (s : Spacing) → Contains levels (f n) → IsRemembered wait levels f n s → (d : ℕ) × IsFollowedBy wait held levels f n s d
  choice-for n s there remembered =
      elim (cases_Bool (eqb s.last NO_LEVELS)) [
        | inl first ↦ followed-first n s first there
        | inr stepped ↦ elim remembered [
          | inl none ↦ absurd (eqb-false s.last NO_LEVELS stepped none)
          | inr since ↦ elim (levels-tell (f n) (f since.moment)) [
            | inl same ↦ (s.last, followed-same n s stepped (slice_get_within levels s.last (f since.moment) since.same) since same)
            | inr differ ↦
                let found = index-of (f n) there in
                let other : found.0 ≢ s.last = λ e. differ (ap (λ (o : Option Levels). unwrap_or o (f n)) (sym found.2 ∙ ap (slice_get levels) e ∙ since.same)) in
                (found.0, followed-other n s found.0 stepped (ne_eqb found.0 s.last other) found.1 found.2 since differ)
          ]
        ]
      ]

-- ---- a run along the state vectors of a closure

module _ (h : SpacedSetting) where
  abbrev observer : Observer
  observer = observer_of_property h.machines.property

  abbrev property : TrackedMachine → Bool
  property = property_of h.machines

  -- holds if a state vector in the list identifies the machine and remembers the inputs `f` at
  -- moment `n`
  record IsReached (vectors : List (List ℕ)) (b : BoardParts) (f : ℕ → Levels) (n : ℕ) (a : TrackedMachine) : Type 0 where
    vector : List ℕ
    found : Contains vectors vector
    is : IsVectorOf h.machines (machine_vector h vector) a
    remembers : IsRemembered h.wait h.levels f n (spacing_of_vector h vector)
    board : a.1.board ≡ b

  module _ (vectors : List (List ℕ)) (b : BoardParts) (f : ℕ → Levels) (allowed : AreInputsAllowed h.machines.limits b f) (apart : h.wait ≤ h.machines.limits.wait) where
    abbrev held : ℕ
    held = h.machines.limits.held

    spaced-by_wait : (i j : ℕ) → i < j → Changes f i → Changes f j → i + h.wait ≤ j
    spaced-by_wait i j less first second = (let far = allowed.spaced i j less first second in omega arith)

    arrive : (n : ℕ) (a : TrackedMachine) (at : IsReached vectors b f n a) (d : ℕ) (next : List ℕ) → IsFollowedBy h.wait held h.levels f n (spacing_of_vector h at.vector) d → RunsToTimedVector h at.vector d next a → Contains vectors next →
        LeadsAlong observer property (IsReached vectors b f) n a (f n)
    arrive n a at d next choice step found =
        let fits = subst (λ (x : BoardParts). FitsBoard x (f n)) (sym at.board) (allowed.levels n).fits in
        let run = step.run (f n) fits choice.is in
        let counted = run.1 in
        let remembered : IsRemembered h.wait h.levels f (n + step.cycles) (spacing_of_vector h next) =
        subst (IsRemembered h.wait h.levels f (n + step.cycles)) (sym (step.spacing (f n) choice.is))
        (remembered-after_step h.wait held h.levels f spaced-by_wait allowed.released n step.cycles (spacing_of_vector h at.vector) d (omega arith) choice) in (
          step.to,
          run.0,
          record {
            vector = next;
            found = found;
            is = step.is;
            remembers = subst (λ (cycles : ℕ). IsRemembered h.wait h.levels f (n + cycles) (spacing_of_vector h next)) counted remembered;
            board = leads-board observer property a step.to (f n) run.0 ∙ at.board;
          },
        )

    module _ (expanded : All (IsExpanded (spaced_rules h) vectors) vectors) (all : (l : Levels) → AreAllowed h.machines.limits b l → Contains h.levels l) where
      leads-on : (n : ℕ) (a : TrackedMachine) → IsReached vectors b f n a → LeadsAlong observer property (IsReached vectors b f) n a (f n)
      leads-on n a at =
          let rules = spaced_rules h in
          let here = All-contains (IsExpanded rules vectors) vectors at.vector expanded at.found in
          let choice = choice-for h.wait held h.levels f spaced-by_wait allowed.released n (spacing_of_vector h at.vector) (all (f n) (allowed.levels n)) at.remembers in
          let to = All-contains (LeadsInto rules vectors at.vector) here.0 choice.0 here.2 (here.1 choice.0 choice.1.within choice.1.can) in
          arrive n a at choice.0 to.0 choice.1 (to.1 a at.is) to.2

  -- If the state vectors that a search found are a closure, the property holds for the machine that
  -- the start state vector identifies, before its first step. `levels` must contain all levels
  -- within the limits, and `wait` must not be above its limit.
  pub property_holds-if_spaced_search_is_closed : (start : List ℕ) (n : ℕ) (a : TrackedMachine) → IgnoresLevels property → h.wait ≤ h.machines.limits.wait →
      ((l : Levels) → AreAllowed h.machines.limits a.1.board l → Contains h.levels l) → Closure (spaced_rules h) start n →
      IsVectorOf h.machines (machine_vector h start) a → (spacing_of_vector h start).last ≡ NO_LEVELS → Holds h.machines.limits observer property a
  property_holds-if_spaced_search_is_closed start n a ignores apart all closure is none = λ f allowed k.
      let R = IsReached closure.states a.1.board f in
      let closed : IsClosedAlong observer f property R = record {
        ignores = ignores;
        sound = λ m b at. at.is.on.bus.board.valid;
        property_holds = λ m b at. at.is.property_holds;
        leads = leads-on closure.states a.1.board f allowed apart closure.expanded all;
      } in
      holds-along observer f property R closed a (record { vector = start; found = closure.contains_start; is = is; remembers = inl none; board = refl }) k
