-- An outcome that is proved for a rig is proved for the machine that two texts define.
use Rattle.std.proofs.Common.{◌≡◌, ◌∙◌, ◌<◌, ◌&&◌, ◌/◌, ℕ, List, [], ◌∷◌, Bool, true, false, not, cond, nat_lt, Option, Some, None, is_some, length, slice_set, refl, sym, ap, subst, arith, eqb}
use Rattle.std.proofs.lemmas.Bool.{and_parts, eqb-true}
use Rattle.mcs_model.specs.declared.regs.Regs.{Regs}
use Rattle.mcs_model.specs.declared.board.BoardParts.{BoardParts}
use Rattle.mcs_model.specs.BenchState.{new_bench_state, new_regs}
use Rattle.mcs_model.specs.Boards.{rom_masks}
use Rattle.mcs_model.specs.Bus.{BusState}
use Rattle.mcs_model.specs.ChipWrites.{after_board_change, with_rom_byte, with_rom_bytes}
use Rattle.mcs_drive.specs.declared.marks.Mark.{Mark}
use Rattle.mcs_drive.specs.DrivenRuns.{InputLimits}
use Rattle.mcs_drive.specs.Opening.{holds_only_after_marks}
use Rattle.mcs_drive.specs.TrackedMachine.{Observer, TrackedMachine, no_observer, with_zero_counts}
use Rattle.mcs_check.specs.declared.checking.Outcome.{Outcome}
use Rattle.mcs_check.specs.declared.checking.Outcome.TheVariants as outcome
use Rattle.mcs_check.specs.declared.conditions.Condition.{Condition}
use Rattle.mcs_check.specs.Conditions.{meets_none, observer_of}
use Rattle.mcs_check.specs.OutcomeMeaning.{IsProved}
use Rattle.mcs_prove.specs.MachineOfTexts.{IsRigOfTexts, IsProvedOf, machine_with_program}
use Rattle.mcs_prove.proofs.Ignoring.{conditions-ignore}
use Rattle.mcs_prove.specs.Questions.{QuestionSoFar, IsAnswerTo, IsPropertyProvedOf, question_of_text, keeps_property, limits_of_question, are_marks_complete, is_consistent, is_stopwatch_complete, is_stopwatch_complete_with, observer_of_question}

-- ---- the board of the machine

board-of_choice : (b : Bool) (s t : BusState) → s.board ≡ t.board → (cond b s t).board ≡ t.board
board-of_choice true s t e = e
board-of_choice false s t e = refl

board-with_rom_byte : (s : BusState) (at byte : ℕ) → (with_rom_byte s at byte).board ≡ s.board
unfolding with_rom_byte
board-with_rom_byte s at byte = board-of_choice (is_some (rom_masks s.board (at / 256))) (record s { rom = slice_set s.rom at byte }) s refl

board-with_rom_bytes : (s : BusState) (image : List (ℕ × ℕ)) → (with_rom_bytes s image).board ≡ s.board
board-with_rom_bytes s [] = refl
board-with_rom_bytes s (p ∷ image) = board-with_rom_bytes (with_rom_byte s p.0 p.1) image ∙ board-with_rom_byte s p.0 p.1

-- the board of a rig that two texts define is the board that the board's text describes
board-of_rig : (board program : List ℕ) (rig : BusState) (g : IsRigOfTexts board program rig) → rig.board ≡ g.parts
board-of_rig board program rig g =
    ap (λ (s : TrackedMachine). s.1.board) g.is_machine
    ∙ board-with_rom_bytes (after_board_change new_bench_state.bus g.parts) g.loaded

-- ---- an outcome that is proved for a rig

-- an outcome that is proved for `p` is also proved for `q`, if `p` and `q` are equal at every
-- machine
pub proved-for_equal_property : (limits : InputLimits) (w : Observer) (p q : TrackedMachine → Bool) (s : TrackedMachine) (found : Outcome) → ((t : TrackedMachine) → p t ≡ q t) → IsProved limits w p s found → IsProved limits w q s found
proved-for_equal_property limits w p q s (outcome.Holds n) same h = λ f allowed k. sym (same _) ∙ h f allowed k
proved-for_equal_property limits w p q s (outcome.MayFail values) same h = h
proved-for_equal_property limits w p q s (outcome.MayFailWith levels) same h = h
proved-for_equal_property limits w p q s outcome.TooMany same h = h
proved-for_equal_property limits w p q s (outcome.NoMemory n) same h = h
proved-for_equal_property limits w p q s outcome.GaveUp same h = h

pub proved_of_texts-if_proved_of_rig : (board program : List ℕ) (limits : BoardParts → InputLimits) (w : Observer) (p q : TrackedMachine → Bool) (cpu : Regs) (rig : BusState) (found : Outcome) → IsRigOfTexts board program rig → cpu ≡ new_regs → ((t : TrackedMachine) → p t ≡ q t) →
    IsProved (limits rig.board) w p (with_zero_counts (cpu, rig)) found → IsProvedOf board program limits w q found
proved_of_texts-if_proved_of_rig board program limits w p q cpu rig found g new same h =
    let of_rig : IsProved (limits rig.board) w q (with_zero_counts (cpu, rig)) found = proved-for_equal_property (limits rig.board) w p q (with_zero_counts (cpu, rig)) found same h in
    let of_machine : IsProved (limits rig.board) w q (machine_with_program g.parts g.loaded) found =
    subst (λ (s : TrackedMachine). IsProved (limits rig.board) w q s found) g.is_machine
    (subst (λ (r : Regs). IsProved (limits rig.board) w q (with_zero_counts (r, rig)) found) new of_rig) in
    record {
      parts = g.parts;
      loaded = g.loaded;
      accepted = g.accepted;
      proved = subst (λ (b : BoardParts). IsProved (limits b) w q (machine_with_program g.parts g.loaded) found) (board-of_rig board program rig g) of_machine;
    }

-- ---- marks

-- the requirement that `add_mark_requirement` adds is that no `open` list is met before all marks
-- were seen
pub mark_requirement : (opens : List (List Condition)) (marks : List Mark) (s : TrackedMachine) →
    not (not (meets_none opens s) && nat_lt s.2.seen (length marks)) ≡ holds_only_after_marks (observer_of [] [] opens marks) s
mark_requirement opens marks s = ap (λ (b : Bool). not (not b && nat_lt s.2.seen (length marks))) (conditions-ignore opens s)

-- ---- a question without a stopwatch and without marks

and-true : (b : Bool) → (b && true) ≡ b
and-true true = refl
and-true false = refl

empty-if_length_zero : {X : Type 0} (xs : List X) → length xs ≡ 0 → xs ≡ []
empty-if_length_zero [] e = refl
empty-if_length_zero (x ∷ xs) e = absurd (omega arith)

no_stopwatch-if_entries_allowed : (q : QuestionSoFar) (o : Option ℕ) → is_stopwatch_complete_with o q ≡ true → 0 < q.max_entries → (o ≡ None) × ((q.begins ≡ []) × (q.ends ≡ []))
no_stopwatch-if_entries_allowed q None h some =
    let parts = and_parts (eqb (length q.begins) 0) (eqb (length q.ends) 0) h in
    (refl, (empty-if_length_zero q.begins (eqb-true (length q.begins) 0 parts.0), empty-if_length_zero q.ends (eqb-true (length q.ends) 0 parts.1)))
no_stopwatch-if_entries_allowed q (Some n) h some =
    let no_entries = eqb-true q.max_entries 0 (and_parts (not (eqb (length q.begins) 0) && not (eqb (length q.ends) 0)) (eqb q.max_entries 0) h).1 in
    absurd (omega arith)

no_marks-if_entries_allowed : (q : QuestionSoFar) (b : Bool) → eqb (length q.marks) 0 ≡ b → cond b (eqb (length q.opens) 0) (not (eqb (length q.opens) 0) && eqb q.max_entries 0) ≡ true → 0 < q.max_entries →
    (q.opens ≡ []) × (q.marks ≡ [])
no_marks-if_entries_allowed q true is h some = (empty-if_length_zero q.opens (eqb-true (length q.opens) 0 h), empty-if_length_zero q.marks (eqb-true (length q.marks) 0 is))
no_marks-if_entries_allowed q false is h some =
    let zero = eqb-true q.max_entries 0 (and_parts (not (eqb (length q.opens) 0)) (eqb q.max_entries 0) h).1 in
    absurd (omega arith)

-- A consistent question that allows entries (a proof with sets of values) has no stopwatch and no
-- marks. An outcome that is proved for the question's `never` lists is therefore proved for the
-- question.
question_proved-if_never_lists_proved : (board program : List ℕ) (limits : BoardParts → InputLimits) (q : QuestionSoFar) (found : Outcome) → is_consistent q ≡ true → 0 < q.max_entries → IsProvedOf board program limits no_observer (meets_none q.never_lists) found →
    IsPropertyProvedOf board program limits (observer_of_question q) q.never_lists q.limit found
question_proved-if_never_lists_proved board program limits q found consistent some h =
    let complete = and_parts (is_stopwatch_complete q) (are_marks_complete q) consistent in
    let parts = no_stopwatch-if_entries_allowed q q.limit complete.0 some in
    let marks = no_marks-if_entries_allowed q (eqb (length q.marks) 0) refl complete.1 some in
    let nevers_proved : IsPropertyProvedOf board program limits no_observer q.never_lists None found = record {
      parts = h.parts;
      loaded = h.loaded;
      accepted = h.accepted;
      proved = proved-for_equal_property (limits h.parts) no_observer (meets_none q.never_lists) (keeps_property no_observer q.never_lists None) (machine_with_program h.parts h.loaded) found (λ t. sym (and-true (meets_none q.never_lists t && true) ∙ and-true (meets_none q.never_lists t))) h.proved;
    } in
    subst (λ (o : Option ℕ). IsPropertyProvedOf board program limits (observer_of_question q) q.never_lists o found) (sym parts.0)
    (subst (λ (ms : List Mark). IsPropertyProvedOf board program limits (observer_of q.begins q.ends q.opens ms) q.never_lists None found) (sym marks.1)
    (subst (λ (xs : List (List Condition)). IsPropertyProvedOf board program limits (observer_of q.begins q.ends xs []) q.never_lists None found) (sym marks.0)
    (subst (λ (xs : List (List Condition)). IsPropertyProvedOf board program limits (observer_of q.begins xs [] []) q.never_lists None found) (sym parts.1.1)
    (subst (λ (xs : List (List Condition)). IsPropertyProvedOf board program limits (observer_of xs [] [] []) q.never_lists None found) (sym parts.1.0) nevers_proved))))

-- holds if the promise of an outcome is true for the property and the inputs of a question
abbrev pub IsQuestionProvedOf : List ℕ → List ℕ → QuestionSoFar → Outcome → Type 0
IsQuestionProvedOf board program q found =
    IsPropertyProvedOf board program (limits_of_question q) (observer_of_question q) q.never_lists q.limit found

pub is_answer-if_question_proved : (text board program : List ℕ) (q : QuestionSoFar) (found : Outcome) →
    question_of_text text ≡ Some q → q.has_prove_line ≡ true → is_consistent q ≡ true → q.board ≡ Some board → q.program ≡ Some program →
    IsQuestionProvedOf board program q found → IsAnswerTo text found
is_answer-if_question_proved text board program q found spells ended consistent has_board has_program h = record {
  question = q;
  board = board;
  program = program;
  spells = spells;
  has_prove_line = ended;
  is_consistent = consistent;
  has_board = has_board;
  has_program = has_program;
  proved = h;
}

-- holds if the promise of an outcome about `never` lists is true for any limits on the inputs
abbrev AreNeverListsProvedOf : List ℕ → List ℕ → List (List Condition) → Outcome → Type 0
AreNeverListsProvedOf board program never_lists found =
    (limits : BoardParts → InputLimits) → IsProvedOf board program limits no_observer (meets_none never_lists) found

pub is_answer-if_never_lists_proved : (text board program : List ℕ) (q : QuestionSoFar) (never_lists : List (List Condition)) (found : Outcome) →
    question_of_text text ≡ Some q → q.has_prove_line ≡ true → is_consistent q ≡ true → q.board ≡ Some board → q.program ≡ Some program → 0 < q.max_entries → never_lists ≡ q.never_lists →
    AreNeverListsProvedOf board program never_lists found → IsAnswerTo text found
is_answer-if_never_lists_proved text board program q never_lists found spells ended consistent has_board has_program some same h =
    let limits = limits_of_question q in
    is_answer-if_question_proved text board program q found spells ended consistent has_board has_program
    (question_proved-if_never_lists_proved board program limits q found consistent some (subst (λ (n : List (List Condition)). IsProvedOf board program limits no_observer (meets_none n) found) same (h limits)))
