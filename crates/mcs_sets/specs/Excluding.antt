-- The conditions that a certificate excludes. For each list of conditions that must never all be
-- met, every entry excludes at least one condition of the list.
use Rattle.std.specs.Prelude.{◌≡◌, ◌+◌, ◌/◌, ◌<◌, ℕ, List, Bool, true, false, slice_index}
use Rattle.std.specs.List.{Contains}
use Rattle.mcs_model.specs.declared.board.BoardParts.{BoardParts}
use Rattle.mcs_model.specs.declared.op.Op.{Op}
use Rattle.mcs_model.specs.declared.op.Op.TheVariants.{Jcn, Fim, Fin, Jun, Jms, Isz}
use Rattle.mcs_drive.specs.DrivenRuns.{InputLimits}
use Rattle.mcs_drive.specs.TrackedMachine.{TrackedMachine, Holds, no_observer}
use Rattle.mcs_check.specs.declared.common_mistakes.Mistakes.{Mistakes}
use Rattle.mcs_check.specs.declared.conditions.Condition.{Condition}
use Rattle.mcs_check.specs.Conditions.{are_met, is_met}
use Rattle.mcs_check.specs.Mistaken.{op_makes_mistake}
use Rattle.mcs_sets.specs.declared.entries.Entry.{Entry}
use Rattle.mcs_sets.specs.Entries.{contains, Covers}
use Rattle.mcs_sets.specs.Closure.{IsBusOf, StaysCovered}

-- holds if every machine that an entry covers, with this board and ROM, has a property
abbrev pub HoldsInEntry : BoardParts → List ℕ → (TrackedMachine → Bool) → Entry → Type 0
HoldsInEntry board rom p e = (s : TrackedMachine) → IsBusOf board rom s.1 → Covers e s → p s ≡ true

-- holds if no machine that an entry covers, with this board and ROM, meets a condition
abbrev pub Excludes : BoardParts → List ℕ → Condition → Entry → Type 0
Excludes board rom c e = (s : TrackedMachine) → IsBusOf board rom s.1 → Covers e s → is_met s c ≡ false

-- holds if no machine that an entry covers, with this board and ROM, meets all of these conditions
abbrev pub ExcludesConjunction : BoardParts → List ℕ → List Condition → Entry → Type 0
ExcludesConjunction board rom cs e = (s : TrackedMachine) → IsBusOf board rom s.1 → Covers e s → are_met s cs ≡ false

-- the theorem: a property that holds in each entry of a certificate holds for all inputs, if the
-- certificate covers the machine at every moment
abbrev pub EntriesSuffice : Type 0
EntriesSuffice =
    (p : TrackedMachine → Bool) (entries : List Entry) (s : TrackedMachine) →
    ((e : Entry) → Contains entries e → HoldsInEntry s.1.board s.1.rom p e) →
    IsBusOf s.1.board s.1.rom s.1 → StaysCovered entries s →
    (limits : InputLimits) → Holds limits no_observer p s

-- holds if each number in a set of nibbles has a property
abbrev pub ForAllIn : ℕ → (ℕ → Type 0) → Type 0
ForAllIn set p = (n : ℕ) → contains set n ≡ true → p n

-- holds if a bank has each chip that its SRC byte can select. `set` has the possible upper nibbles
-- of the SRC byte.
abbrev pub HasSelectableChips : BoardParts → ℕ → ℕ → Type 0
HasSelectableChips board bank set = ForAllIn set (λ n. n / 4 < slice_index board.banks bank)

-- holds if a bank number is below 8 and the board has each chip that a machine covered by the
-- entry may select in the bank
pub record HasChipsOfBank (board : BoardParts) (e : Entry) (bank : ℕ) : Type 0 where
  pub bank_exists : bank < 8
  pub chips : HasSelectableChips board bank (slice_index e.sets (18 + bank))

-- true if an instruction reads a second word, or is FIN, which reads a byte on the page of the next
-- address
abbrev pub reads_next_address : Op → Bool
reads_next_address (Jcn c b) = true
reads_next_address (Fim k b) = true
reads_next_address (Fin k) = true
reads_next_address (Jun h b) = true
reads_next_address (Jms h b) = true
reads_next_address (Isz r b) = true
reads_next_address _ = false

-- holds if no machine that an entry covers makes a mistake that `mistakes` includes when it
-- executes `op`
abbrev pub MakesNoMistake : BoardParts → Entry → Op → Mistakes → Type 0
MakesNoMistake board e op mistakes = (s : TrackedMachine) → s.1.board ≡ board → Covers e s → op_makes_mistake mistakes op s ≡ false
