-- The checks on each choice that an entry allows.
use Rattle.std.specs.Prelude.{◌≡◌, ◌<◌, ◌/◌, ◌%◌, ℕ, List, Some, true, slice_index}
use Rattle.std.specs.List.{Contains}
use Rattle.mcs_model.specs.declared.board.BoardParts.{BoardParts}
use Rattle.mcs_model.specs.declared.op.Op.{Op}
use Rattle.mcs_model.specs.Bus.{BusState}
use Rattle.mcs_sets.specs.declared.entries.Entry.{Entry}
use Rattle.mcs_sets.specs.declared.landing.Choice.{Choice}
use Rattle.mcs_sets.specs.declared.landing.Landing.{Landing}
use Rattle.mcs_sets.specs.Entries.{contains, acc_values_of}
use Rattle.mcs_sets.specs.Closure.{StaysCoveredOneCycle}
use Rattle.mcs_sets.specs.Landing.{op_at, first_operand_set, second_operand_set, value_after, landing, CallsAllow, IsValidOp, CoversLanding}

-- holds if the target entry allows every value that location `k` can have after a landing from the
-- source entry
abbrev pub CoversLocation : Entry → Entry → Landing → ℕ → Type 0
CoversLocation source target o k = (v : ℕ) → contains (slice_index source.sets k) v ≡ true → contains (slice_index target.sets k) (value_after o k v) ≡ true

-- holds if two call stacks have the same return addresses for the open calls
abbrev pub AgreeOnOpenCalls : List ℕ → List ℕ → ℕ → Type 0
AgreeOnOpenCalls a b calls = (k : ℕ) → k < 3 → k < calls → slice_index a k ≡ slice_index b k

-- holds if a single entry covers every machine that a landing reaches from the source entry
pub record IsLandingCovered (entries : List Entry) (source : Entry) (o : Landing) : Type 0 where
  pub target : Entry
  pub target_is_entry : Contains entries target
  pub covers_landing : CoversLanding source target o

-- the choice with these values. `flags` is the accumulator plus 16 times the carry.
abbrev pub choice_at : ℕ → ℕ → ℕ → ℕ → Choice
choice_at flags bank first second = record { acc = flags % 16; cy = flags / 16 % 2; bank = bank; first_operand = first; second_operand = second }

-- holds if an entry allows all values of a choice
pub record AllowsChoice (e : Entry) (op : Op) (c : Choice) : Type 0 where
  pub acc : contains (acc_values_of e c.cy) c.acc ≡ true
  pub bank : contains (slice_index e.sets 16) c.bank ≡ true
  pub first_operand : contains (first_operand_set op e) c.first_operand ≡ true
  pub second_operand : contains (second_operand_set op e) c.second_operand ≡ true

-- Holds if the certificate covers the landing of a choice. The landing is computed on a bus with
-- this ROM and this board.
pub record IsChoiceCovered (rom : List ℕ) (board : BoardParts) (entries : List Entry) (e : Entry) (op : Op) (c : Choice) : Type 0 where
  pub bus : BusState
  pub same_rom : bus.rom ≡ rom
  pub same_board : bus.board ≡ board
  pub bank_exists : c.bank < 8
  pub covered : IsLandingCovered entries e (landing op e.at e.ret e.calls bus c)

-- holds if the certificate covers the landings of all choices that an entry allows
abbrev pub AllChoicesCovered : List ℕ → BoardParts → List Entry → Entry → Op → Type 0
AllChoicesCovered rom board entries e op =
    (flags bank first second : ℕ) → flags < 32 → bank < 16 → first < 16 → second < 16 →
    AllowsChoice e op (choice_at flags bank first second) → IsChoiceCovered rom board entries e op (choice_at flags bank first second)

-- the law: if the certificate covers the landings of all choices of an entry, it covers each
-- machine covered by the entry after one more cycle
abbrev pub LandingsSuffice : Type 0
LandingsSuffice =
    (board : BoardParts) (rom : List ℕ) (entries : List Entry) (op : Op) (e : Entry) →
    IsValidOp op → CallsAllow op e.calls → op_at rom e.at ≡ Some op → AllChoicesCovered rom board entries e op →
    StaysCoveredOneCycle board rom entries e
