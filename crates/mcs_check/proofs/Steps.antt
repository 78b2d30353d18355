-- One step of the search.
use Rattle.std.proofs.Common.{◌≡◌, ◌<◌, ◌⊎◌, ℕ, suc, inl, inr, Bool, true, List, None, refl, sym, ap, ◌∙◌, subst, arith}
use Rattle.mcs_model.specs.Boards.{board_fault_of}
use Rattle.mcs_model.specs.Validity.{IsValidBus, IsValidRegs}
use Rattle.mcs_model.specs.Bus.{BusState}
use Rattle.mcs_drive.specs.DrivenRuns.{FitsBoard, Levels}
use Rattle.mcs_drive.specs.TrackedMachine.{Observer, TrackedMachine, value_read}
use Rattle.mcs_drive.specs.RunsBetweenReads.{IgnoresLevels}
use Rattle.mcs_check.specs.Cells.{IsComplete, vector_of}
use Rattle.mcs_check.specs.Conditions.{observer_of_property}
use Rattle.mcs_check.specs.StateVectors.{Setting, IsOnBoard, IsVectorOf, KeepsBoardAndInputs, property_of}
use Rattle.mcs_check.specs.ReadPoints.{CannotRead, HasRead, Reaches}
use Rattle.mcs_check.specs.MachineRules.{LeadsToIn}
use Rattle.mcs_check.specs.SearchStep.{LeadsIn, ReadsAt}
use Rattle.mcs_check.specs.SearchRules.{Covers}
use Rattle.std.specs.List.{Contains}
use Rattle.mcs_check.proofs.Packed.{equal_machines-if_equal_vectors}
use Rattle.mcs_check.proofs.ValuesRead.{value_read-lt, leads_to-if_read_and_reached}

-- a machine on this board whose state vector is `vector` equals each machine that `vector`
-- identifies
vector-machine-unique : (g : Setting) (vector : List ℕ) (m a : TrackedMachine) → IsComplete g.board g.layout → IsOnBoard g.board g.rom g.limits.keys m → vector ≡ vector_of g.layout m → IsVectorOf g vector a → m ≡ a
vector-machine-unique g vector m a complete on is h = equal_machines-if_equal_vectors g.board g.rom g.limits.keys g.layout m a complete on h.on (sym is ∙ h.cells)

leads_to-by_read_and_run : (g : Setting) (next : List ℕ) (value cycles : ℕ) (m x n : TrackedMachine) → IgnoresLevels (property_of g) → board_fault_of m.1.board ≡ None → HasRead (observer_of_property g.property) value m x → Reaches (observer_of_property g.property) (property_of g) cycles x n → IsVectorOf g next n →
    (b : TrackedMachine) × IsVectorOf g next b × ((l : Levels) → FitsBoard m.1.board l → value_read l m ≡ value → LeadsToIn (observer_of_property g.property) (property_of g) (suc cycles) m b l)
leads_to-by_read_and_run g next value cycles m x n ignores sound read reaches is = (n, is, λ l fit e. leads_to-if_read_and_reached (observer_of_property g.property) (property_of g) cycles m x n l ignores sound (read l fit e) reaches)

pub leads-by_read_and_run : (g : Setting) (vector next : List ℕ) (value cycles : ℕ) (m x n : TrackedMachine) → IgnoresLevels (property_of g) → IsComplete g.board g.layout → IsOnBoard g.board g.rom g.limits.keys m → vector ≡ vector_of g.layout m → HasRead (observer_of_property g.property) value m x → Reaches (observer_of_property g.property) (property_of g) cycles x n → IsVectorOf g next n → LeadsIn g (suc cycles) vector value next
leads-by_read_and_run g vector next value cycles m x n ignores complete on is read reaches to = λ a h.
    subst (λ (a : TrackedMachine). (b : TrackedMachine) × IsVectorOf g next b × ((l : Levels) → FitsBoard a.1.board l → value_read l a ≡ value → LeadsToIn (observer_of_property g.property) (property_of g) (suc cycles) a b l))
    (vector-machine-unique g vector m a complete on is h)
    (leads_to-by_read_and_run g next value cycles m x n ignores on.bus.board.valid read reaches to)

-- `values` covers a state vector if `values` contains all 16 values
pub covers-if_all_16_values : (g : Setting) (vector values : List ℕ) → ((value : ℕ) → value < 16 → Contains values value) → Covers g vector values
covers-if_all_16_values g vector values each = λ a h l allowed. each (value_read l a) (value_read-lt l a allowed.fits)

-- `values` covers a state vector if `values` contains every value that its machine can read at
-- input levels within the limits
pub covers-if_all_readable_values : (g : Setting) (vector values : List ℕ) (m : TrackedMachine) → IsComplete g.board g.layout → IsOnBoard g.board g.rom g.limits.keys m → vector ≡ vector_of g.layout m → ((value : ℕ) → value < 16 → CannotRead g.limits value m ⊎ Contains values value) → Covers g vector values
covers-if_all_readable_values g vector values m complete on is each = λ a h l allowed.
    elim (subst (λ (b : TrackedMachine). CannotRead g.limits (value_read l a) b ⊎ Contains values (value_read l a)) (vector-machine-unique g vector m a complete on is h) (each (value_read l a) (value_read-lt l a allowed.fits))) [
      | inl cannot ↦ absurd (cannot l allowed refl)
      | inr there ↦ there
    ]

-- a valid machine with TEST at 0 satisfies `IsOnBoard` with its own board and ROM bytes and the
-- levels of its keys
pub on-own-board : (levels : List ℕ) (m : TrackedMachine) → IsValidRegs m.0 → IsValidBus m.1 → m.1.keys ≡ levels → m.1.test ≡ 0 → IsOnBoard m.1.board m.1.rom levels m
on-own-board levels m registers bus keys test = record { registers = registers; bus = bus; board = refl; rom = refl; keys = keys; test = test }

-- a machine still satisfies `IsOnBoard` after a change that keeps the board, the ROM bytes, the
-- keys and TEST
pub on-board-kept : (levels : List ℕ) (m n : TrackedMachine) → IsValidRegs n.0 → IsValidBus n.1 → m.1.keys ≡ levels → m.1.test ≡ 0 → KeepsBoardAndInputs m.1 n.1 → IsOnBoard m.1.board m.1.rom levels n
on-board-kept levels m n registers bus keys test k = record { registers = registers; bus = bus; board = k.board; rom = k.rom; keys = k.keys ∙ keys; test = k.test ∙ test }

pub property_holds-at_reached_machine : (w : Observer) (p : TrackedMachine → Bool) (n : ℕ) (s t : TrackedMachine) → Reaches w p n s t → p t ≡ true
property_holds-at_reached_machine w p n s t r = ap p r.at ∙ r.property_holds n (omega arith)

-- if the keys are at given levels before a change that keeps board and inputs, they are at these
-- levels after it
pub levels-kept : (s t : BusState) (levels : List ℕ) → KeepsBoardAndInputs s t → s.keys ≡ levels → t.keys ≡ levels
levels-kept s t levels k at = k.keys ∙ at

-- if a machine on this board has the state vector `vector`, each machine that `vector` identifies
-- reads the same value as this machine
pub reads-at_vector : (g : Setting) (vector : List ℕ) (m : TrackedMachine) (l : Levels) (value : ℕ) → IsComplete g.board g.layout → IsOnBoard g.board g.rom g.limits.keys m → vector ≡ vector_of g.layout m → value ≡ value_read l m → ReadsAt g vector l value
reads-at_vector g vector m l value complete on is reads = λ a h. ap (value_read l) (sym (vector-machine-unique g vector m a complete on is h)) ∙ sym reads
