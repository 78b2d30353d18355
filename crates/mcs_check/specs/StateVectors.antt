-- The machine that a state vector identifies. A state vector is a list of bytes that holds the
-- values of all cells of a machine.
use Rattle.std.specs.Prelude.{◌≡◌, ℕ, List, Bool, true}
use Rattle.mcs_model.specs.declared.board.BoardParts.{BoardParts}
use Rattle.mcs_model.specs.Bus.{BusState}
use Rattle.mcs_model.specs.Validity.{IsValidBus, IsValidRegs}
use Rattle.mcs_drive.specs.DrivenRuns.{InputLimits}
use Rattle.mcs_drive.specs.TrackedMachine.{TrackedMachine}
use Rattle.mcs_check.specs.declared.cells.StateByte.{StateByte}
use Rattle.mcs_check.specs.Cells.{IsComplete, vector_of}
use Rattle.mcs_check.specs.Conditions.{PropertyConditions, meets_none}

-- the data shared by all machines of a search: the board, its ROM bytes, the limits of the inputs,
-- the layout and the conditions
pub record Setting : Type 0 where
  pub board : BoardParts
  pub rom : List ℕ
  pub limits : InputLimits
  pub layout : List StateByte
  pub property : PropertyConditions

-- the setting of a machine, with given limits, a given layout and given conditions
abbrev pub setting_of : TrackedMachine → InputLimits → List StateByte → PropertyConditions → Setting
setting_of s limits layout property =
    record { board = s.1.board; rom = s.1.rom; limits = limits; layout = layout; property = property }

-- the property that a search checks: true if no list of conditions in `never_lists` is met
abbrev pub property_of : Setting → TrackedMachine → Bool
property_of g = meets_none g.property.never_lists

-- holds if a machine is valid, has this board, these ROM bytes and these key levels, and has TEST
-- at 0
pub record IsOnBoard (b : BoardParts) (bytes levels : List ℕ) (a : TrackedMachine) : Type 0 where
  pub registers : IsValidRegs a.0
  pub bus : IsValidBus a.1
  pub board : a.1.board ≡ b
  pub rom : a.1.rom ≡ bytes
  pub keys : a.1.keys ≡ levels
  pub test : a.1.test ≡ 0

-- holds if a state vector identifies a machine. The machine must be valid, have the setting's board
-- and ROM bytes, and have each of its keys at its highest level (`IsOnBoard`). The property must
-- hold for the machine. The state vector contains the values of the machine's cells.
pub record IsVectorOf (g : Setting) (vector : List ℕ) (a : TrackedMachine) : Type 0 where
  pub on : IsOnBoard g.board g.rom g.limits.keys a
  pub property_holds : property_of g a ≡ true
  pub cells : vector ≡ vector_of g.layout a

-- holds if two buses have the same board, ROM bytes, key levels and TEST level
pub record KeepsBoardAndInputs (s t : BusState) : Type 0 where
  pub board : t.board ≡ s.board
  pub rom : t.rom ≡ s.rom
  pub keys : t.keys ≡ s.keys
  pub test : t.test ≡ s.test

-- a state vector identifies at most one machine with a given board, given ROM bytes and given key
-- levels, if the layout is complete
abbrev pub StateVectorsDetermineMachines : Type 0
StateVectorsDetermineMachines =
    (b : BoardParts) (rom levels : List ℕ) (layout : List StateByte) (s t : TrackedMachine) → IsComplete b layout →
    IsOnBoard b rom levels s → IsOnBoard b rom levels t → vector_of layout s ≡ vector_of layout t → s ≡ t
