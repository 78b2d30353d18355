-- Closure of a certificate: if the certificate covers a machine, it also covers the machine after
-- one cycle. It therefore covers every machine that a covered machine can reach.
use Rattle.std.specs.Prelude.{◌≡◌, ◌<◌, ℕ, List, All}
use Rattle.std.specs.List.{Contains}
use Rattle.mcs_model.specs.declared.board.BoardParts.{BoardParts}
use Rattle.mcs_model.specs.Bus.{BusState}
use Rattle.mcs_drive.specs.DrivenRuns.{Levels, FitsBoard}
use Rattle.mcs_drive.specs.TrackedMachine.{TrackedMachine, cycled, driven, no_observer}
use Rattle.mcs_sets.specs.declared.entries.Entry.{Entry}
use Rattle.mcs_sets.specs.Entries.{Covers, IsCovered}

-- holds if a bus has this board and these ROM bytes, its RAM values are nibbles, and its TEST level
-- is 0 or 1
pub record IsBusOf (parts : BoardParts) (program : List ℕ) (m : BusState) : Type 0 where
  pub board : m.board ≡ parts
  pub rom : m.rom ≡ program
  pub ram : All (λ n. n < 16) m.ram
  pub status : All (λ n. n < 16) m.status
  pub test : m.test < 2

-- holds if every machine that entry `e` covers is covered by the certificate after one more cycle
abbrev pub StaysCoveredOneCycle : BoardParts → List ℕ → List Entry → Entry → Type 0
StaysCoveredOneCycle board rom entries e =
    (s : TrackedMachine) → IsBusOf board rom s.1 → Covers e s → Contains entries e → IsCovered entries (cycled no_observer s)

-- holds if the certificate covers the machine at every moment, for all inputs
abbrev pub StaysCovered : List Entry → TrackedMachine → Type 0
StaysCovered entries s =
    (f : ℕ → Levels) → ((k : ℕ) → FitsBoard s.1.board (f k)) → (k : ℕ) → IsCovered entries (driven no_observer f k s)

-- the induction: if the certificate covers each machine covered by one of its entries after one
-- more cycle, a covered machine stays covered at every moment
abbrev pub ClosureSuffices : Type 0
ClosureSuffices =
    (board : BoardParts) (rom : List ℕ) (entries : List Entry) (s : TrackedMachine) →
    ((e : Entry) → Contains entries e → StaysCoveredOneCycle board rom entries e) →
    IsBusOf board rom s.1 → IsCovered entries s → StaysCovered entries s
