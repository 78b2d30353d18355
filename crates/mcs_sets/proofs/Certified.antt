-- A certificate that covers a machine and is closed under one cycle covers the machine at every
-- moment.
use Rattle.std.proofs.Common.{◌≡◌, ◌<◌, ◌∙◌, ℕ, zero, suc, List, sym}
use Rattle.std.specs.List.{Contains}
use Rattle.mcs_model.specs.declared.board.BoardParts.{BoardParts}
use Rattle.mcs_drive.specs.DrivenRuns.{Levels, FitsBoard}
use Rattle.mcs_drive.specs.TrackedMachine.{TrackedMachine, with_levels, cycled, driven, no_observer}
use Rattle.mcs_sets.specs.declared.entries.Entry.{Entry}
use Rattle.mcs_sets.specs.Entries.{acc_values_of, IsCovered}
use Rattle.mcs_sets.specs.Closure.{IsBusOf, StaysCoveredOneCycle, ClosureSuffices}
use Rattle.mcs_sets.proofs.Memory.{member-below-16, bus-valid-after-cycle}

-- holds if a certificate covers a machine that has this board and this ROM
record IsCoveredOnBoard (board : BoardParts) (rom : List ℕ) (entries : List Entry) (s : TrackedMachine) : Type 0 where
  pub bus : IsBusOf board rom s.1
  pub covered : IsCovered entries s

-- a covered machine stays covered at other levels of the keys and of TEST
covered-at-other-levels : (board : BoardParts) (rom : List ℕ) (entries : List Entry) (l : Levels) (s : TrackedMachine) → l.test < 2 → IsCoveredOnBoard board rom entries s → IsCoveredOnBoard board rom entries (with_levels l s)
covered-at-other-levels board rom entries l s fit h = record {
  bus = record { board = h.bus.board; rom = h.bus.rom; ram = h.bus.ram; status = h.bus.status; test = fit };
  covered = (h.covered.0, h.covered.1, record { at = h.covered.2.at; calls = h.covered.2.calls; ret = h.covered.2.ret; acc = h.covered.2.acc; locations = h.covered.2.locations; carry = h.covered.2.carry; registers = h.covered.2.registers; banks = h.covered.2.banks });
}

covered-after-cycle : (board : BoardParts) (rom : List ℕ) (entries : List Entry) (s : TrackedMachine) → ((e : Entry) → Contains entries e → StaysCoveredOneCycle board rom entries e) → IsCoveredOnBoard board rom entries s → IsCoveredOnBoard board rom entries (cycled no_observer s)
covered-after-cycle board rom entries s each h =
    let e = h.covered.0 in
    record {
      bus = bus-valid-after-cycle board rom s (member-below-16 (acc_values_of e s.0.cy) s.0.acc h.covered.2.acc) h.bus;
      covered = each e h.covered.1 s h.bus h.covered.2 h.covered.1;
    }

covered-at-every-moment : (board : BoardParts) (rom : List ℕ) (entries : List Entry) (s : TrackedMachine) → ((e : Entry) → Contains entries e → StaysCoveredOneCycle board rom entries e) → IsCoveredOnBoard board rom entries s →
    (f : ℕ → Levels) → ((k : ℕ) → FitsBoard s.1.board (f k)) → (k : ℕ) → IsCoveredOnBoard board rom entries (driven no_observer f k s)
covered-at-every-moment board rom entries s each h f fit zero = h
covered-at-every-moment board rom entries s each h f fit (suc k) =
    covered-after-cycle board rom entries (with_levels (f k) (driven no_observer f k s)) each
    (covered-at-other-levels board rom entries (f k) (driven no_observer f k s) (fit k).test (covered-at-every-moment board rom entries s each h f fit k))

pub closure-suffices : ClosureSuffices
closure-suffices board rom entries s each valid covered = λ f fit k.
    (covered-at-every-moment board rom entries s each (record { bus = valid; covered = covered }) f fit k).covered

-- Suppose that the certificate covers each machine covered by an entry after one more cycle. It
-- also does so for an equal board and equal ROM bytes.
pub stays-covered-for-equal-program : (board to_board : BoardParts) (rom to_rom : List ℕ) (entries : List Entry) (e : Entry) → board ≡ to_board → rom ≡ to_rom → StaysCoveredOneCycle board rom entries e → StaysCoveredOneCycle to_board to_rom entries e
stays-covered-for-equal-program board to_board rom to_rom entries e same_board same_rom h = λ s bus covers member.
    h s (record { board = bus.board ∙ sym same_board; rom = bus.rom ∙ sym same_rom; ram = bus.ram; status = bus.status; test = bus.test }) covers member
