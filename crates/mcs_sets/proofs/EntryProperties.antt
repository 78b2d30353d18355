-- If a certificate covers a machine at every moment, a property that holds in each entry holds for
-- all inputs.
use Rattle.std.proofs.Common.{ℕ, zero, suc, List}
use Rattle.mcs_drive.specs.DrivenRuns.{Levels, FitsBoard}
use Rattle.mcs_drive.specs.TrackedMachine.{TrackedMachine, with_levels, driven, no_observer}
use Rattle.mcs_sets.specs.declared.entries.Entry.{Entry}
use Rattle.mcs_sets.specs.Entries.{acc_values_of}
use Rattle.mcs_sets.specs.Excluding.{EntriesSuffice}
use Rattle.mcs_sets.specs.Closure.{IsBusOf, StaysCovered}
use Rattle.mcs_sets.proofs.Memory.{member-below-16, bus-valid-after-cycle}

-- at every moment, the board and the ROM bytes are unchanged and all RAM values are nibbles
bus-valid-at-every-moment : (entries : List Entry) (s : TrackedMachine) → IsBusOf s.1.board s.1.rom s.1 → StaysCovered entries s →
    (f : ℕ → Levels) → ((k : ℕ) → FitsBoard s.1.board (f k)) → (k : ℕ) → IsBusOf s.1.board s.1.rom (driven no_observer f k s).1
bus-valid-at-every-moment entries s start_valid stays f fit zero = start_valid
bus-valid-at-every-moment entries s start_valid stays f fit (suc k) =
    let bus_valid = bus-valid-at-every-moment entries s start_valid stays f fit k in
    let covered_at_k = stays f fit k in
    bus-valid-after-cycle s.1.board s.1.rom (with_levels (f k) (driven no_observer f k s)) (member-below-16 (acc_values_of covered_at_k.0 (driven no_observer f k s).0.cy) (driven no_observer f k s).0.acc covered_at_k.2.acc)
    (record { board = bus_valid.board; rom = bus_valid.rom; ram = bus_valid.ram; status = bus_valid.status; test = (fit k).test })

pub entries-suffice : EntriesSuffice
entries-suffice p entries s each start_valid stays = λ limits f allowed k.
    let fits_board : (i : ℕ) → FitsBoard s.1.board (f i) = λ i. (allowed.levels i).fits in
    let covered_at_k = stays f fits_board k in
    each covered_at_k.0 covered_at_k.1 (driven no_observer f k s) (bus-valid-at-every-moment entries s start_valid stays f fits_board k) covered_at_k.2
