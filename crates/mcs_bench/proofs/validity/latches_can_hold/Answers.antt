use Rattle.std.proofs.Common.{inl, inr, get_or, arith, refl}
use Rattle.std.proofs.lemmas.Bool.{cases_lt}
use Rattle.std.proofs.lemmas.List.{get_or_past}
use Rattle.mcs_model.specs.Boards.{rom_masks}
use Rattle.mcs_bench.proofs.ChipListLemmas.{latch-can-hold-zero}
use Rattle.mcs_bench.proofs.validity.latches_can_hold.Goals as goal

pub returns : goal.returns
returns c = (
  λ _ chip.
      elim (cases_lt chip 16) [
        | inl l ↦ c.loop-chip.invariant chip (omega arith)
        | inr g ↦ latch-can-hold-zero (rom_masks c.args.board.now chip) (get_or c.args.ports.now chip 0) (get_or_past c.args.ports.now chip 0 (let r = c.requires.has_count in omega arith))
      ],
  λ _. refl,
)
