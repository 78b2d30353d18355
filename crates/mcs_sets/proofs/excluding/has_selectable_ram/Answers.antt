use Rattle.std.proofs.Common.{below_more, slice_index, arith}
use Rattle.mcs_sets.proofs.Memory.{member-below-16}
use Rattle.mcs_sets.proofs.excluding.has_selectable_ram.Goals as goal

pub loop-bank-preserved : goal.loop-bank-preserved
loop-bank-preserved c =
    below_more _ _ c.loop-bank.invariant
    (λ h. record { bank_exists = c.has_chips_of_bank.ensures.bank_exists c.if-not-has_chips_of_bank.false h; chips = c.has_chips_of_bank.ensures.chips c.if-not-has_chips_of_bank.false h })

pub returns : goal.returns
returns c = λ _ n h. c.loop-bank.invariant n (let end = c.loop-bank-test.false in let n_below_16 = member-below-16 (slice_index c.args.entry.now.sets 16) n h in omega arith) h
