use Rattle.mcs_shift4003.proofs.WordLemmas.{packed-after_clearing_end}
use Rattle.mcs_shift4003.proofs.shift_bits.Goals as goal

pub returns-then-bits-ne0-clause-packed : goal.returns-then-bits-ne0-clause-packed
returns-then-bits-ne0-clause-packed c =
    let shifted = c.shift_words.ensures in
    let set_packed_bit = c.set_packed_bit.ensures in
    packed-after_clearing_end c.args.bits c.args.level c.args.words.now c.shift_words.new.words c.set_packed_bit.new.words c.requires shifted.len set_packed_bit.ten_bits set_packed_bit.len shifted.bits set_packed_bit.set set_packed_bit.others
