use Rattle.std.proofs.Common.{◌≡◌, ◌+◌, ◌-◌, ◌*◌, ◌/◌, ◌%◌, ◌<◌, ◌∙◌, List, ℕ, sym, ap, arith, rules, length, slice_set, slice_index}
use Rattle.mcs_ram4002.specs.RamBank.{contents_of_chip, half_of, unpacked_nibbles, chip_after}
use Rattle.mcs_ram4002.proofs.PackedNibbles.{unpacked_nibbles-after_set, sized_chip-from_lengths}
use Rattle.mcs_ram4002.proofs.Chip.store.Goals as goal

pub returns-in-Character-clause-stored : goal.returns-in-Character-clause-stored
returns-in-Character-clause-stored c =
    let chip = c.args.self.now in
    let main = chip.main in
    let len : length main ≡ 32 = search rules in
    let at = c.in-Character.src % 64 in
    let new = c.byte_with_nibble.result in
    let old : half_of (slice_index main c.from-i.result) (1 - at % 2) ≡ half_of (slice_index main (at / 2)) (1 - at % 2) = ap (λ i. half_of (slice_index main i) (1 - at % 2)) c.from-i.ensures in
    let set : unpacked_nibbles (slice_set main c.from-i.result new) ≡ slice_set (unpacked_nibbles main) at c.in-Character.n =
    ap (λ i. unpacked_nibbles (slice_set main i new)) c.from-i.ensures ∙ unpacked_nibbles-after_set main at c.in-Character.n new (omega arith) c.byte_with_nibble.ensures.set (c.byte_with_nibble.ensures.other_half ∙ old) in
    ap (λ (cells : List ℕ). record (contents_of_chip chip) { main = cells }) set ∙ ap (chip_after (contents_of_chip chip)) (sym c.in-Character.is)

pub returns-in-Character-clause-sized : goal.returns-in-Character-clause-sized
returns-in-Character-clause-sized c = sized_chip-from_lengths c.args.self.now (search rules) (search rules)

pub returns-in-Status-clause-stored : goal.returns-in-Status-clause-stored
returns-in-Status-clause-stored c =
    let chip = c.args.self.now in
    let status = chip.status in
    let len : length status ≡ 8 = search rules in
    let high = c.in-Status.high in
    let k = c.in-Status.k in
    let k_below_4 : k < 4 = rw c.in-Status.is at c.requires in
    let at = c.get.result % 4 * 4 + k in
    let status_index : at ≡ high % 4 * 4 + k = ap (λ h. h % 4 * 4 + k) c.get.ensures.value in
    let new = c.byte_with_nibble-in-Status.result in
    let old : half_of (slice_index status c.from-i-in-Status.result) (1 - at % 2) ≡ half_of (slice_index status (at / 2)) (1 - at % 2) = ap (λ i. half_of (slice_index status i) (1 - at % 2)) c.from-i-in-Status.ensures in
    let set : unpacked_nibbles (slice_set status c.from-i-in-Status.result new) ≡ slice_set (unpacked_nibbles status) (high % 4 * 4 + k) c.in-Status.n =
    ap (λ i. unpacked_nibbles (slice_set status i new)) c.from-i-in-Status.ensures
    ∙ unpacked_nibbles-after_set status at c.in-Status.n new (omega arith) c.byte_with_nibble-in-Status.ensures.set (c.byte_with_nibble-in-Status.ensures.other_half ∙ old)
    ∙ ap (λ i. slice_set (unpacked_nibbles status) i c.in-Status.n) status_index in
    ap (λ (cells : List ℕ). record (contents_of_chip chip) { status = cells }) set ∙ ap (chip_after (contents_of_chip chip)) (sym c.in-Status.is)

pub returns-in-Status-clause-sized : goal.returns-in-Status-clause-sized
returns-in-Status-clause-sized c = sized_chip-from_lengths c.args.self.now (search rules) (search rules)

pub returns-in-Port-clause-sized : goal.returns-in-Port-clause-sized
returns-in-Port-clause-sized c = sized_chip-from_lengths c.args.self.now (search rules) (search rules)

pub returns-in-Src-clause-sized : goal.returns-in-Src-clause-sized
returns-in-Src-clause-sized c = sized_chip-from_lengths c.args.self.now (search rules) (search rules)
