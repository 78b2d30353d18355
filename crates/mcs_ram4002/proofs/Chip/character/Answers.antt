use Rattle.std.proofs.Common.{◌≡◌, ◌%◌, ◌∙◌, sym, ap, arith, rules, length, slice_index}
use Rattle.mcs_ram4002.specs.RamBank.{half_of}
use Rattle.mcs_ram4002.proofs.PackedNibbles.{unpacked_nibbles-at_index}
use Rattle.mcs_ram4002.proofs.Chip.character.Goals as goal

pub returns : goal.returns
returns c =
    let main = c.args.self.now.main in
    let len : length main ≡ 32 = search rules in
    c.nibble_in_byte.ensures
    ∙ ap (λ i. half_of (slice_index main i) (c.args.at % 2)) c.from.ensures
    ∙ sym (unpacked_nibbles-at_index main c.args.at 0 (let h = c.requires in omega arith))
