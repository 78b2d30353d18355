use Rattle.std.proofs.Common.{◌≡◌, ◌∙◌, sym, rules}
use Rattle.mcs_asm.specs.ByteCells.{cells_after_write}
use Rattle.mcs_asm.proofs.SpelledLists.{bytes_without_overlap_are_added}
use Rattle.mcs_asm.proofs.passes.SecondPassState.add.Goals as goal

pub returns-clause-bytes : goal.returns-clause-bytes
returns-clause-bytes c = λ pairs kept.
    let free = rw (c.from-at.ensures) at (sym c.is_occupied.ensures ∙ c.if-is_occupied.false) in
    let r = bytes_without_overlap_are_added c.args.self.now.cells pairs c.args.self.now.at c.args.next c.args.bytes.now c.requires.room free kept in
    let same : c.write.new.self ≡ cells_after_write c.args.self.now.at c.args.bytes.now c.args.self.now.cells = rw (← c.from-at.ensures) c.write.ensures in
    (r.0, r.1, r.2, rw same r.3)

pub returns-clause-span : goal.returns-clause-span
returns-clause-span c = search rules
