use Rattle.std.proofs.Common.{◌+◌, ◌∙◌, ℕ, false, length, sym, ap}
use Rattle.mcs_drive.specs.TrackedMachine.{seen_count_after}
use Rattle.mcs_check.proofs.replica.SearchMachine.seen_after.Goals as goal

pub returns-then-is_open : goal.returns-then-is_open
returns-then-is_open c =
    ap (λ (n : ℕ). n + 1) c.mark_count.ensures.count
    ∙ sym (ap (λ b. seen_count_after (length c.args.property.now.marks) c.args.self.now.2.seen b c.args.shown) c.if-is_open.true)

pub returns-then-shown : goal.returns-then-shown
returns-then-shown c =
    let count = seen_count_after (length c.args.property.now.marks) c.args.self.now.2.seen in
    ap (λ (n : ℕ). n + 1) c.seen_mark_count-seen.ensures.seen ∙ sym (ap (λ b. count b c.args.shown) c.if-is_open.false ∙ ap (count false) c.if-shown.true)

pub returns-else-shown : goal.returns-else-shown
returns-else-shown c =
    let count = seen_count_after (length c.args.property.now.marks) c.args.self.now.2.seen in
    c.seen_mark_count-seen.ensures.seen ∙ sym (ap (λ b. count b c.args.shown) c.if-is_open.false ∙ ap (count false) c.if-shown.false)
