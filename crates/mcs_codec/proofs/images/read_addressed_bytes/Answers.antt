use Rattle.std.proofs.Common.{◌≡◌, ℕ, ◌+◌, ◌<◌, ◌++◌, ◌∷◌, [], ap, sym, ◌∙◌, arith}
use Rattle.std.specs.List.{All}
use Rattle.std.proofs.lemmas.List.Elements.{All-push}
use Rattle.mcs_codec.proofs.Loops.{addressed_bytes_past_count, unmarked_address_reads_nothing, marked_address_reads_one_byte}
use Rattle.mcs_codec.proofs.images.read_addressed_bytes.Goals as goal

pub returns-in_default : goal.returns-in_default
returns-in_default c =
    let next = marked_address_reads_one_byte c.args.marks.now c.loop-at.image 4096 c.loop-at.at c.loop-at.reader c.loop-at-test.true (sym c.mark_bit.ensures ∙ c.if-mark_bit-ne1.false) in
    sym (rw (sym c.in_default.ensures) at next) ∙ c.loop-at.invariant.all

pub loop-at-preserved-then-mark_bit-ne1 : goal.loop-at-preserved-then-mark_bit-ne1
loop-at-preserved-then-mark_bit-ne1 c = record {
  all = sym (unmarked_address_reads_nothing c.args.marks.now c.loop-at.image 4096 c.loop-at.at c.loop-at.reader c.loop-at-test.true (λ one. c.if-mark_bit-ne1.true (c.mark_bit.ensures ∙ one))) ∙ c.loop-at.invariant.all;
  below = λ i d lt. omega (arith, c.loop-at.invariant.below i d lt);
}

pub loop-at-preserved : goal.loop-at-preserved
loop-at-preserved c =
    let address : c.plus.result ≡ c.loop-at.at = omega arith in
    let added : c.push.new.self ≡ c.loop-at.image ++ (c.loop-at.at, c.in-Some.byte) ∷ [] = c.in_ok-push.ensures.added ∙ ap (λ (a : ℕ). c.loop-at.image ++ (a, c.in-Some.byte) ∷ []) address in
    let next = marked_address_reads_one_byte c.args.marks.now c.loop-at.image 4096 c.loop-at.at c.loop-at.reader c.loop-at-test.true (sym c.mark_bit.ensures ∙ c.if-mark_bit-ne1.false) in
    let weaker : All (λ p. p.0 < c.loop-at.at + 1) c.loop-at.image = λ i d lt. omega (arith, c.loop-at.invariant.below i d lt) in
    rw added (record {
      all = sym (rw (sym c.in-Some.ensures) at next) ∙ c.loop-at.invariant.all;
      below = All-push (λ p. p.0 < c.loop-at.at + 1) c.loop-at.image (c.loop-at.at, c.in-Some.byte) weaker (omega arith);
    })

pub returns : goal.returns
returns c = sym (addressed_bytes_past_count c.args.marks.now c.loop-at.image 4096 c.loop-at.at c.loop-at.reader c.loop-at-test.false) ∙ c.loop-at.invariant.all
