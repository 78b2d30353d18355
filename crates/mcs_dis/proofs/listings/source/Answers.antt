use Rattle.std.proofs.Common.{◌≡◌, ◌<◌, ◌≤◌, ◌++◌, List, ℕ, length, eqb, true, false, arith, sym, ap, ◌∙◌, string_bytes}
use Rattle.std.proofs.lemmas.Bool.{eqb-true, eqb-false}
use Rattle.mcs_source.specs.SourceText.{source_text, origin_text}
use Rattle.mcs_model.specs.TextLines.{as_line}
use Rattle.mcs_dis.proofs.Loops.{source_so_far_after_piece_in_slice, source_is_complete, source_so_far_at_start}
use Rattle.mcs_dis.proofs.listings.source.Goals as goal

pub loop-rest-init : goal.loop-rest-init
loop-rest-init c =
    let origin : string_bytes c.push_origin.new.out ≡ as_line (origin_text c.args.from) = c.in_ok-push_origin.ensures ∙ ap (λ (l : List ℕ). l ++ as_line (origin_text c.args.from)) c.new-out.ensures.bytes in
    source_so_far_at_start c.args.rom.now (string_bytes c.push_origin.new.out) c.args.from c.args.to c.get-at.result c.from.result c.from-2.result c.requires.rom c.requires.some c.requires.end origin c.get-at.ensures.value
    (c.from.ensures ∙ c.get-at.ensures.value) c.from-2.ensures

pub overflow_add-at : goal.overflow_add-at
overflow_add-at c =
    let fits : c.in_ok-size.size ≤ length c.loop-rest.rest.now = c.in_ok-size.ensures.within.1 in
    omega (arith, c.loop-rest.invariant.in_rom)

pub loop-rest-preserved : goal.loop-rest-preserved
loop-rest-preserved c =
    let not_empty : eqb (length c.loop-rest.rest.now) 0 ≡ false = sym c.is_empty.ensures ∙ c.loop-rest-test.true in
    let some : 0 < length c.loop-rest.rest.now = omega (arith, eqb-false _ _ not_empty) in
    let here : c.plus.result ≡ c.loop-rest.at = omega (arith, c.plus.ensures, c.loop-rest.invariant.in_rom) in
    source_so_far_after_piece_in_slice (source_text c.args.rom.now c.args.from c.args.to) (string_bytes c.loop-rest.out) (string_bytes c.push_source_line.new.out) c.loop-rest.rest.now c.loop-rest.at c.in_ok-size.size c.plus.result some c.loop-rest.invariant here
    c.in_ok-size.ensures.size c.in_ok-size.ensures.line

pub returns : goal.returns
returns c =
    let none : eqb (length c.loop-rest.rest.now) 0 ≡ true = sym c.is_empty.ensures ∙ c.loop-rest-test.false in
    source_is_complete (source_text c.args.rom.now c.args.from c.args.to) (string_bytes c.loop-rest.out) c.loop-rest.rest.now c.loop-rest.at (eqb-true _ _ none) c.loop-rest.invariant
