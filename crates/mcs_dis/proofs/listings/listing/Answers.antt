use Rattle.std.proofs.Common.{◌≡◌, ◌<◌, ◌≤◌, length, eqb, true, false, arith, sym, ◌∙◌, string_bytes}
use Rattle.std.proofs.lemmas.Bool.{eqb-true, eqb-false}
use Rattle.mcs_source.specs.Text.{listing_text}
use Rattle.mcs_dis.proofs.Loops.{listing_so_far_after_piece_in_slice, listing_is_complete_at_end_of_rom, listing_is_complete_after_all_lines, listing_so_far_at_start}
use Rattle.mcs_dis.proofs.listings.listing.Goals as goal

pub loop-line-init : goal.loop-line-init
loop-line-init c =
    let low : c.args.from < 4096 = omega (arith, c.get-at.ensures.value, c.get-at.ensures.in_range) in
    listing_so_far_at_start c.args.rom.now (string_bytes c.new-out.result) c.args.from c.args.lines c.get-at.result c.from.result c.requires low c.new-out.ensures.bytes c.get-at.ensures.value (c.from.ensures ∙ c.get-at.ensures.value)

pub returns-then-is_empty : goal.returns-then-is_empty
returns-then-is_empty c =
    let none : eqb (length c.loop-line.rest.now) 0 ≡ true = sym c.is_empty.ensures ∙ c.if-is_empty.true in
    listing_is_complete_at_end_of_rom (listing_text c.args.rom.now c.args.from c.args.lines) (string_bytes c.loop-line.out) c.loop-line.rest.now _ c.loop-line.at (eqb-true _ _ none) c.loop-line.invariant

pub overflow_add-at : goal.overflow_add-at
overflow_add-at c =
    let fits : c.in_ok-size.size ≤ length c.loop-line.rest.now = c.in_ok-size.ensures.within.1 in
    omega (arith, c.loop-line.invariant.in_rom)

pub loop-line-preserved : goal.loop-line-preserved
loop-line-preserved c =
    let not_empty : eqb (length c.loop-line.rest.now) 0 ≡ false = sym c.is_empty.ensures ∙ c.if-is_empty.false in
    let some : 0 < length c.loop-line.rest.now = omega (arith, eqb-false _ _ not_empty) in
    let here : c.plus.result ≡ c.loop-line.at = omega (arith, c.plus.ensures, c.loop-line.invariant.in_rom) in
    listing_so_far_after_piece_in_slice (listing_text c.args.rom.now c.args.from c.args.lines) (string_bytes c.loop-line.out) (string_bytes c.push_listing_line.new.out) c.loop-line.rest.now c.args.lines c.loop-line._line c.loop-line.at c.in_ok-size.size c.plus.result
    c.loop-line-test.true some c.loop-line.invariant here c.in_ok-size.ensures.size c.in_ok-size.ensures.line

pub returns : goal.returns
returns c = listing_is_complete_after_all_lines (listing_text c.args.rom.now c.args.from c.args.lines) (string_bytes c.loop-line.out) c.loop-line.rest.now c.args.lines c.loop-line._line c.loop-line.at c.loop-line-test.false c.loop-line.invariant
