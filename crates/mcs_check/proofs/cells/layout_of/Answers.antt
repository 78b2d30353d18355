use Rattle.std.proofs.Common.{arith, below_more}
use Rattle.mcs_check.specs.declared.cells.CellList.TheVariants.{Chain, StatusCharacters, RamPorts, RomPorts, BankSrcBytes, Registers, Counters}
use Rattle.mcs_check.specs.Cells.{ContainsCellsOf}
use Rattle.mcs_check.proofs.LayoutFilling.{contains_cells-if_contains_bytes, contains_cells-of_all_chains, complete}
use Rattle.mcs_check.proofs.cells.layout_of.Goals as goal

pub loop-n-preserved : goal.loop-n-preserved
loop-n-preserved c =
    let b = c.args.board.now in
    let before = c.loop-n.layout.items in
    let after = c.add_list.new.layout.items in
    below_more (λ m. ContainsCellsOf b after (Chain m)) c.loop-n.n
    (λ m h. contains_cells-if_contains_bytes b (Chain m) before after c.in_ok-add_list.ensures.keeps (c.loop-n.invariant m h))
    c.in_ok-add_list.ensures.has

pub returns : goal.returns
returns c =
    let b = c.args.board.now in
    let l1 = c.loop-n.layout.items in
    let l2 = c.add_list-2.new.layout.items in
    let l3 = c.add_list-3.new.layout.items in
    let l4 = c.add_list-4.new.layout.items in
    let l5 = c.add_list-5.new.layout.items in
    let l6 = c.add_list-6.new.layout.items in
    let l7 = c.add_list-7.new.layout.items in
    let l8 = c.add_list-8.new.layout.items in
    let k2 = c.in_ok-add_list-2.ensures.keeps in
    let k3 = c.in_ok-add_list-3.ensures.keeps in
    let k4 = c.in_ok-add_list-4.ensures.keeps in
    let k5 = c.in_ok-add_list-5.ensures.keeps in
    let k6 = c.in_ok-add_list-6.ensures.keeps in
    let k7 = c.in_ok-add_list-7.ensures.keeps in
    let k8 = c.in_ok-add_list-8.ensures.keeps in
    complete b l8
    (λ m. contains_cells-if_contains_bytes b (Chain m) l1 l8 (λ d h. k8 d (k7 d (k6 d (k5 d (k4 d (k3 d (k2 d h)))))))
    (contains_cells-of_all_chains b l1 c.parts-parts.ensures.sized (λ j h. c.loop-n.invariant j (let t = c.loop-n-test.false in omega arith)) m))
    (contains_cells-if_contains_bytes b Counters l2 l8 (λ d h. k8 d (k7 d (k6 d (k5 d (k4 d (k3 d h)))))) c.in_ok-add_list-2.ensures.has)
    (contains_cells-if_contains_bytes b Registers l3 l8 (λ d h. k8 d (k7 d (k6 d (k5 d (k4 d h))))) c.in_ok-add_list-3.ensures.has)
    (contains_cells-if_contains_bytes b BankSrcBytes l4 l8 (λ d h. k8 d (k7 d (k6 d (k5 d h)))) c.in_ok-add_list-4.ensures.has)
    (contains_cells-if_contains_bytes b RomPorts l5 l8 (λ d h. k8 d (k7 d (k6 d h))) c.in_ok-add_list-5.ensures.has)
    (contains_cells-if_contains_bytes b RamPorts l6 l8 (λ d h. k8 d (k7 d h)) c.in_ok-add_list-6.ensures.has)
    (contains_cells-if_contains_bytes b StatusCharacters l7 l8 k8 c.in_ok-add_list-7.ensures.has)
    c.in_ok-add_list-8.ensures.has
