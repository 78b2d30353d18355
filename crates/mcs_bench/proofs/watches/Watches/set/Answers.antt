use Rattle.std.proofs.Common.{◌≡◌, ◌||◌, true, ℕ, List, sym, subst, arith, length, nat_lt}
use Rattle.mcs_model.specs.Listed.{is_listed}
use Rattle.mcs_model.specs.Bus.{ram_index}
use Rattle.mcs_bench.specs.BreakpointSet.{AreRamIndices}
use Rattle.mcs_bench.proofs.OrderedLists.{ram-indices-with_listed}
use Rattle.mcs_bench.proofs.watches.Watches.set.Goals as goal

pub invariant_of-self : goal.invariant_of-self
invariant_of-self c =
    let xs : List ℕ = c.self.inside.indices in
    let at : ℕ = c.ram_nibble_index.result in
    let is : at ≡ ram_index c.args.bank c.args.src = c.ram_nibble_index.ensures in
    let room : (is_listed xs at || nat_lt (length xs) 8) ≡ true = rw is (subst (λ (ys : List ℕ). (is_listed ys (ram_index c.args.bank c.args.src) || nat_lt (length ys) 8) ≡ true) (sym c.self.view_is) c.requires.room) in
    subst AreRamIndices (sym c.set.ensures) (ram-indices-with_listed xs at (omega arith) room c.self.invariant)
