-- Conditions do not depend on the levels of the keys and of TEST. (mcs_check has the same lemma,
-- but other crates cannot use the proofs of mcs_check.)
use Rattle.std.proofs.Common.{◌≡◌, ◌%◌, ℕ, not, cond, ◌&&◌, List, [], ◌∷◌, slice_index, nat_le, refl, ap, ◌∙◌}
use Rattle.mcs_model.specs.Bus.{fetch_of}
use Rattle.mcs_drive.specs.TrackedMachine.{TrackedMachine, without_levels}
use Rattle.mcs_drive.specs.RunsBetweenReads.{IgnoresLevels}
use Rattle.mcs_check.specs.declared.cells.Cell.{Cell}
use Rattle.mcs_check.specs.declared.cells.CellList.{CellList}
use Rattle.mcs_check.specs.declared.cells.CellList.TheVariants.{RamNibbles, StatusCharacters, RamPorts, RomPorts, BankSrcBytes, Registers, Counters, Chain}
use Rattle.mcs_check.specs.declared.conditions.Comparison.{Comparison}
use Rattle.mcs_check.specs.declared.conditions.Condition.{Condition}
use Rattle.mcs_check.specs.declared.conditions.Condition.TheVariants.{Compare, Mistaken}
use Rattle.mcs_check.specs.declared.common_mistakes.Mistakes.{Mistakes}
use Rattle.mcs_check.specs.Cells.{max_cell_count, values_in_list, value_at}
use Rattle.mcs_check.specs.Conditions.{are_met, comparison_is_met, is_met, meets_none, part_of}
use Rattle.mcs_check.specs.Mistaken.{cycle_makes_mistake}

values_in_list-without_levels : (t : TrackedMachine) (list : CellList) → values_in_list t list ≡ values_in_list (without_levels t) list
values_in_list-without_levels t RamNibbles = refl
values_in_list-without_levels t StatusCharacters = refl
values_in_list-without_levels t RamPorts = refl
values_in_list-without_levels t RomPorts = refl
values_in_list-without_levels t BankSrcBytes = refl
values_in_list-without_levels t Registers = refl
values_in_list-without_levels t Counters = refl
values_in_list-without_levels t (Chain n) = refl

value-without_levels : (t : TrackedMachine) (c : Cell) → value_at t c ≡ value_at (without_levels t) c
value-without_levels t c = ap (λ (xs : List ℕ). slice_index xs (c.index % max_cell_count c.list)) (values_in_list-without_levels t c.list)

comparison_is_met-without_levels : (t : TrackedMachine) (c : Comparison) → comparison_is_met t c ≡ comparison_is_met (without_levels t) c
comparison_is_met-without_levels t c =
    ap (λ (n : ℕ). cond c.inside (nat_le c.low (part_of n c.part) && nat_le (part_of n c.part) c.high) (not (nat_le c.low (part_of n c.part) && nat_le (part_of n c.part) c.high)))
    (value-without_levels t c.cell)

cycle_makes_mistake-without_levels : (mistakes : Mistakes) (t : TrackedMachine) → cycle_makes_mistake mistakes t ≡ cycle_makes_mistake mistakes (without_levels t)
unfolding fetch_of
cycle_makes_mistake-without_levels mistakes t = refl

is_met-without_levels : (t : TrackedMachine) (c : Condition) → is_met t c ≡ is_met (without_levels t) c
is_met-without_levels t (Compare c) = comparison_is_met-without_levels t c
is_met-without_levels t (Mistaken mistakes) = cycle_makes_mistake-without_levels mistakes t

are_met-without_levels : (t : TrackedMachine) (cs : List Condition) → are_met t cs ≡ are_met (without_levels t) cs
are_met-without_levels t [] = refl
are_met-without_levels t (c ∷ cs) = ap (λ b. b && are_met t cs) (is_met-without_levels t c) ∙ ap (λ b. is_met (without_levels t) c && b) (are_met-without_levels t cs)

pub conditions-ignore : (never_lists : List (List Condition)) → IgnoresLevels (meets_none never_lists)
conditions-ignore [] t = refl
conditions-ignore (cs ∷ never_lists) t = ap (λ b. not b && meets_none never_lists t) (are_met-without_levels t cs) ∙ ap (λ b. not (are_met (without_levels t) cs) && b) (conditions-ignore never_lists t)
