-- The scope of conditions: the parts of a machine that the conditions depend on. A cycle that
-- changes nothing in the scope does not change whether a comparison is met.
use Rattle.std.specs.Prelude.{ℕ, ◌+◌, ◌*◌, ◌%◌, List, [], ◌∷◌, Bool, true, false, ◌&&◌, ◌||◌, Option, Some, None, nat_le, slice_index_or}
use Rattle.mcs_model.specs.declared.op.Op.{Op}
use Rattle.mcs_model.specs.declared.op.Op.TheVariants.{Fim, Src, Fin, Inc, Isz, Xch, Wrm, Wmp, Wrr, Wr0, Wr1, Wr2, Wr3}
use Rattle.mcs_drive.specs.TrackedMachine.{TrackedMachine}
use Rattle.mcs_check.specs.declared.cells.CellList.{CellList}
use Rattle.mcs_check.specs.declared.cells.CellList.TheVariants.{Registers, Counters}
use Rattle.mcs_check.specs.declared.common_mistakes.Mistakes.{Mistakes}
use Rattle.mcs_check.specs.declared.conditions.Condition.{Condition}
use Rattle.mcs_check.specs.declared.conditions.Condition.TheVariants.{Compare, Mistaken}
use Rattle.mcs_check.specs.declared.scope.Scope.{Scope}
use Rattle.mcs_check.specs.Mistaken.{cycle_makes_mistake}

-- true if an index register is in a scope
abbrev pub has_register : Scope → ℕ → Bool
has_register c r = slice_index_or c.registers r false

-- true if cell i of a list is in a scope. A cell of a chip is in a scope that includes the chips.
-- Of the counters, the bytes of the stopwatch and the number of marks seen are in every scope, and
-- the others are in no scope.
abbrev pub has_cell : Scope → CellList → ℕ → Bool
has_cell c Registers i = has_register c (i % 16)
has_cell c Counters i = nat_le 14 (i % 18)
has_cell c _ i = c.chips

-- true if a scope covers everything that a condition depends on
abbrev pub has_condition : Scope → Condition → Bool
has_condition c (Compare x) = has_cell c x.cell.list x.cell.index
has_condition c (Mistaken kinds) = c.mistakes

-- true if a scope covers everything that the conditions of a list depend on
abbrev pub has_all_conditions : Scope → List Condition → Bool
has_all_conditions c [] = true
has_all_conditions c (x ∷ xs) = has_condition c x && has_all_conditions c xs

-- true if a scope covers everything that the conditions of several lists depend on
abbrev pub has_all_lists : Scope → List (List Condition) → Bool
has_all_lists c [] = true
has_all_lists c (xs ∷ never_lists) = has_all_conditions c xs && has_all_lists c never_lists

-- true if an instruction may change a register or a chip in a scope
abbrev pub changes : Scope → Op → Bool
changes c (Fim k b) = has_register c (2 * k) || has_register c (2 * k + 1)
changes c (Fin k) = has_register c (2 * k) || has_register c (2 * k + 1)
changes c (Inc r) = has_register c r
changes c (Isz r b) = has_register c r
changes c (Xch r) = has_register c r
changes c (Src k) = c.chips
changes c Wrm = c.chips
changes c Wmp = c.chips
changes c Wrr = c.chips
changes c Wr0 = c.chips
changes c Wr1 = c.chips
changes c Wr2 = c.chips
changes c Wr3 = c.chips
changes c _ = false

-- true if a cycle that begins this instruction may change a register or a chip in a scope. A cycle
-- that begins no instruction (None) cannot.
abbrev pub cycle_may_change_scope : Scope → Option Op → Bool
cycle_may_change_scope c (Some op) = changes c op
cycle_may_change_scope c None = false

-- all kinds of mistake
abbrev pub all_mistakes : Mistakes
all_mistakes = record {
  invalid_opcode = true;
  fourth_call = true;
  unmatched_return = true;
  absent_ram = true;
  absent_rom = true;
  port_without_inputs = true;
  port_without_outputs = true;
}

-- true if a scope includes mistakes and the next cycle makes a mistake of any kind
abbrev pub makes_mistake_in_scope : Scope → TrackedMachine → Bool
makes_mistake_in_scope c s = c.mistakes && cycle_makes_mistake all_mistakes s
