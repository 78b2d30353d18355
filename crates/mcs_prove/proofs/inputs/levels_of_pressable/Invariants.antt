use Rattle.std.proofs.Common.{◌≡◌, drop, length, replicate}
use Rattle.mcs_model.specs.Boards.{key_count}
use Rattle.mcs_prove.specs.AllowedInputs.{with_pressable_keys}
use Rattle.mcs_prove.proofs.inputs.levels_of_pressable.Given as goal

abbrev pub invariant-loop-key : goal.invariant-loop-key
invariant-loop-key l = record {
  len : length l.levels.items ≡ key_count l.board;
  done : with_pressable_keys l.board l.levels.items (drop l.key-index l.keys) ≡ with_pressable_keys l.board (replicate (key_count l.board) 0) l.keys;
}
