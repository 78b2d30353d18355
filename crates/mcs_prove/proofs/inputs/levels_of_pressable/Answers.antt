use Rattle.std.proofs.Common.{◌∙◌, ◌+◌, ℕ, List, drop, length, sym, ap}
use Rattle.std.proofs.lemmas.List.{at_drop_more}
use Rattle.mcs_prove.specs.AllowedInputs.{with_pressable_keys}
use Rattle.mcs_prove.proofs.Pressable.{length-with_pressable_key}
use Rattle.mcs_prove.proofs.inputs.levels_of_pressable.Goals as goal

pub loop-key-preserved : goal.loop-key-preserved
loop-key-preserved c =
    let b = c.args.board.now in
    let keys = c.args.keys.now in
    let levels = c.loop-key.levels.items in
    let i = c.loop-key.key-index in
    record {
      len = ap length c.allow_key.ensures ∙ length-with_pressable_key b levels _ ∙ c.loop-key.invariant.len;
      done =
          ap (λ (new : List ℕ). with_pressable_keys b new (drop (i + 1) keys)) c.allow_key.ensures
          ∙ sym (at_drop_more (with_pressable_keys b levels) keys i _ c.loop-key-test.true)
          ∙ c.loop-key.invariant.done;
    }
