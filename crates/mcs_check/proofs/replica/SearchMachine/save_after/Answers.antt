use Rattle.std.proofs.Common.{◌∙◌, ap, slice_index, List, ℕ}
use Rattle.mcs_check.proofs.Memory.{vector_of_machine-if_all_bytes}
use Rattle.mcs_check.proofs.replica.SearchMachine.save_after.Goals as goal

pub returns : goal.returns
returns c =
    let copied = c.copy_from_slice.ensures.after in
    vector_of_machine-if_all_bytes c.args.self.now c.args.layout.now c.save_first.new.vector c.args.front
    (c.save_first.ensures.length ∙ c.copy_from_slice.ensures.len ∙ c.requires.into) c.save_first.ensures.first
    (λ k d from l. c.save_first.ensures.others k from ∙ ap (λ (xs : List ℕ). slice_index xs k) copied ∙ c.requires.memory c.if-not-keeps_memory.false k d from l)
