use Rattle.std.proofs.Common.{◌∙◌, sym, ap, length}
use Rattle.mcs_wiring.proofs.TomlViews.{length_of_views}
use Rattle.mcs_wiring.proofs.values.count_at.Goals as goal

pub returns : goal.returns
returns c = sym (length_of_views c.values_at.result.now) ∙ ap length c.values_at.ensures
