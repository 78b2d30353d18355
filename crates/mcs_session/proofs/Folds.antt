-- Commands that are executed one after another, split into two lists.
use Rattle.std.proofs.Common.{◌≡◌, List, [], ◌∷◌, ◌++◌, refl}
use Rattle.mcs_model.specs.declared.command.Command.{Command}
use Rattle.mcs_model.specs.BenchState.{BenchState}
use Rattle.mcs_model.specs.Command.{after}
use Rattle.mcs_model.specs.Fold.{fold}

pub fold-append : (s : BenchState) (cs ds : List Command) → fold s (cs ++ ds) ≡ fold (fold s cs) ds
fold-append s [] ds = refl
fold-append s (c ∷ cs) ds = fold-append (after s c) cs ds
