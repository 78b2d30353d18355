use Rattle.std.proofs.Common.{◌≡◌}
use Rattle.mcs_model.proofs.ImageLength.{length-image_at_most_4096}
use Rattle.mcs_model.proofs.image.Image.pairs.Goals as goal

pub returns-clause-few : goal.returns-clause-few
returns-clause-few c =
    let is : c.deref.result.now ≡ c.self.inside.pairs.items = c.deref.ensures.value in
    rw is (length-image_at_most_4096 c.self.inside.pairs.items c.self.invariant)
