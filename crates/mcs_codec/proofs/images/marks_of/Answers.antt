use Rattle.std.proofs.Common.{◌∙◌, rules}
use Rattle.std.proofs.lemmas.List.{get_or-replicate}
use Rattle.mcs_codec.proofs.ImageCodec.{marks_with_next_address}
use Rattle.mcs_codec.proofs.images.marks_of.Goals as goal

pub loop-pair-init : goal.loop-pair-init
loop-pair-init c = λ at lt. get_or-replicate 4096 at 0 0 lt

pub loop-pair-preserved : goal.loop-pair-preserved
loop-pair-preserved c = marks_with_next_address c.args.image.now c.loop-pair.marks c.loop-pair.pair-index c.pair-item.result c.from.result c.loop-pair-test.true c.pair-item.is (c.from.ensures ∙ c.get.ensures.value) (search rules) c.loop-pair.invariant
