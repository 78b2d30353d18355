use Rattle.std.proofs.Common.{◌∙◌}
use Rattle.std.proofs.lemmas.List.{length-set}
use Rattle.mcs_codec.proofs.ImageCodec.{packed_marks_with_next_byte, packed_marks_are_mark_bytes}
use Rattle.mcs_codec.proofs.images.packed_marks.Goals as goal

pub loop-i-preserved : goal.loop-i-preserved
loop-i-preserved c = record {
  len = length-set c.loop-i.packed c.loop-i.i c.mark_byte.result ∙ c.loop-i.invariant.len;
  so_far = packed_marks_with_next_byte c.args.image.now c.marks_of-marks.result c.loop-i.packed c.loop-i.i c.mark_byte.result c.loop-i-test.true c.loop-i.invariant.len c.marks_of-marks.ensures c.mark_byte.ensures c.loop-i.invariant.so_far;
}

pub returns : goal.returns
returns c = packed_marks_are_mark_bytes c.args.image.now c.loop-i.packed c.loop-i.i c.loop-i-test.false c.loop-i.invariant.len c.loop-i.invariant.so_far
