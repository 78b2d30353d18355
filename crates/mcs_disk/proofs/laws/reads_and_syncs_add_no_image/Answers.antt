use Rattle.mcs_disk.proofs.StretchComposition.{bytes_unchanged_without_new_image, image_is_old_without_new_image, image_since_is_old_without_new_image}
use Rattle.mcs_disk.proofs.laws.reads_and_syncs_add_no_image.Goals as goal

pub returns-clause-bytes : goal.returns-clause-bytes
returns-clause-bytes g c = λ old new. bytes_unchanged_without_new_image (g.D.Disk.state old) (g.D.Disk.state new)

pub returns-clause-now : goal.returns-clause-now
returns-clause-now g c = λ old new image adds_no_image. image_is_old_without_new_image (g.D.Disk.state old) (g.D.Disk.state new) adds_no_image image

pub returns-clause-since : goal.returns-clause-since
returns-clause-since g c = λ time old new image adds_no_image. image_since_is_old_without_new_image (g.D.Disk.state old) (g.D.Disk.state new) adds_no_image time image
