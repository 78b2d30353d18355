use Rattle.std.proofs.Common.{refl, List, ℕ}
use Rattle.mcs_host.specs.declared.file_disk.FileDisk.{FileDisk}
use Rattle.mcs_host.proofs.laws.each_image_can_be_found.Goals as goal

-- `file`, except that the open file ended after all of its calls, and the bytes `c` are found in it
-- at its next opening
abbrev file_with_found_bytes : FileDisk → List ℕ → FileDisk
file_with_found_bytes file c = record file { inner_disk = record file.inner_disk { end = record file.inner_disk.end { notes = file.inner_disk.history.notes; start = c } } }

pub returns : goal.returns
returns g = λ file c image. (file_with_found_bytes file c, image, record { faults = refl; bytes = refl; start = refl; calls = refl; same_host_state = refl; stable = refl; calls_before_end = refl; found = refl })
