use Rattle.mcs_disk.specs.NotedCalls.{calls_in}
use Rattle.mcs_host.specs.Ending.{bytes_found_in}
use Rattle.mcs_host.proofs.Leaving.{found_image_is_image_since}
use Rattle.mcs_host.proofs.laws.found_bytes_are_an_image.Goals as goal

pub returns : goal.returns
returns c = λ t file honest left. found_image_is_image_since file.inner_disk.history.start (calls_in file.inner_disk.history.notes) left.calls_not_made left.calls_made (calls_in file.inner_disk.end.notes) t (bytes_found_in file) left.all left.calls_before_end left.clock_reached honest
