use Rattle.std.proofs.Common.{List, ℕ, sym, subst}
use Rattle.mcs_disk.proofs.StretchComposition.{durable_without_calls}
use Rattle.mcs_host.specs.Ending.{as_disk, bytes_found_in}
use Rattle.mcs_disk.specs.Calls.{images_after_since}
use Rattle.mcs_disk.specs.NotedCalls.{calls_in}
use Rattle.mcs_host.proofs.Leaving.{found_image_is_image_since}
use Rattle.mcs_host.proofs.laws.reopened_file_is_left_by_cut.Goals as goal

pub returns : goal.returns
returns c = λ t file reopened honest left reopened_honest opened same.
    let start = file.inner_disk.history.start in
    let found = found_image_is_image_since start (calls_in file.inner_disk.history.notes) left.calls_not_made left.calls_made (calls_in file.inner_disk.end.notes) t (bytes_found_in file) left.all left.calls_before_end left.clock_reached honest in
    record {
      honest = reopened_honest;
      found = subst (λ (bytes : List ℕ). images_after_since start (calls_in file.inner_disk.history.notes) t bytes) (sym same) found;
      durable = durable_without_calls (as_disk reopened) opened.calls;
    }
