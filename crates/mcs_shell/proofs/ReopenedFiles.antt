-- The contents found in a file of the host after a stop, seen as the bytes of a disk after a power
-- cut.
use Rattle.std.proofs.Common.{ℕ, List, sym, subst}
use Rattle.mcs_disk.specs.Calls.{images_after_since}
use Rattle.mcs_disk.specs.NotedCalls.{calls_in}
use Rattle.mcs_disk.proofs.StretchComposition.{durable_without_calls}
use Rattle.mcs_disk.specs.PowerCut.{IsLeftByCut}
use Rattle.mcs_host.specs.Ending.{as_disk, bytes_found_in}
use Rattle.mcs_host.specs.declared.file_disk.FileDisk.{FileDisk}
use Rattle.mcs_host.proofs.Leaving.{found_image_is_image_since}
use Rattle.mcs_shell.specs.FileHeadline.{IsReopenedFile}

-- The contents found in a file after a stop are possible contents after a power cut.
pub reopened_file_left_by_cut : (t : ℕ) (file reopened_file : FileDisk) → (as_disk file).honest → IsReopenedFile t file reopened_file → IsLeftByCut t (as_disk file) (as_disk reopened_file)
reopened_file_left_by_cut t file reopened_file honest h =
    let start = file.inner_disk.history.start in
    let calls = calls_in file.inner_disk.history.notes in
    let found = found_image_is_image_since start calls h.left.calls_not_made h.left.calls_made (calls_in file.inner_disk.end.notes) t (bytes_found_in file) h.left.all h.left.calls_before_end h.left.clock_reached honest in
    record {
      honest = h.honest;
      found = subst (λ (bytes : List ℕ). images_after_since start calls t bytes) (sym h.bytes) found;
      durable = durable_without_calls (as_disk reopened_file) h.opened.calls;
    }
