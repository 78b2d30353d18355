use Rattle.std.proofs.Common.{◌∙◌, ℕ, List, length, ap}
use Rattle.mcs_disk.specs.Disk.{bytes_of}
use Rattle.mcs_disk.specs.States.{mem_disk_state}
use Rattle.mcs_wasm.proofs.FrontOfBuffer.{answers_in_buffer_after_copy}
use Rattle.mcs_disk.specs.declared.memory.MemDisk.{MemDisk}
use Rattle.mcs_wasm.proofs.page.serve.Goals as goal

pub returns-clause-served : goal.returns-clause-served
returns-clause-served c =
    let bytes_written = c.write_back.ensures.written ∙ ap (λ (d : MemDisk). bytes_of (mem_disk_state d)) c.into_disk.ensures.is in
    let output = c.deref.ensures.value in
    let count = c.copy_to_front-count.ensures.count ∙ ap (λ (bytes : List ℕ). length bytes) output in
    answers_in_buffer_after_copy _ _ _ _ _ _ _ _ _ c.in-Ok.ensures.served c.in-Ok.ensures.room count (c.copy_to_front-count.ensures.answers ∙ output) c.copy_to_front-count.ensures.rest bytes_written
