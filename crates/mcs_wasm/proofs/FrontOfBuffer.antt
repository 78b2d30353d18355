-- If a shell executed the input and a call copied the answers to the front of the buffer,
-- `AnswersInBuffer` holds.
use Rattle.std.proofs.Common.{◌≡◌, ◌≤◌, ℕ, List, length, take, drop, sym, arith}
use Rattle.mcs_disk.specs.Disk.{bytes_of}
use Rattle.mcs_disk.specs.States.{mem_disk_state}
use Rattle.mcs_wasm.specs.Page.{AnswersInBuffer, ServesAllInput}
use Rattle.mcs_disk.specs.declared.memory.MemDisk.{MemDisk}
use Rattle.mcs_session.specs.SessionState.{SessionView}
use Rattle.mcs_shell.specs.declared.ends.ShellEnd.{ShellEnd}

abbrev pub answers_in_buffer_after_copy : (file input : List ℕ) (end : ShellEnd) (output : List ℕ) (left : SessionView MemDisk) (count : ℕ) (buffer buffer' after : List ℕ)
    → ServesAllInput file input end output left → length output ≤ length buffer → count ≡ length output → take count buffer' ≡ output → drop count buffer' ≡ drop count buffer → after ≡ bytes_of (mem_disk_state left.disk)
    → AnswersInBuffer file input end count buffer buffer' after
answers_in_buffer_after_copy file input end output left count buffer buffer' after served room counted front rest is = record {
  whole = served.whole;
  within = omega (arith, counted, room);
  served = record { left = left; run_on_file = rw front served.run_on_file; disk_bytes = record { honest = tt; bytes = sym is } };
  rest = rest;
}
