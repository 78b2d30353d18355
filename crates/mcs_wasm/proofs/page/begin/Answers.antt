use Rattle.std.proofs.Common.{sym}
use Rattle.mcs_disk.specs.States.{mem_disk_state}
use Rattle.mcs_model.specs.BenchState.{new_bench_state}
use Rattle.mcs_session.proofs.Keeping.{current_bytes_represent}
use Rattle.mcs_wasm.proofs.page.begin.Goals as goal

pub returns-clause-created : goal.returns-clause-created
returns-clause-created c =
    rw c.write_back.ensures.written (rw (sym c.into_disk.ensures.is) at (current_bytes_represent (mem_disk_state c.in-Ok.new_session.disk) new_bench_state (c.in-Ok.ensures.created tt).represents))
