-- A bus without RAM chips reads 0 at every main nibble.
use Rattle.std.proofs.Common.{◌≡◌, ℕ, ◌<◌, ◌+◌, ◌*◌, sym, get_or, replicate, arith}
use Rattle.std.proofs.lemmas.List.{get_or-replicate}
use Rattle.mcs_model.specs.Bus.{ram_of, zero_bus}
use Rattle.test_parts.proofs.processor.MemoryBus.ram_read.Goals as goal

ram_nibble_is_zero : (bank : ℕ) → bank < 8 → get_or {A = ℕ} (replicate 2048 0) (bank * 256 + get_or {A = ℕ} (replicate 8 0) bank 0) 0 ≡ 0
ram_nibble_is_zero bank h =
    let src : get_or {A = ℕ} (replicate 8 0) bank 0 ≡ 0 = get_or-replicate {A = ℕ} 8 bank 0 0 h in
    get_or-replicate {A = ℕ} 2048 (bank * 256 + get_or {A = ℕ} (replicate 8 0) bank 0) 0 0 (omega arith)

pub returns : goal.returns
unfolding ram_of zero_bus
returns c = sym (ram_nibble_is_zero c.args._bank c.requires)
