-- A bus without RAM chips reads 0 at every status character.
use Rattle.std.proofs.Common.{◌≡◌, ℕ, ◌<◌, ◌+◌, ◌*◌, ◌/◌, sym, get_or, replicate, arith}
use Rattle.std.proofs.lemmas.List.{get_or-replicate}
use Rattle.mcs_model.specs.Bus.{status_of, zero_bus}
use Rattle.test_parts.proofs.processor.MemoryBus.status_read.Goals as goal

status_character_is_zero : (bank k : ℕ) → bank < 8 → k < 4 → get_or {A = ℕ} (replicate 512 0) (bank * 64 + (get_or {A = ℕ} (replicate 8 0) bank 0 / 16 * 4 + k)) 0 ≡ 0
status_character_is_zero bank k h l =
    let src : get_or {A = ℕ} (replicate 8 0) bank 0 ≡ 0 = get_or-replicate {A = ℕ} 8 bank 0 0 h in
    get_or-replicate {A = ℕ} 512 (bank * 64 + (get_or {A = ℕ} (replicate 8 0) bank 0 / 16 * 4 + k)) 0 0 (omega arith)

pub returns : goal.returns
unfolding status_of zero_bus
returns c = sym (status_character_is_zero c.args._bank c.args._k c.requires.bank c.requires.k)
