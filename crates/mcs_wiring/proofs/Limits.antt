-- If `has_too_many` is false for a table, `IsWithinLimits` holds for it.
use Rattle.std.proofs.Common.{◌≡◌, ℕ, ◌≤◌, false, ◌||◌, length, codes, ltb, arith}
use Rattle.std.proofs.lemmas.Bool.Decides.{nat_tests}
use Rattle.toml.specs.Data.{Members}
use Rattle.mcs_model.specs.declared.limits.TheConstants.{ROMS, BANKS, CHAINS, KEY_COLUMNS, LAMPS}
use Rattle.mcs_wiring.specs.Wiring.{has_too_many, values_at, column_values}
use Rattle.mcs_wiring.specs.Flaws.{IsWithinLimits}

counts_within_limits : (a b c d e : ℕ) → ((((ltb ROMS a || ltb BANKS b) || ltb CHAINS c) || ltb KEY_COLUMNS d) || ltb LAMPS e) ≡ false
    → (a ≤ ROMS) × (b ≤ BANKS) × (c ≤ CHAINS) × (d ≤ KEY_COLUMNS) × (e ≤ LAMPS)
counts_within_limits a b c d e h = (grind (arith, nat_tests), grind (arith, nat_tests), grind (arith, nat_tests), grind (arith, nat_tests), grind (arith, nat_tests))

pub within_limits_if_not_too_many : (ms : Members) → has_too_many ms ≡ false → IsWithinLimits ms
within_limits_if_not_too_many ms h =
    let limits = counts_within_limits (length (values_at (codes "rom") ms)) (length (values_at (codes "ram") ms)) (length (values_at (codes "chain") ms)) (length (column_values ms)) (length (values_at (codes "lamp") ms)) h in
    record { roms = limits.0; banks = limits.1; chains = limits.2; columns = limits.3; lamps = limits.4 }
