-- Lemmas about `bits_of_chains`, the list of each chain's bits.
use Rattle.std.proofs.Common.{◌≡◌, ℕ, zero, suc, ◌<◌, List, [], ◌∷◌, length, get_or, refl, sym, ap, arith}
use Rattle.arrayvec.specs.ArrayVec.{ArrayVec}
use Rattle.mcs_bench.specs.States.{bits_of_chains}

pub bits_of_chains-length : (chains : List (ArrayVec ℕ)) → length (bits_of_chains chains) ≡ length chains
bits_of_chains-length [] = refl
bits_of_chains-length (r ∷ chains) = ap suc (bits_of_chains-length chains)

pub bits_of_chains-at-index : (chains : List (ArrayVec ℕ)) (i : ℕ) (r : ArrayVec ℕ) → i < length chains → r ≡ get_or chains i r → get_or (bits_of_chains chains) i [] ≡ r.items
bits_of_chains-at-index [] i r l e = absurd (omega arith)
bits_of_chains-at-index (x ∷ chains) zero r l e = ap (λ (a : ArrayVec ℕ). a.items) (sym e)
bits_of_chains-at-index (x ∷ chains) (suc i) r l e = bits_of_chains-at-index chains i r (omega arith) e
