-- Properties of lists of zeros.
use Rattle.std.proofs.Common.{◌==◌, ℕ, zero, suc, List, [], ◌∷◌, replicate, take, refl}
use Rattle.std.proofs.lemmas.Bool.{and_parts, and_from}
use Rattle.mcs_host.specs.Opening.{AreZeros}

pub replicated_zeros_are_zeros : (n : ℕ) → AreZeros (replicate n 0)
replicated_zeros_are_zeros zero = refl
replicated_zeros_are_zeros (suc n) = replicated_zeros_are_zeros n

pub prefix_of_zeros_is_zeros : (n : ℕ) (bytes : List ℕ) → AreZeros bytes → AreZeros (take n bytes)
prefix_of_zeros_is_zeros zero bytes all = refl
prefix_of_zeros_is_zeros (suc n) [] all = refl
prefix_of_zeros_is_zeros (suc n) (b ∷ bytes) all = let both = and_parts (b == 0) _ all in and_from _ _ both.0 (prefix_of_zeros_is_zeros n bytes both.1)
