-- The maximum number of pairs in an image.
use Rattle.std.proofs.Common.{ℕ, zero, suc, ◌<◌, ◌≤◌, List, [], ◌∷◌, length, get_or, arith}
use Rattle.mcs_model.specs.Images.{HasAscendingAddresses, IsImage}

-- if the addresses are in strictly ascending order, the address of pair `i` is at least `i`
index_le_address : (pairs : List (ℕ × ℕ)) (d : ℕ × ℕ) → HasAscendingAddresses pairs → (i : ℕ) → i < length pairs → i ≤ (get_or pairs i d).0
index_le_address pairs d rising zero lt = omega arith
index_le_address pairs d rising (suc i) lt =
    let before : i ≤ (get_or pairs i d).0 = index_le_address pairs d rising i (omega arith) in
    let here : (get_or pairs i d).0 < (get_or pairs (suc i) d).0 = rising i (suc i) d (omega arith) lt in
    omega arith

-- an image has at most 4096 pairs
pub length-image_at_most_4096 : (pairs : List (ℕ × ℕ)) → IsImage pairs → length pairs ≤ 4096
length-image_at_most_4096 [] image = omega arith
length-image_at_most_4096 (p ∷ pairs) image =
    let last : length pairs ≤ (get_or (p ∷ pairs) (length pairs) (0, 0)).0 = index_le_address (p ∷ pairs) (0, 0) image.rising (length pairs) (omega arith) in
    let within : (get_or (p ∷ pairs) (length pairs) (0, 0)).0 < 4096 = (image.in_range (length pairs) (0, 0) (omega arith)).0 in
    omega arith
