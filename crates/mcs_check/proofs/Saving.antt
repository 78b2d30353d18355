-- A state vector that is written one byte at a time.
use Rattle.std.proofs.Common.{◌≡◌, ◌<◌, ◌+◌, ℕ, List, length, get_or, slice_set, ap, ◌∙◌, arith, below_more, get_or-set_same, get_or-set_other}
use Rattle.std.proofs.lemmas.List.{get_or_default}
use Rattle.mcs_drive.specs.TrackedMachine.{TrackedMachine}
use Rattle.mcs_check.specs.declared.cells.StateByte.{StateByte}
use Rattle.mcs_check.specs.Cells.{state_byte_value}
use Rattle.mcs_check.specs.Memory.{HasFirstBytes}

-- if the first i bytes of `vector` are correct, the first i + 1 bytes are correct after byte i is
-- written
pub has_first_bytes-after_next_byte_written : (t : TrackedMachine) (layout : List StateByte) (vector : List ℕ) (i v : ℕ) (e : StateByte) → i < length layout → length vector ≡ length layout → v ≡ state_byte_value t (get_or layout i e) → HasFirstBytes t layout vector i → HasFirstBytes t layout (slice_set vector i v) (i + 1)
has_first_bytes-after_next_byte_written t layout vector i v e within len is h =
    let here : (d : StateByte) → get_or (slice_set vector i v) i 0 ≡ state_byte_value t (get_or layout i d) =
    λ d. get_or-set_same vector i v 0 (omega arith) ∙ is ∙ ap (state_byte_value t) (get_or_default layout i e d within) in
    λ k d. below_more (λ k. get_or (slice_set vector i v) k 0 ≡ state_byte_value t (get_or layout k d)) i
    (λ k l. get_or-set_other vector i k v 0 (omega arith) ∙ h k d l) (here d) k

-- if the first i bytes of `vector` and byte i are correct, the first i + 1 bytes are correct
pub has_first_bytes-if_next_byte_correct : (t : TrackedMachine) (layout : List StateByte) (vector : List ℕ) (i : ℕ) (e : StateByte) → i < length layout → get_or vector i 0 ≡ state_byte_value t (get_or layout i e) → HasFirstBytes t layout vector i → HasFirstBytes t layout vector (i + 1)
has_first_bytes-if_next_byte_correct t layout vector i e within is h =
    λ k d. below_more (λ k. get_or vector k 0 ≡ state_byte_value t (get_or layout k d)) i (λ k l. h k d l) (is ∙ ap (state_byte_value t) (get_or_default layout i e d within)) k
