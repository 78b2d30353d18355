-- State vectors of one width that are stored back to back in a list of bytes.
use Rattle.std.proofs.Common.{◌≡◌, ℕ, ◌+◌, ◌*◌, ◌<◌, ◌≤◌, zero, suc, List, [], ◌∷◌, ◌++◌, length, take, drop, get_or, refl, sym, ap, ◌∙◌, arith, length-drop}
use Rattle.std.proofs.Math.Nat.{suc-mul, mul-le-mul_right}
use Rattle.std.proofs.Math.Seq.{take-length}
use Rattle.std.proofs.lemmas.List.{take-append-le, drop-append-le, drop-drop}
use Rattle.mcs_search.specs.StateStores.{states_in_bytes}

pub length-states_in_bytes : (width n : ℕ) (bytes : List ℕ) → length (states_in_bytes width n bytes) ≡ n
unfolding states_in_bytes
length-states_in_bytes width zero bytes = refl
length-states_in_bytes width (suc n) bytes = ap suc (length-states_in_bytes width n (drop width bytes))

-- Each state vector ends within the list of bytes.
pub state_end-within_bytes : (width n i len : ℕ) → i < n → len ≡ n * width → i * width + width ≤ len
state_end-within_bytes width n i len h e =
    let p : suc i * width ≤ n * width = mul-le-mul_right width (omega arith) in
    let q = suc-mul i width in
    omega arith

-- State vector `i` has the `width` bytes that begin at byte `i * width`.
pub state-at_index : (width n i : ℕ) (bytes : List ℕ) → i < n → get_or (states_in_bytes width n bytes) i [] ≡ take width (drop (i * width) bytes)
unfolding states_in_bytes
state-at_index width zero i bytes h = absurd (omega arith)
state-at_index width (suc n) zero bytes h = (let e : zero * width ≡ 0 = omega arith in rw e refl)
state-at_index width (suc n) (suc i) bytes h =
    state-at_index width n i (drop width bytes) (omega arith)
    ∙ ap (take width) (drop-drop (i * width) width bytes ∙ ap (λ k. drop k bytes) (let q = suc-mul i width in omega arith))

-- Appending the bytes of a state vector appends that state vector.
pub states_in_bytes-append_state : (width n : ℕ) (bytes state : List ℕ) → length bytes ≡ n * width → length state ≡ width → states_in_bytes width (n + 1) (bytes ++ state) ≡ states_in_bytes width n bytes ++ state ∷ []
unfolding states_in_bytes
states_in_bytes-append_state width zero [] state e w = ap (λ k. k ∷ []) (ap (λ m. take m state) (sym w) ∙ take-length state)
states_in_bytes-append_state width zero (x ∷ bytes) state e w = absurd (let z : zero * width ≡ 0 = omega arith in omega arith)
states_in_bytes-append_state width (suc n) bytes state e w =
    let q = suc-mul n width in
    let width_fits : width ≤ length bytes = omega arith in
    let d = length-drop width bytes in
    let rest : length (drop width bytes) ≡ n * width = omega arith in
    let suc_is_plus_one : suc n + 1 ≡ suc (n + 1) = omega arith in
    ap (λ m. states_in_bytes width m (bytes ++ state)) suc_is_plus_one
    ∙ ap (λ k. k ∷ states_in_bytes width (n + 1) (drop width (bytes ++ state))) (take-append-le width bytes state width_fits)
    ∙ ap (λ ds. take width bytes ∷ states_in_bytes width (n + 1) ds) (drop-append-le width bytes state width_fits)
    ∙ ap (λ ks. take width bytes ∷ ks) (states_in_bytes-append_state width n (drop width bytes) state rest w)
