-- Lemmas about loops that read values one after another. Each step of a loop reads one value, and
-- the later values are still to be read.
use Rattle.std.proofs.Common.{◌≡◌, ℕ, suc, ◌-◌, ◌+◌, ◌*◌, ◌≤◌, ◌<◌, false, eqb, List, [], ◌∷◌, ◌++◌, length, get_or, drop, Some, None, refl, ap, ◌∙◌, append_assoc, arith}
use Rattle.std.specs.Prelude.{◌≢◌}
use Rattle.std.proofs.lemmas.Bool.Decides.{nat_tests}
use Rattle.std.proofs.lemmas.List.{append-nil, at_drop_more, at_drop_all}
use Rattle.mcs_model.specs.declared.board.ChainPart.{ChainPart}
use Rattle.mcs_codec.specs.Reading.{◌>>=◌, and_then, Read, Reading, give, byte_at, bytes_at, read_times}
use Rattle.mcs_codec.specs.CommandReading.{mark_bit, addressed_bytes_at}
use Rattle.mcs_codec.specs.StateReading.{chains_at}

-- the result of a reading, with the values in `front` put before the values that were read
abbrev pub with_front : {A : Type 0} → List A → Read (List A) → Read (List A)
with_front front read = and_then read (λ xs. give (front ++ xs))

value_moved_to_front : {A : Type 0} (front : List A) (a : A) (read : Read (List A)) → with_front front (and_then read (λ xs. give (a ∷ xs))) ≡ with_front (front ++ a ∷ []) read
value_moved_to_front {A} front a (Some x) = ap (λ (xs : List A). Some (xs, x.1)) (simp append_assoc)
value_moved_to_front front a None = refl

-- reads a value, converts it with `make`, adds it to `front`, and then reads the later values
abbrev read_value_after_front : {A B : Type 0} → List A → (B → A) → Read B → Reading (List A) → Read (List A)
read_value_after_front front make read later = and_then read (λ b after. with_front (front ++ make b ∷ []) (later after))

value_read_after_front : {A B : Type 0} (front : List A) (make : B → A) (read : Read B) (later : Reading (List A)) → with_front front (and_then read (λ b. later >>= λ others. give (make b ∷ others))) ≡ read_value_after_front front make read later
value_read_after_front front make (Some x) later = value_moved_to_front front (make x.0) (later x.1)
value_read_after_front front make None later = refl

front_without_later_values : {A : Type 0} (front : List A) (bytes : List ℕ) → with_front front (Some ([], bytes)) ≡ Some (front, bytes)
front_without_later_values {A} front bytes = ap (λ (xs : List A). Some (xs, bytes)) (append-nil front)

-- ---- reading `count` values

pub read_times_reads_one_value : {A : Type 0} (read : Reading A) (front : List A) (count i : ℕ) (bytes : List ℕ) → i < count
    → with_front front (read_times (count - i) read bytes) ≡ and_then (read bytes) (λ a after. with_front (front ++ a ∷ []) (read_times (count - (i + 1)) read after))
unfolding read_times
read_times_reads_one_value read front count i bytes lt =
    let k : count - i ≡ suc (count - (i + 1)) = omega arith in
    rw k (value_read_after_front front (λ a. a) (read bytes) (read_times (count - (i + 1)) read))

pub read_times_past_count : {A : Type 0} (read : Reading A) (front : List A) (count i : ℕ) (bytes : List ℕ) → count ≤ i → with_front front (read_times (count - i) read bytes) ≡ Some (front, bytes)
unfolding read_times
read_times_past_count read front count i bytes le = let k : count - i ≡ 0 = omega arith in rw k (front_without_later_values front bytes)

-- ---- reading the bits of each chain

pub chains_at_reads_one_chain : (chains : List ChainPart) (i : ℕ) (d : ChainPart) (front : List (List ℕ)) (bytes : List ℕ) → i < length chains
    → with_front front (chains_at (drop i chains) bytes) ≡ and_then (bytes_at (10 * (get_or chains i d).chips) bytes) (λ bits after. with_front (front ++ bits ∷ []) (chains_at (drop (i + 1) chains) after))
unfolding chains_at
chains_at_reads_one_chain chains i d front bytes lt =
    ap (with_front front) (at_drop_more (λ l. chains_at l bytes) chains i d lt) ∙ value_read_after_front front (λ bits. bits) (bytes_at (10 * (get_or chains i d).chips) bytes) (chains_at (drop (i + 1) chains))

pub chains_at_past_last_chain : (chains : List ChainPart) (i : ℕ) (front : List (List ℕ)) (bytes : List ℕ) → length chains ≤ i → with_front front (chains_at (drop i chains) bytes) ≡ Some (front, bytes)
unfolding chains_at
chains_at_past_last_chain chains i front bytes le = ap (with_front front) (at_drop_all (λ l. chains_at l bytes) chains i le) ∙ front_without_later_values front bytes

-- ---- reading the bytes of the marked addresses

pub marked_address_reads_one_byte : (marks : List ℕ) (front : List (ℕ × ℕ)) (count at : ℕ) (bytes : List ℕ) → at < count → mark_bit marks at ≡ 1
    → with_front front (addressed_bytes_at marks (count - at) at bytes) ≡ and_then (byte_at bytes) (λ byte after. with_front (front ++ (at, byte) ∷ []) (addressed_bytes_at marks (count - (at + 1)) (at + 1) after))
unfolding addressed_bytes_at
marked_address_reads_one_byte marks front count at bytes lt one =
    let k : count - at ≡ suc (count - (at + 1)) = omega arith in
    rw (k, one) (value_read_after_front front (λ byte. (at, byte)) (byte_at bytes) (addressed_bytes_at marks (count - (at + 1)) (at + 1)))

pub unmarked_address_reads_nothing : (marks : List ℕ) (front : List (ℕ × ℕ)) (count at : ℕ) (bytes : List ℕ) → at < count → mark_bit marks at ≢ 1
    → with_front front (addressed_bytes_at marks (count - at) at bytes) ≡ with_front front (addressed_bytes_at marks (count - (at + 1)) (at + 1) bytes)
unfolding addressed_bytes_at
unmarked_address_reads_nothing marks front count at bytes lt other =
    let k : count - at ≡ suc (count - (at + 1)) = omega arith in
    let test : eqb (mark_bit marks at) 1 ≡ false = grind (arith, nat_tests) in
    rw (k, test) refl

pub addressed_bytes_past_count : (marks : List ℕ) (front : List (ℕ × ℕ)) (count at : ℕ) (bytes : List ℕ) → count ≤ at → with_front front (addressed_bytes_at marks (count - at) at bytes) ≡ Some (front, bytes)
unfolding addressed_bytes_at
addressed_bytes_past_count marks front count at bytes le = let k : count - at ≡ 0 = omega arith in rw k (front_without_later_values front bytes)
