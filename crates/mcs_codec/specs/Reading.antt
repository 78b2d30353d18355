-- The steps that read values from bytes. These definitions need not be trusted: the readings that
-- are built from them are proved to be the inverses of the encodings in `BoardBytes`,
-- `CommandBytes` and `StateBytes`. A reading consumes bytes from left to right. It gives a value
-- and the bytes after the value, or nothing if the bytes do not encode a value. In a `do` block,
-- each step starts where the step before it stopped.
use Rattle.std.specs.Prelude.{ℕ, zero, suc, Bool, List, [], ◌∷◌, length, take, drop, Option, Some, None, nat_lt, nat_le, if◌then◌else◌}
use Rattle.std.specs.Int.{Width, w16, byte_len, from_be_bytes}

-- the result of a reading: a value and the bytes after it, or `None`
abbrev pub Read : Type 0 → Type 0
Read A = Option (A × List ℕ)

-- a function that reads a value from the start of a list of bytes
abbrev pub Reading : Type 0 → Type 0
Reading A = List ℕ → Read A

-- ---- steps

-- the result of the step `next`, which gets the value that was read and reads the bytes after it;
-- `None` if no value was read
abbrev pub and_then : {A B : Type 0} → Read A → (A → Reading B) → Read B
and_then (Some x) next = next x.0 x.1
and_then None next = None

infixl 10 ◌>>=◌
abbrev pub ◌>>=◌ : {A B : Type 0} → Reading A → (A → Reading B) → Reading B
read >>= next = λ bytes. and_then (read bytes) next

-- gives this value, and consumes no bytes
abbrev pub give : {A : Type 0} → A → Reading A
give a = λ bytes. Some (a, bytes)

-- gives no value: the reading fails
abbrev pub fail_reading : {A : Type 0} → Reading A
fail_reading = λ bytes. None

-- gives this value if `test` is true, and fails otherwise
abbrev pub give_if : {A : Type 0} → Bool → A → Reading A
give_if test a = λ bytes. if test then Some (a, bytes) else None

-- gives the value of the option if there is one, and fails otherwise
abbrev pub give_some : {A : Type 0} → Option A → Reading A
give_some (Some a) = give a
give_some None = fail_reading

-- ---- numbers and bytes

abbrev pub byte_at : Reading ℕ
byte_at [] = None
byte_at (b ∷ bytes) = Some (b, bytes)

-- reads a number of this width, the highest byte first
abbrev pub wide_number_at : Width → Reading ℕ
wide_number_at w bytes =
    if nat_lt (length bytes) (byte_len w) then None
    else Some (from_be_bytes w (take (byte_len w) bytes), drop (byte_len w) bytes)

-- reads `count` bytes
unfoldable pub bytes_at : ℕ → Reading (List ℕ)
bytes_at count bytes =
    if nat_lt (length bytes) count then None else Some (take count bytes, drop count bytes)

-- ---- tests, repetition, and the end

-- reads a value, and fails if the test is false for it
abbrev pub read_if : {A : Type 0} → (A → Bool) → Reading A → Reading A
read_if test read = do
  a ← read
  give_if (test a) a

-- reads a number below `limit` from one byte
abbrev pub number_below_at : ℕ → Reading ℕ
number_below_at limit = read_if (λ n. nat_lt n limit) byte_at

-- reads an address from two bytes, and fails if it is 4,096 or more
abbrev pub address_at : Reading ℕ
address_at = read_if (λ n. nat_lt n 4096) (wide_number_at w16)

-- reads `n` values, one after another (`n` is the first argument)
unfoldable pub read_times : {A : Type 0} → ℕ → Reading A → Reading (List A)
read_times zero read = give []
read_times (suc n) read = do
  first ← read
  others ← read_times n read
  give (first ∷ others)

-- reads a count of at most `limit` from one byte, and then that many values
unfoldable pub counted_at : {A : Type 0} → ℕ → Reading A → Reading (List A)
counted_at limit read = do
  count ← read_if (λ n. nat_le n limit) byte_at
  read_times count read

-- the value that was read, or `None` if there is no value or bytes are left after it
abbrev pub whole_value : {A : Type 0} → Read A → Option A
whole_value (Some x) = elim x.1 [ [] ↦ Some x.0 | (_ ∷ _) ↦ None ]
whole_value None = None

-- the value that all of the bytes together encode, or `None`
abbrev pub read_all_of : {A : Type 0} → Reading A → List ℕ → Option A
read_all_of read bytes = whole_value (read bytes)
