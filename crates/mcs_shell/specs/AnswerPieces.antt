-- The bytes of an answer that is stored in two pieces, inline and allocated.
use Rattle.std.specs.Prelude.{ℕ, List, ◌++◌, Option, Some, None}

-- the bytes of an answer: the bytes stored inline, followed by the allocated bytes, if any
abbrev pub answer_bytes : List ℕ → Option (List ℕ) → List ℕ
answer_bytes short None = short
answer_bytes short (Some long) = short ++ long
