-- The lines of a question, read one by one.
use Rattle.std.proofs.Common.{◌≡◌, ℕ, ◌+◌, ◌<◌, ◌≤◌, List, [], Some, length, drop, get_or, map, sym, ap, ◌∙◌, arith}
use Rattle.std.proofs.lemmas.List.{at_drop_more, at_drop_all, get_or-map, length-map}
use Rattle.mcs_model.specs.Options.{◌>>=◌}
use Rattle.mcs_prove.specs.Questions.{QuestionSoFar, after_line, after_lines}

-- Suppose that line `i` changes the question `a` to the question `b`. Then `a` with the lines from
-- line `i` on gives the same question as `b` with the lines after line `i`.
pub after_lines_from_next_line : {X : Type 0} (f : X → List ℕ) (a b : QuestionSoFar) (xs : List X) (i : ℕ) (x : X) → i < length xs → x ≡ get_or xs i x → after_line a (f x) ≡ Some b → after_lines b (drop (i + 1) (map f xs)) ≡ after_lines a (drop i (map f xs))
after_lines_from_next_line f a b xs i x inside e h =
    let line_at_i : get_or (map f xs) i [] ≡ f x = get_or-map f xs i x [] inside ∙ ap f (sym e) in
    let len : length (map f xs) ≡ length xs = length-map xs f in
    let fits : i < length (map f xs) = omega arith in
    sym (at_drop_more (after_lines a) (map f xs) i [] fits ∙ ap (λ o. o >>= λ y. after_lines y (drop (i + 1) (map f xs))) (ap (after_line a) line_at_i ∙ h))

-- after the last line, no line is left that changes the question
pub after_lines_without_lines_left : {X : Type 0} (f : X → List ℕ) (a : QuestionSoFar) (xs : List X) (i : ℕ) → length xs ≤ i → after_lines a (drop i (map f xs)) ≡ Some a
after_lines_without_lines_left f a xs i past =
    let len : length (map f xs) ≡ length xs = length-map xs f in
    at_drop_all (after_lines a) (map f xs) i (omega arith)
