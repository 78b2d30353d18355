-- Lemmas about texts to which pieces are appended.
use Rattle.std.proofs.Common.{◌≡◌, ℕ, ◌+◌, ◌<◌, List, [], ◌∷◌, ◌++◌, length, map, take, drop, get_or, ap, sym, ◌∙◌, refl, append_assoc, arith}
use Rattle.std.proofs.lemmas.Grind.{common_steps}
use Rattle.std.proofs.lemmas.List.{map-append, take_more}
use Rattle.std.specs.List.{flat_map, range_with_len}
use Rattle.mcs_wiring.proofs.PartTexts.{texts_below_next}
use Rattle.mcs_model.specs.QueryText.{or_dash, sublist}

-- If `p` and then `x` are appended to a text, `p ++ x` is appended to it.
pub append_one_piece : (a p b x c : List ℕ) → b ≡ a ++ p → c ≡ b ++ x → c ≡ a ++ (p ++ x)
append_one_piece a p b x c so_far here = here ∙ ap (λ v. v ++ x) so_far ∙ append_assoc a p x

-- If `p` and then `x ++ y` are appended to a text, `p ++ x ++ y` is appended to it.
pub append_two_pieces : (a p b x y c : List ℕ) → b ≡ a ++ p → c ≡ b ++ x ++ y → c ≡ a ++ (p ++ x ++ y)
append_two_pieces a p b x y c so_far here = here ∙ ap (λ v. v ++ x ++ y) so_far ∙ ap (λ v. v ++ y) (append_assoc a p x) ∙ append_assoc a (p ++ x) y

-- If the elements before index `i` are written, writing element `i` extends the text by that
-- element.
pub append_mapped : {X : Type 0} (f : X → ℕ) (xs : List X) (i : ℕ) (d : X) (a b c : List ℕ) → i < length xs
    → b ≡ a ++ map f (take i xs)
    → c ≡ b ++ f (get_or xs i d) ∷ []
    → c ≡ a ++ map f (take (i + 1) xs)
append_mapped f xs i d a b c inside so_far here =
    here
    ∙ ap (λ v. v ++ f (get_or xs i d) ∷ []) so_far
    ∙ append_assoc a (map f (take i xs)) (f (get_or xs i d) ∷ [])
    ∙ ap (λ v. a ++ v) (sym (ap (map f) (take_more xs i d inside) ∙ map-append f (take i xs) (get_or xs i d ∷ [])))

-- If the first `k` numbers of a `sublist` are written, writing the next number extends the text to
-- `k + 1` numbers.
pub append_in_sublist : (f : ℕ → ℕ) (xs : List ℕ) (from k : ℕ) (a b c : List ℕ) → from + k < length xs
    → b ≡ a ++ map f (sublist xs from k)
    → c ≡ b ++ f (get_or xs (from + k) 0) ∷ []
    → c ≡ a ++ map f (sublist xs from (k + 1))
append_in_sublist f xs from k a b c inside so_far here =
    let there : get_or (drop from xs) k 0 ≡ get_or xs (from + k) 0 = grind (arith, common_steps) in
    let within : k < length (drop from xs) = grind (arith, common_steps) in
    append_mapped f (drop from xs) k 0 a b c within so_far (here ∙ ap (λ v. b ++ f v ∷ []) (sym there))

-- If pieces 0 to `n - 1` are written, writing piece `n` extends the text by that piece.
pub append_piece : (f : ℕ → List ℕ) (n : ℕ) (a b c : List ℕ)
    → b ≡ a ++ flat_map f (range_with_len 0 n)
    → c ≡ b ++ f n
    → c ≡ a ++ flat_map f (range_with_len 0 (n + 1))
append_piece f n a b c so_far here =
    here
    ∙ ap (λ v. v ++ f n) so_far
    ∙ append_assoc a (flat_map f (range_with_len 0 n)) (f n)
    ∙ ap (λ v. a ++ v) (sym (texts_below_next f n))

-- A list that is not empty is written without a dash.
pub or_dash_of_nonempty_list : (xs : List ℕ) → 0 < length xs → or_dash xs ≡ xs
or_dash_of_nonempty_list [] h = absurd (omega arith)
or_dash_of_nonempty_list (x ∷ xs) h = refl
