-- Lemmas about lists that are written as one word with commas.
use Rattle.std.proofs.Common.{◌≡◌, ℕ, suc, ◌+◌, ◌-◌, ◌≤◌, List, [], ◌∷◌, ◌++◌, codes, length, map, take, refl, ap, sym, ◌∙◌, append_assoc, append-nil, length-append, arith}
use Rattle.std.proofs.lemmas.Grind.{common_steps, flat_map-append}
use Rattle.std.proofs.lemmas.List.{map-append}
use Rattle.std.proofs.lemmas.List.Folds.{flat_map-map}
use Rattle.std.specs.List.{flat_map, join_with_byte, range_with_len}
use Rattle.mcs_model.proofs.ListLemmas.{range-one-more}
use Rattle.mcs_model.specs.QueryText.{comma_list}
use Rattle.mcs_answers.specs.Commas.{with_comma, with_commas}

-- If a comma is appended to items separated by commas, each item is followed by a comma.
joined_with_commas : (x : List ℕ) (xs : List (List ℕ)) → join_with_byte 44 (x ∷ xs) ++ 44 ∷ [] ≡ with_commas (x ∷ xs)
joined_with_commas x [] = sym (append-nil (with_comma x))
joined_with_commas x (y ∷ ys) =
    append_assoc x (44 ∷ join_with_byte 44 (y ∷ ys)) (44 ∷ [])
    ∙ (ap (λ t. x ++ 44 ∷ t) (joined_with_commas y ys) ∙ sym (append_assoc x (44 ∷ []) (with_commas (y ∷ ys))))

-- If an element is appended to a list and then removed, the list is unchanged.
take_all_but_last : (xs : List ℕ) (c : ℕ) → take (length (xs ++ c ∷ []) - 1) (xs ++ c ∷ []) ≡ xs
take_all_but_last xs c = grind (arith, common_steps)

-- If no item was written, appending a dash gives the text of the list.
pub comma_list_if_dash_appended : (before old new : List ℕ) (items : List (List ℕ)) → length old ≡ length before
    → old ≡ before ++ with_commas items
    → new ≡ old ++ codes "-"
    → new ≡ before ++ comma_list items
comma_list_if_dash_appended before old new [] same listed here = here ∙ ap (λ v. v ++ codes "-") (listed ∙ append-nil before)
comma_list_if_dash_appended before old new (x ∷ xs) same listed here =
    let old_length : length old ≡ length before + (length (x ++ 44 ∷ []) + length (with_commas xs)) =
    ap length listed ∙ length-append before (with_commas (x ∷ xs)) ∙ ap (λ n. length before + n) (length-append (x ++ 44 ∷ []) (with_commas xs)) in
    let more : length (x ++ 44 ∷ []) ≡ length x + 1 = length-append x (44 ∷ []) in
    absurd (omega arith)

-- If items were written, removing the last comma gives the text of the list.
pub comma_list_if_last_comma_removed : (before old new : List ℕ) (items : List (List ℕ)) → length before + 1 ≤ length old
    → old ≡ before ++ with_commas items
    → new ≡ take (length old - 1) old
    → new ≡ before ++ comma_list items
comma_list_if_last_comma_removed before old new [] more listed here =
    let none : length old ≡ length before = ap length (listed ∙ append-nil before) in
    absurd (omega arith)
comma_list_if_last_comma_removed before old new (x ∷ xs) more listed here =
    let text = before ++ join_with_byte 44 (x ∷ xs) in
    let old_is_text : old ≡ text ++ 44 ∷ [] =
    listed ∙ ap (λ v. before ++ v) (sym (joined_with_commas x xs)) ∙ sym (append_assoc before (join_with_byte 44 (x ∷ xs)) (44 ∷ [])) in
    here ∙ ap (λ v. take (length v - 1) v) old_is_text ∙ take_all_but_last text 44

-- Commas can be added to the items before or after the lists are joined, with the same result.
pub with_commas-flat_map : {A : Type 0} (f : A → List (List ℕ)) (xs : List A) → with_commas (flat_map f xs) ≡ flat_map (λ x. with_commas (f x)) xs
with_commas-flat_map f [] = refl
with_commas-flat_map f (x ∷ xs) = flat_map-append with_comma (f x) (flat_map f xs) ∙ ap (λ t. with_commas (f x) ++ t) (with_commas-flat_map f xs)

pub with_commas-map : {A : Type 0} (f : A → List ℕ) (xs : List A) → with_commas (map f xs) ≡ flat_map (λ x. with_comma (f x)) xs
with_commas-map f xs = flat_map-map with_comma f xs

-- If numbers 0 to `n - 1` are written, writing number `n` extends the text by that number.
pub append_numbered : (f : ℕ → ℕ) (n : ℕ) (a b c : List ℕ)
    → b ≡ a ++ map f (range_with_len 0 n)
    → c ≡ b ++ f n ∷ []
    → c ≡ a ++ map f (range_with_len 0 (n + 1))
append_numbered f n a b c so_far here =
    let done = map f (range_with_len 0 n) in
    let above : n + 1 ≡ suc n = omega arith in
    let from : 0 + n ≡ n = omega arith in
    let next : range_with_len 0 (n + 1) ≡ range_with_len 0 n ++ n ∷ [] =
    ap (range_with_len 0) above ∙ range-one-more 0 n ∙ ap (λ k. range_with_len 0 n ++ k ∷ []) from in
    here
    ∙ ap (λ v. v ++ f n ∷ []) so_far
    ∙ append_assoc a done (f n ∷ [])
    ∙ ap (λ v. a ++ v) (sym (ap (map f) next ∙ map-append f (range_with_len 0 n) (n ∷ [])))
