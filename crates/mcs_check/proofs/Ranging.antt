-- Tests of the numbers of a range, one number at a time.
use Rattle.std.proofs.Common.{◌≡◌, ◌<◌, ◌+◌, ℕ, true, false, [], ◌∷◌, Bool, get_or, refl, ap, ◌∙◌, arith, add-one}
use Rattle.std.specs.List.{list_any, range_with_len}
use Rattle.std.proofs.lemmas.Bool.{or_from}
use Rattle.std.proofs.lemmas.List.Folds.{list_any-append, list_any_at}
use Rattle.std.proofs.lemmas.List.FromFn.{get_or-range_with_len, length-range_with_len}
use Rattle.mcs_model.proofs.ListLemmas.{range-one-more}

-- if none of the first `i` numbers passes the test and number `i` does not pass it, none of the
-- first `i + 1` numbers passes
pub none_passes-with_next_number : (p : ℕ → Bool) (i : ℕ) → list_any p (range_with_len 0 i) ≡ false → p i ≡ false → list_any p (range_with_len 0 (i + 1)) ≡ false
none_passes-with_next_number p i none here =
    let last : 0 + i ≡ i = omega arith in
    ap (λ (n : ℕ). list_any p (range_with_len 0 n)) (add-one i) ∙ ap (list_any p) (range-one-more 0 i)
    ∙ list_any-append p (range_with_len 0 i) ((0 + i) ∷ []) ∙ or_from _ _ none (or_from (p (0 + i)) false (ap p last ∙ here) refl)

-- if number `i` of a range passes the test, some number of the range passes
pub some_number_passes : (p : ℕ → Bool) (n i : ℕ) → i < n → p i ≡ true → list_any p (range_with_len 0 n) ≡ true
some_number_passes p n i within here =
    let at : get_or (range_with_len 0 n) i 0 ≡ i = get_or-range_with_len 0 n i 0 within ∙ (let e : 0 + i ≡ i = omega arith in e) in
    list_any_at p (range_with_len 0 n) i 0 (let len = length-range_with_len 0 n in omega arith) (ap p at ∙ here)
