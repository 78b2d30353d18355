-- Lemmas for the loops that search a list for the first part with an error.
use Rattle.std.proofs.Common.{◌≡◌, ◌∙◌, ◌++◌, ℕ, ◌+◌, ◌<◌, Bool, true, false, ◌||◌, eqb, if◌then◌else◌, List, [], ◌∷◌, length, map, take, drop, get_or, Option, Some, None, refl, sym, ap, arith}
use Rattle.std.proofs.lemmas.List.{drop_more, take_more}
use Rattle.std.specs.List.{list_any}
use Rattle.toml.specs.Data.{Data}
use Rattle.toml.specs.View.{view}
use Rattle.toml.specs.declared.value.Value.{Value}
use Rattle.mcs_model.specs.declared.board.BoardParts.{BoardParts}
use Rattle.mcs_model.specs.declared.board.ChainPart.{ChainPart}
use Rattle.mcs_model.specs.declared.board.Line.{Line}
use Rattle.mcs_wiring.specs.declared.flawed_part.LineFlaw.{LineFlaw}
use Rattle.mcs_wiring.specs.declared.sections.Flaw.{Flaw}
use Rattle.mcs_wiring.specs.declared.sections.Numbered.{Numbered}
use Rattle.mcs_wiring.specs.declared.sections.Section.{Section}
use Rattle.mcs_wiring.specs.Parts.{Part, first_flawed_from, first_repeated_from, wrong_chain_from, wrong_lamp_from}

-- A search from index `i` searches value `i`, then the later values.
pub first_flawed_from_index : (f : Flaw) (s : Section) (vs : List Value) (i : ℕ) (v : Value) → i < length vs → v ≡ get_or vs i v → first_flawed_from f s i (map view (drop i vs)) ≡ first_flawed_from f s i (view v ∷ map view (drop (i + 1) vs))
first_flawed_from_index f s vs i v lt is = ap (λ xs. first_flawed_from f s i (map view xs)) (drop_more vs i v lt) ∙ ap (λ x. first_flawed_from f s i (view x ∷ map view (drop (i + 1) vs))) (sym is)

pub wrong_chain_from_index : (f : LineFlaw) (b : BoardParts) (cs : List ChainPart) (i : ℕ) (c : ChainPart) → i < length cs → c ≡ get_or cs i c → wrong_chain_from f b i (drop i cs) ≡ wrong_chain_from f b i (c ∷ drop (i + 1) cs)
wrong_chain_from_index f b cs i c lt is = ap (wrong_chain_from f b i) (drop_more cs i c lt) ∙ ap (λ x. wrong_chain_from f b i (x ∷ drop (i + 1) cs)) (sym is)

pub wrong_lamp_from_index : (f : LineFlaw) (b : BoardParts) (ls : List Line) (i : ℕ) (l : Line) → i < length ls → l ≡ get_or ls i l → wrong_lamp_from f b i (drop i ls) ≡ wrong_lamp_from f b i (l ∷ drop (i + 1) ls)
wrong_lamp_from_index f b ls i l lt is = ap (wrong_lamp_from f b i) (drop_more ls i l lt) ∙ ap (λ x. wrong_lamp_from f b i (x ∷ drop (i + 1) ls)) (sym is)

-- the numbers of the parts, in reverse order of the parts, followed by the numbers in `seen`
abbrev pub reversed_numbers : {A : Type 0} → List ℕ → List (Numbered A) → List ℕ
reversed_numbers seen [] = seen
reversed_numbers seen (p ∷ ps) = reversed_numbers (p.number ∷ seen) ps

-- If a part is added at the end of the list, its number is the first of `reversed_numbers`.
pub reversed_numbers_append : {A : Type 0} (seen : List ℕ) (ps : List (Numbered A)) (p : Numbered A) → reversed_numbers seen (ps ++ p ∷ []) ≡ p.number ∷ reversed_numbers seen ps
reversed_numbers_append seen [] p = refl
reversed_numbers_append seen (q ∷ ps) p = reversed_numbers_append (q.number ∷ seen) ps p

or_false : (a : Bool) → (a || false) ≡ a
or_false true = refl
or_false false = refl

or_swap : (a b c : Bool) → (a || (b || c)) ≡ ((b || a) || c)
or_swap true true c = refl
or_swap true false c = refl
or_swap false true c = refl
or_swap false false c = refl

number_in_reversed_numbers_or_seen : {A : Type 0} (n : ℕ) (seen : List ℕ) (ps : List (Numbered A)) → list_any (λ k. eqb k n) (reversed_numbers seen ps) ≡ (list_any (λ q. eqb q.number n) ps || list_any (λ k. eqb k n) seen)
number_in_reversed_numbers_or_seen n seen [] = refl
number_in_reversed_numbers_or_seen n seen (p ∷ ps) = number_in_reversed_numbers_or_seen n (p.number ∷ seen) ps ∙ or_swap (list_any (λ q. eqb q.number n) ps) (eqb p.number n) (list_any (λ k. eqb k n) seen)

-- a number is in `reversed_numbers` of a list exactly when one of the parts has that number
pub number_in_reversed_numbers : {A : Type 0} (n : ℕ) (ps : List (Numbered A)) → list_any (λ k. eqb k n) (reversed_numbers [] ps) ≡ list_any (λ q. eqb q.number n) ps
number_in_reversed_numbers n ps = number_in_reversed_numbers_or_seen n [] ps ∙ or_false (list_any (λ q. eqb q.number n) ps)

-- The search that starts at part `i` returns `i` if an earlier part has the number of part `i`.
-- Otherwise it returns the same as the search that starts at part `i + 1`.
pub first_repeated_from_index : {A : Type 0} (ps : List (Numbered A)) (i : ℕ) (p : Numbered A) → i < length ps → p ≡ get_or ps i p
    → first_repeated_from (reversed_numbers [] (take i ps)) i (drop i ps) ≡ (if list_any (λ q. eqb q.number p.number) (take i ps) then Some i else first_repeated_from (reversed_numbers [] (take (i + 1) ps)) (i + 1) (drop (i + 1) ps))
first_repeated_from_index {A} ps i p lt is =
    let seen : List ℕ = reversed_numbers [] (take i ps) in
    let one_more_number : reversed_numbers [] (take (i + 1) ps) ≡ p.number ∷ seen =
    ap (reversed_numbers []) (take_more ps i p lt) ∙ (reversed_numbers_append [] (take i ps) (get_or ps i p) ∙ ap (λ (x : Numbered A). x.number ∷ seen) (sym is)) in
    ap (first_repeated_from seen i) (drop_more ps i p lt)
    ∙ (ap (λ (x : Numbered A). first_repeated_from seen i (x ∷ drop (i + 1) ps)) (sym is)
    ∙ (ap (λ b. if b then Some i else first_repeated_from (p.number ∷ seen) (i + 1) (drop (i + 1) ps)) (number_in_reversed_numbers p.number (take i ps))
    ∙ ap (λ ns. if list_any (λ q. eqb q.number p.number) (take i ps) then Some i else first_repeated_from ns (i + 1) (drop (i + 1) ps)) (sym one_more_number)))

-- Suppose that the search that starts at part `i` returns the same as the search of all parts. If
-- an earlier part has the number of part `i`, the search of all parts returns `i`.
pub first_repeated_is_index : {A : Type 0} (ps : List (Numbered A)) (i : ℕ) (p : Numbered A) (any : Bool) → i < length ps → p ≡ get_or ps i p → any ≡ list_any (λ q. eqb q.number (get_or ps i p).number) (take i ps) → any ≡ true
    → first_repeated_from (reversed_numbers [] (take i ps)) i (drop i ps) ≡ first_repeated_from [] 0 ps → Some i ≡ first_repeated_from [] 0 ps
first_repeated_is_index {A} ps i p any lt is test held inv =
    sym (sym inv ∙ (first_repeated_from_index ps i p lt is ∙ ap (λ b. if b then Some i else first_repeated_from (reversed_numbers [] (take (i + 1) ps)) (i + 1) (drop (i + 1) ps)) (ap (λ (r : Numbered A). list_any (λ q. eqb q.number r.number) (take i ps)) is ∙ (sym test ∙ held))))

-- Suppose that the search that starts at part `i` returns the same as the search of all parts. If
-- no earlier part has the number of part `i`, the search that starts at part `i + 1` also returns
-- the same.
pub first_repeated_is_after_index : {A : Type 0} (ps : List (Numbered A)) (i : ℕ) (p : Numbered A) (any : Bool) → i < length ps → p ≡ get_or ps i p → any ≡ list_any (λ q. eqb q.number (get_or ps i p).number) (take i ps) → any ≡ false
    → first_repeated_from (reversed_numbers [] (take i ps)) i (drop i ps) ≡ first_repeated_from [] 0 ps → first_repeated_from (reversed_numbers [] (take (i + 1) ps)) (i + 1) (drop (i + 1) ps) ≡ first_repeated_from [] 0 ps
first_repeated_is_after_index {A} ps i p any lt is test fails inv =
    sym (first_repeated_from_index ps i p lt is ∙ ap (λ b. if b then Some i else first_repeated_from (reversed_numbers [] (take (i + 1) ps)) (i + 1) (drop (i + 1) ps)) (ap (λ (r : Numbered A). list_any (λ q. eqb q.number r.number) (take i ps)) is ∙ (sym test ∙ fails))) ∙ inv
