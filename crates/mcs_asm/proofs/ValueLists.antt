-- Lemmas about the loop that collects the values of operands.
use Rattle.std.proofs.Common.{◌≡◌, ℕ, ◌+◌, ◌<◌, ◌≤◌, List, [], ◌∷◌, ◌++◌, length, get_or, drop, map, Option, Some, None, refl, sym, ap, ◌∙◌, append_assoc, append-nil}
use Rattle.std.proofs.lemmas.List.{drop_more, drop_all}
use Rattle.mcs_source.specs.Assembly.{Names, value_in, values_in}
use Rattle.mcs_asm.specs.declared.statements.Operand.{Operand}
use Rattle.mcs_asm.specs.View.{operand_view}
use Rattle.mcs_model.specs.Options.{◌>>=◌}

abbrev pub prepend_all : List ℕ → Option (List ℕ) → Option (List ℕ)
prepend_all front None = None
prepend_all front (Some ns) = Some (front ++ ns)

prepend_all_of_cons : (front : List ℕ) (n : ℕ) (o : Option (List ℕ)) → prepend_all front (o >>= λ ns. Some (n ∷ ns)) ≡ prepend_all (front ++ n ∷ []) o
prepend_all_of_cons front n None = refl
prepend_all_of_cons front n (Some ns) = ap (λ (l : List ℕ). Some l) (sym (append_assoc front (n ∷ []) ns))

abbrev pub values_left : Names → List Operand → ℕ → Option (List ℕ)
values_left names vs i = values_in names (map operand_view (drop i vs))

values_left_from_next_operand : (names : Names) (vs : List Operand) (i : ℕ) (d : Operand) → i < length vs → values_left names vs i ≡ (value_in names (operand_view (get_or vs i d)) >>= λ n. values_left names vs (i + 1) >>= λ ns. Some (n ∷ ns))
values_left_from_next_operand names vs i d lt = ap (λ l. values_in names (map operand_view l)) (drop_more vs i d lt)

pub values_after_next_operand : (names : Names) (vs : List Operand) (i : ℕ) (d : Operand) (front : List ℕ) (n : ℕ) (total : Option (List ℕ)) → i < length vs → Some n ≡ value_in names (operand_view (get_or vs i d))
    → prepend_all front (values_left names vs i) ≡ total → prepend_all (front ++ n ∷ []) (values_left names vs (i + 1)) ≡ total
values_after_next_operand names vs i d front n total lt is so_far =
    sym (prepend_all_of_cons front n (values_left names vs (i + 1))) ∙ (ap (λ (o : Option ℕ). prepend_all front (o >>= λ m. values_left names vs (i + 1) >>= λ ns. Some (m ∷ ns))) is ∙ (ap (prepend_all front) (sym (values_left_from_next_operand names vs i d lt)) ∙ so_far))

pub no_values_if_operand_has_no_value : (names : Names) (vs : List Operand) (i : ℕ) (d : Operand) (front : List ℕ) (total : Option (List ℕ)) → i < length vs → None ≡ value_in names (operand_view (get_or vs i d))
    → prepend_all front (values_left names vs i) ≡ total → None ≡ total
no_values_if_operand_has_no_value names vs i d front total lt is so_far =
    ap (λ (o : Option ℕ). prepend_all front (o >>= λ m. values_left names vs (i + 1) >>= λ ns. Some (m ∷ ns))) is ∙ (ap (prepend_all front) (sym (values_left_from_next_operand names vs i d lt)) ∙ so_far)

pub values_complete_after_last_operand : (names : Names) (vs : List Operand) (i : ℕ) (front : List ℕ) (total : Option (List ℕ)) → length vs ≤ i → prepend_all front (values_left names vs i) ≡ total → Some front ≡ total
values_complete_after_last_operand names vs i front total le so_far =
    ap (λ (l : List ℕ). Some l) (sym (append-nil front)) ∙ (ap (λ (l : List Operand). prepend_all front (values_in names (map operand_view l))) (sym (drop_all i vs le)) ∙ so_far)
