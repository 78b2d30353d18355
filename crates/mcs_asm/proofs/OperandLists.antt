-- Lemmas about the loop that reads a list of operands.
use Rattle.std.proofs.Common.{◌≡◌, List, [], ◌∷◌, ◌++◌, Option, Some, None, refl, sym, ap, ◌∙◌, append_assoc}
use Rattle.mcs_source.specs.Lexical.{Token, Word, Comma, Colon, Equals, Other}
use Rattle.mcs_source.specs.Lines.{Operand, operand_of, operands_of}
use Rattle.mcs_asm.specs.ListItems.{list_item}
use Rattle.mcs_model.specs.Options.{◌>>=◌}

-- the operands `front`, followed by the other operands, or `None` if the other operands are invalid
abbrev pub prepend_all : List Operand → Option (List Operand) → Option (List Operand)
prepend_all front None = None
prepend_all front (Some vs) = Some (front ++ vs)

abbrev pub operands_from_item : Option (Operand × Option (List Token)) → Option (List Operand)
operands_from_item None = None
operands_from_item (Some (v, None)) = Some (v ∷ [])
operands_from_item (Some (v, Some more)) = operands_of more >>= λ vs. Some (v ∷ vs)

operands_of_last_item : (o : Option Operand) → (o >>= λ v. Some (v ∷ [])) ≡ operands_from_item (o >>= λ v. Some (v, None))
operands_of_last_item None = refl
operands_of_last_item (Some v) = refl

operands_of_item_before_comma : (o : Option Operand) (more : List Token) → (o >>= λ v. operands_of more >>= λ vs. Some (v ∷ vs)) ≡ operands_from_item (o >>= λ v. Some (v, Some more))
operands_of_item_before_comma None more = refl
operands_of_item_before_comma (Some v) more = refl

operands_of_equals_operands_from_item : (ts : List Token) → operands_of ts ≡ operands_from_item (list_item ts)
unfolding operands_of
operands_of_equals_operands_from_item [] = refl
operands_of_equals_operands_from_item (Word w ∷ []) = operands_of_last_item (operand_of w)
operands_of_equals_operands_from_item (Word w ∷ Comma ∷ more) = operands_of_item_before_comma (operand_of w) more
operands_of_equals_operands_from_item (Word w ∷ Word x ∷ more) = refl
operands_of_equals_operands_from_item (Word w ∷ Colon ∷ more) = refl
operands_of_equals_operands_from_item (Word w ∷ Equals ∷ more) = refl
operands_of_equals_operands_from_item (Word w ∷ Other ∷ more) = refl
operands_of_equals_operands_from_item (Comma ∷ ts) = refl
operands_of_equals_operands_from_item (Colon ∷ ts) = refl
operands_of_equals_operands_from_item (Equals ∷ ts) = refl
operands_of_equals_operands_from_item (Other ∷ ts) = refl

prepend_all_of_cons : (front : List Operand) (v : Operand) (o : Option (List Operand)) → prepend_all front (o >>= λ vs. Some (v ∷ vs)) ≡ prepend_all (front ++ v ∷ []) o
prepend_all_of_cons front v None = refl
prepend_all_of_cons front v (Some vs) = ap (λ (l : List Operand). Some l) (sym (append_assoc front (v ∷ []) vs))

pub no_operands_if_no_item : (front : List Operand) (ts : List Token) (total : Option (List Operand)) → None ≡ list_item ts → prepend_all front (operands_of ts) ≡ total → None ≡ total
no_operands_if_no_item front ts total e so_far = ap (λ (o : Option (Operand × Option (List Token))). prepend_all front (operands_from_item o)) e ∙ (ap (prepend_all front) (sym (operands_of_equals_operands_from_item ts)) ∙ so_far)

pub operands_complete_after_last_item : (front : List Operand) (v : Operand) (ts : List Token) (total : Option (List Operand)) → Some (v, None) ≡ list_item ts → prepend_all front (operands_of ts) ≡ total → Some (front ++ v ∷ []) ≡ total
operands_complete_after_last_item front v ts total e so_far = ap (λ (o : Option (Operand × Option (List Token))). prepend_all front (operands_from_item o)) e ∙ (ap (prepend_all front) (sym (operands_of_equals_operands_from_item ts)) ∙ so_far)

pub operands_after_item_before_comma : (front : List Operand) (v : Operand) (more ts : List Token) (total : Option (List Operand)) → Some (v, Some more) ≡ list_item ts → prepend_all front (operands_of ts) ≡ total → prepend_all (front ++ v ∷ []) (operands_of more) ≡ total
operands_after_item_before_comma front v more ts total e so_far = sym (prepend_all_of_cons front v (operands_of more)) ∙ (ap (λ (o : Option (Operand × Option (List Token))). prepend_all front (operands_from_item o)) e ∙ (ap (prepend_all front) (sym (operands_of_equals_operands_from_item ts)) ∙ so_far))
