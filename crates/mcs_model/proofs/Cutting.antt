-- Bytes that are split into pieces at separators.
use Rattle.std.proofs.Common.{◌≡◌, ℕ, List, [], ◌∷◌, ◌++◌, Bool, true, false, if◌then◌else◌, ap, ◌∙◌, sym, refl}
use Rattle.std.specs.List.{onto_first, slice_split}
use Rattle.mcs_model.specs.Cutting.{HasNoSeparator}

-- the pieces, with `p` prepended to the first piece; only `p` if there are no pieces
abbrev pub prepend_to_first : List ℕ → List (List ℕ) → List (List ℕ)
prepend_to_first p [] = p ∷ []
prepend_to_first p (q ∷ qs) = (p ++ q) ∷ qs

pub prepend_to_first-nil : (ps : List (List ℕ)) → (p : List ℕ) → (rest : List (List ℕ)) → ps ≡ p ∷ rest → prepend_to_first [] ps ≡ ps
prepend_to_first-nil [] p rest e = absurd (cc)
prepend_to_first-nil (q ∷ qs) p rest e = refl

onto_first-prepend_to_first : (b : ℕ) (p : List ℕ) (ps : List (List ℕ)) → onto_first b (prepend_to_first p ps) ≡ prepend_to_first (b ∷ p) ps
onto_first-prepend_to_first b p [] = refl
onto_first-prepend_to_first b p (q ∷ qs) = refl

-- if the first byte is a separator, the first piece is empty, and the other pieces are those of the
-- bytes after the separator
pub split-leading_separator : (is_separator : ℕ → Bool) (b : ℕ) (bs : List ℕ) → is_separator b ≡ true → slice_split is_separator (b ∷ bs) ≡ [] ∷ slice_split is_separator bs
split-leading_separator is_separator b bs e = ap (λ v. if v then [] ∷ slice_split is_separator bs else onto_first b (slice_split is_separator bs)) e

pub split-empty_list : (is_separator : ℕ → Bool) → slice_split is_separator [] ≡ [] ∷ []
split-empty_list is_separator = refl

-- a split gives at least one piece
pub first_piece_of : (is_separator : ℕ → Bool) (bytes : List ℕ) → (p : List ℕ) × (rest : List (List ℕ)) × (slice_split is_separator bytes ≡ p ∷ rest)
first_piece_of is_separator [] = ([], [], refl)
first_piece_of is_separator (b ∷ bytes) = elim (is_separator b) as (λ v. (p : List ℕ) × (rest : List (List ℕ)) × ((if v then [] ∷ slice_split is_separator bytes else onto_first b (slice_split is_separator bytes)) ≡ p ∷ rest)) [
  | true ↦ ([], slice_split is_separator bytes, refl)
  | false ↦ let h = first_piece_of is_separator bytes in (b ∷ h.0, h.1, ap (onto_first b) h.2)
]

-- if `p` contains no separator, splitting `p ++ bytes` prepends `p` to the first piece of `bytes`
pub split-piece_and_rest : (is_separator : ℕ → Bool) (p bytes : List ℕ) → HasNoSeparator is_separator p → slice_split is_separator (p ++ bytes) ≡ prepend_to_first p (slice_split is_separator bytes)
split-piece_and_rest is_separator [] bytes h = let f = first_piece_of is_separator bytes in sym (prepend_to_first-nil (slice_split is_separator bytes) f.0 f.1 f.2)
split-piece_and_rest is_separator (b ∷ p) bytes h = rw h.0 (ap (onto_first b) (split-piece_and_rest is_separator p bytes h.1) ∙ onto_first-prepend_to_first b p (slice_split is_separator bytes))

pub HasNoSeparator-snoc : (is_separator : ℕ → Bool) (p : List ℕ) (b : ℕ) → HasNoSeparator is_separator p → is_separator b ≡ false → HasNoSeparator is_separator (p ++ b ∷ [])
HasNoSeparator-snoc is_separator [] b h e = (e, tt)
HasNoSeparator-snoc is_separator (x ∷ p) b h e = (h.0, HasNoSeparator-snoc is_separator p b h.1 e)
