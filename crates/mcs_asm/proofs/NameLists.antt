-- Lemmas: a lookup of a name gives the same result in a list of slices, in a list of names, and in
-- a map.
use Rattle.std.proofs.Common.{◌≡◌, true≢false, ℕ, ◌||◌, Bool, true, false, cond, List, [], ◌∷◌, ◌++◌, map, refl, sym, ap, ◌∙◌, Bor, Option, Some}
use Rattle.std.specs.List.{list_any}
use Rattle.std.specs.Str.{bytes_eq}
use Rattle.std.specs.Ordering.{nat_cmp}
use Rattle.std.specs.Cmp.Lexicographic.{slice_cmp}
use Rattle.std.specs.BTreeMap.{BTreeMap, UpdatesBy}
use Rattle.std.proofs.lemmas.Map.Text.{btree_map_updates_str}
use Rattle.std.proofs.lemmas.Slice.Eq.{bytes_eq-Decides}
use Rattle.std.proofs.lemmas.List.{map_push}
use Rattle.std.proofs.lemmas.Bool.{false_from_ne_true, or_parts}
use Rattle.mcs_source.specs.Assembly.{Names, is_defined, value_of}
use Rattle.mcs_asm.specs.View.{AgreesWithNames}

pub is_defined_in_view : (w : List ℕ) (es : List (Bor (List ℕ) × ℕ)) → list_any (λ e. bytes_eq e.0.now w) es ≡ is_defined w (map (λ e. (e.0.now, e.1)) es)
is_defined_in_view w [] = refl
is_defined_in_view w (e ∷ es) = ap (λ b. bytes_eq e.0.now w || b) (is_defined_in_view w es)

-- ---- one more name

other_name_differs_from_equal_name : (m bs w : List ℕ) → bytes_eq m bs ≡ false → bytes_eq m w ≡ true → bytes_eq bs w ≡ false
other_name_differs_from_equal_name m bs w h e = false_from_ne_true (bytes_eq bs w) (λ t. true≢false (sym ((bytes_eq-Decides m bs).1 ((bytes_eq-Decides m w).0 e ∙ sym ((bytes_eq-Decides bs w).0 t))) ∙ h))

later_name_is_ignored : (a b : Bool) (first last rest found : Option ℕ) → (a ≡ true → b ≡ false) → found ≡ cond b last rest → cond a first found ≡ cond b last (cond a first rest)
later_name_is_ignored true b first last rest found h is = rw (h refl) refl
later_name_is_ignored false b first last rest found h is = is

value_of_with_name_appended : (bs : List ℕ) (v : ℕ) (names : Names) → is_defined bs names ≡ false → (w : List ℕ) → value_of w (names ++ (bs, v) ∷ []) ≡ cond (bytes_eq bs w) (Some v) (value_of w names)
value_of_with_name_appended bs v [] h w = refl
value_of_with_name_appended bs v (n ∷ names) h w =
    later_name_is_ignored (bytes_eq n.0 w) (bytes_eq bs w) (Some n.1) (Some v) (value_of w names) (value_of w (names ++ (bs, v) ∷ []))
    (other_name_differs_from_equal_name n.0 bs w (or_parts (bytes_eq n.0 bs) (is_defined bs names) h).0) (value_of_with_name_appended bs v names (or_parts (bytes_eq n.0 bs) (is_defined bs names) h).1 w)

pub agrees_after_insert : (bs : List ℕ) (v : ℕ) (old new : BTreeMap (Bor (List ℕ)) ℕ) (names : Names) → is_defined bs names ≡ false
    → UpdatesBy (λ x y. slice_cmp nat_cmp x.now y.now) (λ k. slice_cmp nat_cmp bs k.now) old new (Some v) → AgreesWithNames old names → AgreesWithNames new (names ++ (bs, v) ∷ [])
agrees_after_insert bs v old new names h more before w =
    btree_map_updates_str bs old new (Some v) more w ∙ (ap (λ (o : Option ℕ). cond (bytes_eq bs w) (Some v) o) (before w) ∙ sym (value_of_with_name_appended bs v names h w))

abbrev pub names_view : List (Bor (List ℕ) × ℕ) → Names
names_view es = map (λ e. (e.0.now, e.1)) es

pub agrees_after_push : (name : Bor (List ℕ)) (v : ℕ) (old new : BTreeMap (Bor (List ℕ)) ℕ) (es more : List (Bor (List ℕ) × ℕ)) → more ≡ es ++ (name, v) ∷ [] → is_defined name.now (names_view es) ≡ false
    → UpdatesBy (λ x y. slice_cmp nat_cmp x.now y.now) (λ k. slice_cmp nat_cmp name.now k.now) old new (Some v) → AgreesWithNames old (names_view es) → AgreesWithNames new (names_view more)
agrees_after_push name v old new es more is h updates before =
    rw (is, map_push {Y = List ℕ × ℕ} (λ (e : Bor (List ℕ) × ℕ). (e.0.now, e.1)) es (name, v)) (agrees_after_insert name.now v old new (names_view es) h updates before)
