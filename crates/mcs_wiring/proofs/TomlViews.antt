-- Lemmas that relate the keys and values of a Rust map or vector to their specification views.
use Rattle.std.proofs.Common.{◌≡◌, ℕ, Bool, false, ◌||◌, eqb, List, [], ◌∷◌, length, map, string_bytes, ◌+◌, ◌<◌, get_or, drop, if◌then◌else◌, suc, refl, sym, ap, ◌∙◌}
use Rattle.std.proofs.lemmas.Bool.{true≢false}
use Rattle.std.proofs.lemmas.List.{drop_more}
use Rattle.std.specs.List.{list_any}
use Rattle.std.specs.Map.{keys_of as map_keys}
use Rattle.toml.specs.Data.{Data}
use Rattle.toml.specs.View.{view, members_view, items_view}
use Rattle.toml.specs.declared.value.Value.{Value}
use Rattle.toml.proofs.Views.{Entry}
use Rattle.mcs_wiring.specs.declared.sections.Numbered.{Numbered}
use Rattle.mcs_wiring.specs.Wiring.{keys_of, values_of, names_no_line, are_malformed_columns, has_double, part_at}

-- the views of a vector's values are the values of the vector's view
pub values_in_view : (vs : List Value) → map view vs ≡ values_of (items_view vs)
values_in_view [] = refl
values_in_view (v ∷ vs) = ap (λ ds. view v ∷ ds) (values_in_view vs)

-- a test holds for some key of a map exactly when it holds for some key of the map's view
pub any_key_test_in_view : (p : List ℕ → Bool) (es : List Entry) → list_any (λ k. p (string_bytes k)) (map_keys es) ≡ list_any p (keys_of (members_view es))
any_key_test_in_view p [] = refl
any_key_test_in_view p (e ∷ es) = ap (λ b. p (string_bytes e.0) || b) (any_key_test_in_view p es)

-- a test holds for the view of some value exactly when it holds for some member of the list of
-- views
pub any_value_in_view : (p : Data → Bool) (vs : List Value) → list_any (λ v. p (view v)) vs ≡ list_any p (map view vs)
any_value_in_view p [] = refl
any_value_in_view p (v ∷ vs) = ap (λ b. p (view v) || b) (any_value_in_view p vs)

pub length_of_views : (vs : List Value) → length (map view vs) ≡ length vs
length_of_views [] = refl
length_of_views (v ∷ vs) = ap suc (length_of_views vs)

-- for a non-empty list of columns, `are_malformed_columns` is true exactly when some column does
-- not name a line
pub columns_in_view : (vs : List Value) → eqb (length vs) 0 ≡ false → list_any (λ v. names_no_line (view v)) vs ≡ are_malformed_columns (map view vs)
columns_in_view [] some = absurd (true≢false some)
columns_in_view (v ∷ vs) some = any_value_in_view names_no_line (v ∷ vs)

-- For the parts from index `i`, `has_double` tests two conditions: a later part has the number of
-- part `i`, or two later parts have the same number.
pub has_double_from_index : {A : Type 0} (ps : List (Numbered A)) (i : ℕ) (p : Numbered A) → i < length ps → p ≡ get_or ps i p → has_double (drop i ps) ≡ (list_any (λ q. eqb q.number p.number) (drop (i + 1) ps) || has_double (drop (i + 1) ps))
has_double_from_index ps i p lt is =
    ap has_double (drop_more ps i p lt) ∙ ap (λ r. list_any (λ q. eqb q.number r.number) (drop (i + 1) ps) || has_double (drop (i + 1) ps)) (sym is)

-- For the parts from index `i`, `part_at` gives the field `part` of part `i` if part `i` has the
-- number `n`. Otherwise it gives the same value as for the parts from index `i + 1`.
pub part_at_from_index : {A : Type 0} (none : A) (ps : List (Numbered A)) (n i : ℕ) (p : Numbered A) → i < length ps → p ≡ get_or ps i p → part_at none (drop i ps) n ≡ (if eqb p.number n then p.part else part_at none (drop (i + 1) ps) n)
part_at_from_index none ps n i p lt is =
    ap (λ qs. part_at none qs n) (drop_more ps i p lt) ∙ ap (λ r. if eqb r.number n then r.part else part_at none (drop (i + 1) ps) n) (sym is)

-- the byte strings of a map's keys are the keys of the map's view
pub keys_in_view : (es : List Entry) → map string_bytes (map_keys es) ≡ keys_of (members_view es)
keys_in_view [] = refl
keys_in_view (e ∷ es) = ap (λ ks. string_bytes e.0 ∷ ks) (keys_in_view es)
