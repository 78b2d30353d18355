-- Lemmas: the bytes of a line are added in the same way to the cells and to the (address, byte)
-- pairs.
use Rattle.std.proofs.Common.{◌≡◌, ℕ, ◌+◌, ◌≤◌, Bool, true, false, List, ◌++◌, length, take, drop, Option, Result, Ok, Err, refl, sym, ◌∙◌}
use Rattle.std.proofs.Common.{suc, ltb, leb, ap, subst, arith, None, Some, ◌&&◌, [], ◌∷◌}
use Rattle.std.proofs.lemmas.Bool.{true≢false, ltb-false, or_parts}
use Rattle.std.specs.List.{list_all}
use Rattle.mcs_source.specs.declared.fault.SourceFault.{SourceFault}
use Rattle.mcs_model.specs.declared.op.Op.{Op}
use Rattle.mcs_model.specs.declared.op.Op.TheVariants as op
use Rattle.mcs_source.specs.Lines as asm
use Rattle.mcs_model.specs.Table.{word_count_of}
use Rattle.mcs_source.specs.Spelling.{spelling}
use Rattle.mcs_source.specs.Assembly.{Names, value_in, values_in, statement_bytes, size, with_known_value, if_in_range, if_on_page, is_on_reachable_page, line_bytes, passes_end}
use Rattle.std.specs.Prelude.{is_some}
use Rattle.std.specs.List.{list_any}
use Rattle.mcs_source.specs.declared.fault.SourceFault.TheVariants.{Overlap}
use Rattle.mcs_model.specs.Images.{from_address, overlaps}
use Rattle.mcs_source.specs.Assembly.{address_after_line}
use Rattle.mcs_asm.specs.Passes.{SecondPassState, second_pass_with_bytes, second_pass_with_line}
use Rattle.mcs_asm.specs.ByteCells.{cells_after_write, HoldsPairs}
use Rattle.mcs_asm.proofs.CellPairs.{occupied_equals_overlaps, cells_hold_pairs_after_all_writes, free_if_no_overlap}
use Rattle.mcs_model.specs.Options.{◌>>=◌}

pub overlap_is_rejected : (cells : List (Option ℕ)) (pairs : List (ℕ × ℕ)) (at next : ℕ) (bytes : List ℕ) → list_any is_some (take (length bytes) (drop at cells)) ≡ true → HoldsPairs cells pairs
    → second_pass_with_bytes (record { at = at; pairs = pairs }) next (Ok bytes) ≡ Err Overlap
overlap_is_rejected cells pairs at next bytes occupied kept =
    let overlap : overlaps pairs at (length bytes) ≡ true = sym (occupied_equals_overlaps cells pairs at (length bytes) kept) ∙ occupied in
    rw overlap refl

pub bytes_without_overlap_are_added : (cells : List (Option ℕ)) (pairs : List (ℕ × ℕ)) (at next : ℕ) (bytes : List ℕ) → at + length bytes ≤ 4096 → list_any is_some (take (length bytes) (drop at cells)) ≡ false → HoldsPairs cells pairs
    → (s : SecondPassState) × (second_pass_with_bytes (record { at = at; pairs = pairs }) next (Ok bytes) ≡ Ok s) × (s.at ≡ next) × HoldsPairs (cells_after_write at bytes cells) s.pairs
bytes_without_overlap_are_added cells pairs at next bytes within free kept =
    let overlap : overlaps pairs at (length bytes) ≡ false = sym (occupied_equals_overlaps cells pairs at (length bytes) kept) ∙ free in
    (record { at = next; pairs = pairs ++ from_address at bytes }, rw overlap refl, refl, cells_hold_pairs_after_all_writes bytes at cells pairs within kept (free_if_no_overlap pairs at (length bytes) overlap))

-- Adding the bytes of a parsed line to the second pass gives the same result as adding the line.
pub bytes_of_line_are_added : (names : Names) (s : SecondPassState) (l : Option asm.SourceLine) (line : asm.SourceLine) (bytes : List ℕ) (next : ℕ) → Some line ≡ l → line_bytes s.at names (Some line) ≡ Ok bytes → next ≡ address_after_line (Some line) s.at
    → second_pass_with_bytes s next (Ok bytes) ≡ second_pass_with_line names s l
bytes_of_line_are_added names s l line bytes next form is at =
    ap (λ (n : ℕ). second_pass_with_bytes s n (Ok bytes)) at ∙ (ap (λ (r : Result (List ℕ) SourceFault). second_pass_with_bytes s (address_after_line (Some line) s.at) r) (sym is) ∙ ap (λ (o : Option asm.SourceLine). second_pass_with_line names s o) form)

-- ---- If a line has no first-pass error, its bytes fit into the ROM.

length_of_spelling_is_word_count : (o : Op) → length (spelling o) ≡ word_count_of o
length_of_spelling_is_word_count (op.Jcn r b) = refl
length_of_spelling_is_word_count _ = refl

-- Holds if the result is an error or has `n` bytes.
abbrev pub HasLength : ℕ → Result (List ℕ) SourceFault → Type 0
HasLength n (Ok bytes) = length bytes ≡ n
HasLength n (Err f) = Unit {0}

HasLength-if_in_range : (n : ℕ) (t : Bool) (r : Result (List ℕ) SourceFault) → HasLength n r → HasLength n (if_in_range t r)
HasLength-if_in_range n true r h = h
HasLength-if_in_range n false r h = tt

HasLength-if_on_page : (n : ℕ) (t : Bool) (r : Result (List ℕ) SourceFault) → HasLength n r → HasLength n (if_on_page t r)
HasLength-if_on_page n true r h = h
HasLength-if_on_page n false r h = tt

HasLength-with_known_value : (n : ℕ) (o : Option ℕ) (f : ℕ → Result (List ℕ) SourceFault) → ((x : ℕ) → HasLength n (f x)) → HasLength n (with_known_value o f)
HasLength-with_known_value n None f h = tt
HasLength-with_known_value n (Some x) f h = h x

some_list_is_injective : (xs ys : List ℕ) → Some xs ≡ Some ys → ys ≡ xs
some_list_is_injective xs ys e = sym (ap (λ (o : Option (List ℕ)). elim o [ Some x ↦ x | None ↦ xs ]) e)

length_of_value_and_other_values : (a : Option ℕ) (b : Option (List ℕ)) (ns : List ℕ) (n : ℕ) → ((ms : List ℕ) → b ≡ Some ms → length ms ≡ n) → ◌>>=◌ a (λ x. ◌>>=◌ b (λ xs. Some (x ∷ xs))) ≡ Some ns → length ns ≡ suc n
length_of_value_and_other_values None b ns n h e = absurd (true≢false (ap (λ (o : Option (List ℕ)). elim o [ Some x ↦ false | None ↦ true ]) e))
length_of_value_and_other_values (Some x) None ns n h e = absurd (true≢false (ap (λ (o : Option (List ℕ)). elim o [ Some x ↦ false | None ↦ true ]) e))
length_of_value_and_other_values (Some x) (Some xs) ns n h e = ap length (some_list_is_injective (x ∷ xs) ns e) ∙ ap suc (h xs refl)

values_in_has_length_of_operands : (names : Names) (vs : List asm.Operand) (ns : List ℕ) → values_in names vs ≡ Some ns → length ns ≡ length vs
values_in_has_length_of_operands names [] ns e = ap length (sym (some_list_is_injective ns [] (sym e)))
values_in_has_length_of_operands names (v ∷ vs) ns e = length_of_value_and_other_values (value_in names v) (values_in names vs) ns (length vs) (λ ms f. values_in_has_length_of_operands names vs ms f) e

HasLength-values_in_range : (names : Names) (vs : List asm.Operand) (f : List ℕ → Bool) (o : Option (List ℕ)) → values_in names vs ≡ o → HasLength (length vs) (with_known_value o (λ ns. if_in_range (f ns) (Ok ns)))
HasLength-values_in_range names vs f None e = tt
HasLength-values_in_range names vs f (Some ns) e = HasLength-if_in_range (length vs) (f ns) (Ok ns) (values_in_has_length_of_operands names vs ns e)

pub statement_bytes_have_statement_size : (at : ℕ) (names : Names) (s : asm.Statement) → HasLength (size s) (statement_bytes at names s)
statement_bytes_have_statement_size at names (asm.Origin n) = refl
statement_bytes_have_statement_size at names (asm.Data vs) = HasLength-values_in_range names vs (λ ns. list_all (λ n. ltb n 256) ns) (values_in names vs) refl
statement_bytes_have_statement_size at names (asm.Whole o) = length_of_spelling_is_word_count o
statement_bytes_have_statement_size at names (asm.Ldm v) = HasLength-with_known_value 1 (value_in names v) _ (λ n. HasLength-if_in_range 1 (ltb n 16) _ refl)
statement_bytes_have_statement_size at names (asm.Bbl v) = HasLength-with_known_value 1 (value_in names v) _ (λ n. HasLength-if_in_range 1 (ltb n 16) _ refl)
statement_bytes_have_statement_size at names (asm.Jun v) = HasLength-with_known_value 2 (value_in names v) _ (λ n. HasLength-if_in_range 2 (ltb n 4096) _ refl)
statement_bytes_have_statement_size at names (asm.Jms v) = HasLength-with_known_value 2 (value_in names v) _ (λ n. HasLength-if_in_range 2 (ltb n 4096) _ refl)
statement_bytes_have_statement_size at names (asm.Fim p v) = HasLength-with_known_value 2 (value_in names v) _ (λ n. HasLength-if_in_range 2 (ltb n 256) _ refl)
statement_bytes_have_statement_size at names (asm.Jcn v w) = HasLength-with_known_value 2 (value_in names v) _ (λ n. HasLength-with_known_value 2 (value_in names w) _ (λ t. HasLength-if_in_range 2 (ltb n 16 && ltb t 4096) _ (HasLength-if_on_page 2 (is_on_reachable_page at t) _ refl)))
statement_bytes_have_statement_size at names (asm.Isz r w) = HasLength-with_known_value 2 (value_in names w) _ (λ t. HasLength-if_in_range 2 (ltb t 4096) _ (HasLength-if_on_page 2 (is_on_reachable_page at t) _ refl))

pub line_fits_in_rom : (at : ℕ) (names : Names) (line : asm.SourceLine) (bytes : List ℕ) → line_bytes at names (Some line) ≡ Ok bytes → passes_end line at ≡ false → at ≤ 4096 → at + length bytes ≤ 4096
line_fits_in_rom at names (asm.Define w n) bytes e room le =
    let none : HasLength 0 (Ok bytes) = subst (HasLength 0) e refl in
    omega (arith, none, le)
line_fits_in_rom at names (asm.Code label None) bytes e room le =
    let none : HasLength 0 (Ok bytes) = subst (HasLength 0) e refl in
    omega (arith, none, le)
line_fits_in_rom at names (asm.Code label (Some s)) bytes e room le =
    let len : HasLength (size s) (Ok bytes) = subst (HasLength (size s)) e (statement_bytes_have_statement_size at names s) in
    let end : at + size s ≤ 4096 = ltb-false 4096 (at + size s) (or_parts (is_some label && leb 4096 at) (ltb 4096 (at + size s)) room).1 in
    omega (arith, len, end)
