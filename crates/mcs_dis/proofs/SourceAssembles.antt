-- The source lines for some bytes assemble to exactly these bytes.
use Rattle.std.proofs.Common.{◌≡◌, ℕ, suc, zero, ◌+◌, ◌-◌, ◌/◌, ◌%◌, ◌<◌, ◌≤◌, false, List, [], ◌∷◌, ◌++◌, length, take, drop, Option, Some, None, Result, Ok, refl, sym, ap, subst, ◌∙◌, arith, append_assoc, append-nil}
use Rattle.std.proofs.lemmas.Bool.{le-ltb, lt-ltb, lt-leb}
use Rattle.std.proofs.lemmas.List.{length-take, length-drop, take-append-drop}
use Rattle.std.specs.List.{AllByRecursion, cons_option}
use Rattle.mcs_model.specs.declared.op.Op.{Op}
use Rattle.mcs_source.specs.Lexical.{tokens}
use Rattle.mcs_source.specs.Lines as asm
use Rattle.mcs_model.specs.Images.{from_address, overlaps}
use Rattle.mcs_source.specs.declared.fault.SourceFault.{SourceFault}
use Rattle.mcs_model.specs.TextLines.{lines_of}
use Rattle.mcs_source.specs.Assembly.{assembly_of_text, read, ith_line, Names, definition, address_of, names_before, pairs_before, address_after_line, first_pass_line_fault, second_pass_line_fault, line_bytes, bytes_or_none, first_pass_fault, second_pass_fault}
use Rattle.mcs_source.proofs.LineByLine.{HasNoFaultBefore, address_of_next_line, names_before_next_line, pairs_before_next_line, no_fault_before_next, no_first_fault, ith_line_of_remaining_lines, assembles_if_no_fault}
use Rattle.mcs_source.specs.Text.{op_at, second_word, piece_text, piece_size}
use Rattle.mcs_source.specs.SourceText.{SourceAssemblesBack, origin_text, source_of, piece_texts}
use Rattle.mcs_dis.proofs.NoLineEnds.{is_line_if_no_line_ends, no_line_ends_in_address}
use Rattle.mcs_dis.proofs.LinesParseBack.{IsLine, written_lines_parse_back}
use Rattle.mcs_dis.proofs.ReadBack.{origin_parses_back}
use Rattle.mcs_dis.proofs.Pieces.{IsPiece, op_at_is_piece}
use Rattle.mcs_dis.proofs.Loops.{drop_after_first_byte}

abbrev pub AreBytes : List ℕ → Type 0
AreBytes bytes = AllByRecursion (λ b. b < 256) bytes

-- Holds if the addresses of all pairs are below `at`.
abbrev pub AreAddressesBelow : ℕ → List (ℕ × ℕ) → Type 0
AreAddressesBelow at pairs = AllByRecursion (λ p. p.0 < at) pairs

second_word_is_byte : (rest : List ℕ) → AreBytes rest → second_word rest < 256
second_word_is_byte [] all = omega arith
second_word_is_byte (c ∷ rest) all = all.0

drop_of_bytes_are_bytes : (n : ℕ) (bytes : List ℕ) → AreBytes bytes → AreBytes (drop n bytes)
drop_of_bytes_are_bytes zero bytes all = all
drop_of_bytes_are_bytes (suc n) [] all = all
drop_of_bytes_are_bytes (suc n) (b ∷ bytes) all = drop_of_bytes_are_bytes n bytes all.1

no_overlap_if_pairs_below : (at n : ℕ) (pairs : List (ℕ × ℕ)) → AreAddressesBelow at pairs → overlaps pairs at n ≡ false
no_overlap_if_pairs_below at n [] all = refl
no_overlap_if_pairs_below at n (p ∷ pairs) all = rw (lt-leb at p.0 all.0) (no_overlap_if_pairs_below at n pairs all.1)

pairs_below_after_append : (at more : ℕ) (pairs qs : List (ℕ × ℕ)) → at ≤ more → AreAddressesBelow at pairs → AreAddressesBelow more qs → AreAddressesBelow more (pairs ++ qs)
pairs_below_after_append at more [] qs le all others = others
pairs_below_after_append at more (p ∷ pairs) qs le all others = (omega (arith, all.0, le), pairs_below_after_append at more pairs qs le all.1 others)

from_address_pairs_below : (at more : ℕ) (bytes : List ℕ) → at + length bytes ≤ more → AreAddressesBelow more (from_address at bytes)
from_address_pairs_below at more [] le = tt
from_address_pairs_below at more (b ∷ bytes) le = (omega (arith, le), from_address_pairs_below (at + 1) more bytes (omega (arith, le)))

from_address_of_append : (at : ℕ) (xs ys : List ℕ) → from_address at (xs ++ ys) ≡ from_address at xs ++ from_address (at + length xs) ys
from_address_of_append at [] ys = ap (λ k. from_address k ys) (omega arith)
from_address_of_append at (x ∷ xs) ys =
    let e : at + 1 + length xs ≡ at + length (x ∷ xs) = omega arith in
    ap (λ (l : List (ℕ × ℕ)). (at, x) ∷ l) (from_address_of_append (at + 1) xs ys ∙ ap (λ k. from_address (at + 1) xs ++ from_address k ys) e)

-- ---- the first pass

-- Holds if line `i` starts at address `at`, and the lines before line `i` define no names and have
-- no first-pass errors.
record FirstPassSucceedsBefore (lines : List (Option asm.SourceLine)) (i at : ℕ) : Type 0 where
  within : i ≤ length lines
  address : address_of lines i ≡ at
  names : names_before lines i ≡ []
  none : HasNoFaultBefore (first_pass_fault lines) i

first_pass_succeeds_before_next_line : (lines : List (Option asm.SourceLine)) (i at next : ℕ) (line : Option asm.SourceLine) → i < length lines → ith_line lines i ≡ line → first_pass_line_fault at [] line ≡ None → definition line at ≡ None → address_after_line line at ≡ next → FirstPassSucceedsBefore lines i at → FirstPassSucceedsBefore lines (i + 1) next
unfolding first_pass_fault
first_pass_succeeds_before_next_line lines i at next line lt is no_fault no_name next_is h = record {
  within = omega (arith, lt);
  address = address_of_next_line lines i ∙ (ap (λ (l : Option asm.SourceLine). address_after_line l (address_of lines i)) is ∙ (ap (address_after_line line) h.address ∙ next_is));
  names = names_before_next_line lines i
      ∙ (ap (λ (l : Option asm.SourceLine). names_before lines i ++ cons_option (definition l (address_of lines i)) []) is
      ∙ (ap (λ (n : ℕ). names_before lines i ++ cons_option (definition line n) []) h.address
      ∙ (ap (λ (o : Option (List ℕ × ℕ)). names_before lines i ++ cons_option o []) no_name ∙ (append-nil (names_before lines i) ∙ h.names))));
  none = no_fault_before_next (first_pass_fault lines) i h.none
      (ap (λ (l : Option asm.SourceLine). first_pass_line_fault (address_of lines i) (names_before lines i) l) is ∙ (ap (λ (n : Names). first_pass_line_fault (address_of lines i) n line) h.names ∙ (ap (λ (n : ℕ). first_pass_line_fault n [] line) h.address ∙ no_fault)));
}

piece_has_no_first_pass_fault : (at b : ℕ) (rest : List ℕ) (x : Option Op) → IsPiece at b rest x → at + piece_size x ≤ 4096 → first_pass_line_fault at [] (asm.line_of (tokens (piece_text at b x))) ≡ None
piece_has_no_first_pass_fault at b rest x p le = rw (p.parses_back) (rw (p.no_bad_origin, p.statement_size, le-ltb 4096 (at + piece_size x) le) refl)

piece_defines_no_name : (at b : ℕ) (rest : List ℕ) (x : Option Op) → IsPiece at b rest x → definition (asm.line_of (tokens (piece_text at b x))) at ≡ None
piece_defines_no_name at b rest x p = rw (p.parses_back) refl

next_address_after_piece : (at b : ℕ) (rest : List ℕ) (x : Option Op) → IsPiece at b rest x → address_after_line (asm.line_of (tokens (piece_text at b x))) at ≡ at + piece_size x
next_address_after_piece at b rest x p = rw (p.parses_back) (p.next)

index_is_length_if_no_lines_left : (lines : List (Option asm.SourceLine)) (i : ℕ) → i ≤ length lines → drop i lines ≡ [] → i ≡ length lines
index_is_length_if_no_lines_left lines i le e = omega (arith, le, length-drop i lines, ap length e)

-- ---- the second pass

-- Holds if line `i` starts at address `at`, and the lines before line `i` emit `pairs` and have no
-- second-pass errors.
record SecondPassSucceedsBefore (lines : List (Option asm.SourceLine)) (i at : ℕ) (pairs : List (ℕ × ℕ)) : Type 0 where
  within : i ≤ length lines
  address : address_of lines i ≡ at
  emitted : pairs_before lines [] i ≡ pairs
  none : HasNoFaultBefore (second_pass_fault lines []) i

second_pass_succeeds_before_next_line : (lines : List (Option asm.SourceLine)) (i at next : ℕ) (line : Option asm.SourceLine) (pairs : List (ℕ × ℕ)) (bytes : List ℕ) → i < length lines → ith_line lines i ≡ line → line_bytes at [] line ≡ Ok bytes → overlaps pairs at (length bytes) ≡ false → address_after_line line at ≡ next
    → SecondPassSucceedsBefore lines i at pairs → SecondPassSucceedsBefore lines (i + 1) next (pairs ++ from_address at bytes)
unfolding second_pass_fault
second_pass_succeeds_before_next_line lines i at next line pairs bytes lt is spells free next_is h =
    let bytes_are : line_bytes (address_of lines i) [] (ith_line lines i) ≡ Ok bytes = ap (λ (l : Option asm.SourceLine). line_bytes (address_of lines i) [] l) is ∙ (ap (λ (n : ℕ). line_bytes n [] line) h.address ∙ spells) in
    record {
      within = omega (arith, lt);
      address = address_of_next_line lines i ∙ (ap (λ (l : Option asm.SourceLine). address_after_line l (address_of lines i)) is ∙ (ap (address_after_line line) h.address ∙ next_is));
      emitted = pairs_before_next_line lines [] i
          ∙ (ap (λ (r : Result (List ℕ) SourceFault). pairs_before lines [] i ++ from_address (address_of lines i) (bytes_or_none r)) bytes_are
          ∙ (ap (λ (n : ℕ). pairs_before lines [] i ++ from_address n bytes) h.address ∙ ap (λ (ps : List (ℕ × ℕ)). ps ++ from_address at bytes) h.emitted));
      none = no_fault_before_next (second_pass_fault lines []) i h.none
          (ap (λ (r : Result (List ℕ) SourceFault). second_pass_line_fault (address_of lines i) (pairs_before lines [] i) r) bytes_are
          ∙ (ap (λ (ps : List (ℕ × ℕ)). second_pass_line_fault (address_of lines i) ps (Ok bytes)) h.emitted ∙ (ap (λ (n : ℕ). second_pass_line_fault n pairs (Ok bytes)) h.address ∙ rw free refl)));
    }

piece_bytes : (at b : ℕ) (rest : List ℕ) (x : Option Op) → IsPiece at b rest x → line_bytes at [] (asm.line_of (tokens (piece_text at b x))) ≡ Ok (take (piece_size x) (b ∷ rest))
piece_bytes at b rest x p = rw (p.parses_back) (p.bytes)

-- ---- all pieces

first_pass_succeeds_after_last_line : (at i : ℕ) (lines : List (Option asm.SourceLine)) → drop i lines ≡ [] → FirstPassSucceedsBefore lines i at → FirstPassSucceedsBefore lines (length lines) (at + 0)
first_pass_succeeds_after_last_line at i lines is h =
    let e : at ≡ at + 0 = omega arith in
    subst (λ (n : ℕ). FirstPassSucceedsBefore lines n (at + 0)) (index_is_length_if_no_lines_left lines i h.within is) (subst (FirstPassSucceedsBefore lines i) e h)

second_pass_succeeds_after_last_line : (at i : ℕ) (lines : List (Option asm.SourceLine)) (pairs : List (ℕ × ℕ)) → drop i lines ≡ [] → SecondPassSucceedsBefore lines i at pairs → SecondPassSucceedsBefore lines (length lines) (at + 0) (pairs ++ [])
second_pass_succeeds_after_last_line at i lines pairs is h =
    let e : at ≡ at + 0 = omega arith in
    subst (λ (n : ℕ). SecondPassSucceedsBefore lines n (at + 0) (pairs ++ [])) (index_is_length_if_no_lines_left lines i h.within is) (subst (λ (n : ℕ). SecondPassSucceedsBefore lines i n (pairs ++ [])) e (subst (SecondPassSucceedsBefore lines i at) (sym (append-nil pairs)) h))

first_pass_succeeds_to_end : (fuel at i : ℕ) (bytes : List ℕ) (lines : List (Option asm.SourceLine)) → length bytes ≤ fuel → at + length bytes ≤ 4096 → AreBytes bytes → drop i lines ≡ read (piece_texts fuel at bytes) → FirstPassSucceedsBefore lines i at → FirstPassSucceedsBefore lines (length lines) (at + length bytes)
unfolding piece_texts
first_pass_succeeds_to_end zero at i [] lines short le all is h = first_pass_succeeds_after_last_line at i lines is h
first_pass_succeeds_to_end zero at i (b ∷ rest) lines short le all is h = absurd (omega (arith, short))
first_pass_succeeds_to_end (suc fuel) at i [] lines short le all is h = first_pass_succeeds_after_last_line at i lines is h
first_pass_succeeds_to_end (suc fuel) at i (b ∷ rest) lines short le all is h =
    let x : Option Op = op_at b rest in
    let p : IsPiece at b rest (op_at b rest) = op_at_is_piece at b rest all.0 (second_word_is_byte rest all.1) in
    let n : ℕ = piece_size x in
    let len : length (drop (n - 1) rest) ≡ length rest - (n - 1) = length-drop (n - 1) rest in
    let f = ith_line_of_remaining_lines lines i (asm.line_of (tokens (piece_text at b x))) (read (piece_texts fuel (at + n) (drop (n - 1) rest))) is in
    let next : FirstPassSucceedsBefore lines (i + 1) (at + n) = first_pass_succeeds_before_next_line lines i at (at + n) (asm.line_of (tokens (piece_text at b x))) f.0 f.1 (piece_has_no_first_pass_fault at b rest x p (omega (arith, le, p.fits))) (piece_defines_no_name at b rest x p) (next_address_after_piece at b rest x p) h in
    let more = first_pass_succeeds_to_end fuel (at + n) (i + 1) (drop (n - 1) rest) lines (omega (arith, len, short, p.some)) (omega (arith, len, le, p.some, p.fits)) (drop_of_bytes_are_bytes (n - 1) rest all.1) f.2 next in
    let end : at + n + length (drop (n - 1) rest) ≡ at + length (b ∷ rest) = omega (arith, len, p.some, p.fits) in
    subst (FirstPassSucceedsBefore lines (length lines)) end more

second_pass_succeeds_to_end : (fuel at i : ℕ) (bytes : List ℕ) (lines : List (Option asm.SourceLine)) (pairs : List (ℕ × ℕ)) → length bytes ≤ fuel → AreBytes bytes → AreAddressesBelow at pairs → drop i lines ≡ read (piece_texts fuel at bytes) → SecondPassSucceedsBefore lines i at pairs
    → SecondPassSucceedsBefore lines (length lines) (at + length bytes) (pairs ++ from_address at bytes)
unfolding piece_texts
second_pass_succeeds_to_end zero at i [] lines pairs short all below is h = second_pass_succeeds_after_last_line at i lines pairs is h
second_pass_succeeds_to_end zero at i (b ∷ rest) lines pairs short all below is h = absurd (omega (arith, short))
second_pass_succeeds_to_end (suc fuel) at i [] lines pairs short all below is h = second_pass_succeeds_after_last_line at i lines pairs is h
second_pass_succeeds_to_end (suc fuel) at i (b ∷ rest) lines pairs short all below is h =
    let x : Option Op = op_at b rest in
    let p : IsPiece at b rest (op_at b rest) = op_at_is_piece at b rest all.0 (second_word_is_byte rest all.1) in
    let n : ℕ = piece_size x in
    let len : length (drop (n - 1) rest) ≡ length rest - (n - 1) = length-drop (n - 1) rest in
    let front : List ℕ = take n (b ∷ rest) in
    let front_len : length front ≡ n = length-take n (b ∷ rest) ∙ omega (arith, p.fits) in
    let now : List (ℕ × ℕ) = pairs ++ from_address at front in
    let below' : AreAddressesBelow (at + n) now = pairs_below_after_append at (at + n) pairs (from_address at front) (omega arith) below (from_address_pairs_below at (at + n) front (omega (arith, front_len))) in
    let f = ith_line_of_remaining_lines lines i (asm.line_of (tokens (piece_text at b x))) (read (piece_texts fuel (at + n) (drop (n - 1) rest))) is in
    let next : SecondPassSucceedsBefore lines (i + 1) (at + n) now = second_pass_succeeds_before_next_line lines i at (at + n) (asm.line_of (tokens (piece_text at b x))) pairs front f.0 f.1 (piece_bytes at b rest x p) (no_overlap_if_pairs_below at (length front) pairs below) (next_address_after_piece at b rest x p) h in
    let more = second_pass_succeeds_to_end fuel (at + n) (i + 1) (drop (n - 1) rest) lines now (omega (arith, len, short, p.some)) (drop_of_bytes_are_bytes (n - 1) rest all.1) below' f.2 next in
    let end : at + n + length (drop (n - 1) rest) ≡ at + length (b ∷ rest) = omega (arith, len, p.some, p.fits) in
    let both_parts : front ++ drop (n - 1) rest ≡ b ∷ rest = ap (λ (l : List ℕ). front ++ l) (sym (drop_after_first_byte n b rest p.some)) ∙ take-append-drop n (b ∷ rest) in
    let pairs_are : now ++ from_address (at + n) (drop (n - 1) rest) ≡ pairs ++ from_address at (b ∷ rest) =
    append_assoc pairs (from_address at front) (from_address (at + n) (drop (n - 1) rest))
    ∙ ap (λ (l : List (ℕ × ℕ)). pairs ++ l) (ap (λ (m : ℕ). from_address at front ++ from_address (at + m) (drop (n - 1) rest)) (sym front_len) ∙ (sym (from_address_of_append at front (drop (n - 1) rest)) ∙ ap (from_address at) both_parts)) in
    subst (λ (m : ℕ). SecondPassSucceedsBefore lines (length lines) m (pairs ++ from_address at (b ∷ rest))) end (subst (SecondPassSucceedsBefore lines (length lines) (at + n + length (drop (n - 1) rest))) pairs_are more)

piece_texts_are_lines : (fuel at : ℕ) (bytes : List ℕ) → AreBytes bytes → AllByRecursion IsLine (piece_texts fuel at bytes)
unfolding piece_texts
piece_texts_are_lines zero at bytes all = tt
piece_texts_are_lines (suc fuel) at [] all = tt
piece_texts_are_lines (suc fuel) at (b ∷ rest) all =
    let p : IsPiece at b rest (op_at b rest) = op_at_is_piece at b rest all.0 (second_word_is_byte rest all.1) in
    (is_line_if_no_line_ends (piece_text at b (op_at b rest)) p.no_line_ends, piece_texts_are_lines fuel (at + piece_size (op_at b rest)) (drop (piece_size (op_at b rest) - 1) rest) (drop_of_bytes_are_bytes (piece_size (op_at b rest) - 1) rest all.1))

-- the source text for some bytes assembles to exactly these bytes, starting at address `from`
pub source_assembles_back : (from : ℕ) (bytes : List ℕ) → from < 4096 → from + length bytes ≤ 4096 → AreBytes bytes → assembly_of_text (source_of from bytes) ≡ Ok (from_address from bytes)
unfolding address_of names_before pairs_before
source_assembles_back from bytes lt le all =
    let ts : List (List ℕ) = piece_texts (length bytes) from bytes in
    let texts : lines_of (source_of from bytes) ≡ origin_text from ∷ ts =
    written_lines_parse_back (origin_text from ∷ ts) (is_line_if_no_line_ends (origin_text from) (no_line_ends_in_address (from / 256) (from % 256) (omega arith) (omega arith)), piece_texts_are_lines (length bytes) from bytes all) in
    let lines : List (Option asm.SourceLine) = read (origin_text from ∷ ts) in
    let origin : Option asm.SourceLine = Some (asm.Code None (Some (asm.Origin from))) in
    let some : 0 < length lines = omega arith in
    let first_pass_at_start : FirstPassSucceedsBefore lines 0 0 = record { within = omega arith; address = refl; names = refl; none = λ j less. absurd (omega (arith, less)) } in
    let first_pass_after_origin : FirstPassSucceedsBefore lines (0 + 1) from = first_pass_succeeds_before_next_line lines 0 0 from origin some (origin_parses_back from lt) (rw (lt-ltb from 4096 lt) refl) refl refl first_pass_at_start in
    let first_pass : FirstPassSucceedsBefore lines (length lines) (from + length bytes) = first_pass_succeeds_to_end (length bytes) from 1 bytes lines (omega arith) le all refl first_pass_after_origin in
    let second_pass_at_start : SecondPassSucceedsBefore lines 0 0 [] = record { within = omega arith; address = refl; emitted = refl; none = λ j less. absurd (omega (arith, less)) } in
    let second_pass_after_origin : SecondPassSucceedsBefore lines (0 + 1) from [] = second_pass_succeeds_before_next_line lines 0 0 from origin [] [] some (origin_parses_back from lt) refl refl refl second_pass_at_start in
    let second_pass : SecondPassSucceedsBefore lines (length lines) (from + length bytes) (from_address from bytes) = second_pass_succeeds_to_end (length bytes) from 1 bytes lines [] (omega arith) all tt refl second_pass_after_origin in
    assembles_if_no_fault (source_of from bytes) (origin_text from ∷ ts) [] (sym texts) (no_first_fault (first_pass_fault lines) (length lines) first_pass.none) (sym first_pass.names) (no_first_fault (second_pass_fault lines []) (length lines) second_pass.none) ∙ ap Ok second_pass.emitted

take_of_bytes_are_bytes : (n : ℕ) (bytes : List ℕ) → AreBytes bytes → AreBytes (take n bytes)
take_of_bytes_are_bytes zero bytes all = tt
take_of_bytes_are_bytes (suc n) [] all = tt
take_of_bytes_are_bytes (suc n) (b ∷ bytes) all = (all.0, take_of_bytes_are_bytes n bytes all.1)

pub range_source_assembles_back : (rom : List ℕ) (from to : ℕ) → length rom ≡ 4096 → AreBytes rom → from < to → to ≤ 4096 → SourceAssemblesBack rom from to
range_source_assembles_back rom from to len all lt le =
    let size : length (take (to - from) (drop from rom)) ≤ to - from = omega (arith, length-take (to - from) (drop from rom)) in
    source_assembles_back from (take (to - from) (drop from rom)) (omega (arith, lt, le)) (omega (arith, size, lt, le)) (take_of_bytes_are_bytes (to - from) (drop from rom) (drop_of_bytes_are_bytes from rom all))
