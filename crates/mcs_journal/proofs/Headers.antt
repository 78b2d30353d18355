-- The name, the zeros and the selector in the first 16 bytes of a file, as the program reads them.
use Rattle.std.proofs.Common.{◌≡◌, ◌≢◌, true, false, not, List, ℕ, sym, ◌∙◌, ap, arith, get_or, take, drop}
use Rattle.std.proofs.lemmas.Slice.Eq.{bytes_eq-Decides}
use Rattle.std.specs.Str.{bytes_eq}
use Rattle.std.proofs.lemmas.Bool.{not-false, not-true}
use Rattle.mcs_disk.specs.Disk.{part}
use Rattle.mcs_journal.specs.File.{slot_selected_by}
use Rattle.mcs_journal.specs.declared.format.TheConstants.{NAME, ZEROS}
use Rattle.mcs_journal.specs.Writing.{IsHeader}
use Rattle.mcs_journal.specs.declared.slot.Slot.{Slot}
use Rattle.mcs_journal.proofs.ByteRanges.{part_of_part, byte_of_part}

pub equal_if_bytes_eq : (xs ys : List ℕ) → false ≡ not (bytes_eq xs ys) → xs ≡ ys
equal_if_bytes_eq xs ys e = let decides = bytes_eq-Decides xs ys in decides.0 (not-false (bytes_eq xs ys) (sym e))

pub unequal_if_not_bytes_eq : (xs ys : List ℕ) → true ≡ not (bytes_eq xs ys) → xs ≢ ys
unequal_if_not_bytes_eq xs ys e same = let decides = bytes_eq-Decides xs ys in let both : true ≡ false = sym (decides.1 same) ∙ not-true (bytes_eq xs ys) (sym e) in cc

module _ (f header : List ℕ) (is : header ≡ part 0 16 f) where
  pub front : take 8 header ≡ part 0 8 f
  front = ap (λ (l : List ℕ). take 8 l) is ∙ part_of_part 0 16 0 8 16 f (omega arith) (omega arith)

  pub back : take 7 (drop 9 header) ≡ part 9 7 f
  back = ap (λ (l : List ℕ). take 7 (drop 9 l)) is ∙ part_of_part 0 16 9 7 7 f (omega arith) (omega arith)

  pub selector : get_or header 8 0 ≡ get_or f 8 0
  selector = ap (λ (l : List ℕ). get_or l 8 0) is ∙ byte_of_part 0 16 f 8 (omega arith)

  pub valid_header_from_parts : (slot : Slot) → false ≡ not (bytes_eq (take 8 header) NAME) → false ≡ not (bytes_eq (take 7 (drop 9 header)) ZEROS) → slot_selected_by (get_or header 8 0) ≡ slot → IsHeader f slot
  valid_header_from_parts slot named zeroed at = record { name = sym front ∙ equal_if_bytes_eq _ _ named; zeros = sym back ∙ equal_if_bytes_eq _ _ zeroed; active = ap slot_selected_by (sym selector) ∙ at }
