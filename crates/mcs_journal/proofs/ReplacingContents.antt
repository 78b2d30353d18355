-- The contents of a file after each of the two writes that replace the contents.
use Rattle.std.proofs.Common.{◌≡◌, ◌⊎◌, inl, inr, ◌≤◌, ◌+◌, List, [], ◌∷◌, ℕ, get_or, refl, sym, ◌∙◌, ap, subst, arith}
use Rattle.mcs_disk.specs.Disk.{part, Torn}
use Rattle.mcs_journal.specs.File.{Holds, IsLog, slot_at, slot_of, slot_selected_by, start_of}
use Rattle.mcs_journal.specs.Writing.{IsArea, other_slot}
use Rattle.mcs_journal.specs.declared.slot.Slot.{Slot}
use Rattle.mcs_journal.specs.declared.slot.Slot.TheVariants.{A, B}
use Rattle.mcs_journal.proofs.ByteRanges.{part_unchanged_outside_write, byte_of_part}
use Rattle.mcs_journal.proofs.Contents.{file_holds_snapshot_of_area, holds_with_log, slot_unchanged_with_selector, active_slot_bounds, start_bounds}

slot_or_other_slot : (s t : Slot) → (t ≡ s) ⊎ (t ≡ other_slot s)
slot_or_other_slot A A = inl refl
slot_or_other_slot A B = inr refl
slot_or_other_slot B A = inr refl
slot_or_other_slot B B = inl refl

-- bytes inside a slot do not overlap the other slot's area and commit byte
slot_bytes_outside_other_area : (s : Slot) (lo k : ℕ) → start_of s ≤ lo → lo + k ≤ start_of s + 81920 → (lo + k ≤ start_of (other_slot s)) ⊎ (start_of (other_slot s) + 16385 ≤ lo)
slot_bytes_outside_other_area A lo k from to = inl (omega (arith, to))
slot_bytes_outside_other_area B lo k from to = inr (omega (arith, from))

module _ (f snap fresh area : List ℕ) (rs : List (List ℕ)) (start : ℕ) (old : Holds f snap rs) (at : start ≡ start_of (other_slot (slot_of f))) (is_area : IsArea fresh area) where
  beyond : 16 ≤ start
  beyond = let bounds = start_bounds (other_slot (slot_of f)) in omega (arith, at, bounds.0)

  -- the first write, which puts an area into the other slot, leaves the contents unchanged, even if
  -- it is torn
  pub holds_after_torn_area_write : (c : List ℕ) → Torn start 16385 f c → Holds c snap rs
  holds_after_torn_area_write c torn =
      holds_with_log f c snap rs rs old torn.size (slot_unchanged_with_selector f c (torn.before 8 (omega (arith, beyond)))) (front 0 8 (omega arith)) (front 9 7 (omega arith))
      (λ lo k from to. here lo k from (omega (arith, to))) (subst (IsLog rs) (sym (here (slot_at f + 16384) 65536 (omega arith) (omega arith))) old.log)
    where
      front : (lo k : ℕ) → lo + k ≤ 16 → part lo k c ≡ part lo k f
      front lo k le = part_unchanged_outside_write start 16385 lo k f c torn (inl (omega (arith, le, beyond)))

      here : (lo k : ℕ) → slot_at f ≤ lo → lo + k ≤ slot_at f + 81920 → part lo k c ≡ part lo k f
      here lo k from to = part_unchanged_outside_write start 16385 lo k f c torn (subst (λ (o : ℕ). (lo + k ≤ o) ⊎ (o + 16385 ≤ lo)) (sym at) (slot_bytes_outside_other_area (slot_of f) lo k from to))

  -- after the first write, any value of the selector gives the old contents or the new contents
  module _ (g c : List ℕ) (first : Torn start 16385 f g) (there : part start 16385 g ≡ area) (torn : Torn 8 1 g c) where
    held : Holds g snap rs
    held = holds_after_torn_area_write g first

    kept : (lo k : ℕ) → 9 ≤ lo → part lo k c ≡ part lo k g
    kept lo k le = part_unchanged_outside_write 8 1 lo k g c torn (inr (omega (arith, le)))

    name : part 0 8 c ≡ part 0 8 g
    name = part_unchanged_outside_write 8 1 0 8 g c torn (inl (omega arith))

    stays : slot_of c ≡ slot_of f → Holds c snap rs
    stays same =
        let bounds = active_slot_bounds g in
        let slot : slot_at c ≡ slot_at g = ap start_of same ∙ sym (slot_unchanged_with_selector f g (first.before 8 (omega (arith, beyond)))) in
        holds_with_log g c snap rs rs held torn.size slot name (kept 9 7 (omega arith)) (λ lo k from to. kept lo k (omega (arith, from, bounds.0)))
        (subst (IsLog rs) (sym (kept (slot_at g + 16384) 65536 (omega (arith, bounds.0)))) held.log)

    swaps : slot_of c ≡ other_slot (slot_of f) → Holds c fresh []
    swaps named =
        file_holds_snapshot_of_area c fresh area (torn.size ∙ held.size) (name ∙ held.name) (kept 9 7 (omega arith) ∙ held.zeros) is_area
        (ap (λ (s : ℕ). part s 16385 c) (ap start_of named ∙ sym at) ∙ kept start 16385 (omega (arith, beyond)) ∙ there)

    pub holds_after_torn_selector_write : Holds c snap rs ⊎ Holds c fresh []
    holds_after_torn_selector_write = elim (slot_or_other_slot (slot_of f) (slot_of c)) [ inl same ↦ inl (stays same) | inr named ↦ inr (swaps named) ]

    pub holds_after_selector_write : (selector : ℕ) → part 8 1 c ≡ selector ∷ [] → slot_selected_by selector ≡ other_slot (slot_of f) → Holds c fresh []
    holds_after_selector_write selector one names = swaps (ap slot_selected_by (sym (byte_of_part 8 1 c 0 (omega arith)) ∙ ap (λ (l : List ℕ). get_or l 0 0) one) ∙ names)
