-- The input levels affect a cycle only through the value that the cycle reads.
use Rattle.std.proofs.Common.{◌≡◌, ℕ, ◌+◌, ◌%◌, Bool, true, false, cond, ◌&&◌, ◌||◌, List, [], ◌∷◌, Option, Some, None, unwrap_or, length, slice_index, slice_index_or, refl, sym, ap, ◌∙◌, eqb}
use Rattle.std.specs.List.{list_any, range_with_len}
use Rattle.std.proofs.lemmas.Bool.{and_parts}
use Rattle.mcs_model.specs.declared.regs.Regs.{Regs}
use Rattle.mcs_model.specs.declared.op.Op.{Op}
use Rattle.mcs_model.specs.declared.op.Op.TheVariants.{Jcn, Rdr}
use Rattle.mcs_model.specs.declared.board.KeyMatrix.{KeyMatrix}
use Rattle.mcs_model.specs.declared.board.Line.TheVariants.{Rom}
use Rattle.mcs_model.specs.Boards.{board_fault_of}
use Rattle.mcs_model.specs.Bus.{BusState, fetch_of, ram_of, status_of}
use Rattle.mcs_model.specs.Levels.{is_pulled, is_rom_line, row_drives_column}
use Rattle.mcs_model.specs.Effect.{with_pc_on_page, after_jcn, with_acc, after_fetch, registers_after, bus_after, cycle_of, effect, instruction_at}
use Rattle.mcs_model.specs.Running.{Machine}
use Rattle.mcs_drive.specs.DrivenRuns.{Levels, with_levels, cycled}
use Rattle.mcs_drive.specs.InputReads.{without_levels, value_read, value_read_by, can_be_pulled}
use Rattle.mcs_drive.proofs.LevelLemmas.{at_levels, bus_after-at_levels, is_taken-ignores-unread-test}

after_jcn-decided-by-value-read : (l l' : Levels) (c w : ℕ) (s : Regs) (b : Bool) → eqb (c % 2) 1 ≡ b → cond b l.test 0 ≡ cond b l'.test 0 → after_jcn c w s l.test ≡ after_jcn c w s l'.test
after_jcn-decided-by-value-read l l' c w s true is e = ap (after_jcn c w s) e
after_jcn-decided-by-value-read l l' c w s false is e = ap (λ b. cond b (with_pc_on_page s w) s) (is_taken-ignores-unread-test c s l.test l'.test is)

registers_after-decided-by-value-read : (l l' : Levels) (op : Op) (s : Regs) (m : BusState) → value_read_by (Some op) l m ≡ value_read_by (Some op) l' m → registers_after op s (at_levels l m) ≡ registers_after op s (at_levels l' m)
unfolding fetch_of ram_of status_of
registers_after-decided-by-value-read l l' (Jcn c w) s m e = after_jcn-decided-by-value-read l l' c w s (eqb (c % 2) 1) refl e
registers_after-decided-by-value-read l l' Rdr s m e = ap (with_acc s) e
registers_after-decided-by-value-read l l' _ s m e = refl

effect-decided-by-value-read : (l l' : Levels) (o : Option Op) (s : Regs) (m : BusState) → board_fault_of m.board ≡ None → value_read_by o l m ≡ value_read_by o l' m →
    without_levels (unwrap_or (elim o as (λ _. Option (Regs × BusState)) [ Some op ↦ Some (effect op s (at_levels l m)) | None ↦ None ]) (s, at_levels l m))
    ≡ without_levels (unwrap_or (elim o as (λ _. Option (Regs × BusState)) [ Some op ↦ Some (effect op s (at_levels l' m)) | None ↦ None ]) (s, at_levels l' m))
effect-decided-by-value-read l l' None s m v e = refl
effect-decided-by-value-read l l' (Some op) s m v e =
    ap (λ r. without_levels (r, bus_after op s (at_levels l m))) (registers_after-decided-by-value-read l l' op (after_fetch op s) m e)
    ∙ ap (λ b. without_levels (registers_after op (after_fetch op s) (at_levels l' m), b)) (bus_after-at_levels l op s m v)
    ∙ sym (ap (λ b. without_levels (registers_after op (after_fetch op s) (at_levels l' m), b)) (bus_after-at_levels l' op s m v))

cycle_of-decided-by-value-read : (l l' : Levels) (s : Machine) (b : Bool) → board_fault_of s.1.board ≡ None → value_read l s ≡ value_read l' s →
    without_levels (unwrap_or (cond b (Some (record s.0 { owed = 0 }, at_levels l s.1)) (elim (instruction_at s.0 s.1) as (λ _. Option (Regs × BusState)) [ Some op ↦ Some (effect op s.0 (at_levels l s.1)) | None ↦ None ])) (with_levels l s))
    ≡ without_levels (unwrap_or (cond b (Some (record s.0 { owed = 0 }, at_levels l' s.1)) (elim (instruction_at s.0 s.1) as (λ _. Option (Regs × BusState)) [ Some op ↦ Some (effect op s.0 (at_levels l' s.1)) | None ↦ None ])) (with_levels l' s))
cycle_of-decided-by-value-read l l' s true v e = refl
cycle_of-decided-by-value-read l l' s false v e = effect-decided-by-value-read l l' (instruction_at s.0 s.1) s.0 s.1 v e

pub cycled-decided-by-value-read : (l l' : Levels) (s : Machine) → board_fault_of s.1.board ≡ None → value_read l s ≡ value_read l' s → without_levels (cycled (with_levels l s)) ≡ without_levels (cycled (with_levels l' s))
unfolding cycle_of fetch_of
cycled-decided-by-value-read l l' s v e = cycle_of-decided-by-value-read l l' s (eqb s.0.owed 1) v e

-- ---- lines that can be pulled

or-monotone : (a b x y : Bool) → (a ≡ true → x ≡ true) → (b ≡ true → y ≡ true) → (a || b) ≡ true → (x || y) ≡ true
or-monotone true b x y h k e = ap (λ z. z || y) (h refl)
or-monotone false true true y h k e = refl
or-monotone false true false y h k e = k refl
or-monotone false false x y h k e = absurd (cc)

and-monotone : (a b x y : Bool) → (a ≡ true → x ≡ true) → (b ≡ true → y ≡ true) → (a && b) ≡ true → (x && y) ≡ true
and-monotone true true x y h k e = ap (λ z. z && y) (h refl) ∙ k refl
and-monotone true false x y h k e = absurd (cc)
and-monotone false b x y h k e = absurd (cc)

list_any-monotone : {X : Type 0} (p q : X → Bool) → ((x : X) → p x ≡ true → q x ≡ true) → (xs : List X) → list_any p xs ≡ true → list_any q xs ≡ true
list_any-monotone p q h [] e = e
list_any-monotone p q h (x ∷ xs) e = or-monotone (p x) (list_any p xs) (q x) (list_any q xs) (h x) (list_any-monotone p q h xs) e

row-driven-if-column-pulled : (l : Levels) (m : KeyMatrix) (bits : List ℕ) (chip k j : ℕ) → (is_rom_line chip k (slice_index_or m.columns.items j (Rom 0 0)) && list_any (row_drives_column bits l.keys m j) (range_with_len 0 m.rows)) ≡ true → (is_rom_line chip k (slice_index_or m.columns.items j (Rom 0 0)) && list_any (λ r. eqb (slice_index bits (m.first + r)) 1) (range_with_len 0 m.rows)) ≡ true
row-driven-if-column-pulled l m bits chip k j e =
    and-monotone (is_rom_line chip k (slice_index_or m.columns.items j (Rom 0 0))) _ _ _ (λ h. h)
    (list_any-monotone (row_drives_column bits l.keys m j) (λ r. eqb (slice_index bits (m.first + r)) 1) (λ r h. (and_parts _ _ h).0) (range_with_len 0 m.rows)) e

matrix-can-pull-if-pulled : (l : Levels) (s : BusState) (o : Option KeyMatrix) (chip k : ℕ) →
    elim o as (λ _. Bool) [ None ↦ false | Some m ↦ list_any (λ j. is_rom_line chip k (slice_index_or m.columns.items j (Rom 0 0)) && list_any (row_drives_column (slice_index_or s.chains m.chain []) l.keys m j) (range_with_len 0 m.rows)) (range_with_len 0 (length m.columns.items)) ] ≡ true →
    elim o as (λ _. Bool) [ None ↦ false | Some m ↦ list_any (λ j. is_rom_line chip k (slice_index_or m.columns.items j (Rom 0 0)) && list_any (λ r. eqb (slice_index (slice_index_or s.chains m.chain []) (m.first + r)) 1) (range_with_len 0 m.rows)) (range_with_len 0 (length m.columns.items)) ] ≡ true
matrix-can-pull-if-pulled l s None chip k e = e
matrix-can-pull-if-pulled l s (Some m) chip k e = list_any-monotone _ _ (λ j h. row-driven-if-column-pulled l m (slice_index_or s.chains m.chain []) chip k j h) (range_with_len 0 (length m.columns.items)) e

pub can_be_pulled-if-pulled : (l : Levels) (s : Machine) (chip k : ℕ) → is_pulled (with_levels l s).1 chip k ≡ true → can_be_pulled s.1 chip k ≡ true
unfolding is_pulled
can_be_pulled-if-pulled l s chip k e = matrix-can-pull-if-pulled l s.1 s.1.board.keys chip k e
