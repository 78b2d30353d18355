-- A layout that is extended one list at a time.
use Rattle.std.proofs.Common.{◌≡◌, ◌<◌, ◌≤◌, ◌+◌, ◌*◌, ◌/◌, ℕ, inl, inr, Bool, true, false, cond, ◌||◌, List, [], ◌∷◌, ◌++◌, slice_index_or, nat_lt, refl, sym, ap, ◌∙◌, subst, arith, below_more}
use Rattle.std.specs.List.{Contains}
use Rattle.std.proofs.lemmas.Bool.{both_ways, cases_lt, ltb-true, or_parts}
use Rattle.std.proofs.lemmas.List.{get_or_past}
use Rattle.std.proofs.lemmas.List.Elements.{Contains-append_left, Contains-append_right}
use Rattle.mcs_model.specs.declared.board.BoardParts.{BoardParts}
use Rattle.mcs_model.specs.declared.board.ChainPart.{ChainPart}
use Rattle.mcs_model.specs.Boards.{HasDeclaredLengths, chain_bits, no_chain}
use Rattle.mcs_check.specs.declared.cells.StateByte.{StateByte}
use Rattle.mcs_check.specs.declared.cells.StateByte.TheVariants.{One, Pair}
use Rattle.mcs_check.specs.declared.cells.CellList.{CellList}
use Rattle.mcs_check.specs.declared.cells.CellList.TheVariants.{RamNibbles, StatusCharacters, RamPorts, RomPorts, BankSrcBytes, Registers, Counters, Chain}
use Rattle.mcs_check.specs.Cells.{state_byte_of, max_cell_count, is_narrow, board_has_cell, ContainsBytesOf, ContainsCellsOf, IsComplete}

-- after one more byte is appended, the layout still contains all bytes of `others`
contains_bytes-after_append : (others before after : List StateByte) (byte : StateByte) → after ≡ before ++ byte ∷ [] → ContainsBytesOf others before → ContainsBytesOf others after
contains_bytes-after_append others before after byte e keeps = λ c k. subst (λ (cs : List StateByte). Contains cs c) (sym e) (Contains-append_left before (byte ∷ []) c (keeps c k))

contains-appended_byte : (before after : List StateByte) (byte : StateByte) → after ≡ before ++ byte ∷ [] → Contains after byte
contains-appended_byte before after byte e = subst (λ (cs : List StateByte). Contains cs byte) (sym e) (Contains-append_right before (byte ∷ []) byte (0, omega arith, refl))

-- Holds if a layout contains all bytes of `others`. The layout must also contain the byte of each
-- of the first `n` cells of a list, if that cell exists on the board.
pub record IsFilledTo (b : BoardParts) (list : CellList) (n : ℕ) (others layout : List StateByte) : Type 0 where
  pub keeps : ContainsBytesOf others layout
  pub has : (k : ℕ) → k < n → board_has_cell b list k ≡ true → Contains layout (state_byte_of list k)

-- ---- one cell per byte

state_byte_of-wide : (list : CellList) (i : ℕ) → is_narrow list ≡ false → state_byte_of list i ≡ One (record { list = list; index = i })
state_byte_of-wide list i wide = ap (λ (n : Bool). cond n (Pair list (i / 2)) (One (record { list = list; index = i }))) wide

pub is_filled-after_cell_added : (b : BoardParts) (list : CellList) (i : ℕ) (others before after : List StateByte) → is_narrow list ≡ false → after ≡ before ++ One (record { list = list; index = i }) ∷ [] → IsFilledTo b list i others before → IsFilledTo b list (i + 1) others after
is_filled-after_cell_added b list i others before after wide e h =
    let byte : StateByte = One (record { list = list; index = i }) in
    let last : Contains after (state_byte_of list i) = subst (Contains after) (sym (state_byte_of-wide list i wide)) (contains-appended_byte before after byte e) in
    record {
      keeps = contains_bytes-after_append others before after byte e h.keeps;
      has = below_more (λ k. board_has_cell b list k ≡ true → Contains after (state_byte_of list k)) i (λ k l there. subst (λ (cs : List StateByte). Contains cs (state_byte_of list k)) (sym e) (Contains-append_left before (byte ∷ []) (state_byte_of list k) (h.has k l there))) (λ there. last);
    }

pub is_filled-after_cell_skipped : (b : BoardParts) (list : CellList) (i : ℕ) (others layout : List StateByte) → board_has_cell b list i ≡ false → IsFilledTo b list i others layout → IsFilledTo b list (i + 1) others layout
is_filled-after_cell_skipped b list i others layout gone h = record {
  keeps = h.keeps;
  has = below_more (λ k. board_has_cell b list k ≡ true → Contains layout (state_byte_of list k)) i h.has (λ there. absurd (cc));
}

-- ---- two cells per byte

state_byte_of-narrow : (list : CellList) (i h : ℕ) → is_narrow list ≡ true → i / 2 ≡ h → state_byte_of list i ≡ Pair list h
state_byte_of-narrow list i h narrow half = ap (λ (n : Bool). cond n (Pair list (i / 2)) (One (record { list = list; index = i }))) narrow ∙ ap (Pair list) half

pub is_filled-after_pair_added : (b : BoardParts) (list : CellList) (h : ℕ) (others before after : List StateByte) → is_narrow list ≡ true → after ≡ before ++ Pair list h ∷ [] → IsFilledTo b list (2 * h) others before → IsFilledTo b list (2 * (h + 1)) others after
is_filled-after_pair_added b list h others before after narrow e laid =
    let byte : StateByte = Pair list h in
    let here : (i : ℕ) → i / 2 ≡ h → Contains after (state_byte_of list i) = λ i half. subst (Contains after) (sym (state_byte_of-narrow list i h narrow half)) (contains-appended_byte before after byte e) in
    record {
      keeps = contains_bytes-after_append others before after byte e laid.keeps;
      has = λ i few there. elim (cases_lt i (2 * h)) [
        | inl less ↦ subst (λ (cs : List StateByte). Contains cs (state_byte_of list i)) (sym e) (Contains-append_left before (byte ∷ []) (state_byte_of list i) (laid.has i less there))
        | inr past ↦ here i (omega arith)
      ];
    }

pub is_filled-after_pair_skipped : (b : BoardParts) (list : CellList) (h : ℕ) (others layout : List StateByte) → (board_has_cell b list (2 * h) || board_has_cell b list (2 * h + 1)) ≡ false → IsFilledTo b list (2 * h) others layout → IsFilledTo b list (2 * (h + 1)) others layout
is_filled-after_pair_skipped b list h others layout gone laid =
    let parts = or_parts (board_has_cell b list (2 * h)) (board_has_cell b list (2 * h + 1)) gone in
    record {
      keeps = laid.keeps;
      has = λ i few there. elim (cases_lt i (2 * h)) [
        | inl less ↦ laid.has i less there
        | inr past ↦ elim (cases_lt i (2 * h + 1)) [
          | inl first ↦ (let at : i ≡ 2 * h = omega arith in absurd (both_ways (board_has_cell b list i) (ap (board_has_cell b list) at ∙ parts.0) there))
          | inr later ↦ (let at : i ≡ 2 * h + 1 = omega arith in absurd (both_ways (board_has_cell b list i) (ap (board_has_cell b list) at ∙ parts.1) there))
        ]
      ];
    }

-- each list has an even number of cells, so the pairs of a list contain all cells of the list
pub max_cell_count-is_even : (list : CellList) → max_cell_count list ≡ 2 * (max_cell_count list / 2)
max_cell_count-is_even RamNibbles = refl
max_cell_count-is_even StatusCharacters = refl
max_cell_count-is_even RamPorts = refl
max_cell_count-is_even RomPorts = refl
max_cell_count-is_even BankSrcBytes = refl
max_cell_count-is_even Registers = refl
max_cell_count-is_even Counters = refl
max_cell_count-is_even (Chain n) = refl

-- ---- several lists

pub contains_cells-if_contains_bytes : (b : BoardParts) (list : CellList) (others layout : List StateByte) → ContainsBytesOf others layout → ContainsCellsOf b others list → ContainsCellsOf b layout list
contains_cells-if_contains_bytes b list others layout more h = λ i few there. more _ (h i few there)

no_chain_bits-from_chain_4_on : (b : BoardParts) (m i : ℕ) → HasDeclaredLengths b → 4 ≤ m → nat_lt i (chain_bits b m) ≡ true → ⊥
no_chain_bits-from_chain_4_on b m i sized past there =
    let none : slice_index_or b.chains.items m no_chain ≡ no_chain = get_or_past b.chains.items m no_chain (let few = sized.chains in omega arith) in
    let bits : chain_bits b m ≡ 0 = ap (λ (c : ChainPart). 10 * c.chips) none in
    (let few = ltb-true i (chain_bits b m) there in omega arith)

pub contains_cells-of_all_chains : (b : BoardParts) (layout : List StateByte) → HasDeclaredLengths b → ((m : ℕ) → m < 4 → ContainsCellsOf b layout (Chain m)) → (m : ℕ) → ContainsCellsOf b layout (Chain m)
contains_cells-of_all_chains b layout sized h m =
    elim (cases_lt m 4) [
      | inl few ↦ h m few
      | inr past ↦ λ i few there. absurd (no_chain_bits-from_chain_4_on b m i sized past there)
    ]

pub complete : (b : BoardParts) (layout : List StateByte) → ((m : ℕ) → ContainsCellsOf b layout (Chain m)) → ContainsCellsOf b layout Counters → ContainsCellsOf b layout Registers → ContainsCellsOf b layout BankSrcBytes → ContainsCellsOf b layout RomPorts → ContainsCellsOf b layout RamPorts → ContainsCellsOf b layout StatusCharacters → ContainsCellsOf b layout RamNibbles → IsComplete b layout
complete b layout chains counters registers srcs rom ram status characters RamNibbles = characters
complete b layout chains counters registers srcs rom ram status characters StatusCharacters = status
complete b layout chains counters registers srcs rom ram status characters RamPorts = ram
complete b layout chains counters registers srcs rom ram status characters RomPorts = rom
complete b layout chains counters registers srcs rom ram status characters BankSrcBytes = srcs
complete b layout chains counters registers srcs rom ram status characters Registers = registers
complete b layout chains counters registers srcs rom ram status characters Counters = counters
complete b layout chains counters registers srcs rom ram status characters (Chain m) = chains m
