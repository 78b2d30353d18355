-- A covered choice stays covered for an equal board and equal ROM bytes. A choice equals the
-- `choice_at` of its values.
use Rattle.std.proofs.Common.{◌≡◌, ◌/◌, ◌%◌, ℕ, List, ap, ◌∙◌}
use Rattle.mcs_model.specs.declared.board.BoardParts.{BoardParts}
use Rattle.mcs_model.specs.declared.op.Op.{Op}
use Rattle.mcs_sets.specs.declared.entries.Entry.{Entry}
use Rattle.mcs_sets.specs.declared.landing.Choice.{Choice}
use Rattle.mcs_sets.specs.Covering.{IsChoiceCovered, choice_at}

pub choice-covered-for-equal-program : (rom to_rom : List ℕ) (board to_board : BoardParts) (entries : List Entry) (e : Entry) (op : Op) (c : Choice) → rom ≡ to_rom → board ≡ to_board → IsChoiceCovered rom board entries e op c → IsChoiceCovered to_rom to_board entries e op c
choice-covered-for-equal-program rom to_rom board to_board entries e op c equal_roms equal_boards t = record { bus = t.bus; same_rom = t.same_rom ∙ equal_roms; same_board = t.same_board ∙ equal_boards; bank_exists = t.bank_exists; covered = t.covered }

pub choice-is-choice_at : (acc cy bank v w flags first second : ℕ) → acc ≡ flags % 16 → cy ≡ flags / 16 % 2 → v ≡ first → w ≡ second → (let c : Choice = record { acc = acc; cy = cy; bank = bank; first_operand = v; second_operand = w } in c ≡ choice_at flags bank first second)
choice-is-choice_at acc cy bank v w flags first second a c f s =
    ap (λ (n : ℕ). let x : Choice = record { acc = n; cy = cy; bank = bank; first_operand = v; second_operand = w } in x) a
    ∙ ap (λ (n : ℕ). let x : Choice = record { acc = flags % 16; cy = n; bank = bank; first_operand = v; second_operand = w } in x) c
    ∙ ap (λ (n : ℕ). let x : Choice = record { acc = flags % 16; cy = flags / 16 % 2; bank = bank; first_operand = n; second_operand = w } in x) f
    ∙ ap (λ (n : ℕ). let x : Choice = record { acc = flags % 16; cy = flags / 16 % 2; bank = bank; first_operand = first; second_operand = n } in x) s
