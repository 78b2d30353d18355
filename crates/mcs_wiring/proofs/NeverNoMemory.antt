-- `board_of_table` never gives the error `NoMemory`.
use Rattle.std.proofs.Common.{◌≡◌, Bool, true, false, Result, Err, if◌then◌else◌}
use Rattle.toml.specs.Data.{Members}
use Rattle.mcs_model.specs.declared.board.BoardParts.{BoardParts}
use Rattle.mcs_model.specs.Boards.{lacks_line, has_wrong_direction}
use Rattle.mcs_wiring.specs.declared.fault.WiringFault.{WiringFault}
use Rattle.mcs_wiring.specs.declared.fault.WiringFault.TheVariants.{UnknownKey, MissingKey, BadValue, TooManyParts, DoubleChip, NoSuchLine, WrongDirection, NoMemory}
use Rattle.mcs_wiring.specs.Wiring.{has_unknown_key, has_missing_key, has_malformed_value, has_too_many, has_double_chip, parts_in, board_of_table}

abbrev BoardResult : Type 0
BoardResult = Result BoardParts WiringFault

never_no_memory_if_in_neither_branch : (b : Bool) (fault : WiringFault) (r : BoardResult) → (fault ≡ NoMemory → ⊥) → (r ≡ Err NoMemory → ⊥) → (if b then Err fault else r) ≡ Err NoMemory → ⊥
never_no_memory_if_in_neither_branch true fault r here later e = here (cc)
never_no_memory_if_in_neither_branch false fault r here later e = later e

pub never_no_memory : (ms : Members) → board_of_table ms ≡ Err NoMemory → ⊥
unfolding board_of_table
never_no_memory ms =
    never_no_memory_if_in_neither_branch (has_unknown_key ms) UnknownKey _ (λ e. cc) (
    never_no_memory_if_in_neither_branch (has_missing_key ms) MissingKey _ (λ e. cc) (
    never_no_memory_if_in_neither_branch (has_malformed_value ms) BadValue _ (λ e. cc) (
    never_no_memory_if_in_neither_branch (has_too_many ms) TooManyParts _ (λ e. cc) (
    never_no_memory_if_in_neither_branch (has_double_chip ms) DoubleChip _ (λ e. cc) (
    never_no_memory_if_in_neither_branch (lacks_line (parts_in ms)) NoSuchLine _ (λ e. cc) (
    never_no_memory_if_in_neither_branch (has_wrong_direction (parts_in ms)) WrongDirection _ (λ e. cc) (λ e. cc)))))))
