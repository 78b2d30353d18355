-- A table that is rejected with error 24, 25 or 26 does not have too many parts.
use Rattle.std.proofs.Common.{◌≡◌, Bool, true, false, if◌then◌else◌, Result, Ok, Err, refl, sym, subst}
use Rattle.toml.specs.Data.{Members}
use Rattle.mcs_model.specs.declared.board.BoardParts.{BoardParts}
use Rattle.mcs_wiring.specs.declared.fault.WiringFault.{WiringFault}
use Rattle.mcs_wiring.specs.declared.fault.WiringFault.TheVariants.{UnknownKey, MissingKey, BadValue, TooManyParts}
use Rattle.mcs_wiring.specs.Flaws.{IsWithinLimits}
use Rattle.mcs_wiring.specs.Wiring.{has_unknown_key, has_missing_key, has_malformed_value, has_too_many, board_of_table}
use Rattle.mcs_wiring.specs.PartView.{IsPartsError}
use Rattle.mcs_wiring.proofs.Limits.{within_limits_if_not_too_many}

abbrev IsPartsErrorResult : Result BoardParts WiringFault → Type 0
IsPartsErrorResult (Ok b) = ⊥
IsPartsErrorResult (Err f) = IsPartsError f

no_excess_if_parts_error : (u m v t : Bool) (rest : Result BoardParts WiringFault) → IsPartsErrorResult (if u then Err UnknownKey else if m then Err MissingKey else if v then Err BadValue else if t then Err TooManyParts else rest) → t ≡ false
no_excess_if_parts_error true m v t rest k = absurd k
no_excess_if_parts_error false true v t rest k = absurd k
no_excess_if_parts_error false false true t rest k = absurd k
no_excess_if_parts_error false false false true rest k = absurd k
no_excess_if_parts_error false false false false rest k = refl

pub within_limits_if_parts_error : (ms : Members) (f : WiringFault) → board_of_table ms ≡ Err f → IsPartsError f → IsWithinLimits ms
unfolding board_of_table
within_limits_if_parts_error ms f e k = within_limits_if_not_too_many ms (no_excess_if_parts_error (has_unknown_key ms) (has_missing_key ms) (has_malformed_value ms) (has_too_many ms) _ (subst IsPartsErrorResult (sym e) k))
