use Rattle.std.proofs.Common.{rules}
use Rattle.toml.specs.View.{table_view}
use Rattle.mcs_wiring.specs.PartView.{IsPartsError}
use Rattle.mcs_wiring.proofs.PartLimits.{within_limits_if_parts_error}
use Rattle.mcs_wiring.proofs.flawed_part.part_of.Goals as goal

pub part_with_parts_error-requires-clause-within : goal.part_with_parts_error-requires-clause-within
part_with_parts_error-requires-clause-within c =
    let is_parts_error : IsPartsError c.args.fault = search rules in
    within_limits_if_parts_error (table_view c.args.table.now) c.args.fault c.requires is_parts_error
