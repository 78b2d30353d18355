use Rattle.std.proofs.Common.{sym, ap}
use Rattle.mcs_model.specs.Levels.{bit_when}
use Rattle.mcs_keypad.proofs.ColumnMasks.{no_common_column, some_common_column}
use Rattle.mcs_keypad.proofs.scanned.have_common_column.Goals as goal

pub returns-then-line-driven_columns-eq0 : goal.returns-then-line-driven_columns-eq0
returns-then-line-driven_columns-eq0 c = λ n p q x y. sym (ap bit_when (no_common_column c.args.line c.args.driven_columns n p q x y c.if-line-driven_columns-eq0.true))

pub returns-else-line-driven_columns-eq0 : goal.returns-else-line-driven_columns-eq0
returns-else-line-driven_columns-eq0 c = λ n p q x y. sym (ap bit_when (some_common_column c.args.line c.args.driven_columns n p q x y c.if-line-driven_columns-eq0.false))
