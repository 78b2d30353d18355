-- Bytes without a line feed. Only contracts of private functions use this definition.
use Rattle.std.specs.Prelude.{ℕ, List}
use Rattle.mcs_model.specs.Cutting.{HasNoSeparator}
use Rattle.mcs_model.specs.TextLines.{is_line_feed}

abbrev pub HasNoFeed : List ℕ → Type 0
HasNoFeed bytes = HasNoSeparator is_line_feed bytes
