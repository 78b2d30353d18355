-- The addresses of a span, for the law of surveys (`spans_law`).
use Rattle.std.specs.Prelude.{ℕ, List}
use Rattle.std.specs.List.{range_with_len}
use Rattle.mcs_source.specs.declared.survey.Span.{Span}

-- the addresses of the bytes that a line with the given span emits
abbrev pub addresses_of_span : Span → List ℕ
addresses_of_span s = range_with_len s.at s.size
