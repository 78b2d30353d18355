-- Converts the result of a parser to a request. The parser returns `None` for a bad number. Only
-- the contracts of private functions cite this module.
use Rattle.std.specs.Prelude.{Option, Some, None}
use Rattle.mcs_lines.specs.declared.requests.Request.{Request}
use Rattle.mcs_lines.specs.declared.requests.Request.TheVariants.{Refused}
use Rattle.mcs_lines.specs.declared.requests.LineFault.TheVariants.{BadNumber}

-- the parsed request, or the refusal `BadNumber` if the parser returned `None`
abbrev pub or_bad_number : Option Request → Request
or_bad_number None = Refused BadNumber
or_bad_number (Some r) = r
