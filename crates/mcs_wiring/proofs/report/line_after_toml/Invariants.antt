use Rattle.std.proofs.Common.{◌≡◌, ◌+◌, ◌≤◌, length, string_bytes}
use denote.Shadow.{shadow}
use denote.Text.{Utf8}
use Rattle.std.specs.List.{slice_split}
use Rattle.mcs_model.specs.TextLines.{is_line_feed}
use Rattle.mcs_wiring.specs.Parts.{is_toml, line_after, line_after_toml}
use Rattle.mcs_wiring.proofs.report.line_after_toml.Given as goal

abbrev pub invariant-loop-line : goal.invariant-loop-line
invariant-loop-line l =
    shadow (Utf8 l.rest)
    × (line_after is_toml l.number l.after_toml (string_bytes l.before) (slice_split is_line_feed l.rest) ≡ line_after_toml l.text)
    × (l.number + length l.rest ≤ length l.text + 1)

abbrev pub decreases-loop-line : goal.decreases-loop-line
decreases-loop-line l = length l.rest
