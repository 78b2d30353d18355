use Rattle.std.proofs.Common.{◌≡◌, ◌++◌, codes, string_bytes, take}
use Rattle.std.specs.List.{flat_map}
use Rattle.mcs_wiring.specs.BoardText.{quoted_name}
use Rattle.mcs_wiring.proofs.writing.push_names.Given as goal

abbrev pub invariant-loop-line : goal.invariant-loop-line
invariant-loop-line l = string_bytes l.out ≡ string_bytes l.initial.out ++ flat_map (λ x. codes ", " ++ quoted_name x) (take l.line-index l.rest)
