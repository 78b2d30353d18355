use Rattle.std.proofs.Common.{◌≡◌, find, map, not, string_bytes}
use Rattle.std.specs.Map.{keys_of}
use Rattle.mcs_wiring.specs.Format.{is_table_key}
use Rattle.mcs_wiring.proofs.flawed_part.first_unknown_table_key.Given as goal

abbrev pub invariant-loop-key : goal.invariant-loop-key
invariant-loop-key l = find (λ key. not (is_table_key l.section key)) (map string_bytes l.key-iterator) ≡ find (λ key. not (is_table_key l.section key)) (map string_bytes (keys_of l.table.entries))
