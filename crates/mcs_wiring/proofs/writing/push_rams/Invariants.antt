use Rattle.std.proofs.Common.{◌≡◌, ◌++◌, string_bytes}
use Rattle.mcs_wiring.specs.Flaws.{rams_text}
use Rattle.mcs_wiring.proofs.writing.push_rams.Given as goal

abbrev pub invariant-loop-bank : goal.invariant-loop-bank
invariant-loop-bank l = string_bytes l.out ≡ string_bytes l.initial.out ++ rams_text l.board l.bank
