-- The answers of a bench to queries about its state, in version 1.
use Rattle.std.specs.Prelude.{ℕ, List}
use Rattle.std.specs.List.{join_with_byte}
use Rattle.mcs_model.specs.QueryText.{breaks_text, lamps_text, ram_lines, regs_text, seq_text}
use Rattle.mcs_model.specs.TextLines.{line_feed}
use Rattle.mcs_version1.specs.BenchState.{BenchState1}

-- a query of version 1, except `list` and `board`, which `Version1` of mcs_answers defines
pub data Query1 : Type 0 where
  Lamps : Query1
  Regs : Query1
  Ram : ℕ → Query1
  Breaks : Query1
  Seq : Query1

-- the answer to a query in version 1, without the last line feed
abbrev pub text_of_query_1 : Query1 → BenchState1 → List ℕ
text_of_query_1 Lamps s = lamps_text s.bus
text_of_query_1 Regs s = regs_text s.processor s.bus.test
text_of_query_1 (Ram bank) s = join_with_byte line_feed (ram_lines s.bus bank)
text_of_query_1 Breaks s = breaks_text s.breakpoints
text_of_query_1 Seq s = seq_text s.seq
