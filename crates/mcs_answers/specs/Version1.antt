-- The answers to `list` and `board` in version 1.
use Rattle.std.specs.Prelude.{ℕ, List}
use Rattle.mcs_version1.specs.BenchState.{BenchState1}
use Rattle.mcs_source.specs.Text.{listing_text}
use Rattle.mcs_wiring.specs.BoardText.{query_lines}
use Rattle.mcs_model.specs.TextLines.{text_of}

abbrev pub listing_answer_1 : BenchState1 → ℕ → ℕ → List ℕ
listing_answer_1 s at lines = listing_text s.bus.rom at lines

abbrev pub board_answer_1 : BenchState1 → List ℕ
board_answer_1 s = text_of (query_lines s.bus.board)
