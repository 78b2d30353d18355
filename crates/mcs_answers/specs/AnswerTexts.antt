-- The texts of answers. Each line ends with a line feed.
use Rattle.std.specs.Prelude.{ℕ, List, [], ◌++◌, codes}
use Rattle.std.specs.Fmt.{decimal}
use Rattle.mcs_model.specs.declared.command.Reply.{Reply}
use Rattle.mcs_model.specs.declared.command.Reply.TheVariants.{Done, Loaded, Ran}
use Rattle.mcs_model.specs.declared.stop.Stop.{Stop}
use Rattle.mcs_model.specs.declared.stop.Stop.TheVariants.{Outside, Breakpoint, Watched, Ended}
use Rattle.mcs_model.specs.declared.query.Query.{Query}
use Rattle.mcs_model.specs.BenchState.{BenchState}
use Rattle.mcs_model.specs.QueryText.{text_of_query}
use Rattle.mcs_model.specs.TextLines.{as_line, text_of}
use Rattle.mcs_source.specs.Text.{listing_text}
use Rattle.mcs_wiring.specs.BoardText.{query_lines}

-- the first line that the shell writes: the number of commands accepted so far
abbrev pub session_text : BenchState → List ℕ
session_text s = codes "session " ++ as_line (decimal s.seq)

-- the word that an answer uses for the reason why a run or a step stopped
abbrev pub stop_name : Stop → List ℕ
stop_name Outside = codes "code"
stop_name Breakpoint = codes "break"
stop_name Watched = codes "watch"
stop_name Ended = codes "end"

-- The text of the reply to a command. In an answer, it follows the number of accepted commands. It
-- gives the number of bytes loaded, or the number of cycles executed and the reason to stop. For
-- `Done`, it is empty.
abbrev pub reply_text : Reply → List ℕ
reply_text Done = []
reply_text (Loaded bytes) = codes " bytes " ++ decimal bytes
reply_text (Ran cycles stop) = codes " ran " ++ (decimal cycles ++ (codes " " ++ stop_name stop))

-- the answer to an accepted command; the arguments are the reply and the state after the command
abbrev pub ok_text : Reply → BenchState → List ℕ
ok_text r s = codes "ok " ++ (decimal s.seq ++ as_line (reply_text r))

-- the answer to a rejected line: `no` and the refusal number
abbrev pub no_text : ℕ → List ℕ
no_text number = codes "no " ++ as_line (decimal number)

-- the answer to a text that is rejected because of an error in a line; lines are counted from 1
abbrev pub no_line_text : ℕ → ℕ → List ℕ
no_line_text number line =
    codes "no " ++ (decimal number ++ (codes " line " ++ as_line (decimal line)))

-- the answer to a query
abbrev pub query_answer : Query → BenchState → List ℕ
query_answer q s = as_line (text_of_query q s)

-- the answer to `list`: a listing of the ROM from address `at`, with at most `lines` lines
abbrev pub listing_answer : ℕ → ℕ → BenchState → List ℕ
listing_answer at lines s = listing_text s.bus.rom at lines

-- the answer to `board`: a line `board`, then the lines of the board text
abbrev pub board_answer : BenchState → List ℕ
board_answer s = text_of (query_lines s.bus.board)
