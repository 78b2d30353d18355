-- The request that a command line makes, and the order in which the line is checked.
use Rattle.std.specs.Prelude.{ℕ, List, [], ◌∷◌, codes, length, nat_lt, Option, Some, None, Result, Ok, Err, if◌then◌else◌}
use Rattle.std.specs.List.{list_all}
use Rattle.std.specs.Str.{bytes_eq}
use Rattle.mcs_model.specs.declared.limits.TheConstants.{LINE_BYTES}
use Rattle.mcs_probe.specs.declared.probe.Probe.{Probe}
use Rattle.mcs_probe.specs.declared.probe.TheConstants.{MAX_PROBES}
use Rattle.mcs_lines.specs.declared.requests.Request.{Request}
use Rattle.mcs_lines.specs.declared.requests.Request.TheVariants.{Nothing, Refused, Trace}
use Rattle.mcs_lines.specs.declared.requests.LineFault.{LineFault}
use Rattle.mcs_lines.specs.declared.requests.LineFault.TheVariants.{NotACommand, BadNumber, LineTooLong, NotAscii}
use Rattle.mcs_lines.specs.ProbeWords.{probes_within}
use Rattle.mcs_lines.specs.Requests.{cycle_count_of_word, request_of_word}
use Rattle.mcs_lines.specs.Words.{is_allowed_byte}
use Rattle.mcs_model.specs.TextLines.{words_of}

-- the request that `trace` makes, from the parsed number of cycles and the parsed places; an error
-- in the places takes precedence over a bad number of cycles
abbrev pub trace_of : Option ℕ → Result (List Probe) LineFault → Request
trace_of n (Err fault) = Refused fault
trace_of None (Ok probes) = Refused BadNumber
trace_of (Some n) (Ok probes) = Trace n (record { items = probes })

-- the request that a `trace` line makes, from the words after the word `trace`
abbrev pub trace_request : List (List ℕ) → Request
trace_request [] = Refused NotACommand
trace_request (n ∷ places) = trace_of (cycle_count_of_word n) (probes_within MAX_PROBES places)

-- the request that a line makes, from its words; a line without words requests nothing
abbrev pub request_of_words : List (List ℕ) → Request
request_of_words [] = Nothing
request_of_words (word ∷ words) =
    if bytes_eq word (codes "trace") then trace_request words else request_of_word word words

-- The request that a line makes. A line that is too long is rejected first (refusal 12), then a
-- line with a byte that is not allowed (refusal 14). Only then are its words parsed.
unfoldable pub request_of : List ℕ → Request
request_of line =
    if nat_lt LINE_BYTES (length line) then Refused LineTooLong
    else if list_all is_allowed_byte line then request_of_words (words_of line)
    else Refused NotAscii
