-- The places that `trace` accepts, and the probe of each place. (Defined by Fethsaim, not by
-- Intel.)
use Rattle.std.specs.Prelude.{ℕ, zero, suc, ◌==◌, Bool, true, false, List, [], ◌∷◌, codes, Option, Some, None, Result, Ok, Err, if◌then◌else◌}
use Rattle.mcs_model.specs.Numerals.{number_up_to}
use Rattle.mcs_model.specs.declared.command.Command.{Command}
use Rattle.mcs_model.specs.declared.command.Command.TheVariants.{Poke}
use Rattle.mcs_model.specs.declared.command.Place.{Place}
use Rattle.mcs_model.specs.declared.command.Place.TheVariants as place
use Rattle.mcs_model.specs.declared.board.Line.TheVariants as line
use Rattle.mcs_probe.specs.declared.probe.Probe.{Probe}
use Rattle.mcs_probe.specs.declared.probe.Probe.TheVariants.{Acc, Cy, Pc, Register, Dcl, Rom, Ram, Status, Level, RomPort, RamPort, Chain, Src, Lamps, ReturnAddresses}
use Rattle.mcs_lines.specs.declared.requests.Request.{Request}
use Rattle.mcs_lines.specs.declared.requests.Request.TheVariants.{Change, Refused}
use Rattle.mcs_lines.specs.declared.requests.LineFault.{LineFault}
use Rattle.mcs_lines.specs.declared.requests.LineFault.TheVariants.{NotACommand, BadNumber}
use Rattle.mcs_lines.specs.Requests.{table_entry, is_number, poke_of}
use Rattle.mcs_lines.specs.Words.{parts_of_word}

-- the probe that reads a place; the value in the place is ignored
abbrev pub probe_at : Place → Probe
probe_at (place.Acc n) = Acc
probe_at (place.Cy bit) = Cy
probe_at (place.Pc at) = Pc
probe_at (place.Register k n) = Register k
probe_at (place.Dcl bank) = Dcl
probe_at (place.Rom at byte) = Rom at
probe_at (place.Ram bank src n) = Ram bank src
probe_at (place.Status bank high k n) = Status bank high k

-- the probe that reads the place to which a `poke` command writes, or the error `NotACommand` for
-- any other command
abbrev pub probe_of_command : Command → Result Probe LineFault
probe_of_command (Poke place) = Ok (probe_at place)
probe_of_command _ = Err NotACommand

-- The probe that reads the place to which a `poke` request writes. For a rejected line (`Refused`),
-- the error is the reason for the rejection. For any other request, the error is `NotACommand`.
abbrev pub probe_of_request : Request → Result Probe LineFault
probe_of_request (Change command) = probe_of_command command
probe_of_request (Refused fault) = Err fault
probe_of_request _ = Err NotACommand

-- The probe of a place that `poke` accepts. The place is parsed as the argument of `poke` with the
-- value 0, which is in range for each place.
abbrev pub probe_of_poke : List ℕ → Result Probe LineFault
probe_of_poke word = probe_of_request (poke_of word (codes "0"))

-- the probe, or the error `BadNumber` for `None`
abbrev pub probe_or_bad_number : Option Probe → Result Probe LineFault
probe_or_bad_number None = Err BadNumber
probe_or_bad_number (Some p) = Ok p

-- ---- the probes of lines and chain bits, from their numbers

-- the probe of `romC.K`, a line of a ROM
abbrev pub rom_line_probe : List ℕ → List ℕ → Option Probe
rom_line_probe c k = elim (number_up_to 15 c) [
  | None ↦ None
  | Some c ↦ elim (number_up_to 3 k) [ None ↦ None | Some k ↦ Some (Level (line.Rom c k)) ]
]

-- the probe of `ramB.C.K`, a line of a RAM chip
abbrev pub ram_line_probe : List ℕ → List ℕ → List ℕ → Option Probe
ram_line_probe b c k = elim (number_up_to 7 b) [
  | None ↦ None
  | Some b ↦ elim (number_up_to 3 c) [
    | None ↦ None
    | Some c ↦ elim (number_up_to 3 k) [ None ↦ None | Some k ↦ Some (Level (line.Ram b c k)) ]
  ]
]

-- the probe of `chainN.I`, a bit of a chain
abbrev pub chain_line_probe : List ℕ → List ℕ → Option Probe
chain_line_probe n i = elim (number_up_to 3 n) [
  | None ↦ None
  | Some n ↦ elim (number_up_to 79 i) [ None ↦ None | Some i ↦ Some (Level (line.Chain n i)) ]
]

-- ---- the probes of ports and chains, from their numbers

-- the probe of `romC`, the port of a ROM
abbrev pub rom_port_probe : List ℕ → Option Probe
rom_port_probe c = elim (number_up_to 15 c) [ None ↦ None | Some c ↦ Some (RomPort c) ]

-- the probe of `ramB.C`, the port of a RAM chip
abbrev pub ram_port_probe : List ℕ → List ℕ → Option Probe
ram_port_probe b c = elim (number_up_to 7 b) [
  | None ↦ None
  | Some b ↦ elim (number_up_to 3 c) [ None ↦ None | Some c ↦ Some (RamPort b c) ]
]

-- the probe of `chainN`, all bits of a chain
abbrev pub chain_probe : List ℕ → Option Probe
chain_probe n = elim (number_up_to 3 n) [ None ↦ None | Some n ↦ Some (Chain n) ]

-- ---- the parts of a word

-- the bytes of a word after a prefix, or `None` if the word does not begin with the prefix
abbrev pub after_prefix : List ℕ → List ℕ → Option (List ℕ)
after_prefix [] bytes = Some bytes
after_prefix (p ∷ ps) [] = None
after_prefix (p ∷ ps) (b ∷ bytes) = if b == p then after_prefix ps bytes else None

-- the number in a word after a prefix, or `None` if the word does not consist of the prefix and a
-- number
abbrev pub number_after_prefix : List ℕ → List ℕ → Option (List ℕ)
number_after_prefix start name = elim (after_prefix start name) [
  | None ↦ None
  | Some n ↦ if is_number n then Some n else None
]

-- The number in `name` after the prefix `start`, if a later part of the word, `k`, is also a
-- number. `None` if `k` is not a number, or if `name` does not consist of the prefix and a number.
abbrev pub number_after_prefix_if_number_follows : List ℕ → List ℕ → List ℕ → Option (List ℕ)
number_after_prefix_if_number_follows start name k = if is_number k then number_after_prefix start name else None

-- ---- the probe of a word, from its parts between dots

-- the probe of a word that is `romC`, `chainN` or a place that `poke` accepts
abbrev pub probe_named : List ℕ → Result Probe LineFault
probe_named word = elim (number_after_prefix (codes "rom") word) [
  | Some c ↦ probe_or_bad_number (rom_port_probe c)
  | None ↦ elim (number_after_prefix (codes "chain") word) [
    | Some n ↦ probe_or_bad_number (chain_probe n)
    | None ↦ probe_of_poke word
  ]
]

-- the places with a fixed name that `trace` accepts but `poke` does not, each with its probe
abbrev pub probe_names : List (List ℕ × Probe)
probe_names = (codes "lamps", Lamps) ∷ (codes "ret", ReturnAddresses) ∷ (codes "src", Src) ∷ []

-- the probe of a word that has no dot, or more than two dots
abbrev pub probe_of_whole_word : List ℕ → Result Probe LineFault
probe_of_whole_word word = elim (table_entry word probe_names) [ None ↦ probe_named word | Some p ↦ Ok p ]

-- the probe of a word with one dot that is `ramB.C` or a place that `poke` accepts
abbrev pub ram_port_or_place_probe : List ℕ → List ℕ → List ℕ → Result Probe LineFault
ram_port_or_place_probe word name c = elim (number_after_prefix_if_number_follows (codes "ram") name c) [
  | Some b ↦ probe_or_bad_number (ram_port_probe b c)
  | None ↦ probe_of_poke word
]

-- the probe of a word with one dot: `romC.K`, `chainN.I`, `ramB.C` or a place of `poke`
abbrev pub probe_of_two_parts : List ℕ → List ℕ → List ℕ → Result Probe LineFault
probe_of_two_parts word name k = elim (number_after_prefix_if_number_follows (codes "rom") name k) [
  | Some c ↦ probe_or_bad_number (rom_line_probe c k)
  | None ↦ elim (number_after_prefix_if_number_follows (codes "chain") name k) [
    | Some n ↦ probe_or_bad_number (chain_line_probe n k)
    | None ↦ ram_port_or_place_probe word name k
  ]
]

-- the probe of a word with two dots: `ramB.C.K` or a place of `poke`
abbrev pub probe_of_three_parts : List ℕ → List ℕ → List ℕ → List ℕ → Result Probe LineFault
probe_of_three_parts word name c k = elim (number_after_prefix_if_number_follows (codes "ram") name k) [
  | Some b ↦ if is_number c then probe_or_bad_number (ram_line_probe b c k) else probe_of_poke word
  | None ↦ probe_of_poke word
]

-- the probe that `word` names, from the parts of `word` between its dots
abbrev pub probe_parts : List ℕ → List (List ℕ) → Result Probe LineFault
probe_parts word (name ∷ k ∷ []) = probe_of_two_parts word name k
probe_parts word (name ∷ c ∷ k ∷ []) = probe_of_three_parts word name c k
probe_parts word parts = probe_of_whole_word word

-- the probe that a word names
abbrev pub probe_of : List ℕ → Result Probe LineFault
probe_of word = probe_parts word (parts_of_word word)

-- ---- lists of places

-- true if the error is `BadNumber`
abbrev pub is_bad_number : LineFault → Bool
is_bad_number BadNumber = true
is_bad_number fault = false

-- the error to report for two rejected words: the error of the first word, or of the second word if
-- the first error is `BadNumber`
abbrev pub fault_to_report : LineFault → LineFault → LineFault
fault_to_report fault other = if is_bad_number fault then other else fault

-- the list of probes with the probe of an earlier word at its front; if one or both arguments are
-- errors, the error to report
abbrev pub with_probe : Result Probe LineFault → Result (List Probe) LineFault → Result (List Probe) LineFault
with_probe (Ok p) (Ok ps) = Ok (p ∷ ps)
with_probe (Ok p) (Err fault) = Err fault
with_probe (Err fault) (Ok ps) = Err fault
with_probe (Err fault) (Err other) = Err (fault_to_report fault other)

-- The probes of the places that words name. The error is `NotACommand` if a word is not a place, or
-- if there are more than `room` words. Otherwise, the error is `BadNumber` if a number in a place
-- is out of range.
abbrev pub probes_within : ℕ → List (List ℕ) → Result (List Probe) LineFault
probes_within room [] = Ok []
probes_within zero (word ∷ words) = Err NotACommand
probes_within (suc room) (word ∷ words) = with_probe (probe_of word) (probes_within room words)
