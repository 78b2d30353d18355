-- The tables of commands and places, and the request that a line makes. (Defined by Fethsaim, not
-- by Intel.)
use Rattle.std.specs.Prelude.{◌==◌, ◌&&◌, Bool, ℕ, List, [], ◌∷◌, codes, nat_lt, is_some, if◌then◌else◌, Option, Some, None}
use Rattle.std.specs.Str.{bytes_eq}
use Rattle.mcs_model.specs.WordTables.{lookup_entry}
use Rattle.mcs_model.specs.Numerals.{number_in_word, number_up_to}
use Rattle.mcs_model.specs.declared.command.Command.TheVariants.{Press, Release, Run, Step, Poke, Test, Reset, Break, Unbreak, Watch, Unwatch}
use Rattle.mcs_model.specs.declared.command.Place.{Place}
use Rattle.mcs_model.specs.declared.command.Place.TheVariants.{Acc, Cy, Pc, Register, Dcl, Rom, Ram, Status}
use Rattle.mcs_model.specs.declared.limits.TheConstants.{LISTING_LINES, RUN_CYCLES}
use Rattle.mcs_model.specs.declared.query.Query.TheVariants as query
use Rattle.mcs_lines.specs.declared.requests.Request.{Request}
use Rattle.mcs_lines.specs.declared.requests.Request.TheVariants.{Refused, Ask, Listing, Board, Count, Change, Begin}
use Rattle.mcs_lines.specs.declared.requests.TextKind.TheVariants.{Wire, Asm, Map, Wiring, Errors}
use Rattle.mcs_lines.specs.declared.requests.LineFault.TheVariants.{NotACommand, BadNumber}
use Rattle.mcs_lines.specs.Words.{parts_of_word}

-- the entry for a word in one of the tables below, if any
abbrev pub table_entry : {A : Type 0} → List ℕ → List (List ℕ × A) → Option A
table_entry word table = lookup_entry (bytes_eq word) table

-- true if a word is a number of any size
abbrev pub is_number : List ℕ → Bool
is_number word = is_some (number_in_word word)

-- the request that `ask` makes from the number in `word`; refusal 11 if `word` is not a number, or
-- if the number is above `most`
abbrev pub request_with_number : ℕ → List ℕ → (ℕ → Request) → Request
request_with_number most word ask =
    elim (number_up_to most word) [ None ↦ Refused BadNumber | Some n ↦ ask n ]

-- ---- places, and the values that `poke` writes to them

-- the request to write the number in `value` to a place; refusal 11 if `value` is not a number, or
-- if the number is above `most`
abbrev pub poke_value : ℕ → List ℕ → (ℕ → Place) → Request
poke_value most value place = request_with_number most value (λ v. Change (Poke (place v)))

-- the request that `poke rK VALUE` makes, from the words `k` for K and `value` for VALUE
abbrev pub poke_register : List ℕ → List ℕ → Request
poke_register k value = request_with_number 15 k (λ k. poke_value 15 value (λ n. Register k n))

-- the request that `poke rom.A VALUE` makes, from the words for A and VALUE
abbrev pub poke_rom : List ℕ → List ℕ → Request
poke_rom a value = request_with_number 4095 a (λ at. poke_value 255 value (λ byte. Rom at byte))

-- the request that `poke ram.B.S VALUE` makes, from the words for B, S and VALUE
abbrev pub poke_ram : List ℕ → List ℕ → List ℕ → Request
poke_ram b s value =
    request_with_number 7 b (λ bank. request_with_number 255 s (λ src. poke_value 15 value (λ n. Ram bank src n)))

-- the request that `poke st.B.H.K VALUE` makes, from the words for B, H, K and VALUE
abbrev pub poke_status : List ℕ → List ℕ → List ℕ → List ℕ → Request
poke_status b h k value =
    request_with_number 7 b (λ bank.
    request_with_number 15 h (λ high.
    request_with_number 3 k (λ k. poke_value 15 value (λ n. Status bank high k n))))

-- the request that `poke` makes for a place of the form `rK`, from the words for the place and the
-- value; refusal 10 if the place has another form
abbrev pub poke_numbered : List ℕ → List ℕ → Request
poke_numbered [] value = Refused NotACommand
poke_numbered (b ∷ k) value =
    if (b == 114) && is_number k then poke_register k value else Refused NotACommand

-- the places of `poke` that have a fixed name, each with the function from the value to the request
abbrev pub poke_names : List (List ℕ × (List ℕ → Request))
poke_names =
    (codes "acc", λ value. poke_value 15 value (λ n. Acc n))
    ∷ (codes "cy", λ value. poke_value 1 value (λ bit. Cy bit))
    ∷ (codes "pc", λ value. poke_value 4095 value (λ at. Pc at))
    ∷ (codes "dcl", λ value. poke_value 7 value (λ bank. Dcl bank))
    ∷ []

-- the request that `poke` makes for a place without dots: a fixed name or `rK`
abbrev pub poke_named : List ℕ → List ℕ → Request
poke_named name value =
    elim (table_entry name poke_names) [ None ↦ poke_numbered name value | Some poke ↦ poke value ]

-- The request that `poke` makes, from the parts of the word for the place and from the word for the
-- value. A place of the wrong form (refusal 10) takes precedence over a number that is out of range
-- (refusal 11).
abbrev pub poke_parts : List (List ℕ) → List ℕ → Request
poke_parts (name ∷ []) value = poke_named name value
poke_parts (name ∷ a ∷ []) value =
    if bytes_eq name (codes "rom") && is_number a then poke_rom a value else Refused NotACommand
poke_parts (name ∷ b ∷ s ∷ []) value =
    if bytes_eq name (codes "ram") && (is_number b && is_number s)
    then poke_ram b s value else Refused NotACommand
poke_parts (name ∷ b ∷ h ∷ k ∷ []) value =
    if bytes_eq name (codes "st") && (is_number b && (is_number h && is_number k))
    then poke_status b h k value else Refused NotACommand
poke_parts parts value = Refused NotACommand

-- the request that `poke` makes, from the words for the place and the value
abbrev pub poke_of : List ℕ → List ℕ → Request
poke_of place value = poke_parts (parts_of_word place) value

-- ---- lines

-- the commands of one word, each with its request
abbrev pub one_word_commands : List (List ℕ × Request)
one_word_commands =
    (codes "step", Change Step)
    ∷ (codes "reset", Change Reset)
    ∷ (codes "lamps", Ask query.Lamps)
    ∷ (codes "regs", Ask query.Regs)
    ∷ (codes "breaks", Ask query.Breaks)
    ∷ (codes "watches", Ask query.Watches)
    ∷ (codes "seq", Ask query.Seq)
    ∷ (codes "state", Ask query.State)
    ∷ (codes "board", Board)
    ∷ (codes "wire", Begin Wire)
    ∷ (codes "asm", Begin Asm)
    ∷ (codes "map", Begin Map)
    ∷ (codes "wiring", Begin Wiring)
    ∷ (codes "errors", Begin Errors)
    ∷ []

-- The number of cycles in `count` or `trace`: 1 to RUN_CYCLES, or `None` for any other word. For
-- `run`, the parser accepts any 32-bit number; the bench rejects a number that is out of range
-- (refusal 44).
abbrev pub cycle_count_of_word : List ℕ → Option ℕ
cycle_count_of_word word = elim (number_up_to RUN_CYCLES word) [
  | None ↦ None
  | Some n ↦ if nat_lt 0 n then Some n else None
]

-- the request that `count` makes, from the word for the number of cycles
abbrev pub count_request : List ℕ → Request
count_request n = elim (cycle_count_of_word n) [ None ↦ Refused BadNumber | Some n ↦ Count n ]

-- the commands with one argument, each with the function from the argument to the request
abbrev pub one_argument_commands : List (List ℕ × (List ℕ → Request))
one_argument_commands =
    (codes "run", λ a. request_with_number 4294967295 a (λ n. Change (Run n)))
    ∷ (codes "test", λ a. request_with_number 1 a (λ bit. Change (Test bit)))
    ∷ (codes "break", λ a. request_with_number 4095 a (λ at. Change (Break at)))
    ∷ (codes "unbreak", λ a. request_with_number 4095 a (λ at. Change (Unbreak at)))
    ∷ (codes "ram", λ a. request_with_number 7 a (λ bank. Ask (query.Ram bank)))
    ∷ (codes "count", count_request)
    ∷ []

-- the request that `list` makes for an address and a number of lines; refusal 11 if the number of
-- lines is 0
abbrev pub listing : ℕ → ℕ → Request
listing at lines = if nat_lt 0 lines then Listing at lines else Refused BadNumber

-- The request that `ask` makes from the numbers in the words `a` and `b`. Refusal 11 if a word is
-- not a number, or if a number is above its limit (`most` for `a`, `most'` for `b`).
abbrev pub request_with_numbers : ℕ → List ℕ → ℕ → List ℕ → (ℕ → ℕ → Request) → Request
request_with_numbers most a most' b ask = request_with_number most a (λ n. request_with_number most' b (λ m. ask n m))

-- The commands with two arguments, each with the function from the arguments to the request. The
-- bench rejects a row or a column that the board lacks (refusal 41).
abbrev pub two_argument_commands : List (List ℕ × (List ℕ → List ℕ → Request))
two_argument_commands =
    (codes "poke", poke_of)
    ∷ (codes "press", λ a b. request_with_numbers 255 a 255 b (λ row column. Change (Press row column)))
    ∷ (codes "release", λ a b. request_with_numbers 255 a 255 b (λ row column. Change (Release row column)))
    ∷ (codes "watch", λ a b. request_with_numbers 7 a 255 b (λ bank src. Change (Watch bank src)))
    ∷ (codes "unwatch", λ a b. request_with_numbers 7 a 255 b (λ bank src. Change (Unwatch bank src)))
    ∷ (codes "list", λ a b. request_with_numbers 4095 a LISTING_LINES b listing)
    ∷ []

-- the request that a line makes, from its first word and the words after it; `request_of_words`
-- (module `LineRequests`) handles `trace` lines
abbrev pub request_of_word : List ℕ → List (List ℕ) → Request
request_of_word word [] = elim (table_entry word one_word_commands) [ None ↦ Refused NotACommand | Some r ↦ r ]
request_of_word word (a ∷ []) =
    elim (table_entry word one_argument_commands) [ None ↦ Refused NotACommand | Some ask ↦ ask a ]
request_of_word word (a ∷ b ∷ []) =
    elim (table_entry word two_argument_commands) [ None ↦ Refused NotACommand | Some ask ↦ ask a b ]
request_of_word word words = Refused NotACommand
