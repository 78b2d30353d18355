-- The result of assembling a source text: the (address, byte) pairs that its lines emit, or its
-- first error. (Defined by Fethsaim, not by Intel.) Most definitions are about line `i` of the
-- text. Lines are numbered from 0 here, and from 1 in an error report. Errors have the refusal
-- numbers 30 to 37 (module `RefusalNumbers`).
use Rattle.std.specs.Prelude.{ℕ, zero, suc, ◌+◌, slice_index_or, ◌/◌, ◌%◌, Bool, true, false, not, ◌&&◌, ◌||◌, List, [], ◌∷◌, length, map, find, Option, Some, None, is_some, option_map, Result, Ok, Err, nat_lt, nat_le, ◌==◌, if◌then◌else◌}
use Rattle.std.specs.List.{list_any, list_all, flat_map, filter_map, range_with_len}
use Rattle.std.specs.Str.{bytes_eq}
use Rattle.mcs_model.specs.declared.limits.TheConstants.{NAMES}
use Rattle.mcs_model.specs.declared.op.Op.TheVariants as op
use Rattle.mcs_source.specs.declared.fault.SourceFault.{SourceFault}
use Rattle.mcs_source.specs.declared.fault.SourceFault.TheVariants.{BadStatement, DoubleName, UnknownName, OutOfRange, WrongPage, Overlap, PastEnd, TooManyNames}
use Rattle.mcs_source.specs.Lexical.{tokens}
use Rattle.mcs_source.specs.Lines.{Operand, Number, Name, Statement, Origin, Data, Whole, Ldm, Bbl, Jun, Jms, Fim, Jcn, Isz, SourceLine, Code, Define, line_of}
use Rattle.mcs_model.specs.TextLines.{lines_of}
use Rattle.mcs_model.specs.Images.{from_address, overlaps}
use Rattle.mcs_source.specs.Spelling.{spelling}
use Rattle.mcs_model.specs.Numbers.{page_of}
use Rattle.mcs_model.specs.Table.{word_count_of}
use Rattle.mcs_model.specs.Options.{◌>>=◌}
use Rattle.mcs_model.specs.WordTables.{lookup_entry}

-- ---- the parsed lines of a text

-- the parsed lines of a text, with `None` for a line that does not parse
abbrev pub read : List (List ℕ) → List (Option SourceLine)
read lines = map (λ line. line_of (tokens line)) lines

-- the parsed line `i`, or `None` if it does not parse or there is no line `i`
abbrev pub ith_line : List (Option SourceLine) → ℕ → Option SourceLine
ith_line lines i = slice_index_or lines i None

-- ---- addresses

-- the number of bytes that a statement emits; it does not depend on the values of names
abbrev pub size : Statement → ℕ
size (Origin n) = 0
size (Data vs) = length vs
size (Whole o) = word_count_of o
size (Ldm v) = 1
size (Bbl v) = 1
size (Jun t) = 2
size (Jms t) = 2
size (Fim p v) = 2
size (Jcn v t) = 2
size (Isz r t) = 2

abbrev pub statement_size : Option Statement → ℕ
statement_size None = 0
statement_size (Some s) = size s

-- the address after a statement: `ORG` sets it, any other statement adds its size
abbrev pub address_after_statement : Option Statement → ℕ → ℕ
address_after_statement (Some (Origin n)) at = n
address_after_statement s at = at + statement_size s

-- the address after a line that starts at address `at`
abbrev pub address_after_line : Option SourceLine → ℕ → ℕ
address_after_line (Some (Code label s)) at = address_after_statement s at
address_after_line (Some (Define w n)) at = at
address_after_line None at = at

-- the address at which line `i` starts; line 0 starts at address 0
unfoldable pub address_of : List (Option SourceLine) → ℕ → ℕ
address_of lines zero = 0
address_of lines (suc i) = address_after_line (ith_line lines i) (address_of lines i)

-- ---- names

-- the defined names with their values, in the order of the lines that define them
abbrev pub Names : Type 0
Names = List (List ℕ × ℕ)

-- The name that a line defines, with its value. The value of a label is the address at which its
-- line starts, even if the line is an `ORG`. `NAME = NUMBER` gives the name the value of the
-- number.
abbrev pub definition : Option SourceLine → ℕ → Option (List ℕ × ℕ)
definition (Some (Code label s)) at = option_map (λ w. (w, at)) label
definition (Some (Define w n)) at = Some (w, n)
definition None at = None

-- the names that the lines before line `i` define, with their values
unfoldable pub names_before : List (Option SourceLine) → ℕ → Names
names_before lines i =
    filter_map (λ j. definition (ith_line lines j) (address_of lines j)) (range_with_len 0 i)

-- the names that all lines define, with their values
abbrev pub all_names : List (Option SourceLine) → Names
all_names lines = names_before lines (length lines)

-- ---- errors of the first pass: a bad statement (30), a name that is already defined (31), an
-- address past the end (36) and too many names (37). Error 33 is also possible: a number out of
-- range in `ORG` or `NAME = NUMBER`. These errors depend only on the line and the lines before it.

-- true if a name is in the list of defined names; a line that defines it again has error 31
abbrev pub is_defined : List ℕ → Names → Bool
is_defined w names = list_any (λ n. bytes_eq n.0 w) names

abbrev pub defined_name : SourceLine → Option (List ℕ)
defined_name (Code label s) = label
defined_name (Define w n) = Some w

abbrev pub is_defined_name : Option (List ℕ) → Names → Bool
is_defined_name None names = false
is_defined_name (Some w) names = is_defined w names

-- true if the statement is an `ORG` with a number above 4095 (error 33)
abbrev pub is_bad_origin : Option Statement → Bool
is_bad_origin (Some (Origin n)) = not (nat_lt n 4096)
is_bad_origin s = false

-- true if the line has an `ORG` or is `NAME = NUMBER`, and the number is above 4095 (error 33)
abbrev pub has_bad_number : SourceLine → Bool
has_bad_number (Define w n) = not (nat_lt n 4096)
has_bad_number (Code label s) = is_bad_origin s

-- True if a line at address `at` has a label at 4096 or above, or emits a byte at 4096 or above
-- (error 36). The address `at` is above 4096 only if an earlier line has an error. The result is
-- then true for every line except `NAME = NUMBER`.
abbrev pub passes_end : SourceLine → ℕ → Bool
passes_end (Define w n) at = false
passes_end (Code label s) at =
    (is_some label && nat_le 4096 at) || nat_lt 4096 (at + statement_size s)

-- The error that the first pass finds in a line, if any. If several errors apply, the first in this
-- order: 30 (the line does not parse), 33, 31, 37 (earlier lines define `NAMES` names already), 36.
-- The line starts at address `at`, and `names` are the names that earlier lines define.
abbrev pub first_pass_line_fault : ℕ → Names → Option SourceLine → Option SourceFault
first_pass_line_fault at names None = Some BadStatement
first_pass_line_fault at names (Some line) =
    if has_bad_number line then Some OutOfRange else
    if is_defined_name (defined_name line) names then Some DoubleName else
    if is_some (defined_name line) && nat_le NAMES (length names) then Some TooManyNames else
    if passes_end line at then Some PastEnd else None

-- the error that the first pass finds in line `i`, if any; it depends only on this line and the
-- lines before it
unfoldable pub first_pass_fault : List (Option SourceLine) → ℕ → Option SourceFault
first_pass_fault lines i = first_pass_line_fault (address_of lines i) (names_before lines i) (ith_line lines i)

-- ---- the bytes of a line, for given values of all names

-- the value that the first definition of a name gives it, or `None` if no line defines the name
abbrev pub value_of : List ℕ → Names → Option ℕ
value_of w names = lookup_entry (λ name. bytes_eq name w) names

abbrev pub value_in : Names → Operand → Option ℕ
value_in names (Number n) = Some n
value_in names (Name w) = value_of w names

abbrev pub values_in : Names → List Operand → Option (List ℕ)
values_in names [] = Some []
values_in names (v ∷ vs) = value_in names v >>= λ n. values_in names vs >>= λ ns. Some (n ∷ ns)

-- error 32 (undefined name) if there is no value, otherwise the result of the function `next` for
-- the value
abbrev pub with_known_value : {A B : Type 0} → Option A → (A → Result B SourceFault) → Result B SourceFault
with_known_value None next = Err UnknownName
with_known_value (Some x) next = next x

-- error 33 (value out of range) if the condition is false, otherwise the result `next`
abbrev pub if_in_range : {B : Type 0} → Bool → Result B SourceFault → Result B SourceFault
if_in_range false next = Err OutOfRange
if_in_range true next = next

-- error 34 (the instruction cannot reach the page of an address) if the condition is false,
-- otherwise the result `next`
abbrev pub if_on_page : {B : Type 0} → Bool → Result B SourceFault → Result B SourceFault
if_on_page false next = Err WrongPage
if_on_page true next = next

-- the page that a JCN or ISZ at an address can reach: the page that contains the address after the
-- instruction's two words (MCS-4 Users Manual, JCN and ISZ)
abbrev pub reachable_page : ℕ → ℕ
reachable_page at = page_of (at + 2)

abbrev pub is_on_reachable_page : ℕ → ℕ → Bool
is_on_reachable_page at t = t / 256 == reachable_page at

-- the bytes that a statement at address `at` emits, or its first error in this order: 32 (undefined
-- name), 33 (value out of range), 34 (wrong page)
abbrev pub statement_bytes : ℕ → Names → Statement → Result (List ℕ) SourceFault
statement_bytes at names (Origin n) = Ok []
statement_bytes at names (Data vs) =
    with_known_value (values_in names vs) (λ ns. if_in_range (list_all (λ n. nat_lt n 256) ns) (Ok ns))
statement_bytes at names (Whole o) = Ok (spelling o)
statement_bytes at names (Ldm v) =
    with_known_value (value_in names v) (λ n. if_in_range (nat_lt n 16) (Ok (spelling (op.Ldm n))))
statement_bytes at names (Bbl v) =
    with_known_value (value_in names v) (λ n. if_in_range (nat_lt n 16) (Ok (spelling (op.Bbl n))))
statement_bytes at names (Jun v) =
    with_known_value (value_in names v) (λ t.
    if_in_range (nat_lt t 4096) (Ok (spelling (op.Jun (t / 256) (t % 256)))))
statement_bytes at names (Jms v) =
    with_known_value (value_in names v) (λ t.
    if_in_range (nat_lt t 4096) (Ok (spelling (op.Jms (t / 256) (t % 256)))))
statement_bytes at names (Fim p v) =
    with_known_value (value_in names v) (λ n. if_in_range (nat_lt n 256) (Ok (spelling (op.Fim p n))))
statement_bytes at names (Jcn v w) =
    with_known_value (value_in names v) (λ n.
    with_known_value (value_in names w) (λ t.
    if_in_range (nat_lt n 16 && nat_lt t 4096)
    (if_on_page (is_on_reachable_page at t) (Ok (spelling (op.Jcn n (t % 256)))))))
statement_bytes at names (Isz r w) =
    with_known_value (value_in names w) (λ t.
    if_in_range (nat_lt t 4096) (if_on_page (is_on_reachable_page at t) (Ok (spelling (op.Isz r (t % 256))))))

-- the bytes that a line at address `at` emits, or the error of its statement
abbrev pub line_bytes : ℕ → Names → Option SourceLine → Result (List ℕ) SourceFault
line_bytes at names (Some (Code label (Some s))) = statement_bytes at names s
line_bytes at names line = Ok []

abbrev pub bytes_or_none : Result (List ℕ) SourceFault → List ℕ
bytes_or_none (Ok bytes) = bytes
bytes_or_none (Err f) = []

-- the (address, byte) pairs that line `i` emits; empty if the line has error 32, 33 or 34
abbrev pub line_pairs : List (Option SourceLine) → Names → ℕ → List (ℕ × ℕ)
line_pairs lines names i =
    from_address (address_of lines i)
    (bytes_or_none (line_bytes (address_of lines i) names (ith_line lines i)))

-- the (address, byte) pairs that the lines before line `i` emit, in line order
unfoldable pub pairs_before : List (Option SourceLine) → Names → ℕ → List (ℕ × ℕ)
pairs_before lines names i = flat_map (line_pairs lines names) (range_with_len 0 i)

-- ---- errors of the second pass: an undefined name (32), a value out of range (33), the wrong page
-- (34) and an overlap (35). They depend on the values of all names, and are reported only if the
-- first pass finds no error.

-- The error that the second pass finds in a line at address `at`, if any. The last argument is the
-- bytes of the line, or an error, which is then the result. The result is error 35 (overlap) if
-- `pairs`, the pairs of earlier lines, contain an address of these bytes.
abbrev pub second_pass_line_fault : ℕ → List (ℕ × ℕ) → Result (List ℕ) SourceFault → Option SourceFault
second_pass_line_fault at pairs (Err f) = Some f
second_pass_line_fault at pairs (Ok bytes) = if overlaps pairs at (length bytes) then Some Overlap else None

-- the error that the second pass finds in line `i`, if any; it depends on this line, on the lines
-- before it and on the values of all names
unfoldable pub second_pass_fault : List (Option SourceLine) → Names → ℕ → Option SourceFault
second_pass_fault lines names i =
    second_pass_line_fault (address_of lines i) (pairs_before lines names i)
    (line_bytes (address_of lines i) names (ith_line lines i))

-- ---- the whole text

-- the first error in the lines before line `n`, with its line number, counted from 1
abbrev pub first_fault : (ℕ → Option SourceFault) → ℕ → Option (ℕ × SourceFault)
first_fault fault n =
    find (λ i. is_some (fault i)) (range_with_len 0 n) >>= λ i. fault i >>= λ f. Some (i + 1, f)

abbrev pub earliest_first_pass_fault : List (Option SourceLine) → Option (ℕ × SourceFault)
earliest_first_pass_fault lines = first_fault (first_pass_fault lines) (length lines)

abbrev pub earliest_second_pass_fault : List (Option SourceLine) → Names → Option (ℕ × SourceFault)
earliest_second_pass_fault lines names = first_fault (second_pass_fault lines names) (length lines)

abbrev pub unless_fault : {A E : Type 0} → Option E → Result A E → Result A E
unless_fault (Some f) answer = Err f
unless_fault None answer = answer

-- the first error of the first pass; if there is none, the first error of the second pass; if there
-- is none, the pairs of all lines
unfoldable pub assembly_of : List (Option SourceLine) → Result (List (ℕ × ℕ)) (ℕ × SourceFault)
assembly_of lines =
    unless_fault (earliest_first_pass_fault lines)
    (unless_fault (earliest_second_pass_fault lines (all_names lines))
    (Ok (pairs_before lines (all_names lines) (length lines))))

-- the (address, byte) pairs that a text emits, in line order, or its first error with its line
-- number
abbrev pub assembly_of_text : List ℕ → Result (List (ℕ × ℕ)) (ℕ × SourceFault)
assembly_of_text text = assembly_of (read (lines_of text))
