-- If a table has no malformed values, all numbers of the parts that it describes are in range.
use Rattle.std.proofs.Common.{◌≡◌, ℕ, ◌-◌, ◌<◌, ◌≤◌, ℤ, pos, negsuc, Bool, true, false, not, ◌||◌, ◌&&◌, List, [], ◌∷◌, length, map, codes, Option, Some, None, is_none, option_and_then, Ok, Err, if◌then◌else◌, eqb, ltb, leb, refl, sym, ap, ◌∙◌, arith}
use Rattle.std.proofs.lemmas.Bool.{and_parts, true≢false, leb-true, le-leb, le-ltb, lt-ltb, or_parts}
use Rattle.std.proofs.lemmas.Option.{same_Some}
use Rattle.std.specs.List.{list_any, filter_map, cons_option, range_with_len}
use Rattle.std.specs.Option.{option_to_list, option_map_or}
use Rattle.std.specs.Char.{is_ascii_digit}
use Rattle.toml.specs.Data.{Data, Members, get_member, as_integer, as_str, as_table}
use Rattle.mcs_nibble.specs.Tables.{table_of}
use Rattle.mcs_model.specs.declared.board.BoardParts.{BoardParts}
use Rattle.mcs_model.specs.declared.board.ChainPart.{ChainPart}
use Rattle.mcs_model.specs.declared.board.KeyMatrix.{KeyMatrix}
use Rattle.mcs_model.specs.declared.board.Line.{Line}
use Rattle.mcs_model.specs.declared.board.Line.TheVariants as line
use Rattle.mcs_model.specs.declared.limits.TheConstants.{ROMS, BANKS, BANK_CHIPS, CHAINS, CHAIN_BITS, CHAIN_CHIPS, KEY_ROWS}
use Rattle.mcs_model.specs.Boards as boards
use Rattle.mcs_model.specs.declared.board.BoardFault.TheVariants as fault
use Rattle.mcs_wiring.specs.declared.fault.WiringFault.TheVariants.{NoSuchLine, WrongDirection}
use Rattle.mcs_wiring.specs.Flaws.{board_or_error, board_of_parts}
use Rattle.mcs_wiring.specs.declared.sections.Numbered.{Numbered}
use Rattle.mcs_wiring.specs.declared.sections.Section.{Section}
use Rattle.mcs_wiring.specs.declared.sections.Section.TheVariants.{Rom, Ram, Chain, Keys, Lamp}
use Rattle.mcs_wiring.specs.LineNames.{below_or_none, number_below, text_after_prefix, rom_line_named, ram_line_named, chain_line_named, line_named, texts_around_dot}
use Rattle.mcs_wiring.specs.Wiring.{within_or_none, number_at, line_in, line_at, part_of, ram_in, chain_in, matrix_in, lamp_in, values_at, names_no_line, are_malformed_columns, has_bad_columns, is_malformed, has_malformed_value, section_values, any_section_entry, has_value_that_is_not_array, keys_table, part_at, rams_of, parts_in}
use Rattle.mcs_wiring.specs.Format.{sections}

-- ---- optional values

first_value_of_option_and_then : {A B : Type 0} (o : Option A) (f : A → Option B) (y : B) → option_and_then f o ≡ Some y → (x : A) × (o ≡ Some x) × (f x ≡ Some y)
first_value_of_option_and_then None f y e = cc
first_value_of_option_and_then (Some x) f y e = (x, refl, e)

condition_true_if_some : (b : Bool) (k n : ℕ) → (if b then Some k else None) ≡ Some n → (b ≡ true) × (k ≡ n)
condition_true_if_some true k n e = (refl, same_Some k n e)
condition_true_if_some false k n e = cc

-- ---- numbers

number_within_bounds : (least most : ℕ) (z : ℤ) (n : ℕ) → within_or_none least most z ≡ Some n → (least ≤ n) × (n ≤ most)
number_within_bounds least most (pos k) n e =
    let (test, same) = condition_true_if_some (leb least k && leb k most) k n e in
    let (low, high) = and_parts (leb least k) (leb k most) test in
    let low' : least ≤ k = leb-true least k low in
    let high' : k ≤ most = leb-true k most high in
    (omega arith, omega arith)
number_within_bounds least most (negsuc k) n e = cc

number_at_key_within_bounds : (key : List ℕ) (least most : ℕ) (ms : Members) (n : ℕ) → number_at key least most ms ≡ Some n → (least ≤ n) × (n ≤ most)
number_at_key_within_bounds key least most ms n e =
    let (z, _, read) = first_value_of_option_and_then (option_and_then as_integer (get_member key ms)) (within_or_none least most) n e in
    number_within_bounds least most z n read

below_limit_if_some : (b : Bool) (limit k n : ℕ) → (if b then below_or_none limit k else None) ≡ Some n → ltb n limit ≡ true
below_limit_if_some true limit k n e = let (test, same) = condition_true_if_some (ltb k limit) k n e in rw (← same) test
below_limit_if_some false limit k n e = cc

number_in_name_below_limit : (limit : ℕ) (text : List ℕ) (n : ℕ) → number_below limit text ≡ Some n → ltb n limit ≡ true
number_in_name_below_limit limit [] n e = cc
number_in_name_below_limit limit (d ∷ []) n e = below_limit_if_some (is_ascii_digit d) limit _ n e
number_in_name_below_limit limit (t ∷ d ∷ []) n e = below_limit_if_some ((is_ascii_digit t && is_ascii_digit d) && not (eqb t 48)) limit _ n e
number_in_name_below_limit limit (a ∷ b ∷ c ∷ rest) n e = cc

-- ---- lines

rom_line_named_in_range : (text : List ℕ) (l : Line) → rom_line_named text ≡ Some l → boards.in_range l ≡ true
rom_line_named_in_range text l e =
    let (p, _, e1) = first_value_of_option_and_then (texts_around_dot text) _ l e in
    let (chip, chip_is, e2) = first_value_of_option_and_then (number_below ROMS p.0) _ l e1 in
    let (k, k_is, e3) = first_value_of_option_and_then (number_below 4 p.1) _ l e2 in
    let equal_lines : line.Rom chip k ≡ l = same_Some (line.Rom chip k) l e3 in
    let line_in_range : boards.in_range (line.Rom chip k) ≡ true = rw (number_in_name_below_limit ROMS p.0 chip chip_is, number_in_name_below_limit 4 p.1 k k_is) refl in
    ap boards.in_range (sym equal_lines) ∙ line_in_range

ram_line_named_in_range : (text : List ℕ) (l : Line) → ram_line_named text ≡ Some l → boards.in_range l ≡ true
ram_line_named_in_range text l e =
    let (p, _, e1) = first_value_of_option_and_then (texts_around_dot text) _ l e in
    let (q, _, e2) = first_value_of_option_and_then (texts_around_dot p.1) _ l e1 in
    let (bank, bank_is, e3) = first_value_of_option_and_then (number_below BANKS p.0) _ l e2 in
    let (chip, chip_is, e4) = first_value_of_option_and_then (number_below BANK_CHIPS q.0) _ l e3 in
    let (k, k_is, e5) = first_value_of_option_and_then (number_below 4 q.1) _ l e4 in
    let equal_lines : line.Ram bank chip k ≡ l = same_Some (line.Ram bank chip k) l e5 in
    let line_in_range : boards.in_range (line.Ram bank chip k) ≡ true = rw (number_in_name_below_limit BANKS p.0 bank bank_is, number_in_name_below_limit BANK_CHIPS q.0 chip chip_is, number_in_name_below_limit 4 q.1 k k_is) refl in
    ap boards.in_range (sym equal_lines) ∙ line_in_range

chain_line_named_in_range : (text : List ℕ) (l : Line) → chain_line_named text ≡ Some l → boards.in_range l ≡ true
chain_line_named_in_range text l e =
    let (p, _, e1) = first_value_of_option_and_then (texts_around_dot text) _ l e in
    let (n, n_is, e2) = first_value_of_option_and_then (number_below CHAINS p.0) _ l e1 in
    let (i, i_is, e3) = first_value_of_option_and_then (number_below CHAIN_BITS p.1) _ l e2 in
    let equal_lines : line.Chain n i ≡ l = same_Some (line.Chain n i) l e3 in
    let line_in_range : boards.in_range (line.Chain n i) ≡ true = rw (number_in_name_below_limit CHAINS p.0 n n_is, number_in_name_below_limit CHAIN_BITS p.1 i i_is) refl in
    ap boards.in_range (sym equal_lines) ∙ line_in_range

line_of_any_prefix_in_range : (a b c : Option (List ℕ)) (l : Line)
    → (elim a [ Some rest ↦ rom_line_named rest | None ↦ elim b [ Some rest ↦ ram_line_named rest | None ↦ option_and_then chain_line_named c ] ]) ≡ Some l → boards.in_range l ≡ true
line_of_any_prefix_in_range (Some rest) b c l e = rom_line_named_in_range rest l e
line_of_any_prefix_in_range None (Some rest) c l e = ram_line_named_in_range rest l e
line_of_any_prefix_in_range None None c l e = let (rest, _, read) = first_value_of_option_and_then c chain_line_named l e in chain_line_named_in_range rest l read

line_named_in_range : (text : List ℕ) (l : Line) → line_named text ≡ Some l → boards.in_range l ≡ true
line_named_in_range text l e = line_of_any_prefix_in_range (text_after_prefix (codes "rom") text) (text_after_prefix (codes "ram") text) (text_after_prefix (codes "chain") text) l e

-- true if a line is out of range; the lemmas below show that this is false for each line that a
-- table names
abbrev is_out_of_range : Line → Bool
is_out_of_range l = not (boards.in_range l)

named_line_in_range : (d : Data) (l : Line) → line_in d ≡ Some l → is_out_of_range l ≡ false
named_line_in_range d l e = let (text, _, read) = first_value_of_option_and_then (as_str d) line_named l e in ap not (line_named_in_range text l read)

line_at_key_in_range : (key : List ℕ) (ms : Members) (l : Line) → line_at key ms ≡ Some l → is_out_of_range l ≡ false
line_at_key_in_range key ms l e = let (d, _, read) = first_value_of_option_and_then (get_member key ms) line_in l e in named_line_in_range d l read

-- ---- lists of parts

test_false_for_cons_option : {Y : Type 0} (q : Y → Bool) (o : Option Y) (ys : List Y) → ((y : Y) → o ≡ Some y → q y ≡ false) → list_any q ys ≡ false → list_any q (cons_option o ys) ≡ false
test_false_for_cons_option q None ys h e = e
test_false_for_cons_option q (Some y) ys h e = rw (h y refl) e

test_false_for_filter_map : {X Y : Type 0} (q : Y → Bool) (f : X → Option Y) → ((x : X) (y : Y) → f x ≡ Some y → q y ≡ false) → (xs : List X) → list_any q (filter_map f xs) ≡ false
test_false_for_filter_map q f h [] = refl
test_false_for_filter_map q f h (x ∷ xs) = test_false_for_cons_option q (f x) (filter_map f xs) (h x) (test_false_for_filter_map q f h xs)

test_false_for_map : {X Y : Type 0} (q : Y → Bool) (f : X → Y) → ((x : X) → q (f x) ≡ false) → (xs : List X) → list_any q (map f xs) ≡ false
test_false_for_map q f h [] = refl
test_false_for_map q f h (x ∷ xs) = rw (h x) (test_false_for_map q f h xs)

test_false_for_table_of : {Y : Type 0} (q : Y → Bool) (f : ℕ → Y) → ((k : ℕ) → q (f k) ≡ false) → (n : ℕ) → list_any q (table_of n f) ≡ false
unfolding table_of
test_false_for_table_of q f h n = test_false_for_map q f h (range_with_len 0 n)

abbrev exceeds_bank_chips : ℕ → Bool
exceeds_bank_chips n = ltb BANK_CHIPS n

-- ---- banks

ram_chips_within_limit : (d : Data) (p : Numbered ℕ) → part_of ram_in d ≡ Some p → exceeds_bank_chips p.part ≡ false
ram_chips_within_limit d p e =
    let (ms, _, e1) = first_value_of_option_and_then (as_table d) ram_in p e in
    let (bank, _, e2) = first_value_of_option_and_then (number_at (codes "bank") 0 (BANKS - 1) ms) _ p e1 in
    let (chips, chips_is, e3) = first_value_of_option_and_then (number_at (codes "chips") 1 BANK_CHIPS ms) _ p e2 in
    let numbered_chips : Numbered ℕ = record { number = bank; part = chips } in
    let equal_parts : numbered_chips ≡ p = same_Some numbered_chips p e3 in
    let (low, high) = number_at_key_within_bounds (codes "chips") 1 BANK_CHIPS ms chips chips_is in
    ap (λ (q : Numbered ℕ). exceeds_bank_chips q.part) (sym equal_parts) ∙ le-ltb BANK_CHIPS chips high

chosen_count_within_limit : (b : Bool) (x y : ℕ) → exceeds_bank_chips x ≡ false → exceeds_bank_chips y ≡ false → exceeds_bank_chips (if b then x else y) ≡ false
chosen_count_within_limit true x y h k = h
chosen_count_within_limit false x y h k = k

bank_chips_within_limit : (ps : List (Numbered ℕ)) (n : ℕ) → list_any (λ p. exceeds_bank_chips p.part) ps ≡ false → exceeds_bank_chips (part_at 0 ps n) ≡ false
bank_chips_within_limit [] n h = refl
bank_chips_within_limit (p ∷ ps) n h =
    let (here, later) = or_parts (exceeds_bank_chips p.part) (list_any (λ (q : Numbered ℕ). exceeds_bank_chips q.part) ps) h in
    chosen_count_within_limit (eqb p.number n) p.part (part_at 0 ps n) here (bank_chips_within_limit ps n later)

all_banks_within_limit : (ms : Members) → list_any exceeds_bank_chips (parts_in ms).banks ≡ false
all_banks_within_limit ms =
    let rams = test_false_for_filter_map (λ (p : Numbered ℕ). exceeds_bank_chips p.part) (part_of ram_in) ram_chips_within_limit (values_at (codes "ram") ms) in
    test_false_for_table_of exceeds_bank_chips (part_at 0 (rams_of ms)) (λ k. bank_chips_within_limit (rams_of ms) k rams) BANKS

-- ---- chains

chain_part_in_range : (d : Data) (c : ChainPart) → part_of chain_in d ≡ Some c → (not (boards.is_chain_size c) ≡ false) × ((is_out_of_range c.clock || is_out_of_range c.data_in) ≡ false)
chain_part_in_range d c e =
    let (ms, _, e1) = first_value_of_option_and_then (as_table d) chain_in c e in
    let (clock, clock_is, e2) = first_value_of_option_and_then (line_at (codes "clock") ms) _ c e1 in
    let (data_in, data_is, e3) = first_value_of_option_and_then (line_at (codes "data") ms) _ c e2 in
    let (chips, chips_is, e4) = first_value_of_option_and_then (number_at (codes "chips") 1 CHAIN_CHIPS ms) _ c e3 in
    let chain_part : ChainPart = record { clock = clock; data_in = data_in; chips = chips } in
    let equal_parts : chain_part ≡ c = same_Some chain_part c e4 in
    let (low, high) = number_at_key_within_bounds (codes "chips") 1 CHAIN_CHIPS ms chips chips_is in
    let has_chips : ltb 0 chips ≡ true = lt-ltb 0 chips low in
    let chips_within_limit : leb chips CHAIN_CHIPS ≡ true = le-leb chips CHAIN_CHIPS high in
    let valid_size : not (ltb 0 chips && leb chips CHAIN_CHIPS) ≡ false = rw (has_chips, chips_within_limit) refl in
    let lines : (is_out_of_range clock || is_out_of_range data_in) ≡ false = rw (line_at_key_in_range (codes "clock") ms clock clock_is, line_at_key_in_range (codes "data") ms data_in data_is) refl in
    (ap (λ (x : ChainPart). not (boards.is_chain_size x)) (sym equal_parts) ∙ valid_size, ap (λ (x : ChainPart). is_out_of_range x.clock || is_out_of_range x.data_in) (sym equal_parts) ∙ lines)

-- ---- the key matrix

cons_option_is_not_empty_if_some : (o : Option Line) (ls : List Line) → is_none o ≡ false → 0 < length (cons_option o ls)
cons_option_is_not_empty_if_some None ls h = absurd (true≢false h)
cons_option_is_not_empty_if_some (Some l) ls h = omega arith

columns_are_not_empty : (ds : List Data) → are_malformed_columns ds ≡ false → 0 < length (filter_map line_in ds)
columns_are_not_empty [] h = absurd (true≢false h)
columns_are_not_empty (d ∷ ds) h =
    let (here, later) = or_parts (names_no_line d) (list_any names_no_line ds) h in
    cons_option_is_not_empty_if_some (line_in d) (filter_map line_in ds) here

abbrev IsMatrixInRange : KeyMatrix → Type 0
IsMatrixInRange m = (not (boards.is_matrix_size m) ≡ false) × (list_any is_out_of_range m.columns.items ≡ false)

matrix_in_range : (t : Members) (m : KeyMatrix) → matrix_in t ≡ Some m → has_bad_columns t ≡ false → IsMatrixInRange m
matrix_in_range t m e good =
    let (chain, chain_text_from_pieces, e1) = first_value_of_option_and_then (number_at (codes "chain") 0 (CHAINS - 1) t) _ m e in
    let (first, first_is, e2) = first_value_of_option_and_then (number_at (codes "first") 0 (CHAIN_BITS - 1) t) _ m e1 in
    let (rows, rows_is, e3) = first_value_of_option_and_then (number_at (codes "rows") 1 KEY_ROWS t) _ m e2 in
    let values = values_at (codes "columns") t in
    let matrix : KeyMatrix = record { chain = chain; first = first; rows = rows; columns = record { items = filter_map line_in values } } in
    let equal_matrices : matrix ≡ m = same_Some matrix m e3 in
    let (_, chain_high) = number_at_key_within_bounds (codes "chain") 0 (CHAINS - 1) t chain chain_text_from_pieces in
    let (_, first_high) = number_at_key_within_bounds (codes "first") 0 (CHAIN_BITS - 1) t first first_is in
    let (rows_low, rows_high) = number_at_key_within_bounds (codes "rows") 1 KEY_ROWS t rows rows_is in
    let a : ltb chain CHAINS ≡ true = lt-ltb chain CHAINS (omega arith) in
    let b : ltb first CHAIN_BITS ≡ true = lt-ltb first CHAIN_BITS (omega arith) in
    let c : ltb 0 rows ≡ true = lt-ltb 0 rows rows_low in
    let d : leb rows KEY_ROWS ≡ true = le-leb rows KEY_ROWS rows_high in
    let f : ltb 0 (length (filter_map line_in values)) ≡ true = lt-ltb 0 _ (columns_are_not_empty values good) in
    let valid_size : not (boards.is_matrix_size matrix) ≡ false = rw (a, b, c, d, f) refl in
    let lines : list_any is_out_of_range matrix.columns.items ≡ false = test_false_for_filter_map is_out_of_range line_in named_line_in_range values in
    (ap (λ (x : KeyMatrix). not (boards.is_matrix_size x)) (sym equal_matrices) ∙ valid_size, ap (λ (x : KeyMatrix). list_any is_out_of_range x.columns.items) (sym equal_matrices) ∙ lines)

abbrev AreKeysInRange : Option KeyMatrix → Type 0
AreKeysInRange k =
    ((elim k [ Some m ↦ not (boards.is_matrix_size m) | None ↦ false ]) ≡ false)
    × ((elim k [ Some m ↦ list_any is_out_of_range m.columns.items | None ↦ false ]) ≡ false)

matrix_in_range_if_present : (k : Option KeyMatrix) → ((m : KeyMatrix) → k ≡ Some m → IsMatrixInRange m) → AreKeysInRange k
matrix_in_range_if_present None h = (refl, refl)
matrix_in_range_if_present (Some m) h = h m refl

no_bad_columns_in_keys_table : (o : Option Data) (t : Members) → list_any (is_malformed Keys) (option_to_list o) ≡ false → option_and_then as_table o ≡ Some t → has_bad_columns t ≡ false
no_bad_columns_in_keys_table None t h e = cc
no_bad_columns_in_keys_table (Some d) t h e =
    let (bad, _) = or_parts (is_malformed Keys d) false h in
    let (_, columns) = or_parts (is_none (part_of matrix_in d)) (option_map_or has_bad_columns (as_table d) true) bad in
    ap (λ o. option_map_or has_bad_columns o true) (sym e) ∙ columns

keys_in_range : (ms : Members) → has_malformed_value ms ≡ false → AreKeysInRange (parts_in ms).keys
keys_in_range ms h =
    let any_malformed = λ (s : Section). list_any (is_malformed s) (section_values s ms) in
    let (_, h1) = or_parts (list_any (has_value_that_is_not_array ms) sections) (any_section_entry is_malformed ms) h in
    let (_, h2) = or_parts (any_malformed Rom) (any_malformed Ram || (any_malformed Chain || (any_malformed Keys || (any_malformed Lamp || false)))) h1 in
    let (_, h3) = or_parts (any_malformed Ram) (any_malformed Chain || (any_malformed Keys || (any_malformed Lamp || false))) h2 in
    let (_, h4) = or_parts (any_malformed Chain) (any_malformed Keys || (any_malformed Lamp || false)) h3 in
    let (h5, _) = or_parts (any_malformed Keys) (any_malformed Lamp || false) h4 in
    matrix_in_range_if_present (option_and_then matrix_in (keys_table ms)) (λ m e.
    let (t, t_is, read) = first_value_of_option_and_then (keys_table ms) matrix_in m e in
    matrix_in_range t m read (no_bad_columns_in_keys_table (get_member (codes "keys") ms) t h5 t_is))

-- ---- all parts

lamp_in_range : (d : Data) (l : Line) → part_of lamp_in d ≡ Some l → is_out_of_range l ≡ false
lamp_in_range d l e = let (ms, _, read) = first_value_of_option_and_then (as_table d) lamp_in l e in line_at_key_in_range (codes "line") ms l read

or_of_six_false_conditions : (a b c d e f : Bool) → a ≡ false → b ≡ false → c ≡ false → d ≡ false → e ≡ false → f ≡ false → (((a || b) || c) || ((d || e) || f)) ≡ false
or_of_six_false_conditions a b c d e f ha hb hc hd he hf = rw (ha, hb, hc, hd, he, hf) refl

pub no_bad_value_in_parts : (ms : Members) → has_malformed_value ms ≡ false → boards.has_bad_value (parts_in ms) ≡ false
no_bad_value_in_parts ms h =
    let b = parts_in ms in
    let chains = values_at (codes "chain") ms in
    let keys = keys_in_range ms h in
    or_of_six_false_conditions (list_any exceeds_bank_chips b.banks) (list_any (λ c. not (boards.is_chain_size c)) b.chains.items) (boards.has_bad_matrix b)
    (boards.any_chain_line is_out_of_range b) (boards.any_column is_out_of_range b) (boards.any_lamp is_out_of_range b)
    (all_banks_within_limit ms) (test_false_for_filter_map (λ c. not (boards.is_chain_size c)) (part_of chain_in) (λ d c e. (chain_part_in_range d c e).0) chains) keys.0
    (test_false_for_filter_map (λ (c : ChainPart). is_out_of_range c.clock || is_out_of_range c.data_in) (part_of chain_in) (λ d c e. (chain_part_in_range d c e).1) chains) keys.1
    (test_false_for_filter_map is_out_of_range (part_of lamp_in) lamp_in_range (values_at (codes "lamp") ms))

only_line_errors_without_bad_value : (b : BoardParts) (bad lacks wrong : Bool) → bad ≡ false
    → board_or_error b (if bad then Some fault.BadValue else if lacks then Some fault.NoSuchLine else if wrong then Some fault.WrongDirection else None)
    ≡ (if lacks then Err NoSuchLine else if wrong then Err WrongDirection else Ok b)
only_line_errors_without_bad_value b true lacks wrong h = absurd (true≢false h)
only_line_errors_without_bad_value b false true wrong h = refl
only_line_errors_without_bad_value b false false true h = refl
only_line_errors_without_bad_value b false false false h = refl

-- the parts of a table without malformed values have no bad value; only error 25 (a line that the
-- board lacks) or 26 (wrong direction) is possible
pub only_line_errors : (ms : Members) → has_malformed_value ms ≡ false → board_or_error (parts_in ms) (boards.board_fault_of (parts_in ms)) ≡ board_of_parts (parts_in ms)
only_line_errors ms h =
    let b = parts_in ms in
    only_line_errors_without_bad_value b (boards.has_bad_value b) (boards.lacks_line b) (boards.has_wrong_direction b) (no_bad_value_in_parts ms h)
