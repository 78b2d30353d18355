-- The text of a board consists of the texts of its parts, one after another.
use Rattle.std.proofs.Common.{◌<◌, codes, Some, length, get_or, take, ◌≡◌, ℕ, suc, ◌+◌, List, [], ◌∷◌, ◌++◌, refl, sym, ap, ◌∙◌, append_assoc, append-nil, arith, slice_index}
use Rattle.std.specs.Fmt.{decimal}
use Rattle.std.specs.List.{flat_map, join_by, range_with_len}
use Rattle.mcs_nibble.specs.declared.lines.LineMask.{LineMask}
use Rattle.mcs_nibble.specs.Ports.{mask_at, mask_character}
use Rattle.mcs_model.specs.declared.board.ChainPart.{ChainPart}
use Rattle.mcs_model.specs.declared.board.KeyMatrix.{KeyMatrix}
use Rattle.mcs_model.specs.declared.board.Line.{Line}
use Rattle.mcs_wiring.specs.LineNames.{port_text}
use Rattle.std.specs.Option.{option_map_or}
use Rattle.std.proofs.lemmas.List.{flat_map_more, take_more}
use Rattle.std.proofs.lemmas.List.Concat.{flat_map-append}
use Rattle.mcs_model.specs.declared.board.BoardParts.{BoardParts}
use Rattle.mcs_model.specs.declared.limits.TheConstants.{ROMS, BANKS}
use Rattle.mcs_model.specs.Boards.{rom_masks}
use Rattle.mcs_model.specs.TextLines.{as_line, text_of}
use Rattle.mcs_wiring.specs.BoardText.{quoted_name, rom_lines, bank_lines, chain_lines, matrix_lines, lamp_lines, board_text}
use Rattle.mcs_wiring.specs.Flaws.{roms_text, rams_text}
use Rattle.mcs_model.proofs.ListLemmas.{range-one-more}

-- the texts for the numbers below `n + 1` are the texts for the numbers below `n`, followed by the
-- text for `n`
pub texts_below_next : (f : ℕ → List ℕ) (n : ℕ) → flat_map f (range_with_len 0 (n + 1)) ≡ flat_map f (range_with_len 0 n) ++ f n
texts_below_next f n =
    let next : n + 1 ≡ suc n = omega arith in
    let zero_plus : 0 + n ≡ n = omega arith in
    ap (λ k. flat_map f (range_with_len 0 k)) next
    ∙ (ap (flat_map f) (range-one-more 0 n ∙ ap (λ k. range_with_len 0 n ++ k ∷ []) zero_plus)
    ∙ (flat_map-append f (range_with_len 0 n) (n ∷ []) ∙ ap (λ t. flat_map f (range_with_len 0 n) ++ t) (append-nil (f n))))

-- the text of the lines of all items is the concatenation of the items' texts
pub text_of-flat_map : {A : Type 0} (f : A → List (List ℕ)) (xs : List A) → text_of (flat_map f xs) ≡ flat_map (λ x. text_of (f x)) xs
text_of-flat_map f [] = refl
text_of-flat_map f (x ∷ xs) = flat_map-append as_line (f x) (flat_map f xs) ∙ ap (λ t. text_of (f x) ++ t) (text_of-flat_map f xs)

text_of-append : (xs ys : List (List ℕ)) → text_of (xs ++ ys) ≡ text_of xs ++ text_of ys
text_of-append xs ys = flat_map-append as_line xs ys

-- the text of a board consists of the texts of its ROMs, RAM banks, chains, key matrix and lamps
pub board_text_is_texts_of_parts : (b : BoardParts) → board_text b
    ≡ roms_text b ROMS ++ (rams_text b BANKS ++ (flat_map (λ c. text_of (chain_lines c)) b.chains.items ++ (text_of (option_map_or matrix_lines b.keys []) ++ flat_map (λ l. text_of (lamp_lines l)) b.lamps.items)))
board_text_is_texts_of_parts b =
    let roms = flat_map (λ chip. rom_lines chip (rom_masks b chip)) (range_with_len 0 ROMS) in
    let rams = flat_map (λ bank. bank_lines bank (slice_index b.banks bank)) (range_with_len 0 BANKS) in
    let chains = flat_map chain_lines b.chains.items in
    let keys = option_map_or matrix_lines b.keys [] in
    let lamps = flat_map lamp_lines b.lamps.items in
    text_of-append roms (rams ++ (chains ++ (keys ++ lamps)))
    ∙ (ap (λ t. t ++ text_of (rams ++ (chains ++ (keys ++ lamps)))) (text_of-flat_map (λ chip. rom_lines chip (rom_masks b chip)) (range_with_len 0 ROMS))
    ∙ ap (λ t. roms_text b ROMS ++ t) (
    text_of-append rams (chains ++ (keys ++ lamps))
    ∙ (ap (λ t. t ++ text_of (chains ++ (keys ++ lamps))) (text_of-flat_map (λ bank. bank_lines bank (slice_index b.banks bank)) (range_with_len 0 BANKS))
    ∙ ap (λ t. rams_text b BANKS ++ t) (
    text_of-append chains (keys ++ lamps)
    ∙ (ap (λ t. t ++ text_of (keys ++ lamps)) (text_of-flat_map chain_lines b.chains.items)
    ∙ ap (λ t. flat_map (λ c. text_of (chain_lines c)) b.chains.items ++ t) (
    text_of-append keys lamps ∙ ap (λ t. text_of keys ++ t) (text_of-flat_map lamp_lines b.lamps.items)))))))

-- if the output has the texts for the numbers below `n`, appending the text for `n` gives the
-- output for the numbers below `n + 1`
pub append_text_for_next_number : (f : ℕ → List ℕ) (n : ℕ) (start before after piece : List ℕ) → before ≡ start ++ flat_map f (range_with_len 0 n) → after ≡ before ++ piece → piece ≡ f n → after ≡ start ++ flat_map f (range_with_len 0 (n + 1))
append_text_for_next_number f n start before after piece so_far written is =
    let earlier_texts = flat_map f (range_with_len 0 n) in
    written
    ∙ (ap (λ t. t ++ piece) so_far
    ∙ (append_assoc start earlier_texts piece ∙ ap (λ t. start ++ t) (ap (λ p. earlier_texts ++ p) is ∙ sym (texts_below_next f n))))

-- if the output has the texts of the first `i` items, appending the text of item `i` gives the
-- output for the first `i + 1` items
pub append_text_of_next_item : {A : Type 0} (f : A → List ℕ) (xs : List A) (i : ℕ) (d : A) (start before after : List ℕ) → i < length xs → before ≡ start ++ flat_map f (take i xs) → after ≡ before ++ f (get_or xs i d) → after ≡ start ++ flat_map f (take (i + 1) xs)
append_text_of_next_item f xs i d start before after lt so_far written =
    let x = get_or xs i d in
    written ∙ (ap (λ t. t ++ f x) so_far ∙ (flat_map_more f start (take i xs) x ∙ ap (λ ys. start ++ flat_map f ys) (sym (take_more xs i d lt))))

-- the output of the format string for a ROM's table is the text of the table's lines
pub rom_text_from_pieces : (a f m3 m2 m1 m0 : List ℕ) (chip : ℕ) (masks : List LineMask) → m3 ≡ mask_character (mask_at masks 3) ∷ [] → m2 ≡ mask_character (mask_at masks 2) ∷ [] → m1 ≡ mask_character (mask_at masks 1) ∷ [] → m0 ≡ mask_character (mask_at masks 0) ∷ []
    → f ≡ a ++ (codes "[[rom]]\nchip = " ++ (decimal chip ++ (codes "\nport = \"" ++ (m3 ++ (m2 ++ (m1 ++ (m0 ++ codes "\"\n")))))))
    → f ≡ a ++ text_of (rom_lines chip (Some masks))
rom_text_from_pieces a f m3 m2 m1 m0 chip masks e3 e2 e1 e0 h =
    let port = codes "port = \"" ++ (port_text masks ++ codes "\"\n") in
    rw (h, e3, e2, e1, e0) (simp append_assoc (rw (append_assoc (decimal chip) (10 ∷ []) port) refl))

pub chain_text_from_pieces : (a b c d e f : List ℕ) (p : ChainPart) → b ≡ a ++ codes "[[chain]]\nclock = " → c ≡ b ++ quoted_name p.clock → d ≡ c ++ codes "\ndata = " → e ≡ d ++ quoted_name p.data_in
    → f ≡ e ++ (codes "\nchips = " ++ (decimal p.chips ++ codes "\n")) → f ≡ a ++ text_of (chain_lines p)
chain_text_from_pieces a b c d e f p h1 h2 h3 h4 h5 = rw (h5, h4, h3, h2, h1) (simp append_assoc)

pub matrix_text_from_pieces : (a b c d : List ℕ) (m : KeyMatrix)
    → b ≡ a ++ (codes "[keys]\nchain = " ++ (decimal m.chain ++ (codes "\nfirst = " ++ (decimal m.first ++ (codes "\nrows = " ++ (decimal m.rows ++ codes "\ncolumns = ["))))))
    → c ≡ b ++ join_by quoted_name (codes ", ") m.columns.items → d ≡ c ++ codes "]\n" → d ≡ a ++ text_of (matrix_lines m)
matrix_text_from_pieces a b c d m h1 h2 h3 =
    let columns = codes "columns = [" ++ (join_by quoted_name (codes ", ") m.columns.items ++ codes "]\n") in
    let rows = codes "rows = " ++ (decimal m.rows ++ 10 ∷ columns) in
    let first = codes "first = " ++ (decimal m.first ++ 10 ∷ rows) in
    rw (h3, h2, h1) (simp append_assoc (rw (append_assoc (decimal m.rows) (10 ∷ []) columns, append_assoc (decimal m.first) (10 ∷ []) rows, append_assoc (decimal m.chain) (10 ∷ []) first) refl))

pub lamp_text_from_pieces : (a b c d : List ℕ) (l : Line) → b ≡ a ++ codes "[[lamp]]\nline = " → c ≡ b ++ quoted_name l → d ≡ c ++ codes "\n" → d ≡ a ++ text_of (lamp_lines l)
lamp_text_from_pieces a b c d l h1 h2 h3 = rw (h3, h2, h1) (simp append_assoc)

append_of_five_texts_is_associative : (r a c k l : List ℕ) → (((([] ++ r) ++ a) ++ c) ++ k) ++ l ≡ r ++ (a ++ (c ++ (k ++ l)))
append_of_five_texts_is_associative r a c k l = simp append_assoc

pub board_text_from_pieces : (b : BoardParts) (s0 s1 s2 s3 s4 s5 : List ℕ) → s0 ≡ [] → s1 ≡ s0 ++ roms_text b ROMS → s2 ≡ s1 ++ rams_text b BANKS
    → s3 ≡ s2 ++ flat_map (λ c. text_of (chain_lines c)) b.chains.items → s4 ≡ s3 ++ text_of (option_map_or matrix_lines b.keys [])
    → s5 ≡ s4 ++ flat_map (λ l. text_of (lamp_lines l)) b.lamps.items → s5 ≡ board_text b
board_text_from_pieces b s0 s1 s2 s3 s4 s5 h0 h1 h2 h3 h4 h5 =
    let r = roms_text b ROMS in
    let a = rams_text b BANKS in
    let c = flat_map (λ c. text_of (chain_lines c)) b.chains.items in
    let k = text_of (option_map_or matrix_lines b.keys []) in
    let l = flat_map (λ l. text_of (lamp_lines l)) b.lamps.items in
    h5 ∙ (ap (λ t. t ++ l) (h4 ∙ ap (λ t. t ++ k) (h3 ∙ ap (λ t. t ++ c) (h2 ∙ ap (λ t. t ++ a) (h1 ∙ ap (λ t. t ++ r) h0)))) ∙ (append_of_five_texts_is_associative r a c k l ∙ sym (board_text_is_texts_of_parts b)))
