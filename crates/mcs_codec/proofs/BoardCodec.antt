-- Reading is the inverse of encoding, for a board and for each of its parts.
use Rattle.std.proofs.Common.{◌≡◌, ℕ, true, false, cond, eqb, List, [], ◌∷◌, ◌++◌, Option, Some, None, refl, ap, subst, arith}
use Rattle.std.specs.Prelude.{is_none, ◌&&◌}
use Rattle.std.proofs.lemmas.Bool.Decides.{nat_tests}
use Rattle.mcs_nibble.specs.declared.lines.LineMask.{LineMask}
use Rattle.mcs_nibble.specs.declared.lines.LineMask.TheVariants.{Input, Zero, One}
use Rattle.mcs_model.specs.declared.board.KeyMatrix.{KeyMatrix}
use Rattle.mcs_model.specs.declared.board.Line.{Line}
use Rattle.mcs_model.specs.declared.board.Line.TheVariants.{Rom, Ram, Chain}
use Rattle.mcs_model.specs.declared.board.BoardFault.{BoardFault}
use Rattle.mcs_model.specs.declared.limits.TheConstants.{CHAINS}
use Rattle.mcs_model.specs.Boards.{board_fault_of}
use Rattle.mcs_codec.specs.Reading.{◌>>=◌, Reading, give, give_some, byte_at}
use Rattle.mcs_model.specs.Validity.{IsValidBoard}
use Rattle.mcs_nibble.specs.Ports.{mask_character, mask_of}
use Rattle.mcs_codec.specs.BoardBytes.{rom_bytes, board_line_bytes, chain_bytes, counted_bytes, keys_bytes, board_bytes}
use Rattle.mcs_codec.specs.BoardReading.{rom_of, rom_at, masks_of, board_line_of, board_line_at, chain_at, keys_at, matrix_at, parts_at, board_at}
use Rattle.mcs_codec.proofs.BoardLengths.{HasFourLines, HasAtMostEightColumns, HasLengths, valid_board_has_lengths, valid_board_of_lengths}
use Rattle.mcs_codec.proofs.Codecs.{IsCodec, IsBytes, IsBytes-rest, IsBlock, values_of_both_readings, any_byte_codec, bytes_codec, repeated_codec, any_counted_codec, last_step, next_step, steps_of_empty_block, block_codec, giving_codec, tested_codec, codec_of_equivalent_range, row_of_tag_table}
use Rattle.mcs_nibble.proofs.PortLemmas.{mask_of-mask_character}

-- four bytes, as a tuple
abbrev pub FourBytes : Type 0
FourBytes = ℕ × (ℕ × (ℕ × ℕ))

abbrev pub four_bytes : FourBytes → List ℕ
four_bytes x = x.0 ∷ x.1.0 ∷ x.1.1.0 ∷ x.1.1.1 ∷ []

abbrev pub AreFourBytes : FourBytes → Type 0
AreFourBytes x = Unit {0} × (Unit {0} × (Unit {0} × Unit {0}))

are_four_bytes : Unit {0} × (Unit {0} × (Unit {0} × Unit {0}))
are_four_bytes = (tt, (tt, (tt, tt)))

steps_of_four_bytes : {B : Type 0} (end : FourBytes → Reading B) → IsBlock four_bytes AreFourBytes end (do a ← byte_at; b ← byte_at; c ← byte_at; d ← byte_at; end (a, (b, (c, d))))
steps_of_four_bytes end = next_step end any_byte_codec (λ a _. next_step _ any_byte_codec (λ b _. next_step _ any_byte_codec (λ c _. last_step _ any_byte_codec)))

-- ---- lines

abbrev line_of_four_bytes : FourBytes → Reading Line
line_of_four_bytes x = board_line_of x.0 x.1.0 x.1.1.0 x.1.1.1

bytes_of_read_line : (x : FourBytes) (rest : List ℕ) (y : Line × List ℕ) → AreFourBytes x → line_of_four_bytes x rest ≡ Some y → (board_line_bytes y.0 ≡ four_bytes x) × (rest ≡ y.1) × Unit {0}
bytes_of_read_line (kind, (a, (b, c))) rest (l, after) h e = (grind (arith, nat_tests), grind (arith, nat_tests), tt)

four_bytes_of_line : (l : Line) → Unit {0} → (x : FourBytes) × (board_line_bytes l ≡ four_bytes x) × AreFourBytes x × ((rest : List ℕ) → line_of_four_bytes x rest ≡ Some (l, rest))
four_bytes_of_line (Rom chip k) h = ((0, (chip, (k, 0))), refl, are_four_bytes, λ rest. refl)
four_bytes_of_line (Ram bank chip k) h = ((1, (bank, (chip, k))), refl, are_four_bytes, λ rest. refl)
four_bytes_of_line (Chain n i) h = ((2, (n, (i, 0))), refl, are_four_bytes, λ rest. refl)

pub line_codec : IsCodec board_line_bytes (λ _. Unit {0}) board_line_at
unfolding board_line_at
line_codec = block_codec (steps_of_four_bytes line_of_four_bytes) (record { value_of_steps = bytes_of_read_line; steps_of_value = four_bytes_of_line })

-- ---- ROMs

character_of_read_mask : (b : ℕ) (m : LineMask) → mask_of b ≡ Some m → mask_character m ≡ b
character_of_read_mask b m e = grind (arith, nat_tests)

mask_character_is_not_dash : (m : LineMask) → eqb (mask_character m) 45 ≡ false
mask_character_is_not_dash Input = refl
mask_character_is_not_dash Zero = refl
mask_character_is_not_dash One = refl

abbrev rom_of_four_bytes : FourBytes → Reading (Option (List LineMask))
rom_of_four_bytes x = rom_of x.0 x.1.0 x.1.1.0 x.1.1.1

-- if a port line is read from a byte, the byte is the character of that line
character_of_read_line : {B : Type 0} (b : ℕ) (next : LineMask → Reading B) (rest : List ℕ) (y : B × List ℕ) → (give_some (mask_of b) >>= next) rest ≡ Some y → (m : LineMask) × (mask_character m ≡ b) × (next m rest ≡ Some y)
character_of_read_line {B} b next rest y =
    elim (mask_of b) as (λ o. ((m : LineMask) → o ≡ Some m → mask_character m ≡ b) → (give_some o >>= next) rest ≡ Some y → (m : LineMask) × (mask_character m ≡ b) × (next m rest ≡ Some y)) [
      | Some m ↦ λ is e. (m, is m refl, e)
      | None ↦ λ is e. absurd cc
    ] (character_of_read_mask b)

pair_of_given_lines : (lines : List LineMask) (rest : List ℕ) (x : List LineMask × List ℕ) (y : Option (List LineMask) × List ℕ) → Some (lines, rest) ≡ Some x → Some (Some x.0, x.1) ≡ Some y → (Some lines, rest) ≡ y
pair_of_given_lines lines rest x y e f = cc

bytes_of_read_masks : (a b c d : ℕ) (rest : List ℕ) (y : Option (List LineMask) × List ℕ) → (masks_of a b c d >>= λ lines. give (Some lines)) rest ≡ Some y
    → (rom_bytes y.0 ≡ a ∷ b ∷ c ∷ d ∷ []) × (rest ≡ y.1) × HasFourLines y.0
bytes_of_read_masks a b c d rest y e =
    let all = values_of_both_readings (masks_of a b c d rest) (λ lines. give (Some lines)) y e in
    let l3 = character_of_read_line a _ rest all.0 all.1 in
    let l2 = character_of_read_line b _ rest all.0 l3.2 in
    let l1 = character_of_read_line c _ rest all.0 l2.2 in
    let l0 = character_of_read_line d _ rest all.0 l1.2 in
    subst (λ (z : Option (List LineMask) × List ℕ). (rom_bytes z.0 ≡ a ∷ b ∷ c ∷ d ∷ []) × (rest ≡ z.1) × HasFourLines z.0) (pair_of_given_lines (l0.0 ∷ l1.0 ∷ l2.0 ∷ l3.0 ∷ []) rest all.0 y l0.2 all.2) (rw (l3.1, l2.1, l1.1, l0.1) refl, refl, refl)

bytes_of_read_rom : (x : FourBytes) (rest : List ℕ) (y : Option (List LineMask) × List ℕ) → AreFourBytes x → rom_of_four_bytes x rest ≡ Some y → (rom_bytes y.0 ≡ four_bytes x) × (rest ≡ y.1) × HasFourLines y.0
bytes_of_read_rom (a, (b, (c, d))) rest y h e =
    elim (eqb a 45 && eqb b 45 && eqb c 45 && eqb d 45) as (λ t. ((eqb a 45 && eqb b 45 && eqb c 45 && eqb d 45) ≡ t) → cond t (give None) (masks_of a b c d >>= λ lines. give (Some lines)) rest ≡ Some y → (rom_bytes y.0 ≡ a ∷ b ∷ c ∷ d ∷ []) × (rest ≡ y.1) × HasFourLines y.0) [
      | true ↦ λ dashes g. let same : (None, rest) ≡ y = cc in subst (λ (z : Option (List LineMask) × List ℕ). (rom_bytes z.0 ≡ a ∷ b ∷ c ∷ d ∷ []) × (rest ≡ z.1) × HasFourLines z.0) same (grind (arith, nat_tests), refl, tt)
      | false ↦ λ _ g. bytes_of_read_masks a b c d rest y g
    ] refl e

four_bytes_of_rom : (r : Option (List LineMask)) → HasFourLines r → (x : FourBytes) × (rom_bytes r ≡ four_bytes x) × AreFourBytes x × ((rest : List ℕ) → rom_of_four_bytes x rest ≡ Some (r, rest))
four_bytes_of_rom None h = ((45, (45, (45, 45))), refl, are_four_bytes, λ rest. refl)
four_bytes_of_rom (Some []) h = absurd cc
four_bytes_of_rom (Some (a ∷ [])) h = absurd cc
four_bytes_of_rom (Some (a ∷ b ∷ [])) h = absurd cc
four_bytes_of_rom (Some (a ∷ b ∷ c ∷ [])) h = absurd cc
four_bytes_of_rom (Some (a ∷ b ∷ c ∷ d ∷ [])) h =
    ((mask_character d, (mask_character c, (mask_character b, mask_character a))), refl, are_four_bytes, λ rest. rw (mask_character_is_not_dash d, mask_of-mask_character d, mask_of-mask_character c, mask_of-mask_character b, mask_of-mask_character a) refl)
four_bytes_of_rom (Some (a ∷ b ∷ c ∷ d ∷ e ∷ l)) h = absurd cc

pub rom_codec : IsCodec rom_bytes HasFourLines rom_at
unfolding rom_at
rom_codec = block_codec (steps_of_four_bytes rom_of_four_bytes) (record { value_of_steps = bytes_of_read_rom; steps_of_value = four_bytes_of_rom })

-- ---- chains, keys, and the board

pub chain_codec : IsCodec chain_bytes (λ _. Unit {0}) chain_at
unfolding chain_at
chain_codec = giving_codec (λ p. record { clock = p.0; data_in = p.1.0; chips = p.1.1 }) chain_bytes (λ _. Unit {0})
    (next_step _ line_codec (λ _ _. next_step _ line_codec (λ _ _. last_step _ any_byte_codec))) (λ p h. (refl, tt)) (λ c h. ((c.clock, (c.data_in, c.chips)), refl, (tt, (tt, tt))))

-- the bytes of a key matrix, without the byte of 1 before them
abbrev matrix_bytes : KeyMatrix → List ℕ
matrix_bytes m = m.chain ∷ m.first ∷ m.rows ∷ counted_bytes board_line_bytes m.columns.items

matrix_codec : IsCodec matrix_bytes (λ m. HasAtMostEightColumns (Some m)) matrix_at
unfolding matrix_at
matrix_codec = giving_codec (λ p. record { chain = p.0; first = p.1.0; rows = p.1.1.0; columns = record { items = p.1.1.1 } }) matrix_bytes (λ m. HasAtMostEightColumns (Some m))
    (next_step _ any_byte_codec (λ _ _. next_step _ any_byte_codec (λ _ _. next_step _ any_byte_codec (λ _ _. last_step _ (any_counted_codec 8 (omega arith) line_codec))))) (λ p h. (refl, h.1.1.1)) (λ m h. ((m.chain, (m.first, (m.rows, m.columns.items))), refl, (tt, (tt, (tt, h)))))

keys_read_encoding : (bytes : List ℕ) (x : Option KeyMatrix × List ℕ) → IsBytes bytes → keys_at bytes ≡ Some x → (bytes ≡ keys_bytes x.0 ++ x.1) × HasAtMostEightColumns x.0
unfolding keys_at
keys_read_encoding [] x all e = absurd cc
keys_read_encoding (tag ∷ bytes) x all e =
    let rest = IsBytes-rest tag bytes all in
    row_of_tag_table keys_bytes HasAtMostEightColumns 0 (λ _. None) _ rest (steps_of_empty_block _) (λ a h. (refl, tt))
    (row_of_tag_table keys_bytes HasAtMostEightColumns 1 (λ m. Some m) _ rest (last_step _ matrix_codec) (λ m h. (refl, h))
    (λ no. absurd cc)) e

keys_read_back : (k : Option KeyMatrix) (rest : List ℕ) → HasAtMostEightColumns k → keys_at (keys_bytes k ++ rest) ≡ Some (k, rest)
unfolding keys_at
keys_read_back None rest h = refl
keys_read_back (Some m) rest h = (last_step (λ m. give (Some m)) matrix_codec).reads_back m rest h

pub keys_codec : IsCodec keys_bytes HasAtMostEightColumns keys_at
keys_codec = record { reads_encoding = keys_read_encoding; reads_back = keys_read_back }

pub parts_codec : IsCodec board_bytes HasLengths parts_at
unfolding parts_at
parts_codec = giving_codec (λ p. record { roms = p.0; banks = p.1.0; chains = record { items = p.1.1.0 }; keys = p.1.1.1.0; lamps = record { items = p.1.1.1.1 } }) board_bytes HasLengths
    (next_step _ (repeated_codec 16 rom_codec) (λ _ _. next_step _ (bytes_codec 8) (λ _ _. next_step _ (any_counted_codec CHAINS (omega arith) chain_codec) (λ _ _. next_step _ keys_codec (λ _ _. last_step _ (any_counted_codec 64 (omega arith) line_codec))))))
    (λ p h. (refl, record { roms = h.0.0; masks = h.0.1; banks = h.1.0; chains = h.1.1.0; keys = h.1.1.1.0; lamps = h.1.1.1.1 }))
    (λ b h. ((b.roms, (b.banks, (b.chains.items, (b.keys, b.lamps.items)))), refl, ((h.roms, h.masks), (h.banks, (h.chains, (h.keys, h.lamps))))))

none_if_is_none : (o : Option BoardFault) → is_none o ≡ true → o ≡ None
none_if_is_none None e = refl
none_if_is_none (Some f) e = absurd cc

pub board_codec : IsCodec board_bytes IsValidBoard board_at
unfolding board_at
board_codec = codec_of_equivalent_range IsValidBoard (λ b h. valid_board_of_lengths b h.0 (none_if_is_none (board_fault_of b) h.1)) (λ b h. (valid_board_has_lengths b h, ap is_none h.valid)) (tested_codec (λ b. is_none (board_fault_of b)) parts_codec)
