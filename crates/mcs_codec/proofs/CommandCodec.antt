-- Reading is the inverse of encoding, for places and for commands. The proofs of `reads_encoding`
-- and `reads_back` have one line for each kind of `Place` or command.
use Rattle.std.proofs.Common.{◌≡◌, ℕ, ◌<◌, List, [], ◌∷◌, ◌++◌, Option, Some, None, refl, sym, ap, ◌∙◌, arith}
use Rattle.std.specs.Prelude.{IfSome, IfNone, IfOk, Result, Ok, Err}
use Rattle.mcs_model.specs.declared.command.Place.{Place}
use Rattle.mcs_model.specs.declared.command.Place.TheVariants.{Acc, Cy, Pc, Register, Dcl, Rom, Ram, Status}
use Rattle.mcs_model.specs.declared.command.Command.{Command}
use Rattle.mcs_model.specs.declared.command.Command.TheVariants.{Wire, Load, Press, Release, Run, Step, Poke, Test, Reset, Break, Unbreak, Watch, Unwatch}
use Rattle.mcs_codec.specs.Reading.{◌>>=◌, Reading, give, number_below_at, read_all_of}
use Rattle.mcs_codec.specs.CommandBytes.{place_bytes, command_bytes, IsPlaceInRange, IsCommandInRange}
use Rattle.mcs_codec.specs.CommandReading.{place_at, command_at, command_after_tag}
use Rattle.mcs_codec.specs.Codec.{Encodes}
use Rattle.mcs_codec.proofs.Codecs.{IsCodec, IsBytes, IsBytes-rest, IsBlock, byte_codec, long_codec, address_codec, number_below_codec, last_step, next_step, steps_of_empty_block, row_of_tag_table, whole_value_reads_encoding, whole_value_reads_back, encoded_value_is_unique}
use Rattle.mcs_codec.proofs.BoardCodec.{board_codec}
use Rattle.mcs_codec.proofs.ImageCodec.{image_codec}

nibble_codec : IsCodec (λ n. n ∷ []) (λ n. n < 16) (number_below_at 16)
nibble_codec = number_below_codec 16 (omega arith)

bit_codec : IsCodec (λ n. n ∷ []) (λ n. n < 2) (number_below_at 2)
bit_codec = number_below_codec 2 (omega arith)

bank_codec : IsCodec (λ n. n ∷ []) (λ n. n < 8) (number_below_at 8)
bank_codec = number_below_codec 8 (omega arith)

status_codec : IsCodec (λ n. n ∷ []) (λ n. n < 4) (number_below_at 4)
status_codec = number_below_codec 4 (omega arith)

-- ---- readings of one, two and three fields

steps_of_one_field : {A P : Type 0} {s : A → List ℕ} {f : A → Type 0} {r : Reading A} (make : A → P) → IsCodec s f r → IsBlock s f (λ a. give (make a)) (do a ← r; give (make a))
steps_of_one_field make a = last_step _ a

steps_of_two_fields : {A B P : Type 0} {s : A → List ℕ} {f : A → Type 0} {r : Reading A} {t : B → List ℕ} {g : B → Type 0} {q : Reading B} (make : A → B → P) → IsCodec s f r → IsCodec t g q
    → IsBlock (λ (p : A × B). s p.0 ++ t p.1) (λ p. f p.0 × g p.1) (λ p. give (make p.0 p.1)) (do a ← r; b ← q; give (make a b))
steps_of_two_fields make a b = next_step _ a (λ _ _. last_step _ b)

steps_of_three_fields : {A B C P : Type 0} {s : A → List ℕ} {f : A → Type 0} {r : Reading A} {t : B → List ℕ} {g : B → Type 0} {q : Reading B} {u : C → List ℕ} {h : C → Type 0} {w : Reading C} (make : A → B → C → P) → IsCodec s f r → IsCodec t g q → IsCodec u h w
    → IsBlock (λ (p : A × (B × C)). s p.0 ++ (t p.1.0 ++ u p.1.1)) (λ p. f p.0 × (g p.1.0 × h p.1.1)) (λ p. give (make p.0 p.1.0 p.1.1)) (do a ← r; b ← q; c ← w; give (make a b c))
steps_of_three_fields make a b c = next_step _ a (λ _ _. next_step _ b (λ _ _. last_step _ c))

-- the fields of a status character: bank, upper nibble of the SRC byte, number, value
abbrev StatusParts : Type 0
StatusParts = ℕ × (ℕ × (ℕ × ℕ))

status_steps : IsBlock (λ (p : StatusParts). p.0 ∷ p.1.0 ∷ p.1.1.0 ∷ p.1.1.1 ∷ []) (λ p. (p.0 < 8) × ((p.1.0 < 16) × ((p.1.1.0 < 4) × (p.1.1.1 < 16)))) (λ p. give (Status p.0 p.1.0 p.1.1.0 p.1.1.1))
    (do bank ← number_below_at 8; high ← number_below_at 16; k ← number_below_at 4; n ← number_below_at 16; give (Status bank high k n))
status_steps = next_step _ bank_codec (λ _ _. next_step _ nibble_codec (λ _ _. next_step _ status_codec (λ _ _. last_step _ nibble_codec)))

-- ---- places

place_reads_encoding : (bytes : List ℕ) (x : Place × List ℕ) → IsBytes bytes → place_at bytes ≡ Some x → (bytes ≡ place_bytes x.0 ++ x.1) × IsPlaceInRange x.0
unfolding place_at
place_reads_encoding [] x all e = absurd cc
place_reads_encoding (tag ∷ bytes) x all e =
    let rest = IsBytes-rest tag bytes all in
    row_of_tag_table place_bytes IsPlaceInRange 0 Acc _ rest (steps_of_one_field Acc nibble_codec) (λ a h. (refl, h))
    (row_of_tag_table place_bytes IsPlaceInRange 1 Cy _ rest (steps_of_one_field Cy bit_codec) (λ a h. (refl, h))
    (row_of_tag_table place_bytes IsPlaceInRange 2 Pc _ rest (steps_of_one_field Pc address_codec) (λ a h. (refl, h))
    (row_of_tag_table place_bytes IsPlaceInRange 3 (λ p. Register p.0 p.1) _ rest (steps_of_two_fields Register nibble_codec nibble_codec) (λ a h. (refl, h))
    (row_of_tag_table place_bytes IsPlaceInRange 4 Dcl _ rest (steps_of_one_field Dcl bank_codec) (λ a h. (refl, h))
    (row_of_tag_table place_bytes IsPlaceInRange 5 (λ p. Rom p.0 p.1) _ rest (steps_of_two_fields Rom address_codec byte_codec) (λ a h. (refl, h))
    (row_of_tag_table place_bytes IsPlaceInRange 6 (λ p. Ram p.0 p.1.0 p.1.1) _ rest (steps_of_three_fields Ram bank_codec byte_codec nibble_codec) (λ a h. (refl, h))
    (row_of_tag_table place_bytes IsPlaceInRange 7 (λ p. Status p.0 p.1.0 p.1.1.0 p.1.1.1) _ rest status_steps (λ a h. (refl, h))
    (λ none. absurd cc)))))))) e

place_reads_back : (p : Place) (rest : List ℕ) → IsPlaceInRange p → place_at (place_bytes p ++ rest) ≡ Some (p, rest)
unfolding place_at
place_reads_back (Acc n) rest h = (steps_of_one_field Acc nibble_codec).reads_back n rest h
place_reads_back (Cy b) rest h = (steps_of_one_field Cy bit_codec).reads_back b rest h
place_reads_back (Pc at) rest h = (steps_of_one_field Pc address_codec).reads_back at rest h
place_reads_back (Register r n) rest h = (steps_of_two_fields Register nibble_codec nibble_codec).reads_back (r, n) rest h
place_reads_back (Dcl bank) rest h = (steps_of_one_field Dcl bank_codec).reads_back bank rest h
place_reads_back (Rom at byte) rest h = (steps_of_two_fields Rom address_codec byte_codec).reads_back (at, byte) rest h
place_reads_back (Ram bank src n) rest h = (steps_of_three_fields Ram bank_codec byte_codec nibble_codec).reads_back (bank, (src, n)) rest h
place_reads_back (Status bank high k n) rest h = status_steps.reads_back (bank, (high, (k, n))) rest h

pub place_codec : IsCodec place_bytes IsPlaceInRange place_at
place_codec = record { reads_encoding = place_reads_encoding; reads_back = place_reads_back }

-- ---- commands

command_reads_encoding : (bytes : List ℕ) (x : Command × List ℕ) → IsBytes bytes → command_at bytes ≡ Some x → (bytes ≡ command_bytes x.0 ++ x.1) × IsCommandInRange x.0
unfolding command_at command_after_tag
command_reads_encoding [] x all e = absurd cc
command_reads_encoding (tag ∷ bytes) x all e =
    let rest = IsBytes-rest tag bytes all in
    row_of_tag_table command_bytes IsCommandInRange 2 Load _ rest (steps_of_one_field Load image_codec) (λ a h. (refl, h))
    (row_of_tag_table command_bytes IsCommandInRange 1 Wire _ rest (steps_of_one_field Wire board_codec) (λ a h. (refl, h))
    (row_of_tag_table command_bytes IsCommandInRange 3 (λ p. Press p.0 p.1) _ rest (steps_of_two_fields Press byte_codec byte_codec) (λ a h. (refl, h))
    (row_of_tag_table command_bytes IsCommandInRange 4 (λ p. Release p.0 p.1) _ rest (steps_of_two_fields Release byte_codec byte_codec) (λ a h. (refl, h))
    (row_of_tag_table command_bytes IsCommandInRange 5 Run _ rest (steps_of_one_field Run long_codec) (λ a h. (refl, h))
    (row_of_tag_table command_bytes IsCommandInRange 6 (λ _. Step) _ rest (steps_of_empty_block _) (λ a h. (refl, h))
    (row_of_tag_table command_bytes IsCommandInRange 7 Poke _ rest (steps_of_one_field Poke place_codec) (λ a h. (refl, h))
    (row_of_tag_table command_bytes IsCommandInRange 8 Test _ rest (steps_of_one_field Test bit_codec) (λ a h. (refl, h))
    (row_of_tag_table command_bytes IsCommandInRange 9 (λ _. Reset) _ rest (steps_of_empty_block _) (λ a h. (refl, h))
    (row_of_tag_table command_bytes IsCommandInRange 10 Break _ rest (steps_of_one_field Break address_codec) (λ a h. (refl, h))
    (row_of_tag_table command_bytes IsCommandInRange 11 Unbreak _ rest (steps_of_one_field Unbreak address_codec) (λ a h. (refl, h))
    (row_of_tag_table command_bytes IsCommandInRange 12 (λ p. Watch p.0 p.1) _ rest (steps_of_two_fields Watch bank_codec byte_codec) (λ a h. (refl, h))
    (row_of_tag_table command_bytes IsCommandInRange 13 (λ p. Unwatch p.0 p.1) _ rest (steps_of_two_fields Unwatch bank_codec byte_codec) (λ a h. (refl, h))
    (λ none. absurd cc))))))))))))) e

command_reads_back : (c : Command) (rest : List ℕ) → IsCommandInRange c → command_at (command_bytes c ++ rest) ≡ Some (c, rest)
unfolding command_at command_after_tag
command_reads_back (Wire board) rest h = (steps_of_one_field Wire board_codec).reads_back board rest h
command_reads_back (Load image) rest h = (steps_of_one_field Load image_codec).reads_back image rest h
command_reads_back (Press r k) rest h = refl
command_reads_back (Release r k) rest h = refl
command_reads_back (Run n) rest h = (steps_of_one_field Run long_codec).reads_back n rest h
command_reads_back Step rest h = refl
command_reads_back (Poke p) rest h = (steps_of_one_field Poke place_codec).reads_back p rest h
command_reads_back (Test b) rest h = (steps_of_one_field Test bit_codec).reads_back b rest h
command_reads_back Reset rest h = refl
command_reads_back (Break at) rest h = (steps_of_one_field Break address_codec).reads_back at rest h
command_reads_back (Unbreak at) rest h = (steps_of_one_field Unbreak address_codec).reads_back at rest h
command_reads_back (Watch bank src) rest h = (steps_of_two_fields Watch bank_codec byte_codec).reads_back (bank, src) rest h
command_reads_back (Unwatch bank src) rest h = (steps_of_two_fields Unwatch bank_codec byte_codec).reads_back (bank, src) rest h

pub command_codec : IsCodec command_bytes IsCommandInRange command_at
command_codec = record { reads_encoding = command_reads_encoding; reads_back = command_reads_back }

-- ---- the contracts of the public functions

pub found_command_is_encoded : {E : Type 0} (bytes : List ℕ) (r : Result (Option Command) E) → IsBytes bytes → IfOk r (λ found. found ≡ read_all_of command_at bytes) → IfOk r (λ found. IfSome found (λ c. Encodes bytes c))
found_command_is_encoded bytes (Ok (Some c)) all e = let t = whole_value_reads_encoding command_codec bytes c all (sym e) in record { is = t.0; in_range = t.1 }
found_command_is_encoded bytes (Ok None) all e = tt
found_command_is_encoded bytes (Err x) all e = tt

pub no_command_encoded_if_none_found : {E : Type 0} (bytes : List ℕ) (r : Result (Option Command) E) → IfOk r (λ found. found ≡ read_all_of command_at bytes) → IfOk r (λ found. IfNone found ((c : Command) → Encodes bytes c → ⊥))
no_command_encoded_if_none_found bytes (Ok (Some c)) e = tt
no_command_encoded_if_none_found bytes (Ok None) e = λ c h. let back : Some c ≡ None = sym (whole_value_reads_back command_codec c h.in_range) ∙ ap (read_all_of command_at) (sym h.is) ∙ sym e in cc
no_command_encoded_if_none_found bytes (Err x) e = tt

pub encoded_command_is_unique : (bytes : List ℕ) (c d : Command) → Encodes bytes c → Encodes bytes d → c ≡ d
encoded_command_is_unique bytes c d h k = encoded_value_is_unique command_codec c d h.in_range k.in_range (sym h.is ∙ k.is)
