-- The parts of a state that differ between the versions: the fifth byte, the board and the watches.
use Rattle.std.proofs.Common.{◌≡◌, ℕ, ◌≤◌, Bool, true, false, cond, eqb, List, [], ◌∷◌, ◌++◌, ◌^◌, ◌<◌, length, drop, Option, Some, None, option_map, refl, sym, ap, subst, ◌∙◌, append_assoc, arith}
use Rattle.std.specs.List.{flat_map, AllByRecursion}
use Rattle.std.proofs.lemmas.Bool.{eqb-true}
use Rattle.mcs_nibble.specs.declared.lines.LineMask.{LineMask}
use Rattle.mcs_nibble.specs.declared.lines.LineMask.TheVariants as mask
use Rattle.mcs_nibble.specs.Ports.{mask_at, mask_character}
use Rattle.mcs_model.specs.declared.board.BoardParts.{BoardParts}
use Rattle.mcs_model.specs.Validity.{IsValidBoard}
use Rattle.mcs_version1.specs.Boards.{fits_version_1}
use Rattle.mcs_codec.specs.BoardBytes.{rom_bytes, board_bytes, counted_bytes}
use Rattle.mcs_codec.specs.CommandBytes.{address_bytes}
use Rattle.mcs_codec.specs.Reading.{and_then, give}
use Rattle.mcs_codec.specs.StateReading.{version_at, board_in_version, versioned_board_at, watches_at}
use Rattle.mcs_codec.specs.Codec.{version_number, version_of, version_at_start}
use Rattle.mcs_codec.specs.declared.versions.Version.{Version}
use Rattle.mcs_codec.specs.declared.versions.Version.TheVariants.{One, Two}
use Rattle.mcs_codec.proofs.Codecs.{IsBytes, IsBytes-after, IsCodec, counted_codec, tested_codec, values_of_both_readings, word_codec}
use Rattle.mcs_codec.proofs.BoardCodec.{board_codec}

-- ---- the first byte of a board is a port character

-- holds if the first byte determines version 1, and reading the version consumes nothing
abbrev BeginsBoard : List ℕ → Type 0
BeginsBoard bytes = (version_at_start bytes ≡ Some One) × (version_at bytes ≡ Some (One, bytes))

line-begins-board : (line : LineMask) (rest : List ℕ) → BeginsBoard (mask_character line ∷ rest)
unfolding version_at
line-begins-board mask.Input rest = (refl, refl)
line-begins-board mask.Zero rest = (refl, refl)
line-begins-board mask.One rest = (refl, refl)

roms-begin-board : (roms : List (Option (List LineMask))) (rest : List ℕ) → length roms ≡ 16 → BeginsBoard (flat_map rom_bytes roms ++ rest)
unfolding version_at
roms-begin-board [] rest l = absurd (omega arith)
roms-begin-board (None ∷ roms) rest l = (refl, refl)
roms-begin-board (Some lines ∷ roms) rest l = line-begins-board (mask_at lines 3) _

pub board-bytes-begin-board : (b : BoardParts) (rest : List ℕ) → IsValidBoard b → BeginsBoard (board_bytes b ++ rest)
board-bytes-begin-board b rest h = rw append_assoc (roms-begin-board b.roms _ h.sized.roms)

-- ---- the version

-- the bytes before the board that determine the version: none in version 1
abbrev pub version_bytes : Version → List ℕ
version_bytes One = []
version_bytes Two = 2 ∷ []

bytes_of_version_by_cases : (b : ℕ) (bytes : List ℕ) (character two : Bool) (x : Version × List ℕ) → (two ≡ true → b ≡ 2)
    → cond character (Some (One, b ∷ bytes)) (cond two (Some (Two, bytes)) None) ≡ Some x → b ∷ bytes ≡ version_bytes x.0 ++ x.1
bytes_of_version_by_cases b bytes true two x is e = let same : (One, b ∷ bytes) ≡ x = cc in subst (λ (y : Version × List ℕ). b ∷ bytes ≡ version_bytes y.0 ++ y.1) same refl
bytes_of_version_by_cases b bytes false true x is e = let same : (Two, bytes) ≡ x = cc in subst (λ (y : Version × List ℕ). b ∷ bytes ≡ version_bytes y.0 ++ y.1) same (ap (λ n. n ∷ bytes) (is refl))
bytes_of_version_by_cases b bytes false false x is e = absurd cc

bytes-of-read-version : (bytes : List ℕ) (x : Version × List ℕ) → version_at bytes ≡ Some x → bytes ≡ version_bytes x.0 ++ x.1
unfolding version_at
bytes-of-read-version [] x e = absurd cc
bytes-of-read-version (b ∷ bytes) x e = bytes_of_version_by_cases b bytes _ (eqb b 2) x (eqb-true _ _) e

-- ---- the version in a result of reading, without the bytes that follow it

abbrev pub version_with_rest : List ℕ → Version → Version × List ℕ
version_with_rest rest v = (v, rest)

version_without_rest_by_cases : (b : ℕ) (bytes rest : List ℕ) (character two : Bool) (versioned : Option Version)
    → option_map (version_with_rest rest) versioned ≡ cond character (Some (One, b ∷ bytes)) (cond two (Some (Two, bytes)) None) → versioned ≡ cond character (Some One) (cond two (Some Two) None)
version_without_rest_by_cases b bytes rest true two None e = absurd cc
version_without_rest_by_cases b bytes rest true two (Some v) e = let same : (v, rest) ≡ (One, b ∷ bytes) = cc in ap (λ (p : Version × List ℕ). Some p.0) same
version_without_rest_by_cases b bytes rest false true None e = absurd cc
version_without_rest_by_cases b bytes rest false true (Some v) e = let same : (v, rest) ≡ (Two, bytes) = cc in ap (λ (p : Version × List ℕ). Some p.0) same
version_without_rest_by_cases b bytes rest false false None e = refl
version_without_rest_by_cases b bytes rest false false (Some v) e = absurd cc

pub read_version_is_version_at_start : (bytes rest : List ℕ) (versioned : Option Version) → option_map (version_with_rest rest) versioned ≡ version_at bytes → versioned ≡ version_at_start bytes
unfolding version_at
read_version_is_version_at_start [] rest None e = refl
read_version_is_version_at_start [] rest (Some v) e = absurd cc
read_version_is_version_at_start (b ∷ bytes) rest versioned e = version_without_rest_by_cases b bytes rest _ _ versioned e

pub read_version_is_version_of : (bytes rest at : List ℕ) (versioned : Option Version) → at ≡ drop 4 bytes → option_map (version_with_rest rest) versioned ≡ version_at at
    → option_map version_number versioned ≡ option_map version_number (version_of bytes)
read_version_is_version_of bytes rest at versioned is e = ap (option_map version_number) (read_version_is_version_at_start (drop 4 bytes) rest versioned (e ∙ ap version_at is))

-- ---- the board

abbrev pub versioned_board_bytes : Version → BoardParts → List ℕ
versioned_board_bytes version b = version_bytes version ++ board_bytes b

abbrev pub IsValidBoardIn : Version → BoardParts → Type 0
IsValidBoardIn One b = IsValidBoard b × (fits_version_1 b ≡ true)
IsValidBoardIn Two b = IsValidBoard b

board_in_version_codec : (version : Version) → IsCodec board_bytes (IsValidBoardIn version) (board_in_version version)
unfolding board_in_version
board_in_version_codec One = tested_codec fits_version_1 board_codec
board_in_version_codec Two = board_codec

version-reads_back : (version : Version) (b : BoardParts) (rest : List ℕ) → IsValidBoardIn version b → version_at (versioned_board_bytes version b ++ rest) ≡ Some (version, board_bytes b ++ rest)
unfolding version_at
version-reads_back One b rest h = (board-bytes-begin-board b rest h.0).1
version-reads_back Two b rest h = refl

pub versioned_board_codec : IsCodec (λ (p : Version × BoardParts). versioned_board_bytes p.0 p.1) (λ p. IsValidBoardIn p.0 p.1) versioned_board_at
unfolding versioned_board_at
versioned_board_codec = record {
  reads_encoding = λ bytes x all e.
      let v = values_of_both_readings (version_at bytes) (λ version rest. and_then (board_in_version version rest) (λ board. give (version, board))) x e in
      let mark = bytes-of-read-version bytes v.0 v.1 in
      let b = values_of_both_readings (board_in_version v.0.0 v.0.1) (λ board. give (v.0.0, board)) x v.2 in
      let t = (board_in_version_codec v.0.0).reads_encoding v.0.1 b.0 (IsBytes-after (version_bytes v.0.0) v.0.1 (subst IsBytes mark all)) b.1 in
      let same : ((v.0.0, b.0.0), b.0.1) ≡ x = let end = b.2 in cc in
      let parts : bytes ≡ versioned_board_bytes v.0.0 b.0.0 ++ b.0.1 = mark ∙ ap (λ (l : List ℕ). version_bytes v.0.0 ++ l) t.0 ∙ sym (append_assoc (version_bytes v.0.0) (board_bytes b.0.0) b.0.1) in
      subst (λ (y : (Version × BoardParts) × List ℕ). (bytes ≡ versioned_board_bytes y.0.0 y.0.1 ++ y.1) × IsValidBoardIn y.0.0 y.0.1) same (parts, t.1);
  reads_back = λ p rest h. rw (version-reads_back p.0 p.1 rest h, (board_in_version_codec p.0).reads_back p.1 rest h) refl;
}

-- ---- the watches

abbrev pub watches_bytes : Version → List ℕ → List ℕ
watches_bytes One watches = []
watches_bytes Two watches = counted_bytes address_bytes watches

abbrev pub FitsWatches : Version → List ℕ → Type 0
FitsWatches One watches = watches ≡ []
FitsWatches Two watches = (length watches ≤ 8) × AllByRecursion (λ n. n < 2 ^ 16) watches

version-1-reads-no-watches : (bytes : List ℕ) (x : List ℕ × List ℕ) → Some ([], bytes) ≡ Some x → (bytes ≡ [] ++ x.1) × (x.0 ≡ [])
version-1-reads-no-watches bytes x e = let same : ([], bytes) ≡ x = cc in subst (λ (y : List ℕ × List ℕ). (bytes ≡ [] ++ y.1) × (y.0 ≡ [])) same (refl, refl)

pub watches_codec : (version : Version) → IsCodec (watches_bytes version) (FitsWatches version) (watches_at version)
unfolding watches_at
watches_codec One = record { reads_encoding = λ bytes x all e. version-1-reads-no-watches bytes x e; reads_back = λ a rest h. ap (λ (l : List ℕ). Some (l, rest)) (sym h) }
watches_codec Two = counted_codec 8 (omega arith) word_codec
