-- Reading a state is the inverse of encoding it, if each field fits its width. The fields need not
-- make a valid state.
use Rattle.std.proofs.Common.{◌≡◌, ℕ, suc, ◌*◌, ◌<◌, ◌≤◌, ◌^◌, List, [], ◌∷◌, ◌++◌, length, get_or, Some, None, inl, inr, refl, sym, ap, subst, ◌∙◌, append_assoc, arith}
use Rattle.std.specs.List.{flat_map, All, AllByRecursion}
use Rattle.std.specs.Int.{w32, to_be_bytes}
use Rattle.std.proofs.lemmas.List.Elements.{recursion_from_All}
use Rattle.mcs_model.specs.declared.board.BoardParts.{BoardParts}
use Rattle.mcs_model.specs.declared.board.ChainPart.{ChainPart}
use Rattle.mcs_model.specs.Boards.{key_count, no_chain}
use Rattle.mcs_model.specs.declared.regs.Regs.{Regs}
use Rattle.mcs_model.specs.Bus.{BusState}
use Rattle.mcs_model.specs.BenchState.{BenchState}
use Rattle.mcs_model.specs.Validity.{AreBelow, IsValid}
use Rattle.mcs_version1.specs.BenchState.{BenchState1}
use Rattle.mcs_version1.specs.Lift.{lift}
use Rattle.mcs_version1.specs.Validity.{IsValid1}
use Rattle.mcs_version1.proofs.Limits.{small-board-if-valid-in-version-1, valid-board-if-valid-in-version-1, valid-in-version-1-if-small}
use Rattle.mcs_codec.specs.Reading.{read_all_of}
use Rattle.mcs_codec.specs.BoardBytes.{counted_bytes}
use Rattle.mcs_codec.specs.CommandBytes.{address_bytes}
use Rattle.mcs_codec.specs.StateBytes.{registers_bytes, src_bytes, chains_to_breakpoints_bytes, field_group_bytes}
use Rattle.mcs_codec.specs.StateReading.{chains_at, state_at}
use Rattle.mcs_codec.specs.Codec.{EncodesInSomeVersion, EncodesState, EncodesState1, EncodesStateBy, version_of}
use Rattle.mcs_codec.specs.declared.versions.Version.{Version}
use Rattle.mcs_codec.specs.declared.versions.Version.TheVariants.{One, Two}
use Rattle.mcs_codec.proofs.Codecs.{IsCodec, IsBytes, any_byte_codec, bytes_codec, word_codec, long_codec, last_step, next_step, steps_of_empty_block, repeated_codec, counted_codec, giving_codec, whole_value_reads_encoding, whole_value_reads_back}
use Rattle.mcs_codec.proofs.VersionCodec.{IsValidBoardIn, FitsWatches, versioned_board_bytes, watches_bytes, versioned_board_codec, watches_codec, board-bytes-begin-board}

-- ---- widths and lengths

abbrev pub AreWords : List ℕ → Type 0
AreWords l = AllByRecursion (λ n. n < 2 ^ 16) l

-- holds if there is one list of bits for each chain, with ten bits for each chip of the chain
abbrev pub AreChains : List ChainPart → List (List ℕ) → Type 0
AreChains [] [] = Unit {0}
AreChains (c ∷ chains) (bits ∷ others) = (length bits ≡ 10 * c.chips) × AreChains chains others
AreChains _ _ = ⊥

empty_list_for_no_chains : (l : List (List ℕ)) → AreChains [] l → (u : Unit {0}) × ([] ≡ l) × Unit {0}
empty_list_for_no_chains [] h = (tt, refl, tt)
empty_list_for_no_chains (bits ∷ l) h = absurd h

first_bits_and_other_chains : (c : ChainPart) (chains : List ChainPart) (l : List (List ℕ)) → AreChains (c ∷ chains) l → (p : List ℕ × List (List ℕ)) × (p.0 ∷ p.1 ≡ l) × ((length p.0 ≡ 10 * c.chips) × AreChains chains p.1)
first_bits_and_other_chains c chains [] h = absurd h
first_bits_and_other_chains c chains (bits ∷ l) h = ((bits, l), refl, h)

chains_codec : (chains : List ChainPart) → IsCodec (flat_map (λ bits. bits)) (AreChains chains) (chains_at chains)
unfolding chains_at
chains_codec [] = giving_codec (λ (_ : Unit {0}). []) (flat_map (λ bits. bits)) (AreChains []) (steps_of_empty_block _) (λ u h. (refl, tt)) empty_list_for_no_chains
chains_codec (c ∷ chains) = giving_codec (λ p. p.0 ∷ p.1) (flat_map (λ bits. bits)) (AreChains (c ∷ chains)) (next_step _ (bytes_codec (10 * c.chips)) (λ _ _. last_step _ (chains_codec chains))) (λ p h. (refl, h)) (first_bits_and_other_chains c chains)

-- ---- a state in either version

abbrev pub versioned_state_bytes : Version → BenchState → List ℕ
versioned_state_bytes version s = to_be_bytes w32 s.seq ++ (versioned_board_bytes version s.bus.board ++ field_group_bytes s.processor s.bus s.breakpoints (watches_bytes version s.watches))

-- holds if each field of the state fits its width; the conditions are in the order of the bytes
abbrev pub HasWidths : Version → BenchState → Type 0
HasWidths version s =
    (s.seq < 2 ^ 32) × (IsValidBoardIn version s.bus.board
    × ((length s.bus.rom ≡ 4096) × ((length s.bus.ram ≡ 2048) × ((length s.bus.status ≡ 512) × ((length s.bus.ram_ports ≡ 32) × ((length s.bus.rom_ports ≡ 16)
    × (Unit {0} × (Unit {0} × ((length s.processor.r ≡ 16) × ((s.processor.pc < 2 ^ 16) × (((length s.processor.ret ≡ 3) × AreWords s.processor.ret)
    × (Unit {0} × (Unit {0} × ((length s.bus.ram_src ≡ 8) × (Unit {0}
    × (AreChains s.bus.board.chains.items s.bus.chains × ((length s.bus.keys ≡ key_count s.bus.board) × (Unit {0} × (((length s.breakpoints ≤ 32) × AreWords s.breakpoints)
    × FitsWatches version s.watches)))))))))))))))))))

abbrev Fields : Type 0
Fields = ℕ × ((Version × BoardParts) × (List ℕ × (List ℕ × (List ℕ × (List ℕ × (List ℕ × (ℕ × (ℕ × (List ℕ × (ℕ × (List ℕ × (ℕ × (ℕ × (List ℕ × (ℕ × (List (List ℕ) × (List ℕ × (ℕ × (List ℕ × List ℕ)))))))))))))))))))

abbrev fields_of : Version × BenchState → Fields
fields_of (version, s) = (s.seq, ((version, s.bus.board), (s.bus.rom, (s.bus.ram, (s.bus.status, (s.bus.ram_ports, (s.bus.rom_ports, (s.processor.acc, (s.processor.cy, (s.processor.r, (s.processor.pc, (s.processor.ret, (s.processor.dcl, (s.bus.rom_src, (s.bus.ram_src, (s.processor.owed, (s.bus.chains, (s.bus.keys, (s.bus.test, (s.breakpoints, s.watches))))))))))))))))))))

abbrev state_from : Fields → Version × BenchState
state_from (seq, ((version, board), (rom, (ram, (status, (ram_ports, (rom_ports, (acc, (cy, (r, (pc, (ret, (dcl, (rom_src, (ram_src, (owed, (chains, (keys, (test, (breakpoints, watches)))))))))))))))))))) = (
  version,
  record {
    processor = record { acc = acc; cy = cy; r = r; pc = pc; ret = ret; dcl = dcl; owed = owed };
    bus = record { board = board; rom = rom; ram = ram; status = status; ram_ports = ram_ports; rom_ports = rom_ports; rom_src = rom_src; ram_src = ram_src; chains = chains; keys = keys; test = test };
    breakpoints = breakpoints;
    watches = watches;
    seq = seq;
  },
)

regroup_three : (a b c rest : List ℕ) → (a ++ (b ++ c)) ++ rest ≡ a ++ (b ++ (c ++ rest))
regroup_three a b c rest = simp append_assoc

regroup_five : (a b c d e rest : List ℕ) → (a ++ (b ++ (c ++ (d ++ e)))) ++ rest ≡ a ++ (b ++ (c ++ (d ++ (e ++ rest))))
regroup_five a b c d e rest = simp append_assoc

-- `field_group_bytes` is the concatenation of all fields, in the order of their bytes
fields_in_order : (b : BusState) (p : Regs) (breakpoints rest : List ℕ)
    → field_group_bytes p b breakpoints rest
    ≡ b.rom ++ (b.ram ++ (b.status ++ (b.ram_ports ++ (b.rom_ports ++ (p.acc ∷ p.cy ∷ (p.r ++ (address_bytes p.pc ++ (flat_map address_bytes p.ret ++ (p.dcl ∷ b.rom_src ∷ (b.ram_src ++ (p.owed ∷ (flat_map (λ bits. bits) b.chains ++ (b.keys ++ (b.test ∷ (counted_bytes address_bytes breakpoints ++ rest)))))))))))))))
fields_in_order b p breakpoints rest =
    let chains_to_breakpoints = chains_to_breakpoints_bytes b breakpoints ++ rest in
    regroup_five b.rom b.ram b.status b.ram_ports b.rom_ports (registers_bytes p ++ (src_bytes p b ++ chains_to_breakpoints))
    ∙ ap (λ l. b.rom ++ (b.ram ++ (b.status ++ (b.ram_ports ++ (b.rom_ports ++ (p.acc ∷ p.cy ∷ l)))))) (
    regroup_three p.r (address_bytes p.pc) (flat_map address_bytes p.ret) (src_bytes p b ++ chains_to_breakpoints)
    ∙ ap (λ l. p.r ++ (address_bytes p.pc ++ (flat_map address_bytes p.ret ++ (p.dcl ∷ b.rom_src ∷ l)))) (
    append_assoc b.ram_src (p.owed ∷ []) chains_to_breakpoints ∙ ap (λ l. b.ram_src ++ (p.owed ∷ l)) (regroup_three (flat_map (λ bits. bits) b.chains) b.keys (b.test ∷ counted_bytes address_bytes breakpoints) rest)
    )
    )

pub state_codec : IsCodec (λ (p : Version × BenchState). versioned_state_bytes p.0 p.1) (λ p. HasWidths p.0 p.1) state_at
unfolding state_at
state_codec = giving_codec state_from (λ p. versioned_state_bytes p.0 p.1) (λ p. HasWidths p.0 p.1)
    (next_step _ long_codec (λ _ _. next_step _ versioned_board_codec (λ versioned _.
    next_step _ (bytes_codec 4096) (λ _ _. next_step _ (bytes_codec 2048) (λ _ _. next_step _ (bytes_codec 512) (λ _ _. next_step _ (bytes_codec 32) (λ _ _. next_step _ (bytes_codec 16) (λ _ _.
    next_step _ any_byte_codec (λ _ _. next_step _ any_byte_codec (λ _ _. next_step _ (bytes_codec 16) (λ _ _. next_step _ word_codec (λ _ _. next_step _ (repeated_codec 3 word_codec) (λ _ _.
    next_step _ any_byte_codec (λ _ _. next_step _ any_byte_codec (λ _ _. next_step _ (bytes_codec 8) (λ _ _. next_step _ any_byte_codec (λ _ _.
    next_step _ (chains_codec versioned.1.chains.items) (λ _ _. next_step _ (bytes_codec (key_count versioned.1)) (λ _ _. next_step _ any_byte_codec (λ _ _. next_step _ (counted_codec 32 (omega arith) word_codec) (λ _ _.
    last_step _ (watches_codec versioned.0))))))))))))))))))))))
    (λ p h. let v = (state_from p).0 in let s = (state_from p).1 in (ap (λ l. to_be_bytes w32 s.seq ++ (versioned_board_bytes v s.bus.board ++ l)) (fields_in_order s.bus s.processor s.breakpoints (watches_bytes v s.watches)), h)) (λ p h. (fields_of p, refl, h))

-- ---- the fields of a valid state fit their widths

are_words_if_below_limit : (limit : ℕ) (items : List ℕ) → limit ≤ 2 ^ 16 → All (λ n. n < limit) items → AreWords items
are_words_if_below_limit limit items le h = recursion_from_All (λ n. n < 2 ^ 16) items (λ i d lt. let x = h i d lt in omega arith)

pub are_chains_if_bits_in_range : (chains : List ChainPart) (l : List (List ℕ)) → length l ≡ length chains → ((i : ℕ) → i < length chains → AreBelow (10 * (get_or chains i no_chain).chips) 2 (get_or l i [])) → AreChains chains l
are_chains_if_bits_in_range [] [] len h = tt
are_chains_if_bits_in_range [] (bits ∷ l) len h = absurd cc
are_chains_if_bits_in_range (c ∷ chains) [] len h = absurd cc
are_chains_if_bits_in_range (c ∷ chains) (bits ∷ l) len h = ((h 0 (omega arith)).has_count, are_chains_if_bits_in_range chains l (omega arith) (λ i lt. h (suc i) (omega arith)))

widths_of_versioned_state : (version : Version) (s : BenchState) → IsValid s → IsValidBoardIn version s.bus.board → FitsWatches version s.watches → HasWidths version s
widths_of_versioned_state version s h board watches =
    let b = h.bus.in_range in
    let p = h.processor in (
      omega (arith, h.seq),
      (
        board,
        (
          b.rom.has_count,
          (
            b.ram.has_count,
            (
              b.status.has_count,
              (
                b.ram_ports.has_count,
                (
                  b.rom_ports.has_count,
                  (
                    tt,
                    (
                      tt,
                      (
                        p.r.has_count,
                        (
                          omega (arith, p.pc),
                          (
                            (p.ret.has_count, are_words_if_below_limit 4096 s.processor.ret (omega arith) p.ret.below),
                            (
                              tt,
                              (
                                tt,
                                (
                                  b.ram_src.has_count,
                                  (
                                    tt,
                                    (
                                      are_chains_if_bits_in_range s.bus.board.chains.items s.bus.chains b.chains b.chain_bits,
                                      (
                                        b.keys.has_count,
                                        (
                                          tt,
                                          (
                                            (h.breakpoints.few, are_words_if_below_limit 4096 s.breakpoints (omega arith) h.breakpoints.addresses),
                                            watches,
                                          ),
                                        ),
                                      ),
                                    ),
                                  ),
                                ),
                              ),
                            ),
                          ),
                        ),
                      ),
                    ),
                  ),
                ),
              ),
            ),
          ),
        ),
      ),
    )

pub widths_of_valid_state : (s : BenchState) → IsValid s → HasWidths Two s
widths_of_valid_state s h = widths_of_versioned_state Two s h h.bus.board (h.watches.few, are_words_if_below_limit 2048 s.watches (omega arith) h.watches.indices)

pub lifted-state-is-valid : (s : BenchState1) → IsValid1 s → IsValid (lift s)
lifted-state-is-valid s h = record {
  processor = h.processor;
  bus = record { board = valid-board-if-valid-in-version-1 s.bus.board h.bus.board; in_range = h.bus.in_range; absent = h.bus.absent };
  breakpoints = h.breakpoints;
  watches = record { few = omega arith; indices = λ i d lt. absurd (omega arith); rising = λ i l. absurd (omega arith) };
  seq = h.seq;
}

-- ---- the contracts of the public functions

-- if all of the bytes are read as a valid state, they encode that state
pub read_state_is_encoded : (version : Version) (bytes : List ℕ) (s : BenchState) → IsBytes bytes → Some (version, s) ≡ read_all_of state_at bytes → IsValid s → EncodesStateBy version bytes s
read_state_is_encoded Two bytes s all e valid = record { is = (whole_value_reads_encoding state_codec bytes (Two, s) all (sym e)).0; valid = valid }
read_state_is_encoded One bytes s all e valid =
    let t = whole_value_reads_encoding state_codec bytes (One, s) all (sym e) in
    let no_watches : s.watches ≡ [] = t.1.1.1.1.1.1.1.1.1.1.1.1.1.1.1.1.1.1.1.1.1 in
    record {
      version_1 = record { processor = s.processor; bus = s.bus; breakpoints = s.breakpoints; seq = s.seq };
      spells = record { is = t.0; valid = record { processor = valid.processor; bus = record { board = valid-in-version-1-if-small s.bus.board valid.bus.board t.1.1.0.1; in_range = valid.bus.in_range; absent = valid.bus.absent }; breakpoints = valid.breakpoints; seq = valid.seq } };
      lifted = ap (λ (l : List ℕ). record s { watches = l }) no_watches;
    }

-- if the bytes encode a state, they are read as that state
pub encoded_state_is_read : (version : Version) (bytes : List ℕ) (s : BenchState) → EncodesStateBy version bytes s → read_all_of state_at bytes ≡ Some (version, s)
encoded_state_is_read Two bytes s h = ap (read_all_of state_at) h.is ∙ whole_value_reads_back state_codec (Two, s) (widths_of_valid_state s h.valid)
encoded_state_is_read One bytes s h =
    let t = lift h.version_1 in
    let v = h.spells.valid in
    let widths = widths_of_versioned_state One t (lifted-state-is-valid h.version_1 v) (valid-board-if-valid-in-version-1 t.bus.board v.bus.board, small-board-if-valid-in-version-1 t.bus.board v.bus.board) refl in
    ap (read_all_of state_at) h.spells.is ∙ whole_value_reads_back state_codec (One, t) widths ∙ ap (λ (u : BenchState). Some (One, u)) (sym h.lifted)

pub encoded_state_is_valid : (version : Version) (bytes : List ℕ) (s : BenchState) → EncodesStateBy version bytes s → IsValid s
encoded_state_is_valid Two bytes s h = h.valid
encoded_state_is_valid One bytes s h = subst IsValid (sym h.lifted) (lifted-state-is-valid h.version_1 h.spells.valid)

-- the fifth byte determines the version in which the bytes encode a state
pub version_of_encoded_state : (version : Version) (bytes : List ℕ) (s : BenchState) → EncodesStateBy version bytes s → version_of bytes ≡ Some version
version_of_encoded_state Two bytes s h = ap version_of h.is
version_of_encoded_state One bytes s h = ap version_of h.spells.is ∙ (board-bytes-begin-board h.version_1.bus.board _ (valid-board-if-valid-in-version-1 h.version_1.bus.board h.spells.valid.bus.board)).0

pub no_state_encoded_if_none_read : (bytes : List ℕ) → None ≡ read_all_of state_at bytes → (version : Version) (s : BenchState) → EncodesStateBy version bytes s → ⊥
no_state_encoded_if_none_read bytes e version s h =
    let versioned : Version × BenchState = (version, s) in
    let back : Some versioned ≡ None = sym (encoded_state_is_read version bytes s h) ∙ sym e in cc

pub no_state_encoded_if_read_is_invalid : (bytes : List ℕ) (versioned : Version) (t : BenchState) → Some (versioned, t) ≡ read_all_of state_at bytes → (IsValid t → ⊥) → (version : Version) (s : BenchState) → EncodesStateBy version bytes s → ⊥
no_state_encoded_if_read_is_invalid bytes versioned t e wrong version s h =
    let one : Some (versioned, t) ≡ Some (version, s) = e ∙ encoded_state_is_read version bytes s h in
    let same : (version, s) ≡ (versioned, t) = cc in
    wrong (subst IsValid (ap (λ (p : Version × BenchState). p.1) same) (encoded_state_is_valid version bytes s h))

pub encoded_state_is_unique : (bytes : List ℕ) (v w : Version) (s t : BenchState) → EncodesStateBy v bytes s → EncodesStateBy w bytes t → (v ≡ w) × (s ≡ t)
encoded_state_is_unique bytes v w s t h k =
    let one : Some (v, s) ≡ Some (w, t) = sym (encoded_state_is_read v bytes s h) ∙ encoded_state_is_read w bytes t k in
    let same : (v, s) ≡ (w, t) = cc in
    (ap (λ (p : Version × BenchState). p.0) same, ap (λ (p : Version × BenchState). p.1) same)

-- ---- a state in one of the two versions

pub encoded_in_some_version : (version : Version) (bytes : List ℕ) (s : BenchState) → EncodesStateBy version bytes s → EncodesInSomeVersion bytes s
encoded_in_some_version One bytes s h = inr h
encoded_in_some_version Two bytes s h = inl h

pub not_encoded_in_any_version : (bytes : List ℕ) → ((version : Version) (s : BenchState) → EncodesStateBy version bytes s → ⊥) → (s : BenchState) → EncodesInSomeVersion bytes s → ⊥
not_encoded_in_any_version bytes none s (inl h) = none Two s h
not_encoded_in_any_version bytes none s (inr h) = none One s h

pub not_encoded_in_both_versions : (bytes : List ℕ) (s : BenchState) (t : BenchState1) → EncodesState bytes s → EncodesState1 bytes t → ⊥
not_encoded_in_both_versions bytes s t h k = let same : Two ≡ One = (encoded_state_is_unique bytes Two One s (lift t) h (record { version_1 = t; spells = k; lifted = refl })).0 in absurd cc
