-- States that are stored in blocks of the same size.
use Rattle.std.proofs.Common.{◌≡◌, ℕ, ◌+◌, ◌*◌, ◌-◌, ◌/◌, ◌%◌, ◌<◌, ◌≤◌, zero, suc, List, [], ◌∷◌, ◌++◌, length, get_or, sym, ap, ◌∙◌, arith, length-append, append_assoc}
use Rattle.std.proofs.Math.Nat.{suc-mul}
use Rattle.std.proofs.lemmas.List.{append-nil, get_or_append_left, get_or-append_right}
use Rattle.std.proofs.lemmas.List.Elements.{All-nil, All-push, All-same, All-tail}
use Rattle.mcs_search.specs.declared.block.TheConstants.{STATES_PER_BLOCK}
use Rattle.mcs_search.specs.StateStores.{StateStore, states_of_blocks, AreFull, ArenaInvariant}

abbrev IsFullBlock : (width n : ℕ) → StateStore → Type 0
IsFullBlock width n b = (b.width ≡ width) × (length b.states ≡ n)

first_block-length : (width n : ℕ) (b : StateStore) (bs : List StateStore) → AreFull width n (b ∷ bs) → length b.states ≡ n
first_block-length width n b bs all = (all 0 b (omega arith)).1

-- If each block has `n` states, the blocks together have `length bs * n` states.
pub length-states_of_blocks : (width n : ℕ) (bs : List StateStore) → AreFull width n bs → length (states_of_blocks bs) ≡ length bs * n
unfolding states_of_blocks
length-states_of_blocks width n [] all = omega arith
length-states_of_blocks width n (b ∷ bs) all =
    let rest = length-states_of_blocks width n bs (All-tail (IsFullBlock width n) b bs all) in
    let first_length = first_block-length width n b bs all in
    let sum = length-append b.states (states_of_blocks bs) in
    let q = suc-mul (length bs) n in
    omega arith

-- The state at index `q * n + r` of the arena is the state at index `r` of full block `q`.
pub state-in_full_block : (width n q r : ℕ) (bs : List StateStore) (ys : List (List ℕ)) (d : StateStore) → AreFull width n bs → q < length bs → r < n →
    get_or (states_of_blocks bs ++ ys) (q * n + r) [] ≡ get_or (get_or bs q d).states r []
unfolding states_of_blocks
state-in_full_block width n q r [] ys d all h k = absurd (omega arith)
state-in_full_block width n zero r (b ∷ bs) ys d all h k =
    let first_length = first_block-length width n b bs all in
    let at : zero * n + r ≡ r = omega arith in
    ap (λ i. get_or ((b.states ++ states_of_blocks bs) ++ ys) i []) at
    ∙ ap (λ ks. get_or ks r []) (append_assoc b.states (states_of_blocks bs) ys)
    ∙ get_or_append_left b.states (states_of_blocks bs ++ ys) [] r (omega arith)
state-in_full_block width n (suc q) r (b ∷ bs) ys d all h k =
    let first_length = first_block-length width n b bs all in
    let m = suc-mul q n in
    let at : suc q * n + r - n ≡ q * n + r = omega arith in
    ap (λ ks. get_or ks (suc q * n + r) []) (append_assoc b.states (states_of_blocks bs) ys)
    ∙ get_or-append_right b.states (states_of_blocks bs ++ ys) n (suc q * n + r) [] first_length (omega arith)
    ∙ ap (λ i. get_or (states_of_blocks bs ++ ys) i []) at
    ∙ state-in_full_block width n q r bs ys d (All-tail (IsFullBlock width n) b bs all) (omega arith) k

-- The state at index `r` after the full blocks is the state at index `r` of the last block.
pub state-after_full_blocks : (width n r : ℕ) (bs : List StateStore) (ys : List (List ℕ)) → AreFull width n bs →
    get_or (states_of_blocks bs ++ ys) (length bs * n + r) [] ≡ get_or ys r []
state-after_full_blocks width n r bs ys all =
    let l = length-states_of_blocks width n bs all in
    let at : length bs * n + r - length bs * n ≡ r = omega arith in
    get_or-append_right (states_of_blocks bs) ys (length bs * n) (length bs * n + r) [] l (omega arith)
    ∙ ap (λ i. get_or ys i []) at

-- Appending a block appends its states.
pub states_of_blocks-append_block : (bs : List StateStore) (b : StateStore) → states_of_blocks (bs ++ b ∷ []) ≡ states_of_blocks bs ++ b.states
unfolding states_of_blocks
states_of_blocks-append_block [] b = append-nil b.states
states_of_blocks-append_block (a ∷ bs) b = ap (λ ks. a.states ++ ks) (states_of_blocks-append_block bs b) ∙ sym (append_assoc a.states (states_of_blocks bs) b.states)

-- ---- the states of an arena

pub arena-length : (width len : ℕ) (bs : List StateStore) (last : StateStore) → ArenaInvariant width len bs last → len ≡ length (states_of_blocks bs ++ last.states)
arena-length width len bs last fits = fits.count ∙ sym (length-append (states_of_blocks bs) last.states)

pub arena_state-in_full_block : (width len i : ℕ) (bs : List StateStore) (last d : StateStore) → ArenaInvariant width len bs last → i / 65536 < length bs →
    get_or (get_or bs (i / 65536) d).states (i % 65536) [] ≡ get_or (states_of_blocks bs ++ last.states) i []
arena_state-in_full_block width len i bs last d fits h =
    let at : i / 65536 * 65536 + i % 65536 ≡ i = omega arith in
    sym (state-in_full_block width 65536 (i / 65536) (i % 65536) bs last.states d fits.blocks h (omega arith))
    ∙ ap (λ j. get_or (states_of_blocks bs ++ last.states) j []) at

-- An index after the full blocks is an index in the last block.
pub index-in_last_block : (width len i : ℕ) (bs : List StateStore) (last : StateStore) → ArenaInvariant width len bs last → i < length (states_of_blocks bs ++ last.states) → length bs ≤ i / 65536 →
    (i / 65536 ≡ length bs) × (i % 65536 < length last.states)
index-in_last_block width len i bs last fits h k =
    let l = length-states_of_blocks width 65536 bs fits.blocks in
    let sum = length-append (states_of_blocks bs) last.states in
    let last_not_full = fits.last_not_full in
    (omega arith, omega arith)

pub arena_state-in_last_block : (width len i : ℕ) (bs : List StateStore) (last : StateStore) → ArenaInvariant width len bs last → i < length (states_of_blocks bs ++ last.states) → length bs ≤ i / 65536 →
    get_or last.states (i % 65536) [] ≡ get_or (states_of_blocks bs ++ last.states) i []
arena_state-in_last_block width len i bs last fits h k =
    let in-last = index-in_last_block width len i bs last fits h k in
    let e = in-last.0 in
    let at : length bs * 65536 + i % 65536 ≡ i = omega arith in
    sym (state-after_full_blocks width 65536 (i % 65536) bs last.states fits.blocks)
    ∙ ap (λ j. get_or (states_of_blocks bs ++ last.states) j []) at

-- ---- an arena after one more state is added

pub arena_invariant-after_push : (width len : ℕ) (bs : List StateStore) (last new : StateStore) (state : List ℕ) → ArenaInvariant width len bs last →
    new.width ≡ last.width → new.states ≡ last.states ++ state ∷ [] → length new.states < STATES_PER_BLOCK → ArenaInvariant width (len + 1) bs new
arena_invariant-after_push width len bs last new state fits w k has_room =
    let longer_by_one = ap length k ∙ length-append last.states (state ∷ []) in
    let count = fits.count in
    record {
      blocks = fits.blocks;
      last_width = w ∙ fits.last_width;
      last_not_full = has_room;
      count = omega arith;
    }

-- The invariant still holds if the new state fills the last block and an empty block becomes the
-- last block.
pub arena_invariant-after_block_filled : (width len : ℕ) (bs : List StateStore) (last new next : StateStore) (state : List ℕ) → ArenaInvariant width len bs last →
    new.width ≡ last.width → new.states ≡ last.states ++ state ∷ [] → STATES_PER_BLOCK ≤ length new.states → next ≡ record { width = width; states = [] } →
    ArenaInvariant width (len + 1) (bs ++ new ∷ []) next
arena_invariant-after_block_filled width len bs last new next state fits w k full-now is =
    let longer_by_one = ap length k ∙ length-append last.states (state ∷ []) in
    let last_not_full = fits.last_not_full in
    let count = fits.count in
    let total_length = ap length (states_of_blocks-append_block bs new) ∙ length-append (states_of_blocks bs) new.states in
    let next_is_empty : length next.states ≡ 0 = ap (λ (s : StateStore). length s.states) is in
    record {
      blocks = All-push (IsFullBlock width STATES_PER_BLOCK) bs new fits.blocks (w ∙ fits.last_width, omega arith);
      last_width = ap (λ (s : StateStore). s.width) is;
      last_not_full = omega arith;
      count = omega arith;
    }

pub arena_states-after_push : (bs : List StateStore) (last new : StateStore) (state : List ℕ) → new.states ≡ last.states ++ state ∷ [] → states_of_blocks bs ++ new.states ≡ (states_of_blocks bs ++ last.states) ++ state ∷ []
arena_states-after_push bs last new state k = ap (λ ks. states_of_blocks bs ++ ks) k ∙ sym (append_assoc (states_of_blocks bs) last.states (state ∷ []))

pub arena_states-after_block_filled : (width : ℕ) (bs : List StateStore) (last new next : StateStore) (state : List ℕ) → new.states ≡ last.states ++ state ∷ [] → next ≡ record { width = width; states = [] } →
    states_of_blocks (bs ++ new ∷ []) ++ next.states ≡ (states_of_blocks bs ++ last.states) ++ state ∷ []
arena_states-after_block_filled width bs last new next state k is =
    ap (λ (s : StateStore). states_of_blocks (bs ++ new ∷ []) ++ s.states) is
    ∙ append-nil (states_of_blocks (bs ++ new ∷ []))
    ∙ states_of_blocks-append_block bs new
    ∙ arena_states-after_push bs last new state k

-- ---- an empty arena

pub arena_invariant-of_empty_arena : (width : ℕ) (bs : List StateStore) (last : StateStore) → bs ≡ [] → last ≡ record { width = width; states = [] } → ArenaInvariant width 0 bs last
unfolding states_of_blocks
arena_invariant-of_empty_arena width bs last empty is =
    let last_is_empty : length last.states ≡ 0 = ap (λ (s : StateStore). length s.states) is in
    let no_full_blocks : length (states_of_blocks bs) ≡ 0 = ap (λ xs. length (states_of_blocks xs)) empty in
    record {
      blocks = All-same (IsFullBlock width STATES_PER_BLOCK) bs [] empty (All-nil (IsFullBlock width STATES_PER_BLOCK));
      last_width = ap (λ (s : StateStore). s.width) is;
      last_not_full = omega arith;
      count = omega arith;
    }
