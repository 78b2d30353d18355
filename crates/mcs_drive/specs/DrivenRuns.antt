-- The effects of inputs on a machine. Before each cycle the environment sets the keys and the TEST
-- pin to any levels. The machine then executes one cycle, as the opcode table defines it. To
-- believe that a property holds for all inputs, a reader needs to trust only this file,
-- TrackedMachine, Marks, and the definitions that these three use. (Defined by Fethsaim, not by
-- Intel.)
use Rattle.std.specs.Prelude.{◌≡◌, ◌≢◌, ◌<◌, ◌≤◌, ◌+◌, ℕ, zero, suc, List, replicate, slice_index, unwrap_or}
use Rattle.std.specs.List.{sum}
use Rattle.mcs_model.specs.declared.board.BoardParts.{BoardParts}
use Rattle.mcs_model.specs.Boards.{key_count}
use Rattle.mcs_model.specs.Effect.{cycle_of}
use Rattle.mcs_model.specs.Running.{Machine}
use Rattle.mcs_model.specs.Validity.{AreBelow}

-- the input levels of a machine: one for each key, row by row, and one for the TEST pin
pub record Levels : Type 0 where
  pub keys : List ℕ
  pub test : ℕ

-- holds if `l` has a level, 0 or 1, for each key of the board and for TEST
pub record FitsBoard (b : BoardParts) (l : Levels) : Type 0 where
  pub keys : AreBelow (key_count b) 2 l.keys
  pub test : l.test < 2

-- Limits on the inputs. `keys` has the highest level, 0 or 1, of each key, row by row. `test` is
-- the highest level of the TEST pin. `together` is the largest number of keys that are down at the
-- same time. `wait` is the smallest number of cycles between two changes of the levels; 0 and 1
-- allow all changes. `held` is the largest number of cycles for which a key stays down; 0 sets no
-- limit.
pub record InputLimits : Type 0 where
  pub keys : List ℕ
  pub test : ℕ
  pub together : ℕ
  pub wait : ℕ
  pub held : ℕ

-- Holds if `l` has a level for each key of the board and for TEST, and all levels are within the
-- limits. The limits `wait` and `held` do not apply to the levels of a single moment.
pub record AreAllowed (limits : InputLimits) (b : BoardParts) (l : Levels) : Type 0 where
  pub fits : FitsBoard b l
  pub keys : (i : ℕ) → slice_index l.keys i ≤ slice_index limits.keys i
  pub test : l.test ≤ limits.test
  pub together : sum l.keys ≤ limits.together

-- Holds if the levels change at moment `k`: the levels before cycle `k` differ from those before the
-- previous cycle. The levels before cycle 0 are no change.
abbrev pub Changes : (ℕ → Levels) → ℕ → Type 0
Changes f zero = ⊥
Changes f (suc k) = f (suc k) ≢ f k

-- Holds if each key is up at some moment of any `limit + 1` successive moments, so that it stays
-- down for at most `limit` cycles. A limit of 0 allows any time.
abbrev pub AreReleasedWithin : ℕ → (ℕ → Levels) → Type 0
AreReleasedWithin limit f =
    1 ≤ limit → (key k : ℕ) → (d : ℕ) × (d ≤ limit) × (slice_index (f (k + d)).keys key ≡ 0)

-- Holds if the inputs `f` are within the limits. All levels before each cycle are within the limits,
-- two changes of the levels are at least `wait` cycles apart, and no key stays down for more than
-- `held` cycles. `f i` has the levels before cycle `i`, counted from 0.
pub record AreInputsAllowed (limits : InputLimits) (b : BoardParts) (f : ℕ → Levels) : Type 0 where
  pub levels : (k : ℕ) → AreAllowed limits b (f k)
  pub spaced : (i j : ℕ) → i < j → Changes f i → Changes f j → i + limits.wait ≤ j
  pub released : AreReleasedWithin limits.held f

-- the limits that allow all inputs of a board
abbrev pub no_limits : BoardParts → InputLimits
no_limits b = record {
  keys = replicate (key_count b) 1;
  test = 1;
  together = key_count b;
  wait = 0;
  held = 0;
}

-- `no_limits` allows all inputs that have a level for each key of the board and for TEST
abbrev pub NoLimitsAllowAllLevels : Type 0
NoLimitsAllowAllLevels =
    (b : BoardParts) (f : ℕ → Levels) → ((k : ℕ) → FitsBoard b (f k)) → AreInputsAllowed (no_limits b) b f

-- a machine with its keys and TEST set to the input levels `l`
abbrev pub with_levels : Levels → Machine → Machine
with_levels l s = (s.0, record s.1 { keys = l.keys; test = l.test })

-- a machine after one cycle; an opcode outside the opcode table leaves it unchanged
abbrev pub cycled : Machine → Machine
cycled s = unwrap_or (cycle_of s.0 s.1) s

-- a machine after `k` cycles, if its inputs are set to the levels `f i` before cycle `i`, counted
-- from 0
abbrev pub driven : (ℕ → Levels) → ℕ → Machine → Machine
driven f zero s = s
driven f (suc k) s = cycled (with_levels (f k) (driven f k s))
