-- A forecast of a run: the instructions that the run would begin, each with the machine before and
-- after it. (Defined by Fethsaim, not by Intel. A two-cycle instruction does all its work in its
-- first cycle, so the forecast contains the machine after that cycle.)
use Rattle.std.specs.Prelude.{◌≡◌, ℕ, ◌+◌, ◌%◌, ◌++◌, Bool, true, false, not, ◌&&◌, ◌==◌, List, map, Option, Some}
use Rattle.std.specs.List.{count_by, filter, range_with_len}
use Rattle.mcs_model.specs.declared.op.Op.{Op}
use Rattle.mcs_model.specs.declared.op.Op.TheVariants.{Jcn, Isz}
use Rattle.mcs_model.specs.declared.stop.Stop.{Stop}
use Rattle.mcs_model.specs.Effect.{instruction_at}
use Rattle.mcs_model.specs.Running.{Machine, StopConditions, after_cycles, after_run, run_length, stop_reason_at}

-- an instruction that a run begins: the number of cycles before it, and the machine before and
-- after its first cycle
pub record BegunInstruction : Type 0 where
  pub cycles : ℕ
  pub before : Machine
  pub after : Machine

-- cycle `k` (counted from 0) of a run from the machine `s`, with the machine before and after the
-- cycle
abbrev pub cycle_at : Machine → ℕ → BegunInstruction
cycle_at s k = record { cycles = k; before = after_cycles k s; after = after_cycles (k + 1) s }

-- true if a cycle begins an instruction: no second cycle is pending before it
abbrev pub begins : BegunInstruction → Bool
begins b = b.before.0.owed == 0

-- The instructions that begin in the first `k` cycles from the machine `s`, in order. The list is
-- correct only if a run from `s` reaches `k` cycles. After an opcode outside the opcode table, the
-- list would contain each further cycle as an instruction.
unfoldable pub instructions_begun_within : ℕ → Machine → List BegunInstruction
instructions_begun_within k s = filter begins (map (cycle_at s) (range_with_len 0 k))

-- the instructions that a run of at most `n` cycles from the machine `s` would begin
abbrev pub instructions_begun_in : StopConditions → ℕ → Machine → List BegunInstruction
instructions_begun_in stops n s = instructions_begun_within (run_length stops n s) s

-- ---- the number of instructions that begin at each address

-- true if an instruction begins at this address
abbrev pub begins_at_address : ℕ → BegunInstruction → Bool
begins_at_address at b = b.before.0.pc == at

-- True if the program counter after an instruction is not the address of the instruction plus 2.
-- This definition is meant only for JCN and ISZ. A jump to the address plus 2 does not count as a
-- jump.
abbrev pub jumps : BegunInstruction → Bool
jumps b = not (b.after.0.pc == (b.before.0.pc + 2) % 4096)

-- the number of instructions in the list that begin at an address
abbrev pub runs_at : List BegunInstruction → ℕ → ℕ
runs_at begun at = count_by (begins_at_address at) begun

-- the number of instructions in the list that begin at an address and jump (`jumps`)
abbrev pub jumps_at : List BegunInstruction → ℕ → ℕ
jumps_at begun at = count_by (λ b. begins_at_address at b && jumps b) begun

-- true if an instruction is a conditional jump: JCN or ISZ
abbrev pub is_conditional_jump : Option Op → Bool
is_conditional_jump (Some (Jcn c b)) = true
is_conditional_jump (Some (Isz r b)) = true
is_conditional_jump _ = false

-- true if the instruction at an address is JCN or ISZ
abbrev pub is_branch : Machine → ℕ → Bool
is_branch s at = is_conditional_jump (instruction_at (record s.0 { pc = at }) s.1)

-- ---- a run, cycle by cycle

-- The reason why a run stops after a cycle that changes the machine from `s` to `t`, or none. The
-- end of the run is not considered: with the arguments 0 and 1, `stop_reason_at` never gives
-- `Ended`.
abbrev pub early_stop_reason : StopConditions → Machine → Machine → Option Stop
early_stop_reason stops s t = stop_reason_at stops 0 1 s t

-- ---- a run in two parts

-- the instruction `b` as part of a run that starts `k` cycles earlier
abbrev pub with_earlier_start : ℕ → BegunInstruction → BegunInstruction
with_earlier_start k b = record b { cycles = k + b.cycles }

-- If nothing stops a run of `m + n` cycles early, this run first begins the instructions of a run
-- of `m` cycles. Then it begins the instructions of a run of `n` cycles from the machine after
-- those `m` cycles.
abbrev pub InstructionsAddUp : Type 0
InstructionsAddUp =
    (stops : StopConditions) (m n : ℕ) (s : Machine) → run_length stops (m + n) s ≡ m + n →
    instructions_begun_in stops (m + n) s
    ≡ instructions_begun_in stops m s ++ map (with_earlier_start m) (instructions_begun_in stops n (after_run stops m s))
