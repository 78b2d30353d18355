-- Room for a new record: if the log has no room, a snapshot replaces the records. The new record is
-- then appended.
use Rattle.std.proofs.Common.{◌≡◌, ◌+◌, ◌≤◌, inl, inr, ⊎_elim, IsTrue, Result, Ok, Err, OnOk, is_ok, List, [], ◌∷◌, ◌++◌, ℕ, Bool, true, false, if◌then◌else◌, None, sym, ap, ◌∙◌, subst, refl, arith, length}
use Rattle.std.proofs.lemmas.Grind.{common_steps}
use Rattle.mcs_disk.specs.Disk.{DiskState, bytes_of, time_of}
use Rattle.mcs_disk.specs.Changes.{Changes}
use Rattle.mcs_disk.specs.Stretches.{SatisfiesEither, LeavesOnly}
use Rattle.mcs_disk.specs.PowerCut.{IsDurable}
use Rattle.mcs_disk.proofs.CallLaws.{disk_is_lawful}
use Rattle.mcs_disk.proofs.StretchComposition.{leaves_only_weaker_property, leaves_only_in_two_stretches, is_later_than_itself}
use Rattle.mcs_journal.specs.File.{HasRoom, Holds, frames_of}
use Rattle.mcs_model.specs.declared.command.Command.{Command}
use Rattle.mcs_model.specs.declared.command.Command.TheVariants.{Wire, Load, Press, Release, Run, Step, Poke, Test, Reset, Break, Unbreak, Watch, Unwatch}
use Rattle.mcs_model.specs.declared.limits.TheConstants.{REPLAY_CYCLES}
use Rattle.mcs_model.specs.BenchState.{BenchState}
use Rattle.mcs_model.specs.Command.{refusal, after}
use Rattle.mcs_session.specs.CommandCalls.{AcknowledgesCommand, LeavesEitherState, SettlesSession}
use Rattle.mcs_codec.specs.Codec.{Encodes}
use Rattle.mcs_codec.specs.declared.versions.Version.TheVariants.{Two}
use Rattle.mcs_codec.specs.CommandBytes.{command_bytes}
use Rattle.mcs_session.specs.Invariant.{HasMadeRoom, IsRecorded, IsReplayed}
use Rattle.mcs_session.specs.Cycles.{replay_cycles}
use Rattle.mcs_session.specs.Log.{LogHolds, has_room_for}
use Rattle.mcs_session.specs.Represents.{HoldsState, Represents}
use Rattle.mcs_session.proofs.Files.{durable_disk_represents, log_is_empty_with_only_snapshot, recorded_with_only_snapshot, represents_from_records, file_of_snapshot_represents_its_state}
use Rattle.mcs_session.proofs.Records.{records_represent_appended_command, replayed_with_appended_command}
use Rattle.mcs_session.proofs.LogCommands.{has_room_for_is_false, has_room_for_is_true, log_of_file, log_holds_appended_command, frames_length_is_log_bytes, file_holds_its_log}

-- ---- cycle counts

-- the cycle count of an accepted command is at most the limit of a log
pub accepted_cycles_within_limit : (s : BenchState) (c : Command) → refusal s c ≡ None → replay_cycles c ≤ REPLAY_CYCLES
accepted_cycles_within_limit s (Wire board) h = omega arith
accepted_cycles_within_limit s (Load image) h = omega arith
accepted_cycles_within_limit s (Press row column) h = omega arith
accepted_cycles_within_limit s (Release row column) h = omega arith
accepted_cycles_within_limit s (Run n) h = grind (arith, common_steps)
accepted_cycles_within_limit s Step h = omega arith
accepted_cycles_within_limit s (Poke place) h = omega arith
accepted_cycles_within_limit s (Test bit) h = omega arith
accepted_cycles_within_limit s Reset h = omega arith
accepted_cycles_within_limit s (Break at) h = omega arith
accepted_cycles_within_limit s (Unbreak at) h = omega arith
accepted_cycles_within_limit s (Watch bank src) h = omega arith
accepted_cycles_within_limit s (Unwatch bank src) h = omega arith

-- ---- the log has room

-- if no call is made on the disk, each of its images still represents the same state
pub leaves_state_without_calls : (disk : DiskState) (cycles : ℕ) (s : BenchState) → IsRecorded disk cycles s → LeavesOnly disk disk (λ file. Represents file s)
leaves_state_without_calls disk cycles s was = record {
  later = is_later_than_itself disk;
  each = λ image left. durable_disk_represents disk s was.durable was.represents image ((disk_is_lawful disk).since_now_implies_now image left);
}

pub made_room_if_log_has_room : (disk : DiskState) (used bytes more cycles : ℕ) (s : BenchState) (c : Command) (was : IsRecorded disk cycles s) → used ≡ length (frames_of was.represents.records)
    → HasRoom used bytes → cycles + more ≤ REPLAY_CYCLES → bytes ≡ length (command_bytes c) → more ≡ replay_cycles c → HasMadeRoom disk disk c cycles s
made_room_if_log_has_room disk used bytes more cycles s c was is room few is_long is_more =
    let log = log_of_file (bytes_of disk) s was.represents in
    let holds_log = file_holds_its_log (bytes_of disk) s was.represents in
    let frames_length = frames_length_is_log_bytes disk cycles s was in
    let count = was.count in
    let has_room : has_room_for log c ≡ true = has_room_for_is_true log c (omega (arith, is, frames_length, room, is_long), omega (arith, few, count, is_more)) in
    let P : Bool → Type 0 = λ b. LogHolds (bytes_of disk) (if b then log else []) in
    record {
      log = log;
      held = holds_log;
      ticks = ap (λ (b : Bool). time_of disk + (if b then 4 else 8)) (sym has_room);
      holds = subst P (sym has_room) holds_log;
      recorded = was;
    }

-- ---- the log has no room

-- after a snapshot replaced the records, the disk has recorded the same state
pub recorded_after_snapshot : {T E : Type 0} (result : Result T E) (old new : DiskState) (used' cycles cycles' : ℕ) (s : BenchState) (was : IsRecorded old cycles s) → IsTrue (is_ok result)
    → Changes 4 old new (λ c. Holds c was.represents.snap was.represents.records) (λ c. HoldsState c s) result → OnOk result ((used' ≡ 0) × (cycles' ≡ 0)) → IsRecorded new cycles' s
recorded_after_snapshot (Ok x) old new used' cycles cycles' s was ok changes empty =
    subst (λ (n : ℕ). IsRecorded new n s) (sym empty.1) (recorded_with_only_snapshot new changes.after.snap s changes.after.spells changes.after.holds changes.durable)
recorded_after_snapshot (Err e) old new used' cycles cycles' s was ok changes empty = absurd (cc ok)

-- if the call returned Ok, a snapshot replaced the records and the log has room
pub made_room_by_snapshot : {T E : Type 0} (result : Result T E) (old new : DiskState) (used used' bytes more cycles cycles' : ℕ) (s : BenchState) (c : Command) (was : IsRecorded old cycles s) → used ≡ length (frames_of was.represents.records)
    → (HasRoom used bytes → cycles + more ≤ REPLAY_CYCLES → ⊥) → Changes 4 old new (λ f. Holds f was.represents.snap was.represents.records) (λ f. HoldsState f s) result
    → OnOk result ((used' ≡ 0) × (cycles' ≡ 0)) → bytes ≡ length (command_bytes c) → more ≡ replay_cycles c → OnOk result (HasMadeRoom old new c cycles' s)
made_room_by_snapshot (Ok x) old new used used' bytes more cycles cycles' s c was is none changes empty is_long is_more =
    let log = log_of_file (bytes_of old) s was.represents in
    let frames_length = frames_length_is_log_bytes old cycles s was in
    let count = was.count in
    let has_no_room : has_room_for log c ≡ false = has_room_for_is_false log c (λ room. let fits = room.0 in let cycles_fit = room.1 in none (omega (arith, fits, is, frames_length, is_long)) (omega (arith, cycles_fit, count, is_more))) in
    let P : Bool → Type 0 = λ b. LogHolds (bytes_of new) (if b then log else []) in
    let takes_four_ticks = changes.ticks in
    record {
      log = log;
      held = file_holds_its_log (bytes_of old) s was.represents;
      ticks = let takes_eight_ticks : time_of new + 4 ≡ time_of old + 8 = omega (arith, takes_four_ticks) in takes_eight_ticks ∙ ap (λ (b : Bool). time_of old + (if b then 4 else 8)) (sym has_no_room);
      holds = subst P (sym has_no_room) (log_is_empty_with_only_snapshot (bytes_of new) s changes.after);
      recorded = recorded_after_snapshot (Ok x) old new used' cycles cycles' s was refl changes empty;
    }
made_room_by_snapshot (Err e) old new used used' bytes more cycles cycles' s c was is none changes empty is_long is_more = tt

-- each image represents the same state, before and after the snapshot replaces the records
pub leaves_state_while_records_are_replaced : (old new : DiskState) (cycles : ℕ) (s : BenchState) (was : IsRecorded old cycles s)
    → LeavesOnly old new (SatisfiesEither (λ c. Holds c was.represents.snap was.represents.records) (λ c. HoldsState c s)) → LeavesOnly old new (λ file. Represents file s)
leaves_state_while_records_are_replaced old new cycles s was moments =
    leaves_only_weaker_property old new (SatisfiesEither (λ c. Holds c was.represents.snap was.represents.records) (λ c. HoldsState c s)) (λ file. Represents file s)
    (λ c. ⊎_elim (λ there. represents_from_records was.represents.snap was.represents.records s was.represents.records_represent c there) (λ here. file_of_snapshot_represents_its_state c here.snap s here.spells here.holds)) moments

-- after the snapshot has replaced the records, the disk holds only a snapshot of the state
pub settles_session_by_snapshot : (old new : DiskState) (cycles : ℕ) (s : BenchState) (was : IsRecorded old cycles s)
    → LeavesOnly old new (SatisfiesEither (λ c. Holds c was.represents.snap was.represents.records) (λ c. HoldsState c s)) → HoldsState (bytes_of new) s → IsDurable new → time_of new ≡ time_of old + 4 → SettlesSession old new s
settles_session_by_snapshot old new cycles s was moments held durable ticks = record {
  represented_before = was.represents;
  holds = held;
  leaves = leaves_state_while_records_are_replaced old new cycles s was moments;
  ticks = ticks;
  represents = durable_disk_represents new s durable (file_of_snapshot_represents_its_state (bytes_of new) held.snap s held.spells held.holds);
}

-- ---- the new record

-- before the record is appended, each image represents the state before the command
pub leaves_either_state_before_append : (old new : DiskState) (s t : BenchState) → LeavesOnly old new (λ file. Represents file s) → LeavesEitherState old new s t
leaves_either_state_before_append old new s t moments = leaves_only_weaker_property old new (λ file. Represents file s) (SatisfiesEither (λ file. Represents file s) (λ file. Represents file t)) (λ c there. inl there) moments

-- after the record was appended, each image represents the state before or after the command
pub leaves_either_state_after_append : (old mid new : DiskState) (cycles : ℕ) (s : BenchState) (c : Command) (r : List ℕ) (was : IsRecorded mid cycles s) → Encodes r c → refusal s c ≡ None
    → cycles + replay_cycles c ≤ REPLAY_CYCLES → LeavesOnly old mid (λ file. Represents file s)
    → LeavesOnly mid new (SatisfiesEither (λ f. Holds f was.represents.snap was.represents.records) (λ f. Holds f was.represents.snap (was.represents.records ++ r ∷ []))) → LeavesEitherState old new s (after s c)
leaves_either_state_after_append old mid new cycles s c r was spells accepted few first moments =
    let count = was.count in
    let records_represent_more = records_represent_appended_command Two was.represents.snap r was.represents.records s c was.represents.records_represent (spells, refl) accepted (omega (arith, count, few)) in
    leaves_only_in_two_stretches old mid new (SatisfiesEither (λ file. Represents file s) (λ file. Represents file (after s c))) (leaves_either_state_before_append old mid s (after s c) first)
    (leaves_only_weaker_property mid new (SatisfiesEither (λ f. Holds f was.represents.snap was.represents.records) (λ f. Holds f was.represents.snap (was.represents.records ++ r ∷ []))) (SatisfiesEither (λ file. Represents file s) (λ file. Represents file (after s c)))
    (λ f. ⊎_elim (λ there. inl (represents_from_records was.represents.snap was.represents.records s was.represents.records_represent f there)) (λ here. inr (represents_from_records was.represents.snap (was.represents.records ++ r ∷ []) (after s c) records_represent_more f here))) moments)

-- after the record was appended, the disk has recorded the state after the command
pub recorded_after_append : (old new : DiskState) (cycles more : ℕ) (s : BenchState) (c : Command) (r : List ℕ) (was : IsRecorded old cycles s) → Encodes r c → refusal s c ≡ None → more ≡ replay_cycles c
    → cycles + more ≤ REPLAY_CYCLES → IsDurable new → Holds (bytes_of new) was.represents.snap (was.represents.records ++ r ∷ []) → IsRecorded new (cycles + more) (after s c)
recorded_after_append old new cycles more s c r was spells accepted is few durable held =
    let replayed_before : IsReplayed Two was.represents.snap was.represents.records cycles s = record { records_represent = was.represents.records_represent; count = was.count } in
    let replayed = replayed_with_appended_command Two was.represents.snap r was.represents.records cycles more s c replayed_before (spells, refl) accepted is few in
    record { durable = durable; represents = record { snap = was.represents.snap; records = was.represents.records ++ r ∷ []; holds = held; records_represent = replayed.records_represent }; count = replayed.count }

-- once room was made and the record was appended, the command is acknowledged
pub acknowledges_appended_command : (old mid new : DiskState) (cycles cycles' : ℕ) (s : BenchState) (c : Command) (r : List ℕ) → LeavesEitherState old new s (after s c) → (made : HasMadeRoom old mid c cycles s) → time_of new ≡ time_of mid + 4 → IsRecorded new cycles' (after s c)
    → Encodes r c → refusal s c ≡ None → cycles + replay_cycles c ≤ REPLAY_CYCLES → Holds (bytes_of new) made.recorded.represents.snap (made.recorded.represents.records ++ r ∷ []) → AcknowledgesCommand old new s c
acknowledges_appended_command old mid new cycles cycles' s c r moments made tick was spells accepted few held = record {
  leaves = moments;
  log = made.log;
  held = made.held;
  ticks = tick ∙ made.ticks;
  holds = log_holds_appended_command mid new cycles s c r made.recorded spells accepted few held (if has_room_for made.log c then made.log else []) made.holds;
  represents = durable_disk_represents new (after s c) was.durable was.represents;
}
