-- The state that `open` finds after a power cut during a run or at its end.
use Rattle.std.proofs.Common.{◌≡◌, ◌⊎◌, inl, inr, ◌+◌, ◌≤◌, ℕ, List, length, subst, refl, arith, slice_get, Some}
use Rattle.mcs_disk.proofs.CallLaws.{disk_is_lawful}
use Rattle.mcs_disk.specs.Disk.{DiskState, bytes_of, time_of, images_of, images_since}
use Rattle.mcs_disk.specs.PowerCut.{IsLeftByCut}
use Rattle.mcs_journal.specs.declared.fault.StoreFault.{StoreFault}
use Rattle.mcs_journal.specs.declared.fault.StoreFault.TheVariants.{NotASession, Damaged, Device, NotBlank, NoMemory}
use Rattle.mcs_model.specs.declared.command.Command.{Command}
use Rattle.mcs_model.specs.BenchState.{BenchState}
use Rattle.mcs_model.specs.Fold.{fold}
use Rattle.mcs_session.specs.Opening.{OpensSession, SessionErrorImplies}
use Rattle.mcs_session.specs.Acknowledgements.{acknowledged_by}
use Rattle.mcs_session.specs.KeptCommands.{IsAfterPrefix, KeepsCommands, RepresentsPrefix}
use Rattle.mcs_session.specs.Represents.{Represents}
use Rattle.mcs_session.proofs.Prefixes.{all_acknowledged_by_last_moment, acknowledged_by_moment_at_index, represents_state_after_all_commands, represents_prefix_with_lower_minimum, clock_at_most_last_moment}
use Rattle.mcs_session.proofs.LogCommands.{one_moment_per_command, acknowledged_moments_rise}
use Rattle.mcs_session.proofs.Files.{is_session_file, version_2_state_is_unique}

pub reopened_state_is_after_prefix : (t : ℕ) (old new found opened : DiskState) (s u : BenchState) (done reached : List Command) (kept : KeepsCommands old new s done reached) → time_of old ≤ t
    → IsLeftByCut t new found → OpensSession found opened u → IsAfterPrefix s reached (acknowledged_by t kept.acknowledged.moments) u
reopened_state_is_after_prefix t old new found opened s u done reached kept le cut opens =
    let represented_prefix = kept.each t (bytes_of found) le cut.found in
    subst (λ (v : BenchState). IsAfterPrefix s reached (acknowledged_by t kept.acknowledged.moments) v) (version_2_state_is_unique (bytes_of found) represented_prefix.state u represented_prefix.represents opens.represented_before) represented_prefix.after

pub open_error_is_device_or_memory : (fault : StoreFault) (disk : DiskState) (s : BenchState) → Represents (bytes_of disk) s → SessionErrorImplies fault disk → (fault ≡ Device) ⊎ (fault ≡ NoMemory)
open_error_is_device_or_memory NotASession disk s represents h = absurd (is_session_file disk represents.snap represents.records represents.holds h)
open_error_is_device_or_memory Damaged disk s represents h = absurd (h.1 s (inl represents))
open_error_is_device_or_memory Device disk s represents h = inl refl
open_error_is_device_or_memory NoMemory disk s represents h = inr refl
open_error_is_device_or_memory NotBlank disk s represents h = absurd h

pub error_after_cut_is_device_or_memory : (t : ℕ) (old new found : DiskState) (s : BenchState) (done reached : List Command) (fault : StoreFault) → KeepsCommands old new s done reached → time_of old ≤ t
    → IsLeftByCut t new found → SessionErrorImplies fault found → (fault ≡ Device) ⊎ (fault ≡ NoMemory)
error_after_cut_is_device_or_memory t old new found s done reached fault kept le cut h =
    let represented_prefix = kept.each t (bytes_of found) le cut.found in open_error_is_device_or_memory fault found represented_prefix.state represented_prefix.represents h

pub image_since_moment_represents_prefix : (old new : DiskState) (s : BenchState) (done reached : List Command) (kept : KeepsCommands old new s done reached) (j moment : ℕ) (image : List ℕ)
    → slice_get kept.acknowledged.moments j ≡ Some moment → images_since moment new image → RepresentsPrefix s reached (j + 1) image
image_since_moment_represents_prefix old new s done reached kept j moment image e now =
    let acknowledged_by_then = acknowledged_by_moment_at_index (time_of old) kept.acknowledged.moments j moment e (acknowledged_moments_rise old new done kept.acknowledged) in
    represents_prefix_with_lower_minimum s reached (j + 1) (acknowledged_by moment kept.acknowledged.moments) image acknowledged_by_then.1 (kept.each moment image acknowledged_by_then.0 now)

pub image_at_end_represents_prefix : (old new : DiskState) (s : BenchState) (done reached : List Command) (image : List ℕ) → KeepsCommands old new s done reached → images_of new image → RepresentsPrefix s reached (length done) image
image_at_end_represents_prefix old new s done reached image kept now =
    let rising_moments = acknowledged_moments_rise old new done kept.acknowledged in
    let clock_not_later = clock_at_most_last_moment (time_of old) kept.acknowledged.moments rising_moments in
    let within = kept.acknowledged.within in
    let count = one_moment_per_command old new done kept.acknowledged in
    let all_acknowledged = all_acknowledged_by_last_moment (time_of new) (time_of old) kept.acknowledged.moments within rising_moments in
    represents_prefix_with_lower_minimum s reached (length done) (acknowledged_by (time_of new) kept.acknowledged.moments) image (omega (arith, all_acknowledged, count))
    (kept.each (time_of new) image (omega (arith, clock_not_later, within)) ((disk_is_lawful new).now_implies_since (time_of new) image now))

pub image_at_end_represents_final_state : (old new : DiskState) (s : BenchState) (cs : List Command) (image : List ℕ) → KeepsCommands old new s cs cs → images_of new image → Represents image (fold s cs)
image_at_end_represents_final_state old new s cs image kept now = represents_state_after_all_commands s cs (length cs) image (omega arith) (image_at_end_represents_prefix old new s cs cs image kept now)
