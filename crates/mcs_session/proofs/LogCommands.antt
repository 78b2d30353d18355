-- The commands in a log after records are added, and the moments of their acknowledgement.
use Rattle.std.proofs.Common.{◌≡◌, ◌⊎◌, inl, inr, ◌+◌, ◌≤◌, ◌<◌, ◌&&◌, if◌then◌else◌, ℕ, Bool, true, false, None, List, [], ◌∷◌, ◌++◌, length, map, nat_le, sym, ap, ◌∙◌, refl, subst, arith}
use Rattle.std.proofs.lemmas.Bool.{cases_lt, le-leb, lt-leb}
use Rattle.std.proofs.lemmas.List.Sums.{sum_by_push}
use Rattle.mcs_codec.specs.Codec.{Encodes}
use Rattle.mcs_codec.specs.CommandBytes.{command_bytes}
use Rattle.mcs_disk.specs.Disk.{DiskState, bytes_of, time_of}
use Rattle.mcs_journal.specs.File.{HasRoom, Holds, frames_of}
use Rattle.mcs_journal.specs.declared.format.TheConstants.{LOG_SIZE}
use Rattle.mcs_journal.proofs.UniqueContents.{snapshot_is_unique, records_are_unique}
use Rattle.mcs_model.specs.declared.command.Command.{Command}
use Rattle.mcs_model.specs.declared.limits.TheConstants.{REPLAY_CYCLES}
use Rattle.mcs_model.specs.BenchState.{BenchState}
use Rattle.mcs_model.specs.Command.{refusal, after}
use Rattle.mcs_codec.specs.declared.versions.Version.TheVariants.{Two}
use Rattle.mcs_session.specs.Acknowledgements.{Acknowledgements, last_moment, moments_of}
use Rattle.mcs_session.specs.Cycles.{log_cycles, replay_cycles}
use Rattle.mcs_session.specs.Invariant.{IsRecorded}
use Rattle.mcs_session.specs.Log.{LogHolds, has_room_for, recording_ticks, log_after, log_after_all}
use Rattle.mcs_session.specs.Represents.{ReplaysCommands, Represents}
use Rattle.mcs_session.proofs.Records.{records_represent_appended_command, start_and_commands_are_unique}

-- ---- the commands of a log

-- the log of a file holds at most one list of commands
pub held_commands_are_unique : (file : List ℕ) (a b : List Command) → LogHolds file a → LogHolds file b → a ≡ b
held_commands_are_unique file a b x y =
    let snap = snapshot_is_unique _ _ _ _ _ x.represents.holds y.represents.holds in
    let records = records_are_unique _ _ _ _ _ x.represents.holds y.represents.holds in
    let commands = start_and_commands_are_unique Two x.represents.snap y.represents.snap x.represents.records y.represents.records x.state y.state snap records x.represents.records_represent y.represents.records_represent in
    x.commands ∙ commands.1 ∙ sym y.commands

-- the commands in the log of a file that represents this state
abbrev pub log_of_file : (file : List ℕ) (s : BenchState) → Represents file s → List Command
log_of_file file s represents = represents.records_represent.commands

pub file_holds_its_log : (file : List ℕ) (s : BenchState) (represents : Represents file s) → LogHolds file (log_of_file file s represents)
file_holds_its_log file s represents = record { state = s; represents = represents; commands = refl }

-- ---- room in a log

-- the number of bytes that the frames of these commands occupy
abbrev pub log_bytes : List Command → ℕ
log_bytes log = length (frames_of (map command_bytes log))

-- records that replay as commands of version 2 are the encodings of the commands
pub records_are_command_bytes : (s : BenchState) (rs : List (List ℕ)) (cs : List Command) → ReplaysCommands Two s rs cs → rs ≡ map command_bytes cs
records_are_command_bytes s [] [] h = refl
records_are_command_bytes s [] (c ∷ cs) h = absurd h
records_are_command_bytes s (r ∷ rs) [] h = absurd h
records_are_command_bytes s (r ∷ rs) (c ∷ cs) h = ap (λ (payload : List ℕ). payload ∷ rs) h.0.0.is ∙ ap (λ (more : List (List ℕ)). command_bytes c ∷ more) (records_are_command_bytes (after s c) rs cs (h.2))

-- the records on an open session's disk occupy as many bytes as `log_bytes` states
pub frames_length_is_log_bytes : (disk : DiskState) (cycles : ℕ) (s : BenchState) (was : IsRecorded disk cycles s) → length (frames_of was.represents.records) ≡ log_bytes (log_of_file (bytes_of disk) s was.represents)
frames_length_is_log_bytes disk cycles s was = ap (λ (rs : List (List ℕ)). length (frames_of rs)) (records_are_command_bytes was.represents.records_represent.start was.represents.records was.represents.records_represent.commands was.represents.records_represent.replays)

log_cycles_of_appended_command : (log : List Command) (c : Command) → log_cycles (log ++ c ∷ []) ≡ log_cycles log + replay_cycles c
log_cycles_of_appended_command log c = sum_by_push replay_cycles log c

-- holds if the journal has room for the command's record, and the command's cycles keep the cycle
-- count of the log within its limit
abbrev HasRoomFor : List Command → Command → Type 0
HasRoomFor log c = HasRoom (log_bytes log) (length (command_bytes c)) × (log_cycles log + replay_cycles c ≤ REPLAY_CYCLES)

has_room_for_decides : (log : List Command) (c : Command) → (HasRoomFor log c × (has_room_for log c ≡ true)) ⊎ (¬ (HasRoomFor log c) × (has_room_for log c ≡ false))
has_room_for_decides log c =
    let n = log_bytes log + 3 + length (command_bytes c) + 1 in
    let m = log_cycles (log ++ c ∷ []) in
    let total_cycles = log_cycles_of_appended_command log c in
    elim (cases_lt LOG_SIZE n) [
      | inl over ↦ inr (λ room. let fits = room.0 in omega (arith, over, fits), ap (λ (b : Bool). b && nat_le m REPLAY_CYCLES) (lt-leb n LOG_SIZE over))
      | inr fits ↦
          let room_if_cycles_fit : has_room_for log c ≡ nat_le m REPLAY_CYCLES = ap (λ (b : Bool). b && nat_le m REPLAY_CYCLES) (le-leb n LOG_SIZE fits) in
          elim (cases_lt REPLAY_CYCLES m) [
            | inl over ↦ inr (λ room. let cycles_fit = room.1 in omega (arith, over, cycles_fit, total_cycles), room_if_cycles_fit ∙ lt-leb m REPLAY_CYCLES over)
            | inr cycles_fit ↦ inl ((omega (arith, fits), omega (arith, cycles_fit, total_cycles)), room_if_cycles_fit ∙ le-leb m REPLAY_CYCLES cycles_fit)
          ]
    ]

pub has_room_for_is_true : (log : List Command) (c : Command) → HasRoomFor log c → has_room_for log c ≡ true
has_room_for_is_true log c room = elim (has_room_for_decides log c) [ inl there ↦ there.1 | inr missing ↦ absurd (missing.0 room) ]

pub has_room_for_is_false : (log : List Command) (c : Command) → ¬ (HasRoomFor log c) → has_room_for log c ≡ false
has_room_for_is_false log c none = elim (has_room_for_decides log c) [ inl there ↦ absurd (none there.0) | inr missing ↦ missing.1 ]

-- ---- one more record

pub log_holds_appended_command : (mid new : DiskState) (cycles : ℕ) (s : BenchState) (c : Command) (r : List ℕ) (was : IsRecorded mid cycles s) → Encodes r c → refusal s c ≡ None → cycles + replay_cycles c ≤ REPLAY_CYCLES
    → Holds (bytes_of new) was.represents.snap (was.represents.records ++ r ∷ []) → (log : List Command) → LogHolds (bytes_of mid) log → LogHolds (bytes_of new) (log ++ c ∷ [])
unfolding records_represent_appended_command
log_holds_appended_command mid new cycles s c r was spells accepted few held log holds =
    let count = was.count in
    let equal_logs : log ≡ log_of_file (bytes_of mid) s was.represents = held_commands_are_unique (bytes_of mid) log (log_of_file (bytes_of mid) s was.represents) holds (file_holds_its_log (bytes_of mid) s was.represents) in
    record {
      state = after s c;
      represents = record { snap = was.represents.snap; records = was.represents.records ++ r ∷ []; holds = held; records_represent = records_represent_appended_command Two was.represents.snap r was.represents.records s c was.represents.records_represent (spells, refl) accepted (omega (arith, count, few)) };
      commands = ap (λ (cs : List Command). cs ++ c ∷ []) equal_logs;
    }

-- ---- moments of acknowledgement

-- holds if each moment is later than the one before it, and the first is later than the clock
abbrev pub AreRising : ℕ → List ℕ → Type 0
AreRising clock [] = Unit {0}
AreRising clock (m ∷ ms) = (clock < m) × AreRising m ms

clock_rises_while_recording : (clock : ℕ) (room : Bool) → clock < clock + (if room then 4 else 8)
clock_rises_while_recording clock true = omega arith
clock_rises_while_recording clock false = omega arith

moments_rise : (clock : ℕ) (log : List Command) (cs : List Command) → AreRising clock (moments_of clock log cs)
moments_rise clock log [] = tt
moments_rise clock log (c ∷ cs) = (clock_rises_while_recording clock (has_room_for log c), moments_rise (clock + recording_ticks log c) (log_after log c) cs)

pub acknowledged_moments_rise : (old new : DiskState) (cs : List Command) (a : Acknowledgements old new cs) → AreRising (time_of old) a.moments
acknowledged_moments_rise old new cs a = subst (AreRising (time_of old)) (sym a.timed) (moments_rise (time_of old) a.log cs)

length-moments : (clock : ℕ) (log : List Command) (cs : List Command) → length (moments_of clock log cs) ≡ length cs
length-moments clock log [] = refl
length-moments clock log (c ∷ cs) = let rest = length-moments (clock + recording_ticks log c) (log_after log c) cs in omega (arith, rest)

-- there is one moment for each command
pub one_moment_per_command : (old new : DiskState) (cs : List Command) (a : Acknowledgements old new cs) → length a.moments ≡ length cs
one_moment_per_command old new cs a = ap length a.timed ∙ length-moments (time_of old) a.log cs

-- ---- runs of commands

pub log_after_all_append : (log : List Command) (cs ds : List Command) → log_after_all log (cs ++ ds) ≡ log_after_all (log_after_all log cs) ds
log_after_all_append log [] ds = refl
log_after_all_append log (c ∷ cs) ds = log_after_all_append (log_after log c) cs ds

moments_of_append : (clock : ℕ) (log : List Command) (cs ds : List Command) → moments_of clock log (cs ++ ds) ≡ moments_of clock log cs ++ moments_of (last_moment clock (moments_of clock log cs)) (log_after_all log cs) ds
moments_of_append clock log [] ds = refl
moments_of_append clock log (c ∷ cs) ds = ap (λ (ms : List ℕ). (clock + recording_ticks log c) ∷ ms) (moments_of_append (clock + recording_ticks log c) (log_after log c) cs ds)

pub moments_of_two_runs : (clock mid : ℕ) (log : List Command) (cs ds : List Command) (ms ns : List ℕ) → ms ≡ moments_of clock log cs → mid ≡ last_moment clock ms → ns ≡ moments_of mid (log_after_all log cs) ds
    → ms ++ ns ≡ moments_of clock log (cs ++ ds)
moments_of_two_runs clock mid log cs ds ms ns first at second =
    let later_moments : List ℕ → List ℕ = λ ks. moments_of (last_moment clock ks) (log_after_all log cs) ds in
    let later : ns ≡ later_moments (moments_of clock log cs) = second ∙ ap (λ (t : ℕ). moments_of t (log_after_all log cs) ds) at ∙ ap later_moments first in
    ap (λ (ks : List ℕ). ms ++ ks) later ∙ ap (λ (ks : List ℕ). ks ++ later_moments (moments_of clock log cs)) first ∙ sym (moments_of_append clock log cs ds)
