-- The state that a session's disk represents after the session was created or opened.
use Rattle.std.proofs.Common.{◌≡◌, inl, inr, ⊎_elim, None, ap, List, [], ◌∷◌, ℕ, sym, ◌∙◌, subst, refl, arith}
use Rattle.mcs_disk.proofs.CallLaws.{disk_is_lawful, length-bytes_of}
use Rattle.mcs_disk.specs.Disk.{DiskState, bytes_of, time_of, images_of}
use Rattle.mcs_disk.specs.Stretches.{AddsNoImage, SatisfiesEither, LeavesOnly}
use Rattle.mcs_disk.specs.PowerCut.{IsDurable}
use Rattle.mcs_journal.specs.StoreCalls.{CreatesStore, OpensStore, OpenErrorImplies}
use Rattle.mcs_journal.specs.File.{Holds, IsNotSessionFile}
use Rattle.mcs_journal.specs.declared.fault.StoreFault.{StoreFault}
use Rattle.mcs_journal.specs.declared.fault.StoreFault.TheVariants.{NotASession, Damaged, Device, NotBlank, NoMemory}
use Rattle.mcs_journal.proofs.UniqueContents.{snapshot_is_unique, records_are_unique}
use Rattle.mcs_model.specs.BenchState.{BenchState, new_bench_state}
use Rattle.mcs_codec.specs.Codec.{EncodesState, EncodesState1}
use Rattle.mcs_codec.specs.declared.versions.Version.{Version}
use Rattle.mcs_codec.specs.declared.versions.Version.TheVariants.{One, Two}
use Rattle.mcs_codec.proofs.StateCodec.{encoded_state_is_unique}
use Rattle.mcs_disk.proofs.StretchComposition.{leaves_only_weaker_property, leaves_only_in_two_stretches, bytes_unchanged_without_new_image, image_since_is_old_without_new_image}
use Rattle.mcs_model.specs.declared.command.Command.{Command}
use Rattle.mcs_model.specs.Command.{refusal, after}
use Rattle.mcs_model.specs.Fold.{fold}
use Rattle.mcs_version1.specs.Command.{after_1}
use Rattle.mcs_version1.specs.BenchState.{BenchState1}
use Rattle.mcs_version1.specs.Fold.{fold_1}
use Rattle.mcs_version1.specs.Lift.{lift}
use Rattle.mcs_version1.proofs.Lifting.{command-lifts}
use Rattle.mcs_session.specs.Version1.{ReplaysCommands1, RecordsRepresent1, RepresentsConverted}
use Rattle.mcs_session.specs.Represents.{ReplaysCommands, RecordsRepresent, Represents, RepresentsInEitherVersion, DiskRepresentsSince, HoldsState, DiskRepresents, DiskRepresentsConverted}
use Rattle.mcs_session.specs.SessionCalls.{CreatesSession, FailsDuringMigration, LeavesOldImageOrState, MigratesSession, FailedOpenEffect}
use Rattle.mcs_session.specs.Opening.{OpensSession, SessionErrorImplies}
use Rattle.mcs_session.specs.Log.{LogHolds}
use Rattle.mcs_session.specs.Invariant.{IsRecorded, IsReplayed, MayReplaceContents, ReplacedContents}
use Rattle.mcs_session.proofs.Records.{state_of_records_is_unique}

-- no bytes encode both a state of version 1 and a state of version 2
snapshot_has_only_one_version : (snap : List ℕ) (s : BenchState) (version_1 : BenchState1) → EncodesState snap s → EncodesState1 snap version_1 → ⊥
snapshot_has_only_one_version snap s version_1 a b =
    let versions : Two ≡ One = (encoded_state_is_unique snap Two One s (lift version_1) a (record { version_1 = version_1; spells = b; lifted = refl })).0 in
    absurd (cc)

pub represents_from_records : (snap : List ℕ) (records : List (List ℕ)) (s : BenchState) → RecordsRepresent Two snap records s → (c : List ℕ) → Holds c snap records → Represents c s
represents_from_records snap records s p c held = record { snap = snap; records = records; holds = held; records_represent = p }

pub durable_disk_represents : (disk : DiskState) (s : BenchState) → IsDurable disk → Represents (bytes_of disk) s → DiskRepresents disk s
durable_disk_represents disk s durable represents image now = subst (λ (f : List ℕ). Represents f s) (sym (durable image now)) represents

-- a snapshot of a state, with no records after it, represents that state
snapshot_represents_its_state : (snap : List ℕ) (s : BenchState) → EncodesState snap s → RecordsRepresent Two snap [] s
snapshot_represents_its_state snap s spells = record { start = s; snapshot = spells; commands = []; replays = tt; bounded = omega arith; state = refl }

pub file_of_snapshot_represents_its_state : (file snap : List ℕ) (s : BenchState) → EncodesState snap s → Holds file snap [] → Represents file s
file_of_snapshot_represents_its_state file snap s spells held = record { snap = snap; records = []; holds = held; records_represent = snapshot_represents_its_state snap s spells }

pub recorded_with_only_snapshot : (disk : DiskState) (snap : List ℕ) (s : BenchState) → EncodesState snap s → Holds (bytes_of disk) snap [] → IsDurable disk → IsRecorded disk 0 s
unfolding file_of_snapshot_represents_its_state snapshot_represents_its_state
recorded_with_only_snapshot disk snap s spells held durable = record { durable = durable; represents = file_of_snapshot_represents_its_state (bytes_of disk) snap s spells held; count = refl }

-- if a file has a snapshot and no records, its log has no commands
pub log_is_empty_with_only_snapshot : (file : List ℕ) (s : BenchState) → HoldsState file s → LogHolds file []
unfolding file_of_snapshot_represents_its_state snapshot_represents_its_state
log_is_empty_with_only_snapshot file s held = record { state = s; represents = file_of_snapshot_represents_its_state file held.snap s held.spells held.holds; commands = refl }

pub creates_session : (old new : DiskState) (snap : List ℕ) (s : BenchState) → EncodesState snap s → s ≡ new_bench_state → CreatesStore old new snap → CreatesSession old new
creates_session old new snap s spells is made =
    let represents : Represents (bytes_of new) new_bench_state = subst (λ (t : BenchState). Represents (bytes_of new) t) is (file_of_snapshot_represents_its_state (bytes_of new) snap s spells made.holds) in
    record { blank = made.blank; represents = durable_disk_represents new new_bench_state made.durable represents; ticks = made.ticks; later = made.later }

pub recorded_after_open : (old new : DiskState) (snap : List ℕ) (records : List (List ℕ)) (cycles : ℕ) (s : BenchState) → OpensStore old new snap records → IsReplayed Two snap records cycles s → IsRecorded new cycles s
recorded_after_open old new snap records cycles s opened replayed =
    let same_contents : Holds (bytes_of new) snap records = subst (λ (f : List ℕ). Holds f snap records) (sym (bytes_unchanged_without_new_image old new opened.adds_no_image)) opened.holds in
    record { durable = opened.durable; represents = record { snap = snap; records = records; holds = same_contents; records_represent = replayed.records_represent }; count = replayed.count }

-- after a successful `open` of the store, the disk holds the same contents as before
pub opened_store_keeps_contents : (old new : DiskState) (snap : List ℕ) (records : List (List ℕ)) → OpensStore old new snap records → Holds (bytes_of new) snap records
opened_store_keeps_contents old new snap records opened = subst (λ (f : List ℕ). Holds f snap records) (sym (bytes_unchanged_without_new_image old new opened.adds_no_image)) opened.holds

-- reads and syncs leave only images that the disk had before
leaves_old_images_if_none_added : (old new : DiskState) (s : BenchState) → AddsNoImage old new → LeavesOldImageOrState old new s
leaves_old_images_if_none_added old new s adds_no_image = record {
  later = adds_no_image.later;
  each = λ c left. inl ((disk_is_lawful old).since_now_implies_now c (image_since_is_old_without_new_image old new adds_no_image (time_of old) c left));
}

-- a file of version 2 is opened in the state that it represents
pub opens_session_of_version_2 : (old new : DiskState) (snap : List ℕ) (records : List (List ℕ)) (cycles : ℕ) (s : BenchState) → OpensStore old new snap records → IsReplayed Two snap records cycles s → OpensSession old new s
opens_session_of_version_2 old new snap records cycles s opened replayed = record {
  represented_before = inl (represents_from_records snap records s replayed.records_represent (bytes_of old) opened.holds);
  represents = durable_disk_represents new s opened.durable (represents_from_records snap records s replayed.records_represent (bytes_of new) (opened_store_keeps_contents old new snap records opened));
}

pub migrates_session_of_version_2 : (old new : DiskState) (snap : List ℕ) (records : List (List ℕ)) (cycles : ℕ) (s : BenchState) → OpensStore old new snap records → IsReplayed Two snap records cycles s → MigratesSession old new s
migrates_session_of_version_2 old new snap records cycles s opened replayed = record {
  leaves = leaves_old_images_if_none_added old new s opened.adds_no_image;
  adds_no_image = λ _. opened.adds_no_image;
  migrated = λ version_1. absurd (snapshot_has_only_one_version snap replayed.records_represent.start version_1.records_represent.start replayed.records_represent.snapshot (subst (λ (x : List ℕ). EncodesState1 x version_1.records_represent.start) (snapshot_is_unique _ _ _ _ _ version_1.holds opened.holds) version_1.records_represent.snapshot));
}

-- ---- version 1

-- If records replay commands from a converted state, the same records replay the same commands from
-- the state of version 1. The conversion of the state reached in version 1 is the state reached in
-- version 2.
replays_in_version_1 : (s : BenchState) (version_1 : BenchState1) (rs : List (List ℕ)) (cs : List Command) → s ≡ lift version_1 → ReplaysCommands One s rs cs → ReplaysCommands1 version_1 rs cs × (fold s cs ≡ lift (fold_1 version_1 cs))
replays_in_version_1 s version_1 [] [] e h = (tt, e)
replays_in_version_1 s version_1 [] (c ∷ cs) e h = absurd h
replays_in_version_1 s version_1 (r ∷ rs) [] e h = absurd h
replays_in_version_1 s version_1 (r ∷ rs) (c ∷ cs) e h =
    let lifted_command = command-lifts version_1 c h.0.1 in
    let rest = replays_in_version_1 (after s c) (after_1 version_1 c) rs cs (ap (λ (x : BenchState). after x c) e ∙ sym lifted_command.after) (h.2) in
    ((h.0, sym lifted_command.refusal ∙ subst (λ (x : BenchState). refusal x c ≡ None) e h.1, rest.0), rest.1)

replays_after_conversion : (version_1 : BenchState1) (rs : List (List ℕ)) (cs : List Command) → ReplaysCommands1 version_1 rs cs → ReplaysCommands One (lift version_1) rs cs × (fold (lift version_1) cs ≡ lift (fold_1 version_1 cs))
replays_after_conversion version_1 [] [] h = (tt, refl)
replays_after_conversion version_1 [] (c ∷ cs) h = absurd h
replays_after_conversion version_1 (r ∷ rs) [] h = absurd h
replays_after_conversion version_1 (r ∷ rs) (c ∷ cs) h =
    let lifted_command = command-lifts version_1 c h.0.1 in
    let rest = replays_after_conversion (after_1 version_1 c) rs cs (h.2) in (
      (h.0, lifted_command.refusal ∙ h.1, subst (λ (x : BenchState). ReplaysCommands One x rs cs) lifted_command.after rest.0),
      ap (λ (x : BenchState). fold x cs) (sym lifted_command.after) ∙ rest.1,
    )

-- if the snapshot and the records of a file represent the state `s` in version 1, so does the file
pub represents_converted_from_records : (file snap : List ℕ) (records : List (List ℕ)) (s : BenchState) → Holds file snap records → RecordsRepresent One snap records s → RepresentsConverted file s
represents_converted_from_records file snap records s holds records_represent =
    let both = replays_in_version_1 records_represent.start records_represent.snapshot.version_1 records records_represent.commands records_represent.snapshot.lifted records_represent.replays in
    record {
      snap = snap;
      records = records;
      holds = holds;
      version_1 = fold_1 records_represent.snapshot.version_1 records_represent.commands;
      records_represent = record { start = records_represent.snapshot.version_1; snapshot = records_represent.snapshot.spells; commands = records_represent.commands; replays = both.0; bounded = records_represent.bounded; state = refl };
      lifted = records_represent.state ∙ both.1;
    }

-- `RecordsRepresent1` for a state of version 1 implies `RecordsRepresent One` for its conversion
pub records_represent_after_conversion : (snap : List ℕ) (records : List (List ℕ)) (version_1 : BenchState1) → RecordsRepresent1 snap records version_1 → RecordsRepresent One snap records (lift version_1)
records_represent_after_conversion snap records version_1 records_represent =
    let both = replays_after_conversion records_represent.start records records_represent.commands records_represent.replays in
    record {
      start = lift records_represent.start;
      snapshot = record { version_1 = records_represent.start; spells = records_represent.snapshot; lifted = refl };
      commands = records_represent.commands;
      replays = both.0;
      bounded = records_represent.bounded;
      state = ap lift records_represent.state ∙ sym both.1;
    }

held_state_is_represented : (file : List ℕ) (s : BenchState) → HoldsState file s → Represents file s
held_state_is_represented file s held = file_of_snapshot_represents_its_state file held.snap s held.spells held.holds

-- while a snapshot of the store's state replaces the contents of the store, each image is an old
-- image or represents that state
leaves_old_image_or_state_while_migrating : (old mid new : DiskState) (snap : List ℕ) (records : List (List ℕ)) (s : BenchState) → OpensStore old mid snap records → RecordsRepresent One snap records s
    → LeavesOnly mid new (SatisfiesEither (λ c. Holds c snap records) (λ c. HoldsState c s)) → LeavesOldImageOrState old new s
leaves_old_image_or_state_while_migrating old mid new snap records s opened records_represent moments =
    leaves_only_in_two_stretches old mid new (SatisfiesEither (images_of old) (λ file. RepresentsInEitherVersion file s)) (leaves_old_images_if_none_added old mid s opened.adds_no_image)
    (leaves_only_weaker_property mid new (SatisfiesEither (λ c. Holds c snap records) (λ c. HoldsState c s)) (SatisfiesEither (images_of old) (λ file. RepresentsInEitherVersion file s))
    (λ c. ⊎_elim (λ there. inr (inr (represents_converted_from_records c snap records s there records_represent))) (λ here. inr (inl (held_state_is_represented c s here)))) moments)

-- a file of version 1 is opened in its converted state, once a durable snapshot of that state has
-- replaced its contents
opens_session_of_version_1 : (old mid new : DiskState) (snap : List ℕ) (records : List (List ℕ)) (cycles : ℕ) (s : BenchState) → OpensStore old mid snap records → IsReplayed One snap records cycles s
    → HoldsState (bytes_of new) s → IsDurable new → OpensSession old new s
opens_session_of_version_1 old mid new snap records cycles s opened replayed held durable = record {
  represented_before = inr (represents_converted_from_records (bytes_of old) snap records s opened.holds replayed.records_represent);
  represents = durable_disk_represents new s durable (held_state_is_represented (bytes_of new) s held);
}

-- a file of version 1 is migrated once a snapshot of its converted state has replaced its contents
pub migrates_session_of_version_1 : (old mid new : DiskState) (snap : List ℕ) (records : List (List ℕ)) (cycles : ℕ) (s : BenchState) → OpensStore old mid snap records → IsReplayed One snap records cycles s
    → LeavesOnly mid new (SatisfiesEither (λ c. Holds c snap records) (λ c. HoldsState c s)) → HoldsState (bytes_of new) s → MigratesSession old new s
migrates_session_of_version_1 old mid new snap records cycles s opened replayed moments held = record {
  leaves = leaves_old_image_or_state_while_migrating old mid new snap records s opened replayed.records_represent moments;
  adds_no_image = λ last. absurd (of_last last);
  migrated = λ _. held;
}
  where
    of_last : Represents (bytes_of old) s → ⊥
    of_last last = snapshot_has_only_one_version last.snap last.records_represent.start replayed.records_represent.snapshot.version_1 last.records_represent.snapshot (subst (λ (x : List ℕ). EncodesState1 x replayed.records_represent.snapshot.version_1) (sym (snapshot_is_unique _ _ _ _ _ last.holds opened.holds)) replayed.records_represent.snapshot.spells)

pub fails_during_migration : (old mid new : DiskState) (snap : List ℕ) (records : List (List ℕ)) (cycles : ℕ) (s : BenchState) → OpensStore old mid snap records → IsReplayed One snap records cycles s
    → LeavesOnly mid new (SatisfiesEither (λ c. Holds c snap records) (λ c. HoldsState c s)) → FailsDuringMigration old new
fails_during_migration old mid new snap records cycles s opened replayed moments = record {
  state = s;
  represents = represents_converted_from_records (bytes_of old) snap records s opened.holds replayed.records_represent;
  leaves = leaves_old_image_or_state_while_migrating old mid new snap records s opened replayed.records_represent moments;
}

-- ---- errors of `open`

-- if a file represents a state in version 2, so do the snapshot and the records that it holds
pub records_represent_state_of_file : (file snap : List ℕ) (records : List (List ℕ)) (s : BenchState) → Holds file snap records → Represents file s → RecordsRepresent Two snap records s
records_represent_state_of_file file snap records s held represents =
    subst (λ (x : List (List ℕ)). RecordsRepresent Two snap x s) (records_are_unique _ _ _ _ _ represents.holds held)
    (subst (λ (x : List ℕ). RecordsRepresent Two x represents.records s) (snapshot_is_unique _ _ _ _ _ represents.holds held) represents.records_represent)

records_represent_converted_state : (file snap : List ℕ) (records : List (List ℕ)) (s : BenchState) → Holds file snap records → RepresentsConverted file s → RecordsRepresent One snap records s
records_represent_converted_state file snap records s held version_1 =
    subst (λ (x : BenchState). RecordsRepresent One snap records x) (sym version_1.lifted)
    (subst (λ (x : List (List ℕ)). RecordsRepresent One snap x (lift version_1.version_1)) (records_are_unique _ _ _ _ _ version_1.holds held)
    (subst (λ (x : List ℕ). RecordsRepresent One x version_1.records (lift version_1.version_1)) (snapshot_is_unique _ _ _ _ _ version_1.holds held) (records_represent_after_conversion version_1.snap version_1.records version_1.version_1 version_1.records_represent)))

-- a file that represents a state in version 2 represents no other state in either version
pub version_2_state_is_unique : (file : List ℕ) (s t : BenchState) → Represents file s → RepresentsInEitherVersion file t → s ≡ t
version_2_state_is_unique file s t a (inl b) = state_of_records_is_unique Two a.snap b.snap a.records b.records s t (snapshot_is_unique _ _ _ _ _ a.holds b.holds) (records_are_unique _ _ _ _ _ a.holds b.holds) a.records_represent b.records_represent
version_2_state_is_unique file s t a (inr b) = absurd (snapshot_has_only_one_version a.snap a.records_represent.start b.records_represent.start a.records_represent.snapshot (subst (λ (x : List ℕ). EncodesState1 x b.records_represent.start) (snapshot_is_unique _ _ _ _ _ b.holds a.holds) b.records_represent.snapshot))

-- a disk that holds a snapshot and records has the size and the first eight bytes of a session file
pub is_session_file : (disk : DiskState) (snap : List ℕ) (records : List (List ℕ)) → Holds (bytes_of disk) snap records → IsNotSessionFile disk → ⊥
is_session_file disk snap records holds other = elim other [
  | inl wrong ↦ wrong (sym (length-bytes_of disk) ∙ holds.size)
  | inr unnamed ↦ unnamed holds.name
]

-- if the snapshot and the records represent no state, the condition that the error `Damaged`
-- implies is true, and opening the store added no image
pub damaged_if_no_state_is_represented : (old new : DiskState) (snap : List ℕ) (records : List (List ℕ)) → OpensStore old new snap records → ((v : Version) (s : BenchState) → RecordsRepresent v snap records s → ⊥) → SessionErrorImplies Damaged old × AddsNoImage old new
damaged_if_no_state_is_represented old new snap records opened none = (
  (
    is_session_file old snap records opened.holds,
    λ s. ⊎_elim (λ represents. none Two s (records_represent_state_of_file (bytes_of old) snap records s opened.holds represents)) (λ version_1. none One s (records_represent_converted_state (bytes_of old) snap records s opened.holds version_1)),
  ),
  opened.adds_no_image,
)

pub session_error_from_store_error : (fault : StoreFault) (disk : DiskState) → OpenErrorImplies fault disk → SessionErrorImplies fault disk
session_error_from_store_error NotASession disk h = h
session_error_from_store_error Damaged disk h = (h.0, λ s. ⊎_elim (λ represents. h.1 represents.snap represents.records represents.holds) (λ version_1. h.1 version_1.snap version_1.records version_1.holds))
session_error_from_store_error Device disk h = tt
session_error_from_store_error NoMemory disk h = tt
session_error_from_store_error NotBlank disk h = h

pub failed_open_effect_if_no_image_added : (fault : StoreFault) (old new : DiskState) → AddsNoImage old new → FailedOpenEffect fault old new
failed_open_effect_if_no_image_added NotASession old new h = h
failed_open_effect_if_no_image_added Damaged old new h = h
failed_open_effect_if_no_image_added Device old new h = inl h
failed_open_effect_if_no_image_added NoMemory old new h = h
failed_open_effect_if_no_image_added NotBlank old new h = h

-- the session that `start_session` started has the state that the opened store represents
pub opens_session_of_either_version : (v : Version) (old mid new : DiskState) (snap : List ℕ) (records : List (List ℕ)) (cycles : ℕ) (s : BenchState) → OpensStore old mid snap records → IsReplayed v snap records cycles s
    → (v ≡ Two → OpensSession old mid s → OpensSession old new s) → (v ≡ One → ReplacedContents mid new snap records s) → OpensSession old new s
opens_session_of_either_version Two old mid new snap records cycles s opened replayed same replaced = same refl (opens_session_of_version_2 old mid snap records cycles s opened replayed)
opens_session_of_either_version One old mid new snap records cycles s opened replayed same replaced =
    let replaced_contents = replaced refl in opens_session_of_version_1 old mid new snap records cycles s opened replayed replaced_contents.held replaced_contents.durable

pub migrates_session_of_either_version : (v : Version) (old mid new : DiskState) (snap : List ℕ) (records : List (List ℕ)) (cycles : ℕ) (s : BenchState) → OpensStore old mid snap records → IsReplayed v snap records cycles s
    → (v ≡ Two → MigratesSession old mid s → MigratesSession old new s) → (v ≡ One → ReplacedContents mid new snap records s) → MigratesSession old new s
migrates_session_of_either_version Two old mid new snap records cycles s opened replayed same replaced = same refl (migrates_session_of_version_2 old mid snap records cycles s opened replayed)
migrates_session_of_either_version One old mid new snap records cycles s opened replayed same replaced =
    let replaced_contents = replaced refl in migrates_session_of_version_1 old mid new snap records cycles s opened replayed replaced_contents.leaves replaced_contents.held

pub fails_during_migration_if_version_1 : (v : Version) (old mid new : DiskState) (snap : List ℕ) (records : List (List ℕ)) (cycles : ℕ) (s : BenchState) → v ≡ One → OpensStore old mid snap records → IsReplayed v snap records cycles s
    → MayReplaceContents mid new snap records s → FailsDuringMigration old new
fails_during_migration_if_version_1 Two old mid new snap records cycles s e opened replayed moments = absurd (cc)
fails_during_migration_if_version_1 One old mid new snap records cycles s e opened replayed moments = fails_during_migration old mid new snap records cycles s opened replayed moments

pub device_error_if_migration_fails : (fault : StoreFault) (old new : DiskState) → fault ≡ Device → FailsDuringMigration old new → SessionErrorImplies fault old × FailedOpenEffect fault old new
device_error_if_migration_fails fault old new e fails = rw e (tt, inr fails)

pub recorded_after_open_if_version_2 : (v : Version) (old new : DiskState) (snap : List ℕ) (records : List (List ℕ)) (cycles : ℕ) (s : BenchState) → v ≡ Two → OpensStore old new snap records → IsReplayed v snap records cycles s → IsRecorded new cycles s
recorded_after_open_if_version_2 Two old new snap records cycles s e opened replayed = recorded_after_open old new snap records cycles s opened replayed
recorded_after_open_if_version_2 One old new snap records cycles s e opened replayed = absurd (cc)

-- a file represents at most one state in version 1
pub version_1_state_is_unique : (file : List ℕ) (s t : BenchState) → RepresentsConverted file s → RepresentsConverted file t → s ≡ t
version_1_state_is_unique file s t a b = state_of_records_is_unique One a.snap b.snap a.records b.records s t (snapshot_is_unique _ _ _ _ _ a.holds b.holds) (records_are_unique _ _ _ _ _ a.holds b.holds) (records_represent_converted_state file a.snap a.records s a.holds a) (records_represent_converted_state file b.snap b.records t b.holds b)

-- a file represents at most one state in either version
pub represented_state_is_unique : (file : List ℕ) (s t : BenchState) → RepresentsInEitherVersion file s → RepresentsInEitherVersion file t → s ≡ t
represented_state_is_unique file s t (inl a) b = version_2_state_is_unique file s t a b
represented_state_is_unique file s t (inr a) (inl b) = sym (version_2_state_is_unique file t s b (inr a))
represented_state_is_unique file s t (inr a) (inr b) = version_1_state_is_unique file s t a b

-- if every image represented a state in version 1, and each later image is an old image or
-- represents that state, no power cut loses the state
pub version_1_state_is_kept : (old new : DiskState) (s u : BenchState) → LeavesOldImageOrState old new u → u ≡ s → DiskRepresentsConverted old s → DiskRepresentsSince (time_of old) new s
version_1_state_is_kept old new s u moments same each image left = ⊎_elim (λ before. inr (each image before)) (λ now. subst (λ (x : BenchState). RepresentsInEitherVersion image x) same now) (moments.each image left)

pub opening_version_1_keeps_state : (old new : DiskState) (s u : BenchState) → DiskRepresentsConverted old s → OpensSession old new u → MigratesSession old new u
    → (u ≡ s) × (HoldsState (bytes_of new) s × DiskRepresentsSince (time_of old) new s)
opening_version_1_keeps_state old new s u each opens does =
    let represents_converted : RepresentsConverted (bytes_of old) s = each (bytes_of old) (disk_is_lawful old).current in
    let equal_states : u ≡ s = represented_state_is_unique (bytes_of old) u s opens.represented_before (inr represents_converted) in
    (equal_states, (subst (HoldsState (bytes_of new)) equal_states (does.migrated (subst (RepresentsConverted (bytes_of old)) (sym equal_states) represents_converted)), version_1_state_is_kept old new s u does.leaves equal_states each))

failed_migration_keeps_state : (old new : DiskState) (s : BenchState) → DiskRepresentsConverted old s → FailsDuringMigration old new → DiskRepresentsSince (time_of old) new s
failed_migration_keeps_state old new s each fails =
    let represents_converted : RepresentsConverted (bytes_of old) s = each (bytes_of old) (disk_is_lawful old).current in
    version_1_state_is_kept old new s fails.state fails.leaves (version_1_state_is_unique (bytes_of old) fails.state s fails.represents represents_converted) each

-- reads and syncs of a disk of version 1 leave only images that represent its converted state
version_1_state_kept_if_no_image_added : (old new : DiskState) (s : BenchState) → DiskRepresentsConverted old s → AddsNoImage old new → DiskRepresentsSince (time_of old) new s
version_1_state_kept_if_no_image_added old new s each adds_no_image image left = inr (each image ((disk_is_lawful old).since_now_implies_now image (image_since_is_old_without_new_image old new adds_no_image (time_of old) image left)))

pub failed_open_keeps_version_1_state : (fault : StoreFault) (old new : DiskState) (s : BenchState) → DiskRepresentsConverted old s → FailedOpenEffect fault old new → DiskRepresentsSince (time_of old) new s
failed_open_keeps_version_1_state NotASession old new s each adds_no_image = version_1_state_kept_if_no_image_added old new s each adds_no_image
failed_open_keeps_version_1_state Damaged old new s each adds_no_image = version_1_state_kept_if_no_image_added old new s each adds_no_image
failed_open_keeps_version_1_state Device old new s each (inl adds_no_image) = version_1_state_kept_if_no_image_added old new s each adds_no_image
failed_open_keeps_version_1_state Device old new s each (inr fails) = failed_migration_keeps_state old new s each fails
failed_open_keeps_version_1_state NoMemory old new s each adds_no_image = version_1_state_kept_if_no_image_added old new s each adds_no_image
failed_open_keeps_version_1_state NotBlank old new s each adds_no_image = version_1_state_kept_if_no_image_added old new s each adds_no_image
