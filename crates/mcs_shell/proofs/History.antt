-- The commands that are kept after any number of runs.
use Rattle.std.proofs.Common.{◌≡◌, ◌⊎◌, inl, inr, ◌≤◌, ⊎_elim, ℕ, List, [], ◌∷◌, ◌++◌, length, take, drop, take-append-drop, sym, ap, ◌∙◌, refl, subst, arith}
use Rattle.std.proofs.lemmas.Bool.{cases_lt}
use Rattle.std.proofs.lemmas.Grind.{common_steps}
use Rattle.mcs_disk.proofs.CallLaws.{disk_is_lawful}
use Rattle.mcs_disk.proofs.StretchComposition.{only_image_since_now_if_durable, image_since_is_old_without_new_image, image_since_before_or_in_stretch}
use Rattle.mcs_disk.specs.Disk.{DiskState, bytes_of, time_of, images_of, images_since}
use Rattle.mcs_disk.specs.Stretches.{AddsNoImage}
use Rattle.mcs_disk.specs.PowerCut.{IsLeftByCut, IsDurable}
use Rattle.mcs_journal.specs.declared.fault.StoreFault.{StoreFault}
use Rattle.mcs_journal.specs.declared.fault.StoreFault.TheVariants.{NotASession, Damaged, Device, NotBlank, NoMemory}
use Rattle.mcs_model.specs.declared.command.Command.{Command}
use Rattle.mcs_model.specs.BenchState.{BenchState}
use Rattle.mcs_model.specs.Fold.{fold}
use Rattle.mcs_session.specs.Acknowledgements.{acknowledged_by}
use Rattle.mcs_session.specs.KeptCommands.{IsOpenOnHonestDisk, RepresentsPrefix}
use Rattle.mcs_session.specs.SessionCalls.{FailsDuringMigration, MigratesSession, FailedOpenEffect}
use Rattle.mcs_session.specs.Opening.{SessionErrorImplies}
use Rattle.mcs_session.specs.SessionState.{session_state}
use Rattle.mcs_session.specs.Represents.{RepresentsInEitherVersion, Represents}
use Rattle.mcs_session.proofs.Files.{is_session_file, represented_state_is_unique}
use Rattle.mcs_session.proofs.Folds.{fold-append}
use Rattle.mcs_session.proofs.Prefixes.{none_acknowledged_before_run}
use Rattle.mcs_session.proofs.LogCommands.{acknowledged_moments_rise}
use Rattle.mcs_shell.specs.History.{IsSittingOn, History, IsHistory, AreKeptFromSitting, AreKeptFromSittings, AreKeptFromRun, Refused, Served, Sitting, StoppedSitting, SurvivesHistory, disk_after}
use Rattle.mcs_shell.specs.Headline.{AnswersAndAcknowledges, acknowledged_commands_of_run, reached_commands_of_run}
use Rattle.mcs_shell.specs.Program.{OpenBegins, OpenRefusal}
use Rattle.mcs_shell.specs.RefusalNumbers.{store_fault_number}
use Rattle.mcs_shell.specs.Shell.{ShellRun}
use Rattle.mcs_shell.proofs.SurvivingCommands.{answers_and_acknowledges_run, disk_honest_after_run, keeps_commands_of_run}

-- Holds if a disk is honest and durable, and its bytes represent the state `s`. (On a durable disk,
-- a power cut leaves the bytes that a read returns.)
record DurablyRepresents (disk : DiskState) (s : BenchState) : Type 0 where
  pub honest : disk.honest
  pub durable : IsDurable disk
  pub represents : RepresentsInEitherVersion (bytes_of disk) s

-- Holds if each disk that `IsFound` allows after a stop can also be left by a power cut.
abbrev AllowsOnlyPowerCuts : {D : Type 0} → (D → DiskState) → (ℕ → D → D → Type 0) → Type 0
AllowsOnlyPowerCuts {D = D} state_of IsFound = (t : ℕ) (left found : D) → (state_of left).honest → IsFound t left found → IsLeftByCut t (state_of left) (state_of found)

-- ---- one run

length_of_prefix : (cs : List Command) (n : ℕ) → n ≤ length cs → length (take n cs) ≡ n
length_of_prefix cs n few = grind (arith, common_steps)

-- If the disk found after a stop represents the state after a prefix of a run's commands, these
-- commands are kept from the run.
prefix_kept_from_run : {D : Type 0} (state_of : D → DiskState) (run : ShellRun state_of) (t u : ℕ) (s : BenchState) → run.before.state ≡ s → IsOpenOnHonestDisk (session_state state_of run.before)
    → (a : AnswersAndAcknowledges run) → acknowledged_by t a.acknowledged.moments ≤ acknowledged_by u a.acknowledged.moments → (found : DiskState) → found.honest → IsDurable found
    → RepresentsPrefix run.before.state (reached_commands_of_run run) (acknowledged_by u a.acknowledged.moments) (bytes_of found)
    → (kept : List Command) × AreKeptFromRun state_of run t s kept × DurablyRepresents found (fold s kept)
prefix_kept_from_run state_of run t u s same given a fewer found honest durable h =
    let reached : List Command = reached_commands_of_run run in
    let least = h.after.at_least in
    let most = h.after.at_most in
    let kept_length : length (take h.after.count reached) ≡ h.after.count = length_of_prefix reached h.after.count most in
    let state_is : h.state ≡ fold s (take h.after.count reached) = h.after.state ∙ ap (λ (v : BenchState). fold v (take h.after.count reached)) same in (
      take h.after.count reached,
      record {
        begins_in_state = same;
        answered = a;
        not_kept = drop h.after.count reached;
        parts = sym (take-append-drop h.after.count reached);
        keeps_acknowledged = omega (arith, fewer, least, kept_length);
      },
      record { honest = honest; durable = durable; represents = inl (subst (Represents (bytes_of found)) state_is h.represents) },
    )

-- If a run was stopped after its session had opened, some of its commands (perhaps none) are kept,
-- and the disk found represents the state after these commands.
kept_if_stopped_after_opening : {D : Type 0} (state_of : D → DiskState) → (run : ShellRun state_of) (t : ℕ) (s : BenchState) (found : D) → run.before.state ≡ s → IsOpenOnHonestDisk (session_state state_of run.before)
    → time_of (state_of run.before.disk) ≤ t → IsLeftByCut t (state_of run.after.disk) (state_of found)
    → (kept : List Command) × AreKeptFromRun state_of run t s kept × DurablyRepresents (state_of found) (fold s kept)
kept_if_stopped_after_opening state_of run t s found same given late cut =
    let kept_commands = keeps_commands_of_run state_of run given in
    prefix_kept_from_run state_of run t t s same given (answers_and_acknowledges_run state_of run kept_commands) (omega arith) (state_of found) cut.honest cut.durable (kept_commands.each t (bytes_of (state_of found)) late cut.found)

-- A run can also be stopped while its session is being opened, or at the end of the opening. Some
-- of its commands (perhaps none) are then kept, and the disk found represents the state after these
-- commands.
kept_if_stopped_while_opening : {D : Type 0} (state_of : D → DiskState) → (disk : D) (run : ShellRun state_of) (t : ℕ) (s : BenchState) (found : D) → DurablyRepresents (state_of disk) s → run.before.state ≡ s → IsOpenOnHonestDisk (session_state state_of run.before)
    → MigratesSession (state_of disk) (state_of run.before.disk) run.before.state → time_of (state_of disk) ≤ t → t ≤ time_of (state_of run.before.disk) → IsLeftByCut t (state_of run.after.disk) (state_of found)
    → (kept : List Command) × AreKeptFromRun state_of run t s kept × DurablyRepresents (state_of found) (fold s kept)
kept_if_stopped_while_opening state_of disk run t s found here same given migrates late early cut =
    let before : DiskState = state_of run.before.disk in
    let image : List ℕ = bytes_of (state_of found) in
    let kept_commands = keeps_commands_of_run state_of run given in
    let done : List Command = acknowledged_commands_of_run run in
    let none_acknowledged : acknowledged_by t kept_commands.acknowledged.moments ≡ 0 = none_acknowledged_before_run t (time_of before) kept_commands.acknowledged.moments early (acknowledged_moments_rise before (state_of run.after.disk) done kept_commands.acknowledged) in
    elim (image_since_before_or_in_stretch before (state_of run.after.disk) kept_commands.later t image cut.found) [
      | inl left ↦
          let image_represents : RepresentsInEitherVersion image s = ⊎_elim
          (λ (old : images_of (state_of disk) image). subst (λ (file : List ℕ). RepresentsInEitherVersion file s) (sym (here.durable image old)) here.represents)
          (λ (new : RepresentsInEitherVersion image run.before.state). subst (RepresentsInEitherVersion image) same new)
          (migrates.leaves.each image ((disk_is_lawful before).since_later_implies_since_earlier (time_of (state_of disk)) t image late left)) in (
            [],
            record { begins_in_state = same; answered = answers_and_acknowledges_run state_of run kept_commands; not_kept = reached_commands_of_run run; parts = refl; keeps_acknowledged = omega (arith, none_acknowledged) },
            record { honest = cut.honest; durable = cut.durable; represents = image_represents },
          )
      | inr now ↦
          prefix_kept_from_run state_of run t (time_of before) s same given (answers_and_acknowledges_run state_of run kept_commands) (omega (arith, none_acknowledged)) (state_of found) cut.honest cut.durable (kept_commands.each (time_of before) image (omega arith) now)
    ]

kept_from_served_run : {D : Type 0} (state_of : D → DiskState) → (disk : D) (run : ShellRun state_of) (t : ℕ) (s : BenchState) (found : D) → DurablyRepresents (state_of disk) s
    → OpenBegins (state_of disk) (state_of run.before.disk) run.before.live run.before.state → time_of (state_of disk) ≤ t → ((state_of run.after.disk).honest → IsLeftByCut t (state_of run.after.disk) (state_of found))
    → (kept : List Command) × AreKeptFromRun state_of run t s kept × DurablyRepresents (state_of found) (fold s kept)
kept_from_served_run state_of disk run t s found here opened_on_disk late cut =
    let opens = opened_on_disk.opens here.honest in
    let equal_states : run.before.state ≡ s = represented_state_is_unique (bytes_of (state_of disk)) run.before.state s opens.represented_before here.represents in
    let open_on_honest_disk : IsOpenOnHonestDisk (session_state state_of run.before) = (opened_on_disk.is_open, opened_on_disk.counts.honest.1 here.honest) in
    let left = cut (disk_honest_after_run state_of run open_on_honest_disk.1) in
    elim (cases_lt t (time_of (state_of run.before.disk))) [
      | inl early ↦ kept_if_stopped_while_opening state_of disk run t s found here equal_states open_on_honest_disk (opened_on_disk.migrates here.honest) late (omega (arith, early)) left
      | inr since ↦ kept_if_stopped_after_opening state_of run t s found equal_states open_on_honest_disk since left
    ]

-- ---- an `open` that began no session

not_a_session_impossible : (disk : DiskState) (s : BenchState) → RepresentsInEitherVersion (bytes_of disk) s → SessionErrorImplies NotASession disk → ⊥
not_a_session_impossible disk s (inl represents) none = is_session_file disk represents.snap represents.records represents.holds none
not_a_session_impossible disk s (inr represents) none = is_session_file disk represents.snap represents.records represents.holds none

fault_number_is_53_or_90 : (fault : StoreFault) (disk : DiskState) (s : BenchState) → DurablyRepresents disk s → SessionErrorImplies fault disk → (store_fault_number fault ≡ 53) ⊎ (store_fault_number fault ≡ 90)
fault_number_is_53_or_90 NotASession disk s here h = absurd (not_a_session_impossible disk s here.represents h)
fault_number_is_53_or_90 Damaged disk s here h = absurd (h.1 s here.represents)
fault_number_is_53_or_90 Device disk s here h = inl refl
fault_number_is_53_or_90 NoMemory disk s here h = inr refl
fault_number_is_53_or_90 NotBlank disk s here h = absurd h

represented_without_new_image : (disk left : DiskState) (image : List ℕ) (s : BenchState) → DurablyRepresents disk s → AddsNoImage disk left → images_since (time_of disk) left image → RepresentsInEitherVersion image s
represented_without_new_image disk left image s here rests now = subst (λ (file : List ℕ). RepresentsInEitherVersion file s) (sym (only_image_since_now_if_durable disk here.durable image (image_since_is_old_without_new_image disk left rests (time_of disk) image now))) here.represents

represented_after_failed_migration : (disk left : DiskState) (image : List ℕ) (s : BenchState) → DurablyRepresents disk s → FailsDuringMigration disk left → images_since (time_of disk) left image → RepresentsInEitherVersion image s
represented_after_failed_migration disk left image s here fails now =
    let equal_states : fails.state ≡ s = represented_state_is_unique (bytes_of disk) fails.state s (inr fails.represents) here.represents in
    ⊎_elim
    (λ (old : images_of disk image). subst (λ (file : List ℕ). RepresentsInEitherVersion file s) (sym (here.durable image old)) here.represents)
    (λ (new : RepresentsInEitherVersion image fails.state). subst (RepresentsInEitherVersion image) equal_states new)
    (fails.leaves.each image now)

represented_after_failed_open : (fault : StoreFault) (disk left : DiskState) (image : List ℕ) (s : BenchState) → DurablyRepresents disk s → FailedOpenEffect fault disk left → images_since (time_of disk) left image → RepresentsInEitherVersion image s
represented_after_failed_open NotASession disk left image s here rests now = represented_without_new_image disk left image s here rests now
represented_after_failed_open Damaged disk left image s here rests now = represented_without_new_image disk left image s here rests now
represented_after_failed_open NotBlank disk left image s here rests now = represented_without_new_image disk left image s here rests now
represented_after_failed_open NoMemory disk left image s here rests now = represented_without_new_image disk left image s here rests now
represented_after_failed_open Device disk left image s here (inl rests) now = represented_without_new_image disk left image s here rests now
represented_after_failed_open Device disk left image s here (inr fails) now = represented_after_failed_migration disk left image s here fails now

refusal_number_is_53_or_90 : {D : Type 0} (state_of : D → DiskState) (disk left : D) (number : ℕ) (s : BenchState) → DurablyRepresents (state_of disk) s → OpenRefusal (state_of disk) (state_of left) number → (number ≡ 53) ⊎ (number ≡ 90)
refusal_number_is_53_or_90 state_of disk left number s here refused =
    elim (fault_number_is_53_or_90 refused.fault (state_of disk) s here (refused.refuses here.honest).0) [ inl is ↦ inl (refused.number_is ∙ is) | inr is ↦ inr (refused.number_is ∙ is) ]

durably_represented_after_refusal : {D : Type 0} (state_of : D → DiskState) → (disk left found : D) (number t : ℕ) (s : BenchState) → DurablyRepresents (state_of disk) s → OpenRefusal (state_of disk) (state_of left) number
    → time_of (state_of disk) ≤ t → ((state_of left).honest → IsLeftByCut t (state_of left) (state_of found)) → DurablyRepresents (state_of found) s
durably_represented_after_refusal state_of disk left found number t s here refused late stopped =
    let honest = refused.counts.honest.1 here.honest in
    let left_by_cut = stopped honest in
    let image : List ℕ = bytes_of (state_of found) in
    record {
      honest = left_by_cut.honest;
      durable = left_by_cut.durable;
      represents = represented_after_failed_open refused.fault (state_of disk) (state_of left) image s here (refused.refuses here.honest).1 ((disk_is_lawful (state_of left)).since_later_implies_since_earlier (time_of (state_of disk)) t image late left_by_cut.found);
    }

-- ---- all sittings

kept_from_sitting : {D : Type 0} (state_of : D → DiskState) → (disk found : D) (x : Sitting state_of) (t : ℕ) (s : BenchState) → DurablyRepresents (state_of disk) s → IsSittingOn disk x → time_of (state_of disk) ≤ t
    → ((state_of (disk_after x)).honest → IsLeftByCut t (state_of (disk_after x)) (state_of found)) → (kept : List Command) × AreKeptFromSitting state_of x t s kept × DurablyRepresents (state_of found) (fold s kept)
kept_from_sitting state_of disk found (Served run) t s here is_on_disk late stopped = kept_from_served_run state_of disk run t s found here is_on_disk late stopped
kept_from_sitting state_of disk found (Refused number left) t s here is_on_disk late stopped = ([], (refl, refusal_number_is_53_or_90 state_of disk left number s here is_on_disk), durably_represented_after_refusal state_of disk left found number t s here is_on_disk late stopped)

kept_from_sittings : {D : Type 0} (state_of : D → DiskState) (IsFound : ℕ → D → D → Type 0) → AllowsOnlyPowerCuts state_of IsFound → (disk : D) (xs : List (StoppedSitting state_of)) (last : D) (s : BenchState) → DurablyRepresents (state_of disk) s → IsHistory IsFound disk xs last
    → (kept : List Command) × AreKeptFromSittings state_of xs s kept × DurablyRepresents (state_of last) (fold s kept)
kept_from_sittings {D = D} state_of IsFound cuts disk [] last s here others_follow = ([], refl, subst (λ (d : D). DurablyRepresents (state_of d) s) (sym others_follow) here)
kept_from_sittings state_of IsFound cuts disk (x ∷ xs) last s here others_follow =
    let first_kept = kept_from_sitting state_of disk x.found x.sitting x.time s here others_follow.0 others_follow.1 (λ honest. cuts x.time (disk_after x.sitting) x.found honest others_follow.2) in
    let later_kept = kept_from_sittings state_of IsFound cuts x.found xs last (fold s first_kept.0) first_kept.2 others_follow.3 in (
      first_kept.0 ++ later_kept.0,
      (first_kept.0, later_kept.0, refl, first_kept.1, later_kept.1),
      subst (DurablyRepresents (state_of last)) (sym (fold-append s first_kept.0 later_kept.0)) later_kept.2,
    )

-- ---- the session opened at the end

pub survives_history : {D : Type 0} (state_of : D → DiskState) (IsFound : ℕ → D → D → Type 0) → AllowsOnlyPowerCuts state_of IsFound → (history : History state_of IsFound)
    → IsOpenOnHonestDisk (session_state state_of history.first.before) → SurvivesHistory history
survives_history state_of IsFound cuts history given =
    let s : BenchState = history.first.before.state in
    let first = kept_if_stopped_after_opening state_of history.first history.time s history.found refl given history.since (cuts history.time history.first.after.disk history.found (disk_honest_after_run state_of history.first given.1) history.stopped) in
    let others = kept_from_sittings state_of IsFound cuts history.found history.others history.last (fold s first.0) first.2 history.others_follow in
    let durable_state = others.2 in
    record {
      kept = first.0 ++ others.0;
      of_each = (first.0, others.0, refl, first.1, others.1);
      reopened = λ session begun.
          represented_state_is_unique (bytes_of (state_of history.last)) session.state (fold (fold s first.0) others.0) (begun.opens durable_state.honest).represented_before durable_state.represents ∙ sym (fold-append s first.0 others.0);
      not_refused = λ number refused.
          refusal_number_is_53_or_90 state_of history.last refused.0 number (fold (fold s first.0) others.0) durable_state refused.1;
    }
