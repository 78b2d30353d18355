-- The commands that a disk keeps after two consecutive runs, after a run without commands, and
-- after a run of one command.
use Rattle.std.proofs.Common.{◌≡◌, inl, inr, ◌≤◌, ⊎_elim, ℕ, List, [], ◌∷◌, ◌++◌, append_assoc, sym, ap, ◌∙◌, refl, subst, arith}
use Rattle.std.proofs.lemmas.Bool.{cases_lt}
use Rattle.mcs_disk.proofs.CallLaws.{disk_is_lawful}
use Rattle.mcs_disk.specs.Disk.{DiskState, IsLater, bytes_of, time_of, images_since}
use Rattle.mcs_disk.specs.Calls.{DiskCall, bytes_after, clock_of, images_after_since}
use Rattle.mcs_disk.proofs.StretchComposition.{is_later_transitive, time_of_later_disk, image_since_before_or_in_stretch}
use Rattle.mcs_model.specs.declared.command.Command.{Command}
use Rattle.mcs_model.specs.BenchState.{BenchState}
use Rattle.mcs_model.specs.Command.{after}
use Rattle.mcs_model.specs.Fold.{fold}
use Rattle.mcs_session.specs.Represents.{Represents, DiskRepresents}
use Rattle.mcs_session.specs.Acknowledgements.{Acknowledgements, acknowledged_by, last_moment, moments_of}
use Rattle.mcs_session.specs.CommandCalls.{AcknowledgesCommand, LeavesEitherState}
use Rattle.mcs_session.specs.Log.{LogHolds, log_after_all}
use Rattle.mcs_session.specs.KeptCommands.{KeepsCommands, KeepsAllCommands, RepresentsPrefix}
use Rattle.mcs_session.proofs.LogCommands.{one_moment_per_command, log_after_all_append, log_of_file, acknowledged_moments_rise, held_commands_are_unique, file_holds_its_log, moments_of_two_runs}
use Rattle.mcs_session.proofs.Prefixes.{acknowledged-append, all_acknowledged_by_last_moment, none_acknowledged_before_moment, acknowledged_at_most_all, none_acknowledged_before_run, last_moment_of_append, represents_state_after_all_commands, represents_prefix_of_longer_list, represents_empty_prefix, represents_prefix_of_one_command, represents_prefix_of_both_lists, clock_at_most_last_moment}

-- ---- two runs

-- the acknowledgements of both runs together
abbrev acknowledgements_of_both_runs : (d e f : DiskState) (s : BenchState) (cs ds : List Command) → KeepsAllCommands d e s cs → Acknowledgements e f ds → Acknowledgements d f (cs ++ ds)
acknowledgements_of_both_runs d e f s cs ds a b =
    let first = a.kept.acknowledged in
    let later : b.log ≡ log_after_all first.log cs = held_commands_are_unique (bytes_of e) b.log (log_after_all first.log cs) b.held a.holds in
    let last_moment_of_both : last_moment (time_of d) (first.moments ++ b.moments) ≡ last_moment (time_of e) b.moments = last_moment_of_append (time_of d) first.moments b.moments ∙ ap (λ (c : ℕ). last_moment c b.moments) (sym a.clock) in
    record {
      log = first.log;
      held = first.held;
      moments = first.moments ++ b.moments;
      timed = moments_of_two_runs (time_of d) (time_of e) first.log cs ds first.moments b.moments first.timed a.clock (b.timed ∙ ap (λ (log : List Command). moments_of (time_of e) log ds) later);
      within = omega (arith, last_moment_of_both, b.within);
    }

-- Each image that a power cut since the time `u` can leave represents the state after a prefix of
-- the commands. The prefix has every command of both runs that was acknowledged by `u`.
image_represents_prefix_of_both_runs : (d e f : DiskState) (s t : BenchState) (cs done ds : List Command) (a : KeepsAllCommands d e s cs) → t ≡ fold s cs → (b : KeepsCommands e f t done ds)
    → (u : ℕ) (image : List ℕ) → time_of d ≤ u → images_since u f image → RepresentsPrefix s (cs ++ ds) (acknowledged_by u (a.kept.acknowledged.moments ++ b.acknowledged.moments)) image
image_represents_prefix_of_both_runs d e f s t cs done ds a same b u image le now =
    let ms = a.kept.acknowledged.moments in
    let ns = b.acknowledged.moments in
    let sum = acknowledged-append u ms ns in
    let at_most_all = acknowledged_at_most_all u ms in
    let count = one_moment_per_command d e cs a.kept.acknowledged in
    elim (cases_lt (time_of e) u) [
      | inl later ↦ represents_prefix_of_both_lists s t cs ds _ (acknowledged_by u ns) image same (omega (arith, sum, at_most_all, count)) (b.each u image (omega (arith, later)) now)
      | inr early ↦
          let none_in_second_run = none_acknowledged_before_run u (time_of e) ns early (acknowledged_moments_rise e f done b.acknowledged) in
          let first : acknowledged_by u (ms ++ ns) ≡ acknowledged_by u ms = omega (arith, sum, none_in_second_run) in
          elim (image_since_before_or_in_stretch e f b.later u image now) [
            | inl old ↦ rw first (represents_prefix_of_longer_list s cs ds (acknowledged_by u ms) image (a.kept.each u image le old))
            | inr new ↦ represents_prefix_of_both_lists s t cs ds _ (acknowledged_by (time_of e) ns) image same (omega (arith, first, at_most_all, count)) (b.each (time_of e) image (omega arith) new)
          ]
    ]

pub keeps_commands_of_both_runs : (d e f : DiskState) (s t : BenchState) (cs done ds : List Command) → KeepsAllCommands d e s cs → t ≡ fold s cs → KeepsCommands e f t done ds → KeepsCommands d f s (cs ++ done) (cs ++ ds)
keeps_commands_of_both_runs d e f s t cs done ds a same b = record {
  acknowledged = acknowledgements_of_both_runs d e f s cs done a b.acknowledged;
  failed = b.failed;
  reached_are = ap (λ (l : List Command). cs ++ l) b.reached_are ∙ sym (append_assoc cs done b.failed);
  each = image_represents_prefix_of_both_runs d e f s t cs done ds a same b;
  later = is_later_transitive d e f a.kept.later b.later;
}

pub keeps_all_commands_of_both_runs : (d e f : DiskState) (s t : BenchState) (cs ds : List Command) → KeepsAllCommands d e s cs → t ≡ fold s cs → KeepsAllCommands e f t ds → KeepsAllCommands d f s (cs ++ ds)
unfolding keeps_commands_of_both_runs
keeps_all_commands_of_both_runs d e f s t cs ds a same b =
    let first = a.kept.acknowledged in
    let second = b.kept.acknowledged in
    let later : second.log ≡ log_after_all first.log cs = held_commands_are_unique (bytes_of e) second.log (log_after_all first.log cs) second.held a.holds in
    record {
      kept = keeps_commands_of_both_runs d e f s t cs ds ds a same b.kept;
      clock = b.clock ∙ ap (λ (c : ℕ). last_moment c second.moments) a.clock ∙ sym (last_moment_of_append (time_of d) first.moments second.moments);
      holds = subst (LogHolds (bytes_of f)) (ap (λ (log : List Command). log_after_all log ds) later ∙ sym (log_after_all_append first.log cs ds)) b.holds;
    }

-- after a run in which no call failed, each image represents the state after all commands
pub represented_after_run : (d e : DiskState) (s t : BenchState) (cs : List Command) → t ≡ fold s cs → KeepsAllCommands d e s cs → DiskRepresents e t
represented_after_run d e s t cs same a image now =
    let ms = a.kept.acknowledged.moments in
    let rising_moments = acknowledged_moments_rise d e cs a.kept.acknowledged in
    let clock_not_later = clock_at_most_last_moment (time_of d) ms rising_moments in
    let last = a.clock in
    let all_acknowledged = all_acknowledged_by_last_moment (time_of e) (time_of d) ms (omega (arith, last)) rising_moments in
    let count = one_moment_per_command d e cs a.kept.acknowledged in
    rw same (represents_state_after_all_commands s cs (acknowledged_by (time_of e) ms) image (omega (arith, all_acknowledged, count)) (a.kept.each (time_of e) image (omega (arith, clock_not_later, last)) ((disk_is_lawful e).now_implies_since (time_of e) image now)))

-- ---- runs without commands

is_later_without_new_calls : (d e : DiskState) → e.start ≡ d.start → e.calls ≡ d.calls → IsLater d e
is_later_without_new_calls d e start calls = record { start = start; added = []; all = calls }

-- if each image of a disk represents a state, so do its current bytes
pub current_bytes_represent : (d : DiskState) (s : BenchState) → DiskRepresents d s → Represents (bytes_of d) s
current_bytes_represent d s h = h (bytes_of d) (disk_is_lawful d).current

-- a run without commands has acknowledged nothing
acknowledgements_of_no_commands : (d e : DiskState) (s : BenchState) → Represents (bytes_of d) s → time_of d ≤ time_of e → Acknowledgements d e []
acknowledgements_of_no_commands d e s represents le = record {
  log = log_of_file (bytes_of d) s represents;
  held = file_holds_its_log (bytes_of d) s represents;
  moments = [];
  timed = refl;
  within = le;
}

pub keeps_empty_run_without_new_calls : (d e : DiskState) (s : BenchState) → e.start ≡ d.start → e.calls ≡ d.calls → DiskRepresents d s → KeepsAllCommands d e s []
unfolding acknowledgements_of_no_commands
keeps_empty_run_without_new_calls d e s start calls h =
    let represents = current_bytes_represent d s h in
    record {
      kept = record {
        acknowledged = acknowledgements_of_no_commands d e s represents (time_of_later_disk d e (is_later_without_new_calls d e start calls));
        each = λ u image le now. represents_empty_prefix s [] image (h image ((disk_is_lawful d).since_now_implies_now image ((disk_is_lawful d).since_later_implies_since_earlier (time_of d) u image le (subst (λ (x : List DiskCall). images_after_since d.start x u image) calls (subst (λ (x : List ℕ). images_after_since x e.calls u image) start now)))));
        failed = [];
        reached_are = refl;
        later = is_later_without_new_calls d e start calls;
      };
      clock = ap clock_of calls;
      holds = subst (λ (file : List ℕ). LogHolds file (log_of_file (bytes_of d) s represents)) (sym (λ k. bytes_after (start k) (calls k))) (file_holds_its_log (bytes_of d) s represents);
    }

pub keeps_empty_run : (d : DiskState) (s : BenchState) → DiskRepresents d s → KeepsAllCommands d d s []
keeps_empty_run d s h = keeps_empty_run_without_new_calls d d s refl refl h

-- ---- runs of one command

pub keeps_acknowledged_command : (d e : DiskState) (s : BenchState) (c : Command) → AcknowledgesCommand d e s c → KeepsAllCommands d e s (c ∷ [])
keeps_acknowledged_command d e s c a = record {
  kept = record {
    acknowledged = record {
      log = a.log;
      held = a.held;
      moments = time_of e ∷ [];
      timed = ap (λ (m : ℕ). m ∷ []) a.ticks;
      within = omega arith;
    };
    each = λ u image le now. elim (cases_lt u (time_of e)) [
      | inl early ↦
          let none_acknowledged : acknowledged_by u (time_of e ∷ []) ≡ 0 = none_acknowledged_before_moment u (time_of e) early in
          ⊎_elim
          (λ (old : Represents image s). rw none_acknowledged (represents_empty_prefix s (c ∷ []) image old))
          (λ (new : Represents image (after s c)). represents_prefix_of_one_command s (after s c) c _ image refl (acknowledged_at_most_all u (time_of e ∷ [])) new)
          (a.leaves.each image ((disk_is_lawful e).since_later_implies_since_earlier (time_of d) u image le now))
      | inr late ↦ represents_prefix_of_one_command s (after s c) c _ image refl (acknowledged_at_most_all u (time_of e ∷ [])) (a.represents image ((disk_is_lawful e).since_now_implies_now image ((disk_is_lawful e).since_later_implies_since_earlier (time_of e) u image late now)))
    ];
    failed = [];
    reached_are = refl;
    later = a.leaves.later;
  };
  clock = refl;
  holds = a.holds;
}

pub keeps_state_at_failed_command : (d e : DiskState) (s : BenchState) (c : Command) → DiskRepresents d s → LeavesEitherState d e s (after s c) → KeepsCommands d e s [] (c ∷ [])
unfolding acknowledgements_of_no_commands
keeps_state_at_failed_command d e s c h a = record {
  acknowledged = acknowledgements_of_no_commands d e s (current_bytes_represent d s h) (time_of_later_disk d e a.later);
  each = λ u image le now.
      ⊎_elim
      (λ (old : Represents image s). represents_empty_prefix s (c ∷ []) image old)
      (λ (new : Represents image (after s c)). represents_prefix_of_one_command s (after s c) c 0 image refl (omega arith) new)
      (a.each image ((disk_is_lawful e).since_later_implies_since_earlier (time_of d) u image le now));
  failed = c ∷ [];
  reached_are = refl;
  later = a.later;
}
