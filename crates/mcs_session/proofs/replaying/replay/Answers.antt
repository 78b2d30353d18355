use Rattle.std.proofs.Common.{rules, arith, ◌≡◌, ◌+◌, ◌≤◌, ℕ, List, Option, Some, None, Result, Err, IsOk, is_err, MatchOption, refl, length, subst, sym, ap, ◌∙◌, true, false, take}
use Rattle.std.proofs.lemmas.List.{take_all}
use Rattle.mcs_model.specs.declared.command.Command.{Command}
use Rattle.mcs_model.specs.declared.refusals.BenchFault.{BenchFault}
use Rattle.mcs_model.specs.Command.{refusal}
use Rattle.mcs_model.specs.declared.limits.TheConstants.{REPLAY_CYCLES}
use Rattle.mcs_codec.proofs.CommandCodec.{encoded_command_is_unique}
use Rattle.mcs_codec.specs.Codec.{version_has_command}
use Rattle.mcs_codec.specs.declared.versions.Version.{Version}
use Rattle.mcs_session.specs.Invariant.{IsReplayed}
use Rattle.mcs_session.proofs.Records.{records_have_version_of_snapshot, no_state_with_rejected_record, take_with_next_element, replayed_with_appended_command, replayed_without_records, no_state_with_too_many_cycles}
use Rattle.mcs_session.proofs.replaying.replay.Goals as goal
use Rattle.mcs_session.proofs.replaying.replay.Goals.{After-apply-reply}

pub returns-in-Ok-None-command_of-clause-none : goal.returns-in-Ok-None-command_of-clause-none
returns-in-Ok-None-command_of-clause-none c = λ v s pair.
    no_state_with_rejected_record _ _ _ _ c.loop-at.at _ s c.get.ensures c.loop-at.invariant.so_far.records_represent (λ d spells accepted. (rw c.in-Ok-None-command_of.field-0-is at c.in-Ok-None-command_of.ensures.none) d spells.0) (records_have_version_of_snapshot v _ _ _ _ s c.loop-at.invariant.so_far.records_represent.snapshot pair)

pub returns-then-is_err-clause-none : goal.returns-then-is_err-clause-none
returns-then-is_err-clause-none c = λ v s pair.
    no_state_with_rejected_record _ _ _ _ c.loop-at.at _ s c.get.ensures c.loop-at.invariant.so_far.records_represent
    (λ d spells accepted.
    let equal_commands = encoded_command_is_unique _ d c.in-Ok-Some-command_of.command spells.0 (rw c.in-Ok-Some-command_of.field-0-is at c.in-Ok-Some-command_of.ensures.some) in
    let not_refused : refusal c.loop-at.bench c.in-Ok-Some-command_of.command ≡ None = subst (λ (x : Command). refusal c.loop-at.bench x ≡ None) equal_commands accepted in
    search rules)
    (records_have_version_of_snapshot v _ _ _ _ s c.loop-at.invariant.so_far.records_represent.snapshot pair)

pub returns-then-more-cycles-clause-none : goal.returns-then-more-cycles-clause-none
returns-then-more-cycles-clause-none c = λ v s pair.
    let bounded = c.loop-at.invariant.bounded in
    let too_many_cycles = c.if-more-cycles.true in
    let more = c.replay_cycles-more.ensures in
    no_state_with_too_many_cycles _ _ _ _ c.loop-at.at _ _ s _ c.get.ensures c.loop-at.invariant.so_far (rw c.in-Ok-Some-command_of.field-0-is at c.in-Ok-Some-command_of.ensures.some, sym c.has.ensures ∙ c.if-not-has.false) (omega (arith, bounded, too_many_cycles, more)) (records_have_version_of_snapshot v _ _ _ _ s c.loop-at.invariant.so_far.records_represent.snapshot pair)

pub returns-then-not-has-clause-none : goal.returns-then-not-has-clause-none
returns-then-not-has-clause-none c = λ v s pair.
    no_state_with_rejected_record _ _ _ _ c.loop-at.at _ s c.get.ensures c.loop-at.invariant.so_far.records_represent
    (λ d spells accepted.
    let equal_commands : d ≡ c.in-Ok-Some-command_of.command = encoded_command_is_unique _ d c.in-Ok-Some-command_of.command spells.0 (rw c.in-Ok-Some-command_of.field-0-is at c.in-Ok-Some-command_of.ensures.some) in
    let version : Version = c.in-Ok-Some.read.0 in
    let has_command : version_has_command version c.in-Ok-Some-command_of.command ≡ true = ap (λ (x : Command). version_has_command version x) (sym equal_commands) ∙ spells.1 in
    let lacks_command : version_has_command version c.in-Ok-Some-command_of.command ≡ false = sym c.has.ensures ∙ c.if-not-has.true in
    cc)
    (records_have_version_of_snapshot v _ _ _ _ s c.loop-at.invariant.so_far.records_represent.snapshot pair)

pub loop-at-init : goal.loop-at-init
loop-at-init c = record {
  within = omega arith;
  bounded = omega arith;
  so_far = replayed_without_records _ _ _ (rw c.in-Ok-Some.field-0-is at c.in-Ok-Some.ensures.some);
}

accepted_if_check_succeeds : {T : Type 0} (refused : Option BenchFault) (check : Result T BenchFault) → MatchOption refused (IsOk check) (λ fault. check ≡ Err fault) → is_err check ≡ false → refused ≡ None
accepted_if_check_succeeds None check h fine = refl
accepted_if_check_succeeds (Some fault) check h fine = let true_is_false : true ≡ false = ap is_err (sym h) ∙ fine in absurd (cc true_is_false)

-- one more record was replayed, and the cycle count stays within its limit
next_record_is_replayed : (c : After-apply-reply) → (c.loop-at.cycles + c.replay_cycles-more.result ≤ REPLAY_CYCLES)
    × IsReplayed c.in-Ok-Some.read.0 c.args.snap.now (take (c.loop-at.at + 1) c.args.records.now) (c.loop-at.cycles + c.replay_cycles-more.result) c.apply-reply.new.self
next_record_is_replayed c =
    let bounded = c.loop-at.invariant.bounded in
    let not_too_many = c.if-more-cycles.false in
    let cycles_fit : c.loop-at.cycles + c.replay_cycles-more.result ≤ REPLAY_CYCLES = omega (arith, bounded, not_too_many) in
    let accepted : refusal c.loop-at.bench c.in-Ok-Some-command_of.command ≡ None = accepted_if_check_succeeds _ _ c.check.ensures (sym c.is_err.ensures.value ∙ c.if-is_err.false) in (
      cycles_fit,
      rw (take_with_next_element _ _ c.loop-at.at c.get.ensures, c.apply-reply.ensures.state)
          (replayed_with_appended_command _ _ _ _ _ _ _ _ c.loop-at.invariant.so_far (rw c.in-Ok-Some-command_of.field-0-is at c.in-Ok-Some-command_of.ensures.some, sym c.has.ensures ∙ c.if-not-has.false) accepted c.replay_cycles-more.ensures cycles_fit),
    )

pub loop-at-preserved : goal.loop-at-preserved
loop-at-preserved c =
    let next_replayed = next_record_is_replayed (goal.at.loop-at-preserved c).After-apply-reply in
    record { within = omega (arith, c.loop-at-test.true, c.len.ensures); bounded = next_replayed.0; so_far = next_replayed.1 }

pub loop-at-preserved-else-more-cycles : goal.loop-at-preserved-else-more-cycles
loop-at-preserved-else-more-cycles c =
    let next_replayed = next_record_is_replayed (goal.at.loop-at-preserved-else-more-cycles c).After-apply-reply in
    record { within = omega (arith, c.loop-at-test.true, c.len.ensures); bounded = next_replayed.0; so_far = next_replayed.1 }

pub returns-clause-some : goal.returns-clause-some
returns-clause-some c =
    let all_read : length c.args.records.now ≤ c.loop-at.at = omega (arith, c.loop-at-test.false, c.len.ensures) in
    subst (λ (rs : List (List ℕ)). IsReplayed c.in-Ok-Some.read.0 c.args.snap.now rs c.loop-at.cycles c.loop-at.bench) (take_all c.loop-at.at c.args.records.now all_read) c.loop-at.invariant.so_far
