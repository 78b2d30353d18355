use Rattle.mcs_disk.proofs.CallSequences.{at_most_one_unsynced_without_calls}
use Rattle.std.proofs.Common.{rules, arith, ◌+◌, ◌≤◌}
use Rattle.mcs_journal.specs.File.{HasRoom}
use Rattle.mcs_model.specs.declared.limits.TheConstants.{REPLAY_CYCLES}
use Rattle.mcs_session.proofs.Room.{leaves_state_without_calls, leaves_state_while_records_are_replaced, made_room_by_snapshot, made_room_if_log_has_room}
use Rattle.mcs_session.proofs.recording.CommandLog.make_room.Goals as goal
use Rattle.mcs_session.proofs.recording.CommandLog.make_room.Goals.{else-has_room-via-then-has_room+else-more-self, else-has_room-via-else-has_room}

pub returns-then-more-self-clause-makes_room : goal.returns-then-more-self-clause-makes_room
returns-then-more-self-clause-makes_room g c = λ honest was command is_long is_more.
    let room : HasRoom c.args.self.now.store.used c.args.count = search rules in
    let cycles_fit : c.args.self.now.cycles + c.args.more ≤ REPLAY_CYCLES = omega (arith, c.if-more-self.true, c.requires.ready.within) in
    made_room_if_log_has_room _ _ _ _ _ _ command was (c.has_room.ensures.used c.requires.live honest was.represents.snap was.represents.records was.represents.holds) room cycles_fit is_long is_more

pub returns-clause-moments : goal.returns-clause-moments
returns-clause-moments g c = λ honest was.
    leaves_state_while_records_are_replaced _ _ _ _ was (c.checkpoint.ensures.replaces honest was.represents.snap was.represents.records was.represents.holds).leaves

pub returns-clause-makes_room : goal.returns-clause-makes_room
returns-clause-makes_room g c = λ honest was command is_long is_more.
    made_room_by_snapshot _ _ _ _ _ _ _ _ _ _ command was (c.has_room.ensures.used c.requires.live honest was.represents.snap was.represents.records was.represents.holds)
    (λ room few. elim c.else-has_room.branch [
      | else-has_room-via-then-has_room+else-more-self w ↦ let too_many_cycles = w.if-more-self.false in let none : ⊥ = omega (arith, too_many_cycles, few, c.requires.ready.within) in none
      | else-has_room-via-else-has_room w ↦ let room_in_log = c.has_room.ensures.room.1 room in let none : ⊥ = search rules in none
    ])
    (c.checkpoint.ensures.replaces honest was.represents.snap was.represents.records was.represents.holds) c.checkpoint.ensures.used is_long is_more

pub returns-then-more-self-clause-one_unsynced : goal.returns-then-more-self-clause-one_unsynced
returns-then-more-self-clause-one_unsynced g c = at_most_one_unsynced_without_calls _

pub returns-then-more-self-clause-moments : goal.returns-then-more-self-clause-moments
returns-then-more-self-clause-moments g c = λ honest was. leaves_state_without_calls _ _ _ was
