use Rattle.mcs_disk.proofs.CallSequences.{at_most_one_unsynced_in_both}
use Rattle.std.proofs.Common.{arith}
use Rattle.mcs_session.proofs.Room.{acknowledges_appended_command, leaves_either_state_after_append, accepted_cycles_within_limit, recorded_after_append}
use Rattle.mcs_session.proofs.recording.CommandLog.record.Goals as goal

pub make_room-requires-clause-more : goal.make_room-requires-clause-more
make_room-requires-clause-more g c = rw c.replay_cycles-more.ensures (accepted_cycles_within_limit c.args.bench.now c.args.command.now c.requires.accepted)

pub returns-in_err-append-clause-moments : goal.returns-in_err-append-clause-moments
returns-in_err-append-clause-moments g c = λ honest was.
    let made_room = c.in_ok-make_room.ensures.makes_room honest was c.args.command.now c.encode_command-count.ensures.count c.replay_cycles-more.ensures in
    let is_recorded = made_room.recorded in
    let still_honest = c.in_ok-make_room.ensures.counts.honest.1 honest in
    let changes = c.in_err-append.ensures.appends still_honest is_recorded.represents.snap is_recorded.represents.records is_recorded.represents.holds in
    leaves_either_state_after_append _ _ _ _ _ _ _ is_recorded (rw (c.as_slice.ensures.value, c.in_ok-make_room.ensures.payload) c.encode_command-count.ensures.spells) c.requires.accepted (omega (arith, c.in_ok-make_room.ensures.room.1, c.replay_cycles-more.ensures))
    (c.in_ok-make_room.ensures.moments honest was) changes.leaves

pub returns-clause-moments : goal.returns-clause-moments
returns-clause-moments g c = λ honest was.
    let made_room = c.in_ok-make_room.ensures.makes_room honest was c.args.command.now c.encode_command-count.ensures.count c.replay_cycles-more.ensures in
    let is_recorded = made_room.recorded in
    let still_honest = c.in_ok-make_room.ensures.counts.honest.1 honest in
    let changes = c.in_ok-append.ensures.appends still_honest is_recorded.represents.snap is_recorded.represents.records is_recorded.represents.holds in
    leaves_either_state_after_append _ _ _ _ _ _ _ is_recorded (rw (c.as_slice.ensures.value, c.in_ok-make_room.ensures.payload) c.encode_command-count.ensures.spells) c.requires.accepted (omega (arith, c.in_ok-make_room.ensures.room.1, c.replay_cycles-more.ensures))
    (c.in_ok-make_room.ensures.moments honest was) changes.leaves

pub returns-clause-recorded : goal.returns-clause-recorded
returns-clause-recorded g c = λ honest was.
    let is_recorded = (c.in_ok-make_room.ensures.makes_room honest was c.args.command.now c.encode_command-count.ensures.count c.replay_cycles-more.ensures).recorded in
    let still_honest = c.in_ok-make_room.ensures.counts.honest.1 honest in
    let changes = c.in_ok-append.ensures.appends still_honest is_recorded.represents.snap is_recorded.represents.records is_recorded.represents.holds in
    recorded_after_append _ _ _ _ _ _ _ is_recorded (rw (c.as_slice.ensures.value, c.in_ok-make_room.ensures.payload) c.encode_command-count.ensures.spells) c.requires.accepted c.replay_cycles-more.ensures c.in_ok-make_room.ensures.room.1 changes.durable changes.after

pub returns-clause-acknowledges : goal.returns-clause-acknowledges
returns-clause-acknowledges g c = λ honest was.
    let made_room = c.in_ok-make_room.ensures.makes_room honest was c.args.command.now c.encode_command-count.ensures.count c.replay_cycles-more.ensures in
    let is_recorded = made_room.recorded in
    let still_honest = c.in_ok-make_room.ensures.counts.honest.1 honest in
    let changes = c.in_ok-append.ensures.appends still_honest is_recorded.represents.snap is_recorded.represents.records is_recorded.represents.holds in
    acknowledges_appended_command (g.D.Disk.state c.args.self.now.store.disk) (g.D.Disk.state c.make_room.new.self.store.disk) (g.D.Disk.state c.append.new.self.disk) _ _ _ _ _ (returns-clause-moments g c honest was) made_room changes.ticks (returns-clause-recorded g c honest was)
    (rw (c.as_slice.ensures.value, c.in_ok-make_room.ensures.payload) c.encode_command-count.ensures.spells) c.requires.accepted (omega (arith, c.in_ok-make_room.ensures.room.1, c.replay_cycles-more.ensures)) changes.after

pub returns-in_err-append-clause-one_unsynced : goal.returns-in_err-append-clause-one_unsynced
returns-in_err-append-clause-one_unsynced g c = at_most_one_unsynced_in_both _ _ _ c.in_ok-make_room.ensures.one_unsynced c.in_err-append.ensures.one_unsynced

pub returns-clause-one_unsynced : goal.returns-clause-one_unsynced
returns-clause-one_unsynced g c = at_most_one_unsynced_in_both _ _ _ c.in_ok-make_room.ensures.one_unsynced c.in_ok-append.ensures.one_unsynced
