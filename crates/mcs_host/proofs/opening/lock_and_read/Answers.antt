use Rattle.std.proofs.Common.{rules, ◌≡◌, min, ◌+◌, length, true}
use Rattle.mcs_journal.specs.declared.format.TheConstants.{FILE_SIZE}
use Rattle.mcs_host.specs.HostCalls.{KeepsNameAndNumber, Length, after_call}
use Rattle.mcs_host.specs.Opening.{AreZeros, IsAllZeros, IsWrittenAfter}
use Rattle.mcs_host.proofs.OpenedFile.{opened_file_if_filled, opened_file_if_rewritten}
use Rattle.mcs_host.proofs.ZeroBytes.{prefix_of_zeros_is_zeros}
use Rattle.mcs_host.proofs.opening.lock_and_read.Goals as goal

pub returns-then-file_length-eq0-clause-host_calls : goal.returns-then-file_length-eq0-clause-host_calls
returns-then-file_length-eq0-clause-host_calls g c =
    let state = g.N.File.HostFile.state in
    let measured : state c.length.new.self ≡ after_call (Length c.in_ok-file_length.file_length true) (state c.lock.new.opened) = search rules in
    let none : c.in_ok-file_length.file_length ≡ 0 = search rules in
    let size : length c.fill_and_read.new.bytes.items ≡ FILE_SIZE = search rules in
    let written : length c.truncate.new.self.items ≡ FILE_SIZE = search rules in
    let zeros : AreZeros c.truncate.new.self.items = rw c.truncate.ensures.items (prefix_of_zeros_is_zeros FILE_SIZE c.args.bytes.now.items c.requires.zeros) in
    opened_file_if_filled c.args.create_if_missing c.args.file.now c.fill_and_read.new.bytes.items c.truncate.new.self.items _ (state c.args.opened.now) (state c.lock.new.opened) (state c.length.new.self) _
    c.if-create_if_missing.true c.requires.named c.requires.begun c.in_ok-lock.ensures.same c.in_ok-lock.ensures.host_calls measured none
    c.in_ok-fill_and_read.ensures.same c.in_ok-fill_and_read.ensures.host_calls size (record { size = written; zeros = zeros })

pub returns-in_ok-write_whole-clause-host_calls : goal.returns-in_ok-write_whole-clause-host_calls
returns-in_ok-write_whole-clause-host_calls g c =
    let state = g.N.File.HostFile.state in
    let bytes = c.sync_and_read.new.bytes.items in
    let measured : state c.length.new.self ≡ after_call (Length c.in_ok-file_length.file_length true) (state c.lock.new.opened) = search rules in
    let size : length bytes ≡ min c.in_ok-file_length.file_length (FILE_SIZE + 1) = search rules in
    let blank : IsAllZeros bytes = search rules in
    let written_is : c.deref-then-is_blank.result.now ≡ bytes = search rules in
    let same_name : KeepsNameAndNumber (state c.sync_and_read.new.opened) (state c.write_whole.new.opened) = search rules in
    let writes : IsWrittenAfter c.args.file.now c.deref-then-is_blank.result.now (state c.sync_and_read.new.opened).calls (state c.write_whole.new.opened).calls = search rules in
    opened_file_if_rewritten c.args.create_if_missing c.args.file.now bytes c.deref-then-is_blank.result.now _ c.in_ok-file_length.file_length (state c.args.opened.now) (state c.lock.new.opened) (state c.length.new.self)
    (state c.sync_and_read.new.opened) _ c.if-create_if_missing-2.true c.requires.named c.requires.begun c.in_ok-lock.ensures.same c.in_ok-lock.ensures.host_calls measured size
    c.in_ok-is_name_stable.ensures.same c.in_ok-is_name_stable.ensures.host_calls blank same_name written_is writes

pub returns-else-create_if_missing-2-clause-host_calls : goal.returns-else-create_if_missing-2-clause-host_calls
returns-else-create_if_missing-2-clause-host_calls g c = search rules

pub returns-then-file_length-eq0-clause-not_empty : goal.returns-then-file_length-eq0-clause-not_empty
returns-then-file_length-eq0-clause-not_empty g c = search rules
