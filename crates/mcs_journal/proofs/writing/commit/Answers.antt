use Rattle.mcs_disk.proofs.CallSequences.{makes_calls_after_first_succeeds}
use Rattle.std.proofs.Common.{rules, ◌∙◌}
use Rattle.mcs_disk.specs.CallList.{MakesCalls}
use Rattle.mcs_journal.specs.Calls.{commit_calls}
use Rattle.mcs_journal.proofs.CommitEffect.{commits_bytes_after_commit_calls}
use Rattle.mcs_journal.proofs.writing.commit.Goals as goal

pub returns-clause-commits : goal.returns-clause-commits
returns-clause-commits g c = λ h.
    commits_bytes_after_commit_calls _ _ _ _ c.sync.result c.requires (c.sync.ensures.call.start ∙ c.write.ensures.call.start) (makes_calls_after_first_succeeds _ _ _ _ _ _ c.in_ok-write.ensures.lists_call.all c.sync.ensures.lists_call)

pub returns-in_err-write-clause-commits : goal.returns-in_err-write-clause-commits
returns-in_err-write-clause-commits g c = λ h.
    let made : MakesCalls (commit_calls c.args.at c.args.from.now) (g.D.Disk.state c.args.disk.now).calls (g.D.Disk.state c.write.new.self).calls c.from_residual.result = search rules in
    commits_bytes_after_commit_calls _ _ _ _ _ c.requires c.write.ensures.call.start made
