use Rattle.std.proofs.Common.{rules, ◌+◌, [], ◌∷◌, ◌++◌, ◌∙◌, arith}
use Rattle.mcs_disk.specs.Disk.{bytes_of}
use Rattle.mcs_journal.specs.File.{Holds}
use Rattle.mcs_journal.proofs.TwoCommits.{both_steps, first_step}
use Rattle.mcs_journal.proofs.Contents.{holds_after_torn_first_write, holds_after_torn_second_write, holds_after_second_write}
use Rattle.mcs_journal.proofs.writing.add_record.Goals as goal

pub returns-in_err-commit-clause-changes : goal.returns-in_err-commit-clause-changes
returns-in_err-commit-clause-changes g c = λ h durable snap records held commit_at.
    let unchanged_if_torn = holds_after_torn_first_write (bytes_of (g.D.Disk.state c.args.disk.now)) snap c.args.payload.now _ records c.args.commit_at c.encode_record.ensures held commit_at c.requires.valid_length in
    let images = first_step _ _ (λ x. Holds x snap records) (λ x. Holds x snap (records ++ c.args.payload.now ∷ [])) (c.args.commit_at + 1) _ durable unchanged_if_torn _ (c.commit.ensures.commits h) in
    record { after = search rules; durable = search rules; ticks = search rules; leaves = images }

pub returns-clause-changes : goal.returns-clause-changes
returns-clause-changes g c = λ h durable snap records held commit_at.
    let f = bytes_of (g.D.Disk.state c.args.disk.now) in
    let r = c.args.payload.now in
    let mid = c.commit.ensures.call.honest.1 h in
    let step = c.in_ok-commit.ensures.commits h in
    both_steps _ _ (λ x. Holds x snap records) (λ x. Holds x snap (records ++ r ∷ [])) (c.args.commit_at + 1) _ durable
    (holds_after_torn_first_write f snap r _ records c.args.commit_at c.encode_record.ensures held commit_at c.requires.valid_length) _ _ c.args.commit_at (1 ∷ []) _
    (λ x torn. holds_after_torn_second_write f snap r _ records c.args.commit_at c.encode_record.ensures held commit_at c.requires.valid_length _ x step.outside step.written torn)
    (λ here torn. holds_after_second_write f snap r _ records c.args.commit_at c.encode_record.ensures held commit_at c.requires.valid_length _ _ step.outside step.written torn here)
    step (c.commit-2.ensures.commits mid)

pub returns-clause-selector : goal.returns-clause-selector
returns-clause-selector g c = λ h beyond.
    let first = c.commit.ensures.commits h in
    let second = c.commit-2.ensures.commits (c.commit.ensures.call.honest.1 h) in
    second.outside.before 8 (omega arith) ∙ first.outside.before 8 (omega arith)
