use Rattle.std.proofs.Common.{◌++◌, ap, ◌∙◌, append_assoc, codes}
use Rattle.ntfs_run.specs.Message.{with_number, status_text, lack_text}
use Rattle.ntfs_run.proofs.MessageLemmas.{append_three}
use Rattle.ntfs_run.proofs.message.push_status.Goals as goal

pub returns-in-BadGeometry-clause-value : goal.returns-in-BadGeometry-clause-value
unfolding status_text
returns-in-BadGeometry-clause-value c = rw c.in-BadGeometry.is (rw c.from.ensures at c.push_two.ensures.value)

pub returns-in-Damaged-clause-value : goal.returns-in-Damaged-clause-value
unfolding status_text
returns-in-Damaged-clause-value c = rw c.in-Damaged.is c.push_rule.ensures.value

pub returns-in-Dirty-clause-value : goal.returns-in-Dirty-clause-value
unfolding status_text
returns-in-Dirty-clause-value c = rw c.in-Dirty.is c.push_text-in-Dirty.ensures.value

pub returns-in-ShortClusters-clause-value : goal.returns-in-ShortClusters-clause-value
unfolding status_text
returns-in-ShortClusters-clause-value c =
    rw c.in-ShortClusters.is (c.push_text-in-ShortClusters.ensures.value ∙ ap (λ text. text ++ codes " are free") c.push_two-in-ShortClusters.ensures.value ∙ append_assoc c.args.line.now (with_number (codes "needs ") c.in-ShortClusters.need ++ with_number (codes " clusters, ") c.in-ShortClusters.free) (codes " are free"))

pub returns-in-ShortRun-clause-value : goal.returns-in-ShortRun-clause-value
unfolding status_text
returns-in-ShortRun-clause-value c = rw c.in-ShortRun.is c.push_two-in-ShortRun.ensures.value

pub returns-in-ShortGeometry-clause-value : goal.returns-in-ShortGeometry-clause-value
unfolding status_text
returns-in-ShortGeometry-clause-value c = rw c.in-ShortGeometry.is
    (c.push_number-in-ShortGeometry-2.ensures.value
    ∙ ap (λ text. text ++ with_number (codes ", needs ") c.in-ShortGeometry.need)
    (c.push_number-in-ShortGeometry.ensures.value ∙ ap (λ text. text ++ with_number (codes " has ") c.in-ShortGeometry.have)
    (c.push_pair-in-ShortGeometry.ensures.value ∙ ap (λ lack. c.args.line.now ++ (codes "size out of range: " ++ lack)) c.lack_text.ensures.value))
    ∙ append_three c.args.line.now (codes "size out of range: " ++ lack_text c.in-ShortGeometry.lack) (with_number (codes " has ") c.in-ShortGeometry.have) (with_number (codes ", needs ") c.in-ShortGeometry.need))

pub returns-in-NotPlain-clause-value : goal.returns-in-NotPlain-clause-value
unfolding status_text
returns-in-NotPlain-clause-value c = rw c.in-NotPlain.is c.push_flags.ensures.value

pub returns-in-TooLong-clause-value : goal.returns-in-TooLong-clause-value
unfolding status_text
returns-in-TooLong-clause-value c = rw c.in-TooLong.is c.push_two-in-TooLong.ensures.value

pub returns-in-BadClone-clause-value : goal.returns-in-BadClone-clause-value
unfolding status_text
returns-in-BadClone-clause-value c = rw c.in-BadClone.is c.push_number-in-BadClone.ensures.value

pub returns-in-CannotMend-clause-value : goal.returns-in-CannotMend-clause-value
unfolding status_text
returns-in-CannotMend-clause-value c = rw c.in-CannotMend.is c.push_rule-in-CannotMend.ensures.value
