use Rattle.std.proofs.Common.{◌≡◌, subst, sym, List, Err, Ok, Result}
use Rattle.ntfs_base.proofs.FramesLemmas.{told_still}
use Rattle.ntfs_base.specs.Bytes.{cluster_at}
use Rattle.ntfs_base.specs.Frames.{IsSettled}
use Rattle.ntfs_check.proofs.FindingsLemmas.{FindsFacts, c15-clear, facts-given, owners-claim, survey-kept}
use Rattle.ntfs_check.proofs.findings.facts_again.Goals as goal
use Rattle.ntfs_check_fixed.specs.Facts.{VolumeFacts, facts_of}
use Rattle.ntfs_rules.specs.Outcome.{check_origin}
use Rattle.ntfs_rules.specs.VolumeData.{volume_data}
use Rattle.ntfs_rules.specs.declared.fault.CheckFault.{CheckFault}
use Rattle.ntfs_survey.specs.declared.owners.Owner.{Owner}

pub returns-in-Err-clause-gives : goal.returns-in-Err-clause-gives
returns-in-Err-clause-gives g c told clear =
    let o = c.args.table.now in
    let f = cluster_at (g.G.Image.seen c.args.image.now).content o.geometry.cluster in
    let facts = facts_of (volume_data o f) in
    subst (λ (fault : CheckFault). IsSettled (check_origin fault) → ◌≡◌ {A = Result VolumeFacts CheckFault} (Ok facts) (Err fault)) (sym c.again.ensures)
    (survey-kept o f facts c.in-Err.fault clear (c.in-Err.ensures.gives told))

pub returns-in-Ok-clause-gives : goal.returns-in-Ok-clause-gives
unfolding volume_data
returns-in-Ok-clause-gives g c told clear =
    let o = c.args.table.now in
    let f = cluster_at (g.G.Image.seen c.args.image.now).content o.geometry.cluster in
    let owners = c.in-Ok.owners in
    let finds = told_still g.G.Image _ _ (FindsFacts o c.owners-in-Ok.result.now c.read_facts.result) c.in-Ok.ensures.reads.seen c.read_facts.ensures.found told in
    let found = subst (λ (them : List Owner). FindsFacts o them c.read_facts.result (g.G.Image.seen c.args.image.now).content) c.owners-in-Ok.ensures finds in
    facts-given (facts_of (volume_data o f)) c.read_facts.result
    (found (c15-clear (volume_data o f) clear) (owners-claim o f owners clear (c.in-Ok.ensures.gives told)) c.in-Ok.ensures.below) c.read_facts.ensures.cut
