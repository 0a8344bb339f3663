use Rattle.ntfs_base.proofs.FramesLemmas.{told_still}
use Rattle.ntfs_base.specs.Bytes.{cluster_at}
use Rattle.ntfs_base.specs.Frames.{Gives}
use Rattle.ntfs_base.specs.declared.refusal.Rule.TheVariants as rule
use Rattle.ntfs_check_files.proofs.rules.check_lists.Goals as goal
use Rattle.ntfs_check_files.specs.Extending.{AreExtensions}
use Rattle.ntfs_check_files.specs.Premises.{KeepsTen}
use Rattle.ntfs_rules.specs.Files.{c11}
use Rattle.ntfs_rules.specs.Outcome.{check_origin, unless_number}
use Rattle.ntfs_rules.specs.VolumeData.{listings, volume_data}

pub returns-in-Ok-clause-gives : goal.returns-in-Ok-clause-gives
returns-in-Ok-clause-gives g c told keeps =
    let o = c.args.table.now in
    let gives = told_still g.G.Image _ _ (λ content. KeepsTen (volume_data o (cluster_at content o.geometry.cluster)) → AreExtensions o (cluster_at content o.geometry.cluster) c.in-Ok.extensions
    → Gives check_origin (λ done. done) (unless_number rule.C11 (c11 (listings (volume_data o (cluster_at content o.geometry.cluster))) (volume_data o (cluster_at content o.geometry.cluster)).slots) tt) c.judge_lists.result)
    c.in-Ok.ensures.reads.seen c.judge_lists.ensures.gives in
    gives told keeps (c.in-Ok.ensures.all told)
