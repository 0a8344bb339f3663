use Rattle.std.proofs.Common.{subst, sym, ℕ, List, Result}
use Rattle.ntfs_base.specs.Bytes.{cluster_at}
use Rattle.ntfs_base.specs.Frames.{Gives}
use Rattle.ntfs_check_clusters.proofs.SurveyLemmas.{survey-given, survey-refused}
use Rattle.ntfs_check_clusters.proofs.surveyed.survey_all.Goals as goal
use Rattle.ntfs_check_clusters.specs.Outcome.{surveyed}
use Rattle.ntfs_rules.specs.Outcome.{check_origin}
use Rattle.ntfs_rules.specs.declared.fault.CheckFault.{CheckFault}
use Rattle.ntfs_survey.specs.declared.owners.Owner.{Owner}

pub returns-in-Ok-clause-gives : goal.returns-in-Ok-clause-gives
returns-in-Ok-clause-gives g c told =
    let o = c.args.table.now in
    survey-given o (cluster_at (g.G.Image.seen c.args.image.now).content o.geometry.cluster) c.in-Ok.owners (c.in-Ok.ensures.gives told)

pub returns-in-Err-clause-gives : goal.returns-in-Err-clause-gives
returns-in-Err-clause-gives g c told =
    let o = c.args.table.now in
    let f = cluster_at (g.G.Image.seen c.args.image.now).content o.geometry.cluster in
    subst (λ (result : Result (Result (List Owner) ℕ) CheckFault). Gives check_origin (λ found. found) (surveyed o f) result) (sym c.after_survey.ensures) (survey-refused o f c.in-Err.fault (c.in-Err.ensures.gives told))
