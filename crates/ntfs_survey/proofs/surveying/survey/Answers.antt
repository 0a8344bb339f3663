use Rattle.std.proofs.Common.{ap, sym, ◌∙◌, Ok}
use Rattle.ntfs_base.specs.Bytes.{cluster_at}
use Rattle.ntfs_volume.specs.Located.{slots_of}
use Rattle.ntfs_survey.proofs.FoldLemmas.{survey-finished, survey-refused}
use Rattle.ntfs_survey.proofs.surveying.survey.Goals as goal

pub returns-in-Err-clause-gives : goal.returns-in-Err-clause-gives
returns-in-Err-clause-gives g c told settled =
    let o = c.args.table.now in
    survey-refused o.geometry.clusters (slots_of o.geometry o.map (cluster_at (g.G.Image.seen c.args.image.now).content o.geometry.cluster)) c.new-findings.result c.in-Err.refusal c.new-findings.ensures
    (c.in-Err.ensures.gives told settled)

pub returns-in-Err-finish-clause-gives : goal.returns-in-Err-finish-clause-gives
returns-in-Err-finish-clause-gives g c told settled =
    let o = c.args.table.now in
    survey-finished o.geometry.clusters (slots_of o.geometry o.map (cluster_at (g.G.Image.seen c.args.image.now).content o.geometry.cluster)) c.new-findings.result c.take_all.new.findings c.new-findings.ensures
    (c.in_default.ensures.gives told)
    ∙ c.in-Err-finish.ensures.gives settled

pub returns-in-Ok-clause-gives : goal.returns-in-Ok-clause-gives
returns-in-Ok-clause-gives g c told =
    let o = c.args.table.now in
    survey-finished o.geometry.clusters (slots_of o.geometry o.map (cluster_at (g.G.Image.seen c.args.image.now).content o.geometry.cluster)) c.new-findings.result c.take_all.new.findings c.new-findings.ensures
    (c.in_default.ensures.gives told)
    ∙ c.in-Ok.ensures.gives ∙ ap Ok (sym c.new.ensures)
