use Rattle.ntfs_print.specs.Fault.{show_origin}
use Rattle.ntfs_print.proofs.AnswerLemmas.{puts_by}
use Rattle.ntfs_owners.proofs.OwnersLemmas.{info-outcome, number-outcome}
use Rattle.ntfs_owners.proofs.RangeOutcomeLemmas.{range-query}
use Rattle.ntfs_owners.proofs.owner_query.show_owners.Goals as goal

pub returns-in-Info-clause-told : goal.returns-in-Info-clause-told
returns-in-Info-clause-told g c told =
    puts_by show_origin _ _ _ _ _ (info-outcome c.args.table.now (g.G.Image.seen c.args.image.now).content c.args.query.now c.in-Info.is) (c.show_summary.ensures.told told)

pub returns-in-Info-clause-listed : goal.returns-in-Info-clause-listed
returns-in-Info-clause-listed g c = c.show_summary.ensures.listed c.args.query.now

pub returns-in-Number-clause-told : goal.returns-in-Number-clause-told
returns-in-Number-clause-told g c told =
    puts_by show_origin _ _ _ _ _ (number-outcome c.args.table.now (g.G.Image.seen c.args.image.now).content c.args.query.now c.in-Number.number c.in-Number.is) (c.show_file.ensures.told told)

pub returns-in-Clusters-clause-told : goal.returns-in-Clusters-clause-told
returns-in-Clusters-clause-told g c told =
    puts_by show_origin _ _ _ _ _ (range-query c.args.table.now (g.G.Image.seen c.args.image.now).content c.args.query.now c.in-Clusters.from c.in-Clusters.to c.in-Clusters.is) (c.show_range.ensures.told told)

pub returns-in-Clusters-clause-listed : goal.returns-in-Clusters-clause-listed
returns-in-Clusters-clause-listed g c = c.show_range.ensures.listed c.args.query.now
