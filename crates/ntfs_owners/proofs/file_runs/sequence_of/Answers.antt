use Rattle.std.proofs.Common.{arith}
use Rattle.std.proofs.lemmas.Result.{err_from_is_err_and}
use Rattle.ntfs_base.specs.Bytes.{cluster_at}
use Rattle.ntfs_owners.proofs.SlotLemmas.{survey-whole}
use Rattle.ntfs_owners.proofs.file_runs.sequence_of.Goals as goal

pub returns-in_err-block-clause-gives : goal.returns-in_err-block-clause-gives
returns-in_err-block-clause-gives g c told owners surveyed =
    let p = err_from_is_err_and c.from_residual.result c.from_residual.ensures.1 in
    rw (p.1, p.2) (λ settled. absurd settled)

pub returns-clause-gives : goal.returns-clause-gives
returns-clause-gives g c told owners surveyed =
    let o = c.args.table.now in
    c.sequence_in.ensures.gives told (survey-whole o (cluster_at (g.G.Image.seen c.args.image.now).content o.geometry.cluster) owners c.args.number (omega (arith, c.geometry.ensures.good.least_record)) surveyed)
