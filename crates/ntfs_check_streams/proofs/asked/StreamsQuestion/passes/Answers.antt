use Rattle.std.proofs.Common.{arith}
use Rattle.ntfs_base.specs.Bytes.{cluster_at}
use Rattle.ntfs_check_streams.proofs.FileLemmas.{asked-idle, said-answers}
use Rattle.ntfs_check_streams.proofs.asked.StreamsQuestion.passes.Goals as goal

pub returns-in-None-clause-answers : goal.returns-in-None-clause-answers
returns-in-None-clause-answers g c told presumed held =
    let o = c.args.table.now in
    let f = cluster_at (g.G.Image.seen c.args.image.now).content o.geometry.cluster in
    asked-idle o f c.args.number c.args.raw.now presumed (omega (arith, c.requires.block, c.requires.strides.least)) held c.in-None.ensures

pub returns-in-Some-clause-answers : goal.returns-in-Some-clause-answers
returns-in-Some-clause-answers g c told presumed held =
    let o = c.args.table.now in
    let f = cluster_at (g.G.Image.seen c.args.image.now).content o.geometry.cluster in
    said-answers o f c.args.number c.args.raw.now c.in-Some.view c.has_streams.result presumed (omega (arith, c.requires.block, c.requires.strides.least)) held c.in-Some.ensures
    (c.has_streams.ensures.found told) c.has_streams.ensures.cut
