use Rattle.std.proofs.Common.{◌∙◌, arith}
use Rattle.ntfs_base.specs.Bytes.{cluster_at}
use Rattle.ntfs_check_records.proofs.AnswerLemmas.{answers-by}
use Rattle.ntfs_check_files.proofs.BaseLemmas.{asked-idle, asked-said, base-asked, list-asked, presumes-whole}
use Rattle.ntfs_check_files.proofs.asked.AskedQuestion.passes.Goals as goal

pub returns-in-None-clause-answers : goal.returns-in-None-clause-answers
returns-in-None-clause-answers g c told presumed held =
    let o = c.args.table.now in
    let f = cluster_at (g.G.Image.seen c.args.image.now).content o.geometry.cluster in
    asked-idle o f c.args.self.now c.args.number c.args.raw.now presumed (omega (arith, c.requires.block, c.requires.strides.least)) held (c.in-None.ensures)

pub returns-in-Base-clause-answers : goal.returns-in-Base-clause-answers
returns-in-Base-clause-answers g c told presumed held =
    let o = c.args.table.now in
    let f = cluster_at (g.G.Image.seen c.args.image.now).content o.geometry.cluster in
    let q = c.args.self.now in
    answers-by _ _ c.has_named_base.result
    (base-asked o f q c.args.number c.in-Some.view c.in-Base.is ∙ asked-said o f q c.args.number c.args.raw.now c.in-Some.view held c.in-Some.ensures)
    (c.has_named_base.ensures.answers told (presumes-whole q o f presumed))

pub returns-in-List-clause-answers : goal.returns-in-List-clause-answers
returns-in-List-clause-answers g c told presumed held =
    let o = c.args.table.now in
    let f = cluster_at (g.G.Image.seen c.args.image.now).content o.geometry.cluster in
    let q = c.args.self.now in
    answers-by _ _ c.is_listed.result
    (list-asked o f q c.in-List.extensions c.args.number c.args.raw.now c.in-Some.view c.in-List.is presumed (omega (arith, c.requires.block, c.requires.strides.least)) held c.in-Some.ensures
    ∙ asked-said o f q c.args.number c.args.raw.now c.in-Some.view held c.in-Some.ensures)
    (c.is_listed.ensures.answers told)
