use Rattle.std.proofs.Common.{◌≡◌, subst, sym}
use Rattle.std.specs.Prelude.{IfOk}
use Rattle.ntfs_check_directories.proofs.AskedLemmas.{answer-none, answer-some}
use Rattle.ntfs_check_directories.proofs.asked.AskedQuestion.passes.Goals as goal
use Rattle.ntfs_check_directories.specs.Asked.{walk_answer}
use Rattle.ntfs_check_directories.specs.declared.asked.Asked.{Asked}

pub returns-in-None-clause-answers : goal.returns-in-None-clause-answers
returns-in-None-clause-answers g c told presumed held =
    answer-none c.args.table.now (g.G.Image.seen c.args.image.now).content c.args.self.now c.args.number c.args.raw.now c.directory_in.result held c.directory_in.ensures c.in-None.is

pub returns-in-Order-clause-answers : goal.returns-in-Order-clause-answers
returns-in-Order-clause-answers g c told presumed held =
    let o = c.args.table.now in
    let content = (g.G.Image.seen c.args.image.now).content in
    answer-some o content c.args.self.now c.args.number c.in-Some.sequence c.args.raw.now c.directory_in.result c.is_ordered.result held c.directory_in.ensures c.in-Some.is
    (subst (λ (q : Asked). IfOk c.is_ordered.result (λ is. is ≡ walk_answer q o content c.args.number c.in-Some.sequence)) (sym c.in-Order.is) (c.is_ordered.ensures.found told)) c.is_ordered.ensures.cut

pub returns-in-Names-clause-answers : goal.returns-in-Names-clause-answers
returns-in-Names-clause-answers g c told presumed held =
    let o = c.args.table.now in
    let content = (g.G.Image.seen c.args.image.now).content in
    answer-some o content c.args.self.now c.args.number c.in-Some.sequence c.args.raw.now c.directory_in.result c.all_lead.result held c.directory_in.ensures c.in-Some.is
    (subst (λ (q : Asked). IfOk c.all_lead.result (λ is. is ≡ walk_answer q o content c.args.number c.in-Some.sequence)) (sym c.in-Names.is) (c.all_lead.ensures.found told)) c.all_lead.ensures.cut
