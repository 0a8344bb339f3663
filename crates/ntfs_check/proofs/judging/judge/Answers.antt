use Rattle.std.proofs.Common.{subst, Err, Ok}
use Rattle.std.proofs.lemmas.Result.{err_from_is_err_and}
use Rattle.ntfs_check.proofs.JudgedLemmas.{GivesWhere, judged-first-refused, judged-further-refused, judged-kept, kept-first, volume_seen}
use Rattle.ntfs_check.proofs.judging.judge.Goals as goal
use Rattle.ntfs_check.specs.Judged.{Keeps}
use Rattle.ntfs_rules.specs.Accepts.{first_rules, further_rules}
use Rattle.ntfs_rules.specs.Outcome.{judged_by}

pub returns-in_err-owned-clause-gives : goal.returns-in_err-owned-clause-gives
returns-in_err-owned-clause-gives g c told =
    let v = volume_seen c.args.table.now (g.G.Image.seen c.args.image.now) in
    let p = err_from_is_err_and c.from_residual.result c.from_residual.ensures.1 in
    rw (p.1, p.2) (λ settled. judged-first-refused v c.in_err-owned.field-0.0 (c.in_err-owned.ensures.gives told settled))

pub returns-in_err-check_further-clause-gives : goal.returns-in_err-check_further-clause-gives
returns-in_err-check_further-clause-gives g c told =
    let v = volume_seen c.args.table.now (g.G.Image.seen c.args.image.now) in
    let p = err_from_is_err_and c.from_residual-in_err-check_further.result c.from_residual-in_err-check_further.ensures.1 in
    let kept = kept-first v c.in_ok-owned.owned (c.in_ok-owned.ensures.gives told) in
    let further = subst (GivesWhere c.args.table.now (λ v. Keeps (first_rules v)) (λ v. judged_by (further_rules v) tt) (Err c.in_err-check_further.field-0.0)) c.in_ok-owned.ensures.reads.seen c.in_err-check_further.ensures.gives in
    rw (p.1, p.2) (λ settled. judged-further-refused v c.in_err-check_further.field-0.0 kept (further told kept settled))

pub returns-clause-gives : goal.returns-clause-gives
returns-clause-gives g c told =
    let v = volume_seen c.args.table.now (g.G.Image.seen c.args.image.now) in
    let kept = kept-first v c.in_ok-owned.owned (c.in_ok-owned.ensures.gives told) in
    let further = subst (GivesWhere c.args.table.now (λ v. Keeps (first_rules v)) (λ v. judged_by (further_rules v) tt) (Ok tt)) c.in_ok-owned.ensures.reads.seen c.in_ok-check_further.ensures.gives in
    judged-kept v c.in_ok-owned.owned (c.in_ok-owned.ensures.gives told) (further told kept)
