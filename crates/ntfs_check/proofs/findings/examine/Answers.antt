use Rattle.std.proofs.Common.{subst, Err, Ok}
use Rattle.std.proofs.lemmas.Result.{err_from_is_err_and}
use Rattle.ntfs_base.specs.Bytes.{cluster_at}
use Rattle.ntfs_check.proofs.FindingsLemmas.{GivesFacts, all-found, begun, facts-differ, judged-clear, judged-refused}
use Rattle.ntfs_check.proofs.JudgedLemmas.{volume_seen}
use Rattle.ntfs_check.proofs.findings.examine.Goals as goal
use Rattle.ntfs_check_fixed.specs.Facts.{facts_of}

pub returns-in_err-owned-clause-gives : goal.returns-in_err-owned-clause-gives
returns-in_err-owned-clause-gives g c told =
    let v = volume_seen c.args.table.now (g.G.Image.seen c.args.image.now) in
    let p = err_from_is_err_and c.from_residual.result c.from_residual.ensures.1 in
    rw (p.1, p.2) (λ settled. judged-refused v c.in_err-owned.field-0.0 (c.in_err-owned.ensures.gives told settled))

pub returns-in_err-facts-clause-gives : goal.returns-in_err-facts-clause-gives
returns-in_err-facts-clause-gives g c told =
    let o = c.args.table.now in
    let v = volume_seen o (g.G.Image.seen c.args.image.now) in
    let p = err_from_is_err_and c.from_residual-in_err-facts.result c.from_residual-in_err-facts.ensures.1 in
    let clear = judged-clear v c.in_ok-owned.owned (c.in_ok-owned.ensures.gives told) in
    let facts = subst (GivesFacts o (Err c.in_err-facts.field-0.0)) c.in_ok-owned.ensures.reads.seen c.in_err-facts.ensures.gives in
    rw (p.1, p.2) (λ settled. absurd (facts-differ (facts_of v) c.in_err-facts.field-0.0 (facts told clear settled)))

pub returns-then-boot_end-eq0-clause-gives : goal.returns-then-boot_end-eq0-clause-gives
returns-then-boot_end-eq0-clause-gives g c told =
    let o = c.args.table.now in
    let s = g.G.Image.seen c.args.image.now in
    let v = volume_seen o s in
    let clear = judged-clear v c.in_ok-owned.owned (c.in_ok-owned.ensures.gives told) in
    let facts = subst (GivesFacts o (Ok c.in_ok-facts.facts)) c.in_ok-owned.ensures.reads.seen c.in_ok-facts.ensures.gives in
    λ settled. absurd (begun o (cluster_at s.content o.geometry.cluster) c.in_ok-facts.facts clear (facts told clear) cc)

pub returns-clause-gives : goal.returns-clause-gives
returns-clause-gives g c told =
    let o = c.args.table.now in
    let v = volume_seen o (g.G.Image.seen c.args.image.now) in
    let judged = c.in_ok-owned.ensures.gives told in
    let facts = subst (GivesFacts o (Ok c.in_ok-facts.facts)) c.in_ok-owned.ensures.reads.seen c.in_ok-facts.ensures.gives in
    all-found v c.in_ok-owned.owned c.in_ok-facts.facts judged (facts told (judged-clear v c.in_ok-owned.owned judged))
