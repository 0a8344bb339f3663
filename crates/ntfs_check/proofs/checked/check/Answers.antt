use Rattle.std.proofs.Common.{ap, ◌∙◌}
use Rattle.std.proofs.lemmas.Result.{err_from_is_err_and}
use Rattle.ntfs_check.proofs.CheckedLemmas.{examined-accepted, stands-given, stands-still, verdict-refused}
use Rattle.ntfs_check.proofs.checked.check.Goals as goal

pub returns-in_err-findings-clause-verdict : goal.returns-in_err-findings-clause-verdict
returns-in_err-findings-clause-verdict g c told =
    let s = g.G.Image.seen c.args.volume.image.now in
    let p = err_from_is_err_and c.from_residual.result c.from_residual.ensures.1 in
    rw (p.1, p.2) (verdict-refused s.content c.args.volume.table c.in_err-findings.field-0.0 (c.requires.opened told) (c.in_err-findings.ensures.gives told))

pub returns-clause-verdict : goal.returns-clause-verdict
returns-clause-verdict g c told =
    let s = g.G.Image.seen c.args.volume.image.now in
    examined-accepted s.content c.args.volume.table c.in_ok-findings.findings (c.requires.opened told) (c.in_ok-findings.ensures.gives told)

pub returns-clause-stands : goal.returns-clause-stands
returns-clause-stands g c =
    let s = g.G.Image.seen c.args.volume.image.now in
    let o = c.args.volume.table in
    let seen = ap g.G.Image.seen c.new.ensures.image ∙ c.in_ok-findings.ensures.reads.seen in
    stands-still s (g.G.Image.seen c.new.result.image.now) o c.new.result.table c.in_ok-findings.findings seen c.new.ensures.kept
    (stands-given s o c.in_ok-findings.findings c.requires.held c.in_ok-findings.ensures.fit c.requires.opened c.in_ok-findings.ensures.gives)
