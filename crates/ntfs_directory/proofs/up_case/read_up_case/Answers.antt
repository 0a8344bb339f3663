use Rattle.std.proofs.Common.{◌≡◌, true, false, Ok, sym, ap, ◌∙◌, subst}
use Rattle.std.proofs.lemmas.Result.{err_from_is_err_and}
use Rattle.ntfs_base.proofs.FramesLemmas.{told_still}
use Rattle.ntfs_boot.specs.declared.geometry.Geometry.{Geometry}
use Rattle.ntfs_upcase.specs.Names.{units}
use Rattle.ntfs_directory.specs.Allocation.{allocation_bytes}
use Rattle.ntfs_directory.specs.UpCase.{is_up_case}
use Rattle.ntfs_directory.proofs.UpCaseLemmas.{table-given, table-missing, table-wrong}
use Rattle.ntfs_directory.proofs.up_case.read_up_case.Goals as goal

pub returns-in_err-found-clause-gives : goal.returns-in_err-found-clause-gives
returns-in_err-found-clause-gives g c told =
    let o = c.args.table.now in
    let p = err_from_is_err_and c.from_residual.result c.from_residual.ensures.1 in
    rw (p.1, p.2) (λ settled. table-missing o.geometry o.map (g.G.Image.seen c.args.image.now).content _ (c.in_err-found.ensures.gives told settled))

pub returns-then-not-is_up_case-clause-gives : goal.returns-then-not-is_up_case-clause-gives
returns-then-not-is_up_case-clause-gives g c told settled =
    let o = c.args.table.now in
    let s = c.in_ok-found.found.stream in
    let wrong : is_up_case o.geometry.clusters s ≡ false = ap (λ (h : Geometry). is_up_case h.clusters s) (sym c.geometry.ensures.kept) ∙ sym c.is_up_case.ensures ∙ c.if-not-is_up_case.true in
    rw c.unwalkable.ensures (table-wrong o.geometry o.map (g.G.Image.seen c.args.image.now).content s (c.in_ok-found.ensures.gives told) wrong)

pub returns-clause-gives : goal.returns-clause-gives
returns-clause-gives g c told =
    let o = c.args.table.now in
    let s = c.in_ok-found.found.stream in
    let bytes = c.in_ok-bytes.bytes.items in
    let whole : is_up_case o.geometry.clusters s ≡ true = ap (λ (h : Geometry). is_up_case h.clusters s) (sym c.geometry.ensures.kept) ∙ sym c.is_up_case.ensures ∙ c.if-not-is_up_case.false in
    let read = told_still g.G.Image _ _ (λ content. bytes ≡ allocation_bytes c.geometry-2.result.now content s) c.in_ok-found.ensures.reads.seen c.in_ok-bytes.ensures.bytes in
    let kept = subst (λ (h : Geometry). bytes ≡ allocation_bytes h (g.G.Image.seen c.args.image.now).content s) c.geometry-2.ensures.kept (read told) in
    table-given o.geometry o.map (g.G.Image.seen c.args.image.now).content s bytes (c.in_ok-found.ensures.gives told) whole kept
    ∙ ap Ok (sym (c.in_ok-from_bytes.ensures ∙ ap units c.deref.ensures.value))
