use Rattle.std.proofs.Common.{IsTrue}
use Rattle.std.proofs.lemmas.Result.{err_from_is_err_and}
use Rattle.ntfs_print.specs.Fault.{show_origin}
use Rattle.ntfs_show.specs.ListPath.{list_outcome}
use Rattle.ntfs_show.proofs.ListLemmas.{put-never}
use Rattle.ntfs_show.proofs.ListPathLemmas.{list-put, list-unput}
use Rattle.ntfs_print.proofs.PendingLemmas.{prints-none}
use Rattle.ntfs_show.proofs.list_path.show_list.Goals as goal

pub returns-in_err-desk-clause-told : goal.returns-in_err-desk-clause-told
returns-in_err-desk-clause-told g c told =
    let p = err_from_is_err_and c.from_residual.result c.from_residual.ensures.1 in
    rw (p.1, p.2) (prints-none show_origin _ _ _ (λ settled. absurd settled))

pub returns-in_err-put_rest-clause-told : goal.returns-in_err-put_rest-clause-told
returns-in_err-put_rest-clause-told g c told =
    let seen = g.G.Image.seen c.args.image.now in
    let desk = c.in_ok-desk.ensures in
    let lists = rw (desk.none, desk.options) at c.list_path-result.ensures.lists in
    let p =
    err_from_is_err_and c.from_residual-in_err-put_rest.result c.from_residual-in_err-put_rest.ensures.1 in
    rw (p.1, p.2)
    (list-unput (IsTrue seen.is_told)
    (list_outcome c.args.options.now c.args.table.now seen.content c.args.path.now) c.list_path-result.result
    c.list_path-result.new.desk.pending _ _ _ _ told lists (put-never c.in_err-put_rest.field-0.0)
    c.in_err-put_rest.ensures.put.part)

pub returns-clause-told : goal.returns-clause-told
returns-clause-told g c told =
    let seen = g.G.Image.seen c.args.image.now in
    let desk = c.in_ok-desk.ensures in
    let lists = rw (desk.none, desk.options) at c.list_path-result.ensures.lists in
    list-put (IsTrue seen.is_told)
    (list_outcome c.args.options.now c.args.table.now seen.content c.args.path.now) c.list_path-result.result
    c.list_path-result.new.desk.pending _ _ _ told lists c.in_ok-put_rest.ensures.put.whole
