use Rattle.std.proofs.lemmas.Result.{err_from_is_err_and}
use Rattle.ntfs_show.specs.ListPath.{list_outcome}
use Rattle.ntfs_run.specs.Ls.{list_lines, path_or_root}
use Rattle.ntfs_run.proofs.ShowLemmas.{prints_err, prints_ok}
use Rattle.ntfs_run.proofs.ls.print_list.Goals as goal

pub returns-in_err-show_list-clause-prints : goal.returns-in_err-show_list-clause-prints
unfolding list_lines
returns-in_err-show_list-clause-prints g c told =
    let p = err_from_is_err_and c.from_residual.result c.from_residual.ensures.1 in
    rw (p.1, p.2) (prints_err (list_outcome c.args.options.now c.args.table.now (g.G.Image.seen c.args.image.now).content (path_or_root c.args.path.now)) _ _ _
    (rw c.path_or_root.ensures at c.in_err-show_list.ensures.told told))

pub returns-clause-prints : goal.returns-clause-prints
unfolding list_lines
returns-clause-prints g c told =
    prints_ok (list_outcome c.args.options.now c.args.table.now (g.G.Image.seen c.args.image.now).content (path_or_root c.args.path.now)) _ _
    (rw c.path_or_root.ensures at c.in_ok-show_list.ensures.told told)
