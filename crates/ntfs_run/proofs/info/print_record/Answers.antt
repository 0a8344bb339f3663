use Rattle.std.proofs.lemmas.Result.{err_from_is_err_and}
use Rattle.ntfs_show.specs.RecordInfo.{record_printing}
use Rattle.ntfs_run.specs.Info.{record_lines}
use Rattle.ntfs_run.proofs.ShowLemmas.{prints_err, prints_ok}
use Rattle.ntfs_run.proofs.info.print_record.Goals as goal

pub returns-in_err-show_record-clause-prints : goal.returns-in_err-show_record-clause-prints
unfolding record_lines
returns-in_err-show_record-clause-prints g c told =
    let p = err_from_is_err_and c.from_residual.result c.from_residual.ensures.1 in
    rw (p.1, p.2) (prints_err (record_printing c.args.table.now (g.G.Image.seen c.args.image.now).content c.args.number) _ _ _ (c.in_err-show_record.ensures.told told))

pub returns-clause-prints : goal.returns-clause-prints
unfolding record_lines
returns-clause-prints g c told =
    prints_ok (record_printing c.args.table.now (g.G.Image.seen c.args.image.now).content c.args.number) _ _ (c.in_ok-show_record.ensures.told told)
