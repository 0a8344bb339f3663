use Rattle.std.proofs.Common.{[], refl}
use Rattle.std.proofs.lemmas.Result.{err_from_is_err_and}
use Rattle.ntfs_print.specs.Fault.{show_origin}
use Rattle.ntfs_show.specs.RecordInfo.{record_printing}
use Rattle.ntfs_print.proofs.PendingLemmas.{printed-start, prints-stop}
use Rattle.ntfs_show.proofs.record_info.show_record.Goals as goal

pub returns-in_err-block-clause-told : goal.returns-in_err-block-clause-told
returns-in_err-block-clause-told g c told =
    let expected = record_printing c.args.table.now (g.G.Image.seen c.args.image.now).content c.args.number in
    let sink = g.K.Sink.seen c.args.out.now in
    let p = err_from_is_err_and c.from_residual.result c.from_residual.ensures.1 in
    rw (p.1, p.2) (prints-stop show_origin expected [] expected.output [] sink sink _ (λ settled. absurd settled) refl (printed-start sink))
