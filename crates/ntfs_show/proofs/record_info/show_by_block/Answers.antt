use Rattle.std.proofs.Common.{◌∙◌, ap, sym}
use Rattle.std.proofs.lemmas.Result.{err_from_is_err_and}
use Rattle.ntfs_boot.specs.declared.geometry.Geometry.{Geometry}
use Rattle.ntfs_print.specs.Fault.{show_origin}
use Rattle.ntfs_print.specs.Printing.{Printing}
use Rattle.ntfs_show.specs.RecordInfo.{block_printing, record_printing}
use Rattle.ntfs_print.specs.declared.fault.ShowFault.{ShowFault}
use Rattle.ntfs_print.proofs.PendingLemmas.{prints-none}
use Rattle.ntfs_show.proofs.RecordInfoLemmas.{prints-by, record-read, record-refused}
use Rattle.ntfs_show.proofs.record_info.show_by_block.Goals as goal

pub returns-in_err-read_block-clause-told : goal.returns-in_err-read_block-clause-told
returns-in_err-read_block-clause-told g c told =
    let content = (g.G.Image.seen c.args.image.now).content in
    let p = err_from_is_err_and c.from_residual.result c.from_residual.ensures.1 in
    rw (p.1, p.2) (prints-none show_origin (record_printing c.args.table.now content c.args.number) c.in_err-read_block.field-0.0 (g.K.Sink.seen c.args.out.now) (λ settled.
    let refused = record-refused c.args.table.now content c.args.number c.in_err-read_block.field-0.0 (c.in_err-read_block.ensures.gives told settled) in
    (ap (λ (p : Printing ShowFault). p.output) refused, ap (λ (p : Printing ShowFault). p.fault) refused)))

pub returns-clause-told : goal.returns-clause-told
returns-clause-told g c told =
    let block = c.read_block.new.block in
    prints-by show_origin _ _ _ _ _ (record-read c.args.table.now (g.G.Image.seen c.args.image.now).content c.args.number block (c.in_ok-read_block.ensures.gives told)
    ∙ ap (λ (k : Geometry). block_printing k.clusters c.args.number block) (sym c.geometry.ensures.kept)) c.put_block.ensures.told
