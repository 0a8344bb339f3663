use Rattle.std.proofs.Common.{ap, sym}
use Rattle.ntfs_print.specs.Fault.{show_origin}
use Rattle.ntfs_print.specs.Printing.{Printing}
use Rattle.ntfs_show.specs.RecordInfo.{block_printing}
use Rattle.ntfs_print.specs.declared.fault.ShowFault.{ShowFault}
use Rattle.ntfs_print.proofs.PendingLemmas.{prints-none}
use Rattle.ntfs_show.proofs.RecordInfoLemmas.{block-refused}
use Rattle.ntfs_show.proofs.record_info.put_block.Goals as goal

pub returns-in-Err-clause-told : goal.returns-in-Err-clause-told
returns-in-Err-clause-told g c =
    let refused = block-refused c.args.clusters c.args.number c.args.block.now c.in-Err.field-0 (sym c.in-Err.ensures.exact) in
    prints-none show_origin (block_printing c.args.clusters c.args.number c.args.block.now) _ (g.K.Sink.seen c.args.out.now)
    (λ settled. (ap (λ (p : Printing ShowFault). p.output) refused, ap (λ (p : Printing ShowFault). p.fault) refused))
