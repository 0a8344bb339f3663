use Rattle.std.proofs.Common.{◌++◌, List, ap, ◌∙◌}
use Rattle.ntfs_make.specs.Table.{RowValue}
use Rattle.ntfs_make.specs.Records.{records_bytes, rows_between}
use Rattle.ntfs_make.proofs.RowLemmas.{records-between}
use Rattle.ntfs_make.proofs.stream.records_between.Goals as goal

pub returns : goal.returns
returns c =
    let shape = c.args.layout.now in
    records-between shape c.args.first c.args.last _ _ _ _ _ c.new-bytes.ensures.items
    (c.in_ok-put_records.ensures ∙ ap (λ (t : List RowValue). c.new-bytes.result.items ++ records_bytes shape (rows_between c.args.first c.args.last t)) c.system_rows.ensures.table)
    (c.in_ok-put_records-2.ensures ∙ (λ i. c.put_records.new.out.items ++ records_bytes shape (rows_between (c.saturating_sub.ensures i) (c.saturating_sub-2.ensures i) (c.kind_rows.ensures.table i))))
    (c.in_ok-put_records-3.ensures ∙ (λ i. c.put_records-2.new.out.items ++ records_bytes shape (rows_between (c.saturating_sub-3.ensures i) (c.saturating_sub-4.ensures i) (c.file_rows.ensures.table i))))
    (c.in_ok-put_records-4.ensures ∙ (λ i. c.put_records-3.new.out.items ++ records_bytes shape (rows_between (c.saturating_sub-5.ensures i) (c.saturating_sub-6.ensures i) (c.spare_rows.ensures.table i))))
