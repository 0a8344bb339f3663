use Rattle.std.proofs.Common.{◌≡◌, ◌++◌, ◌-◌, List, length, take, drop, map, ap, sym, ◌∙◌, arith}
use Rattle.std.proofs.lemmas.List.{length-map, take-map, drop-map}
use Rattle.ntfs_make.specs.Table.{RowValue, row_value}
use Rattle.ntfs_make.specs.Records.{records_bytes, rows_between}
use Rattle.ntfs_make.proofs.RowLemmas.{take-all, between-cut}
use Rattle.ntfs_make.proofs.record.put_records.Goals as goal

pub returns : goal.returns
returns c =
    let rows = c.args.rows.now in
    let begin = c.min.result in
    let end = c.min-end.result in
    let some = take (end - begin) (drop begin rows) in
    let all : take c.rows.row-index some ≡ some = take-all some c.rows.row-index c.rows-test.false in
    let values : map row_value some ≡ rows_between begin end (map row_value rows)
    = sym (take-map row_value (end - begin) (drop begin rows)) ∙ ap (take (end - begin)) (sym (drop-map row_value begin rows)) in
    let long : length rows ≡ length (map row_value rows) = sym (length-map rows row_value) in
    let cut : rows_between begin end (map row_value rows) ≡ rows_between c.args.first c.args.last (map row_value rows)
    = between-cut (map row_value rows) c.args.first c.args.last begin end (omega arith) (omega arith) in
    c.rows.invariant ∙ ap (λ (r : List RowValue). c.args.out.now.items ++ records_bytes c.args.layout.now r) (ap (map row_value) all ∙ values ∙ cut)
