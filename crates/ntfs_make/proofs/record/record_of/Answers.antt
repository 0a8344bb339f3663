use Rattle.std.proofs.Common.{◌≡◌, ◌++◌, List, ℕ, refl, ap, ◌∙◌, arith}
use Rattle.ntfs_make.specs.Fields.{with_length}
use Rattle.ntfs_make.specs.Table.{row_value}
use Rattle.ntfs_make.specs.Records.{record_text}
use Rattle.ntfs_make.proofs.BlockLemmas.{whole-sized, record-array}
use Rattle.ntfs_make.proofs.record.record_of.Goals as goal

pub refix-requires-clause-block : goal.refix-requires-clause-block
refix-requires-clause-block c =
    let whole = record_text c.args.layout.now (row_value c.args.row.now) in
    let text : c.deref_mut.result.now ≡ with_length 1024 whole =
    c.deref_mut.ensures.value ∙ c.in_ok-cut_or_fill.ensures ∙ ap (with_length 1024) (c.in_ok-put_text.ensures ∙ ap (λ (front : List ℕ). front ++ whole) c.in_ok-record.ensures.items) in
    rw text (whole-sized 1024 whole refl (omega arith) (omega arith))

pub refix-requires-clause-array : goal.refix-requires-clause-array
refix-requires-clause-array c =
    let whole = record_text c.args.layout.now (row_value c.args.row.now) in
    let text : c.deref_mut.result.now ≡ with_length 1024 whole =
    c.deref_mut.ensures.value ∙ c.in_ok-cut_or_fill.ensures ∙ ap (with_length 1024) (c.in_ok-put_text.ensures ∙ ap (λ (front : List ℕ). front ++ whole) c.in_ok-record.ensures.items) in
    rw text (record-array c.args.layout.now (row_value c.args.row.now))
