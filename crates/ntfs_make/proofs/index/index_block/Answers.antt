use Rattle.std.proofs.Common.{◌≡◌, ◌++◌, List, ℕ, refl, ap, ◌∙◌, arith}
use Rattle.ntfs_make.specs.Fields.{with_length}
use Rattle.ntfs_make.specs.Index.{index_text}
use Rattle.ntfs_make.proofs.BlockLemmas.{whole-sized, index-array}
use Rattle.ntfs_make.proofs.index.index_block.Goals as goal

pub refix-requires-clause-block : goal.refix-requires-clause-block
refix-requires-clause-block c =
    let text : c.deref_mut.result.now ≡ with_length 4096 index_text =
    c.deref_mut.ensures.value ∙ c.in_ok-cut_or_fill.ensures ∙ ap (with_length 4096) (c.in_ok-put_index.ensures ∙ ap (λ (front : List ℕ). front ++ index_text) c.new-block.ensures.items) in
    rw text (whole-sized 4096 index_text refl (omega arith) (omega arith))

pub refix-requires-clause-array : goal.refix-requires-clause-array
refix-requires-clause-array c =
    let text : c.deref_mut.result.now ≡ with_length 4096 index_text =
    c.deref_mut.ensures.value ∙ c.in_ok-cut_or_fill.ensures ∙ ap (with_length 4096) (c.in_ok-put_index.ensures ∙ ap (λ (front : List ℕ). front ++ index_text) c.new-block.ensures.items) in
    rw text index-array
