use Rattle.std.proofs.Common.{length, min, ap, ◌∙◌}
use Rattle.ntfs_directory.proofs.EntryLemmas.{name-cut}
use Rattle.ntfs_directory.proofs.entries.name_in_key.Goals as goal

pub returns : goal.returns
returns c =
    let ends = c.min-2.ensures ∙ ap (λ n. min n (length c.split_at.result.1.now)) c.name_length.ensures in
    c.split_at-2.ensures.front
    ∙ name-cut c.args.key.now c.split_at.result.1.now c.min.result c.min-2.result c.min.ensures
    c.split_at.ensures.back ends
