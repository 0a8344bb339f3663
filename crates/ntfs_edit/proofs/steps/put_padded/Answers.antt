use Rattle.std.proofs.Common.{ℕ, ◌∙◌, ◌+◌, ◌-◌, length, replicate, ap, arith}
use Rattle.ntfs_base.specs.Bytes.{overwrite}
use Rattle.ntfs_base.proofs.OverwriteLemmas.{overwrite-append}
use Rattle.ntfs_edit.proofs.steps.put_padded.Goals as goal

pub returns : goal.returns
returns c =
    let text = c.args.text.now in
    let zeros = replicate {A = ℕ} (c.args.size - length c.args.text.now) 0 in
    c.overwrite_zeros.ensures ∙ ap (overwrite (c.args.place + length text) zeros) c.overwrite.ensures
    ∙ overwrite-append c.args.place text zeros c.args.bytes.now (omega (arith, c.requires.within))
