use Rattle.ntfs_base.proofs.OverwriteLemmas.{put_mid-zeros}
use Rattle.ntfs_base.proofs.in_place.overwrite_zeros.Goals as goal

pub returns : goal.returns
returns c =
    put_mid-zeros c.args.place c.args.count c.args.bytes.now c.fill.new.self c.requires
    (c.fill.ensures.after (λ y is. is))
