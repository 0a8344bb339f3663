use Rattle.ntfs_base.proofs.OverwriteLemmas.{put_mid-overwrite}
use Rattle.ntfs_base.proofs.in_place.overwrite.Goals as goal

pub returns : goal.returns
returns c =
    put_mid-overwrite c.args.place c.args.bytes.now c.args.text.now c.copy_from_slice.new.self c.requires
    c.copy_from_slice.ensures.after
