use Rattle.std.proofs.Common.{refl, ap, ◌∙◌, ◌-◌, length}
use Rattle.ntfs_fixup.proofs.StepLemmas.{word_put}
use borrow.Rule.Slice.PartMut.{put_mid}
use Rattle.ntfs_fixup.proofs.refixing.put_word.Goals as goal

pub returns : goal.returns
returns c =
    ap (put_mid c.args.place (length c.args.block.now - c.args.place) c.args.block.now) c.write_u16.ensures
    ∙ word_put c.args.place _ _ _ _ c.args.block.now refl refl c.requires
