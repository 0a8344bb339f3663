use Rattle.std.proofs.Common.{◌∙◌}
use Rattle.ntfs_base.proofs.OverwriteLemmas.{paste-overwrite}
use Rattle.ntfs_base.proofs.in_place.move_piece.Goals as goal

pub returns : goal.returns
returns c =
    c.copy_within.ensures.after ∙ paste-overwrite c.args.from c.args.count c.args.to c.args.bytes.now c.requires.from
