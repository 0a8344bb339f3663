-- `byteorder` reads at the front of the bytes from the place on.
use Rattle.std.proofs.Common.{◌∙◌, ap}
use Rattle.std.proofs.lemmas.List.{take_rest}
use Rattle.byteorder.specs.Endian.{little_number}
use Rattle.ntfs_base.proofs.BytesLemmas.{little_number-drop}
use Rattle.ntfs_fixup.proofs.header.word_at.Goals as goal

pub returns : goal.returns
returns c =
    c.read_u16.ensures ∙ ap (little_number 2) (take_rest c.args.block.now c.args.place)
    ∙ little_number-drop 2 c.args.place c.args.block.now
