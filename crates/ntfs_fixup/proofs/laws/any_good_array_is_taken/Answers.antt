use Rattle.ntfs_fixup.proofs.LawLemmas.{has_good_array-any}
use Rattle.ntfs_fixup.proofs.laws.any_good_array_is_taken.Goals as goal

pub returns : goal.returns
returns c = has_good_array-any c.args.magic c.args.block.now c.requires
