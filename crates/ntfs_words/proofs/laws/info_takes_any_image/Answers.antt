use Rattle.ntfs_words.proofs.InfoLaws.{behind}
use Rattle.ntfs_words.proofs.laws.info_takes_any_image.Goals as goal

pub returns : goal.returns
returns c = behind
