use Rattle.ntfs_upcase.proofs.TextLemmas.{text_bytes-name_bytes}
use Rattle.ntfs_upcase.proofs.laws.texts_come_back.Goals as goal

pub returns : goal.returns
returns c = text_bytes-name_bytes
