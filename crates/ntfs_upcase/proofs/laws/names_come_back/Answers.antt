use Rattle.ntfs_upcase.proofs.TextLemmas.{name_bytes-text_bytes}
use Rattle.ntfs_upcase.proofs.laws.names_come_back.Goals as goal

pub returns : goal.returns
returns c = name_bytes-text_bytes
