use Rattle.ntfs_clone.proofs.CopyLawLemmas.{copy-restored, part-byte}
use Rattle.ntfs_clone.proofs.laws.copies_are_what_clones_restore.Goals as goal

pub returns-clause-whole : goal.returns-clause-whole
returns-clause-whole c = copy-restored

pub returns-clause-part : goal.returns-clause-part
returns-clause-part c = part-byte
