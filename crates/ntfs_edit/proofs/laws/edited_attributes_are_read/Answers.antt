use Rattle.ntfs_edit.proofs.AttributeLemmas.{pairs-takes, pairs-says, value-takes, value-says, sizes-raw, sizes-says}
use Rattle.ntfs_edit.proofs.laws.edited_attributes_are_read.Goals as goal

pub returns-clause-pairs : goal.returns-clause-pairs
returns-clause-pairs c pairs raw next takes = (pairs-takes pairs next raw takes, pairs-says pairs next raw takes)

pub returns-clause-value : goal.returns-clause-value
returns-clause-value c value raw takes = (value-takes value raw takes, value-says value raw takes)

pub returns-clause-sizes : goal.returns-clause-sizes
returns-clause-sizes c allocated size valid raw takes =
    (sizes-raw allocated size valid raw takes.is takes.residence, sizes-says allocated size valid raw takes)
