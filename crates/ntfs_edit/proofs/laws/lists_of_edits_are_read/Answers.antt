use Rattle.ntfs_edit.proofs.RowLemmas.{edits-parse, edits-read, edits-twice}
use Rattle.ntfs_edit.proofs.laws.lists_of_edits_are_read.Goals as goal

pub returns-clause-parses : goal.returns-clause-parses
returns-clause-parses c reads f g is first all room = edits-parse reads f g c.args.bytes.now is first all room

pub returns-clause-reads : goal.returns-clause-reads
returns-clause-reads c = edits-read

pub returns-clause-both : goal.returns-clause-both
returns-clause-both c = edits-twice
