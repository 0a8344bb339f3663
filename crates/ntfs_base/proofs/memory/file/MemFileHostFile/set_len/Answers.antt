use Rattle.std.proofs.Common.{string_bytes}
use Rattle.ntfs_base.proofs.MemoryLemmas.{set_memory}
use Rattle.ntfs_base.proofs.memory.file.MemFileHostFile.set_len.Goals as goal

pub returns-clause-set : goal.returns-clause-set
returns-clause-set c =
    set_memory (string_bytes c.args.self.now.name) c.args.len c.args.self.now.inside c.set_len.new.self
    c.set_len.result c.set_len.ensures.memory
