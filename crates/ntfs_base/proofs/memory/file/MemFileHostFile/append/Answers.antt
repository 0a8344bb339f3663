use Rattle.std.proofs.Common.{string_bytes}
use Rattle.ntfs_base.proofs.MemoryLemmas.{appended_memory}
use Rattle.ntfs_base.proofs.memory.file.MemFileHostFile.append.Goals as goal

pub returns-clause-appended : goal.returns-clause-appended
returns-clause-appended c =
    appended_memory (string_bytes c.args.self.now.name) c.args.bytes.now c.args.self.now.inside c.append.new.self
    c.append.result c.append.ensures.memory
