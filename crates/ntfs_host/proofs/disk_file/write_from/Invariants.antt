use Rattle.std.proofs.Common.{◌≤◌, ◌-◌, length}
use Rattle.ntfs_host.proofs.disk_file.write_from.Given as goal

-- no more was written than there is
abbrev pub invariant-writes : goal.invariant-writes
invariant-writes g l = l.done ≤ length l.bytes

-- what is still to be written
abbrev pub decreases-writes : goal.decreases-writes
decreases-writes g l = length l.bytes - l.done
