use Rattle.std.proofs.Common.{◌≡◌, ◌+◌, drop, if◌then◌else◌}
use Rattle.ntfs_check_files.specs.Members.{is_same}
use Rattle.ntfs_check_files.proofs.compare.is_only.Given as goal
use Rattle.ntfs_rules.specs.Files.{count_of}

abbrev pub invariant-kept : goal.invariant-kept
invariant-kept l = (if l.found then 1 else 0) + count_of (is_same l.attribute) (drop l.other-index l.kept) ≡ count_of (is_same l.attribute) l.kept
