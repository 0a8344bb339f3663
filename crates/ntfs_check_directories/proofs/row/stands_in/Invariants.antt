use Rattle.std.proofs.Common.{◌≡◌, drop}
use Rattle.ntfs_check_directories.specs.Row.{names_in_row, stands_in}
use Rattle.ntfs_check_directories.proofs.row.stands_in.Given as goal

abbrev pub invariant-names : goal.invariant-names
invariant-names l = stands_in (names_in_row (drop l.other-index l.names)) l.name ≡ stands_in (names_in_row l.names) l.name
