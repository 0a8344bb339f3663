use Rattle.std.proofs.Common.{◌≡◌, []}
use Rattle.ntfs_base.specs.MemShelf.{seen_mem_shelf}
use Rattle.ntfs_restore_tests.proofs.case.shelf_with.Given as goal

-- no name stays attached
abbrev pub invariant-files : goal.invariant-files
invariant-files l = (seen_mem_shelf l.shelf.places.items l.shelf.attached.items).attached ≡ []
