use Rattle.std.proofs.Common.{◌≡◌, []}
use Rattle.ntfs_base.specs.MemShelf.{seen_mem_shelf}
use Rattle.ntfs_run_tests.proofs.made.all_show.Given as goal

-- no name stays attached
abbrev pub invariant-rows : goal.invariant-rows
invariant-rows g l = (seen_mem_shelf l.shelf.places.items l.shelf.attached.items).attached ≡ []
