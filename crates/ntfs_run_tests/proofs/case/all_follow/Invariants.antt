use Rattle.std.proofs.Common.{◌≡◌, []}
use Rattle.ntfs_base.specs.MemShelf.{seen_mem_shelf}
use Rattle.ntfs_run_tests.proofs.case.all_follow.Given as goal

-- no name stays attached
abbrev pub invariant-cases : goal.invariant-cases
invariant-cases g l = (seen_mem_shelf l.shelf.places.items l.shelf.attached.items).attached ≡ []
