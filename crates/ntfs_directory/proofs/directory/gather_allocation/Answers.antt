use Rattle.std.proofs.Common.{subst, sym}
use Rattle.ntfs_volume.specs.Streams.{IsReadable, Stream}
use Rattle.std.proofs.Common.{ℕ}
use Rattle.ntfs_directory.proofs.EmptyLemmas.{none-readable}
use Rattle.ntfs_directory.proofs.directory.gather_allocation.Goals as goal

pub returns-in-Err-NoAttribute-clause-readable : goal.returns-in-Err-NoAttribute-clause-readable
returns-in-Err-NoAttribute-clause-readable g c =
    subst (λ (s : Stream ℕ). IsReadable c.args.table.now.geometry s) (sym c.new.ensures) (none-readable c.args.table.now.geometry)
