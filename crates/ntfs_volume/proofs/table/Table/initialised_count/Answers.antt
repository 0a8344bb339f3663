use Rattle.std.proofs.Common.{◌≡◌, ◌<◌, ◌/◌, ℕ, length, sym, subst, arith, None}
use Rattle.ntfs_base.specs.Bytes.{stream}
use Rattle.ntfs_runs.specs.Clusters.{vcns}
use Rattle.ntfs_volume.specs.Opened.{Opened}
use Rattle.ntfs_volume.specs.Records.{raw_record}
use Rattle.ntfs_volume.specs.StreamBytes.{clusters_in}
use Rattle.ntfs_volume.proofs.ScanLemmas.{initialised-few}
use Rattle.ntfs_volume.proofs.TableLemmas.{raw-past}
use Rattle.ntfs_volume.proofs.table.Table.initialised_count.Goals as goal

pub returns-clause-most : goal.returns-clause-most
returns-clause-most c =
    let s = c.self.inside in
    subst (λ (n : ℕ). s.valid / n < 4294967296) (sym c.from.ensures)
    (initialised-few s.geometry (length (vcns s.runs)) s.size s.valid c.self.invariant.fits (omega (arith, c.self.invariant.good.least_record)))

pub returns-clause-past : goal.returns-clause-past
unfolding raw_record
returns-clause-past c f r le =
    let s = c.self.inside in
    subst (λ (o : Opened). raw_record o.geometry o.map f r ≡ None) c.self.view_is
    (raw-past (stream f (clusters_in (vcns s.runs))) s.valid s.geometry.record_size r c.from.result (omega (arith, c.self.invariant.good.least_record)) c.from.ensures le)
