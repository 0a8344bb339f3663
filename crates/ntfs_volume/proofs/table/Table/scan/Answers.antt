use Rattle.std.proofs.Common.{List, sym, subst}
use Rattle.ntfs_runs.specs.declared.run.Run.{Run}
use Rattle.ntfs_volume.specs.Opened.{Opened, opened_by}
use Rattle.ntfs_volume.specs.Scan.{IsScan}
use Rattle.ntfs_volume.proofs.ScanLemmas.{scan-begins}
use Rattle.ntfs_volume.proofs.table.Table.scan.Goals as goal

pub new-requires : goal.new-requires
new-requires c =
    let s = c.self.inside in
    subst (λ (o : Opened). IsScan o c.runs.result.now (record { index = 0; begins = 0 }) 0) c.self.view_is
    (subst (λ (rs : List Run). IsScan (opened_by s.geometry s.runs s.size s.valid) rs (record { index = 0; begins = 0 }) 0) (sym c.runs.ensures)
    (scan-begins s.geometry s.runs s.size s.valid c.self.invariant))
