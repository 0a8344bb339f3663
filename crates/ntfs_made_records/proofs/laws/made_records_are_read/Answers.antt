use Rattle.ntfs_make.specs.Shape.{shape_of}
use Rattle.ntfs_made_records.proofs.RecordLemmas.{made-attributes, made-located}
use Rattle.ntfs_made_records.proofs.SlotLemmas.{length-record, live-made, slot-made}
use Rattle.ntfs_made_records.proofs.TableLemmas.{table-row}
use Rattle.ntfs_made_records.proofs.laws.made_records_are_read.Goals as goal

pub returns-clause-slots : goal.returns-clause-slots
returns-clause-slots c seed clusters cluster r row is at =
    let shape = shape_of seed clusters cluster in
    let t = table-row shape r row is at in
    slot-made shape row r t.small t.odd t.number

pub returns-clause-recorded : goal.returns-clause-recorded
returns-clause-recorded c seed clusters cluster r row is at used =
    let shape = shape_of seed clusters cluster in
    let t = table-row shape r row is at in
    live-made shape row t.small (t.odd used) used

pub returns-clause-attributes : goal.returns-clause-attributes
returns-clause-attributes c seed clusters cluster r row is at =
    let shape = shape_of seed clusters cluster in
    made-attributes shape row (table-row shape r row is at).small.all

pub returns-clause-located : goal.returns-clause-located
returns-clause-located c seed clusters cluster r row is at =
    let shape = shape_of seed clusters cluster in
    made-located shape row (table-row shape r row is at).small.all

pub returns-clause-cells : goal.returns-clause-cells
returns-clause-cells c seed clusters cluster r row is at =
    (table-row (shape_of seed clusters cluster) r row is at).cells

pub returns-clause-length : goal.returns-clause-length
returns-clause-length c seed clusters cluster r row is at = length-record (shape_of seed clusters cluster) row
