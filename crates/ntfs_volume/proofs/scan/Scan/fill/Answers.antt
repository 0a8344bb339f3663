use Rattle.std.proofs.Common.{◌≡◌, ◌≤◌, ◌+◌, ◌*◌, ◌∙◌, ◌++◌, ℕ, ap, sym, subst, arith, length, take, drop, true}
use Rattle.ntfs_base.specs.Bytes.{cluster_at, raw_of, stream}
use Rattle.ntfs_boot.specs.Geometry.{bytes_of_clusters}
use Rattle.ntfs_boot.specs.declared.geometry.Geometry.{Geometry}
use Rattle.ntfs_runs.specs.Cells.{are_cells, map_cells}
use Rattle.ntfs_runs.specs.Clusters.{vcns}
use Rattle.ntfs_volume.specs.Opened.{HasClusters}
use Rattle.ntfs_volume.specs.Records.{raw_record}
use Rattle.ntfs_volume.specs.Scan.{Scanning}
use Rattle.ntfs_volume.specs.StreamBytes.{cells_bytes}
use Rattle.ntfs_volume.proofs.AnswerLemmas.{given}
use Rattle.ntfs_volume.proofs.PieceLemmas.{clusters-long, clusters-small, length-cells}
use Rattle.ntfs_volume.proofs.ScanLemmas.{pieces-fit, record-among, records-end}
use Rattle.ntfs_volume.proofs.TableLemmas.{holes-too, table-bytes}
use Rattle.std.proofs.lemmas.List.{length-take-le}
use Rattle.ntfs_volume.proofs.scan.Scan.fill.Goals as goal

pub overflow_mul-place : goal.overflow_mul-place
overflow_mul-place g c =
    let few : c.self.inside.next ≤ 4294967296 = omega (arith, c.self.invariant.there, c.initialised_count.ensures.count, c.initialised_count.ensures.most) in
    let small = clusters-small c.self.inside.next c.from-size.result few (omega (arith, c.from-size.ensures, c.geometry-geometry.ensures.good.most_record, ap (λ (k : Geometry). k.record_size) c.geometry-geometry.ensures.kept)) in
    omega (arith, small)

pub overflow_add-place : goal.overflow_add-place
overflow_add-place g c =
    let next = c.self.inside.next in
    let count = c.min-count.result in
    let k = c.from-size.result in
    let few : next + count ≤ 4294967296 = omega (arith, c.self.invariant.there, c.initialised_count.ensures.count, c.initialised_count.ensures.most, c.min-count.ensures) in
    let small = clusters-small (next + count) k few (omega (arith, c.from-size.ensures, c.geometry-geometry.ensures.good.most_record, ap (λ (k : Geometry). k.record_size) c.geometry-geometry.ensures.kept)) in
    let both : next * k + count * k ≡ (next + count) * k = omega arith in
    omega (arith, small, both)

pub seek-behind-requires-clause-within : goal.seek-behind-requires-clause-within
seek-behind-requires-clause-within g c =
    let s = c.self.inside in
    let v = s.table.now in
    let same : c.from-size.result ≡ v.geometry.record_size = c.from-size.ensures ∙ ap (λ (k : Geometry). k.record_size) c.geometry-geometry.ensures.kept in
    let ends = records-end s.next c.min-count.result v.map.valid v.geometry.record_size c.from-size.result c.initialised_count.result (omega (arith, c.geometry-geometry.ensures.good.least_record)) same c.initialised_count.ensures.count
    (omega (arith, c.self.invariant.there, c.initialised_count.ensures.count)) (omega (arith, c.min-count.ensures)) in
    let room = subst (λ (k : Geometry). v.map.valid ≤ length (vcns s.runs.now) * k.cluster) (sym c.geometry-geometry.ensures.kept) c.self.invariant.room in
    omega (arith, ends, room)

pub read_between-requires-clause-cells : goal.read_between-requires-clause-cells
read_between-requires-clause-cells g c =
    let s = c.self.inside in
    subst (λ (k : Geometry). are_cells true k.clusters (vcns s.runs.now) ≡ true) (sym c.geometry-geometry.ensures.kept)
    (holes-too s.table.now.geometry.clusters (vcns s.runs.now) c.self.invariant.table.cells)

pub returns-clause-gives : goal.returns-clause-gives
returns-clause-gives g c told i lt =
    let s = c.self.inside in
    let v = s.table.now in
    let image = g.G.Image.seen c.args.image.now in
    let content = image.content in
    let size = v.geometry.cluster in
    let f = cluster_at content size in
    let runs = s.runs.now in
    let count = c.min-count.result in
    let k = c.from-size.result in
    let bytes = count * k in
    let all = cells_bytes size (map_cells f (vcns runs)) in
    let same : k ≡ v.geometry.record_size = c.from-size.ensures ∙ ap (λ (q : Geometry). q.record_size) c.geometry-geometry.ensures.kept in
    let ends = records-end s.next count v.map.valid v.geometry.record_size k c.initialised_count.result (omega (arith, c.geometry-geometry.ensures.good.least_record)) same c.initialised_count.ensures.count
    (omega (arith, c.self.invariant.there, c.initialised_count.ensures.count)) (omega (arith, c.min-count.ensures)) in
    let fits : bytes ≤ length c.args.buffer.now = pieces-fit count _ (length c.args.buffer.now) k c.min-count.ensures in
    let held : bytes_of_clusters v.geometry ≤ image.size = subst (λ (q : Scanning). HasClusters image.size q.table) (sym c.self.view_is) c.requires.held in
    let long : length content ≡ image.size = g.met.G.Image.told_size c.args.image.now told in
    let each = clusters-long content size v.geometry.clusters (subst (λ (n : ℕ). bytes_of_clusters v.geometry ≤ n) (sym long) held) in
    let whole : v.map.valid ≤ length all = omega (arith, length-cells f true size v.geometry.clusters (vcns runs) each (holes-too v.geometry.clusters (vcns runs) c.self.invariant.table.cells), c.self.invariant.room) in
    let read = subst (λ (q : Geometry). c.read_between.new.into ≡ take (length (take bytes c.args.buffer.now)) (drop (s.next * k) (cells_bytes q.cluster (map_cells (cluster_at content q.cluster) (vcns runs))))) c.geometry-geometry.ensures.kept
    (given _ _ (c.in_ok-read_between.ensures.gives told)) in
    subst (λ (q : Scanning). raw_of q.table.geometry.record_size (c.read_between.new.into ++ drop bytes c.args.buffer.now) i ≡ raw_record q.table.geometry q.table.map (cluster_at content q.table.geometry.cluster) (q.next + i)) c.self.view_is
    (record-among v.geometry v.map f all c.read_between.new.into (drop bytes c.args.buffer.now) s.next count i k (length (take bytes c.args.buffer.now))
    (table-bytes f size v.geometry.clusters (vcns runs) c.self.invariant.table.cells ∙ ap (stream f) c.self.invariant.clusters) whole (omega (arith, c.geometry-geometry.ensures.good.least_record)) same ends (length-take-le bytes c.args.buffer.now fits) read lt)
