use Rattle.std.proofs.Common.{◌≡◌, ◌≤◌, ◌*◌, ℕ, sym, ap, subst, ◌∙◌, arith, length, take, drop, Ok, Some, true}
use Rattle.ntfs_base.specs.Bytes.{cluster_at, stream}
use Rattle.ntfs_boot.specs.Geometry.{bytes_of_clusters}
use Rattle.ntfs_runs.specs.Clusters.{vcns}
use Rattle.ntfs_volume.specs.StreamBytes.{clusters_in}
use Rattle.ntfs_volume.proofs.AnswerLemmas.{given}
use Rattle.ntfs_volume.proofs.PieceLemmas.{clusters-long, length-cells}
use Rattle.ntfs_volume.proofs.TableLemmas.{holes-too, raw-past, raw-there, record-place, table-bytes}
use Rattle.ntfs_volume.proofs.pieces.read_raw.Goals as goal

pub returns-then-number-bytes-clause-gives : goal.returns-then-number-bytes-clause-gives
returns-then-number-bytes-clause-gives g c told =
    ap Ok (raw-past (stream (cluster_at (g.G.Image.seen c.args.image.now).content c.args.geometry.now.cluster) (clusters_in (vcns c.args.runs.now))) c.args.bytes c.args.geometry.now.record_size c.args.number c.from-size.result (omega (arith, c.requires.opened.good.least_record)) c.from-size.ensures c.if-number-bytes.true)

pub overflow_mul-number : goal.overflow_mul-number
overflow_mul-number g c = let place = record-place c.args.number c.args.bytes c.args.geometry.now.record_size c.from-size.result (omega (arith, c.requires.opened.good.least_record)) c.from-size.ensures c.if-number-bytes.false in omega (arith, place)

pub read_from-requires-clause-cells : goal.read_from-requires-clause-cells
read_from-requires-clause-cells g c = holes-too c.args.geometry.now.clusters (vcns c.args.runs.now) c.requires.runs.cells

pub read_from-requires-clause-within : goal.read_from-requires-clause-within
read_from-requires-clause-within g c = let place = record-place c.args.number c.args.bytes c.args.geometry.now.record_size c.from-size.result (omega (arith, c.requires.opened.good.least_record)) c.from-size.ensures c.if-number-bytes.false in omega (arith, place, c.requires.bytes, c.requires.block)

pub returns-clause-gives : goal.returns-clause-gives
returns-clause-gives g c told =
    let k = c.args.geometry.now in
    let image = g.G.Image.seen c.args.image.now in
    let f = cluster_at image.content k.cluster in
    let cells = vcns c.args.runs.now in
    let all = stream f (clusters_in cells) in
    let same = table-bytes f k.cluster k.clusters cells c.requires.runs.cells in
    let long : length image.content ≡ image.size = g.met.G.Image.told_size c.args.image.now told in
    let held = subst (λ (n : ℕ). bytes_of_clusters k ≤ n) (sym long) c.requires.opened.held in
    let count = length-cells f true k.cluster k.clusters cells (clusters-long image.content k.cluster k.clusters held) (holes-too k.clusters cells c.requires.runs.cells) in
    let within : c.args.bytes ≤ length all = subst (λ (n : ℕ). c.args.bytes ≤ n) (sym count ∙ ap length same) c.requires.bytes in
    let read = given _ _ (c.in_ok-read_from.ensures.gives told) in
    ap Ok (raw-there all c.args.bytes k.record_size c.args.number c.from-size.result (omega (arith, c.requires.opened.good.least_record)) c.from-size.ensures within c.if-number-bytes.false
    ∙ ap Some (ap (λ n. take n (drop (c.args.number * c.from-size.result) all)) (sym c.requires.block) ∙ ap (λ xs. take (length c.args.block.now) (drop (c.args.number * c.from-size.result) xs)) (sym same) ∙ sym read))
