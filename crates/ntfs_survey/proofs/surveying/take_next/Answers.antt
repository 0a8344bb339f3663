use Rattle.std.proofs.Common.{◌≡◌, ◌*◌, ◌∙◌, ap, subst, arith, length, take}
use Rattle.std.proofs.lemmas.List.{length-take}
use Rattle.ntfs_base.specs.Bytes.{cluster_at}
use Rattle.ntfs_boot.specs.declared.geometry.Geometry.{Geometry}
use Rattle.ntfs_volume.specs.Fault.{volume_origin}
use Rattle.ntfs_volume.specs.Opened.{Opened}
use Rattle.ntfs_volume.specs.Scan.{HoldRecords, taken_count}
use Rattle.ntfs_survey.specs.Surveying.{slots_in}
use Rattle.ntfs_survey.proofs.BelowLemmas.{given-below, given-listed, viewed-below}
use Rattle.ntfs_survey.proofs.SlotsLemmas.{chunk-length, chunk-taken, gives-by}
use Rattle.ntfs_survey.proofs.surveying.take_next.Goals as goal

pub take_records-requires-clause-few : goal.take_records-requires-clause-few
take_records-requires-clause-few g c = omega (arith, length-take (c.in-Ok.count * c.from.result) c.fill.new.buffer, c.fill.auto.buffer, c.requires.room, c.requires.few, c.next_number-number.ensures.next)

pub returns-in-Ok-clause-gives : goal.returns-in-Ok-clause-gives
returns-in-Ok-clause-gives g c told =
    let content = (g.G.Image.seen c.args.image.now).content in
    let o = c.args.table.now in
    let s = c.args.scan.now in
    let buffer = c.fill.new.buffer in
    let view = c.geometry-geometry.ensures.kept in
    let same : length c.args.buffer.now ≡ length buffer = omega (arith, c.fill.auto.buffer) in
    let parts = chunk-length s o c.geometry-geometry.result.now c.in-Ok.count c.from.result (length c.args.buffer.now) buffer c.requires.table view c.from.ensures c.in-Ok.ensures.count same in
    let bytes : c.in-Ok.count * c.from.result ≡ c.in-Ok.count * o.geometry.record_size = ap (λ k. c.in-Ok.count * k) (c.from.ensures ∙ ap (λ (k : Geometry). k.record_size) view) in
    let holds = subst (λ (t : Opened). HoldRecords t.geometry t.map (cluster_at content t.geometry.cluster) s.next c.in-Ok.count buffer) c.requires.table (c.in-Ok.ensures.gives told) in
    let is = chunk-taken o (cluster_at content o.geometry.cluster) c.geometry-geometry.result.now s.next c.next_number-number.result c.in-Ok.count (taken_count s (length c.args.buffer.now))
    (c.in-Ok.count * c.from.result) buffer c.args.findings.now c.next_number-number.ensures.next view c.in-Ok.ensures.count bytes parts.0 holds in
    gives-by volume_origin _ _ _ _ is (c.take_records.ensures.gives c.in-Ok.count parts.1)

pub returns-in-Ok-clause-below : goal.returns-in-Ok-clause-below
returns-in-Ok-clause-below g c =
    let k = c.geometry-geometry.result.now in
    let buffer = c.fill.new.buffer in
    let view = c.geometry-geometry.ensures.kept in
    let same : length c.args.buffer.now ≡ length buffer = omega (arith, c.fill.auto.buffer) in
    let parts = chunk-length c.args.scan.now c.args.table.now k c.in-Ok.count c.from.result (length c.args.buffer.now) buffer c.requires.table view c.from.ensures c.in-Ok.ensures.count same in
    viewed-below k c.args.table.now.geometry c.args.findings.now c.take_records.new.findings c.take_records.result view
    (given-below k.clusters c.next_number-number.result c.args.findings.now c.take_records.new.findings (slots_in k.record_size (take (c.in-Ok.count * c.from.result) buffer) c.next_number-number.result c.in-Ok.count) c.take_records.result
    (c.take_records.ensures.gives c.in-Ok.count parts.1))
    c.requires.below

pub returns-in-Ok-clause-listed : goal.returns-in-Ok-clause-listed
returns-in-Ok-clause-listed g c =
    let k = c.geometry-geometry.result.now in
    let buffer = c.fill.new.buffer in
    let view = c.geometry-geometry.ensures.kept in
    let same : length c.args.buffer.now ≡ length buffer = omega (arith, c.fill.auto.buffer) in
    let parts = chunk-length c.args.scan.now c.args.table.now k c.in-Ok.count c.from.result (length c.args.buffer.now) buffer c.requires.table view c.from.ensures c.in-Ok.ensures.count same in
    given-listed k.clusters c.next_number-number.result c.args.findings.now c.take_records.new.findings (slots_in k.record_size (take (c.in-Ok.count * c.from.result) buffer) c.next_number-number.result c.in-Ok.count) c.take_records.result
    (c.take_records.ensures.gives c.in-Ok.count parts.1) c.take_records.ensures.judged
