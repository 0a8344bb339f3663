use Rattle.std.proofs.Common.{◌≡◌, ◌*◌, ◌∙◌, ap, subst, arith, length, map}
use Rattle.std.proofs.lemmas.List.{length-take}
use Rattle.ntfs_base.specs.Bytes.{cluster_at}
use Rattle.ntfs_boot.specs.declared.geometry.Geometry.{Geometry}
use Rattle.ntfs_volume.specs.Opened.{Opened}
use Rattle.ntfs_volume.specs.Scan.{HoldRecords, taken_count}
use Rattle.ntfs_owners.specs.Held.{held_of, wants_record, wants_runs}
use Rattle.ntfs_owners.proofs.HeldLemmas.{chunk-added}
use Rattle.ntfs_owners.proofs.ScanLemmas.{chunk-length}
use Rattle.ntfs_owners.proofs.reread.add_next.Goals as goal

pub add_records-requires-clause-few : goal.add_records-requires-clause-few
add_records-requires-clause-few g c = omega (arith, length-take (c.in-Ok.count * c.from.result) c.fill.new.buffer, c.fill.auto.buffer, c.requires.room, c.requires.few, c.next_number-number.ensures.next)

pub returns-in_ok-add_records-in-Ok-clause-added : goal.returns-in_ok-add_records-in-Ok-clause-added
returns-in_ok-add_records-in-Ok-clause-added g c told =
    let content = (g.G.Image.seen c.args.image.now).content in
    let o = c.args.table.now in
    let s = c.args.scan.now in
    let buffer = c.fill.new.buffer in
    let view = c.geometry-geometry.ensures.kept in
    let same : length c.args.buffer.now ≡ length buffer = omega (arith, c.fill.auto.buffer) in
    let parts = chunk-length s o c.geometry-geometry.result.now c.in-Ok.count c.from.result (length c.args.buffer.now) buffer c.requires.table view c.from.ensures c.in-Ok.ensures.count same in
    let bytes : c.in-Ok.count * c.from.result ≡ c.in-Ok.count * o.geometry.record_size = ap (λ k. c.in-Ok.count * k) (c.from.ensures ∙ ap (λ (k : Geometry). k.record_size) view) in
    let holds = subst (λ (t : Opened). HoldRecords t.geometry t.map (cluster_at content t.geometry.cluster) s.next c.in-Ok.count buffer) c.requires.table (c.in-Ok.ensures.gives told) in
    chunk-added (wants_record c.args.wanted.now) (wants_runs c.args.wanted.now) o (cluster_at content o.geometry.cluster) c.geometry-geometry.result.now s.next c.next_number-number.result c.in-Ok.count (taken_count s (length c.args.buffer.now))
    (c.in-Ok.count * c.from.result) buffer (map held_of c.args.held.now.items) (map held_of c.add_records.new.held.items) c.next_number-number.ensures.next view c.in-Ok.ensures.count bytes parts.0 holds
    (c.in_ok-add_records-in-Ok.ensures c.in-Ok.count parts.1)
