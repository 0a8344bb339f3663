use Rattle.std.proofs.Common.{◌≡◌, ◌*◌, ◌∙◌, ap, subst, arith, length}
use Rattle.ntfs_base.specs.Bytes.{cluster_at}
use Rattle.ntfs_check_fixed.proofs.MirrorLemmas.{against-given}
use Rattle.ntfs_check_fixed.proofs.mirror.check_against.Goals as goal
use Rattle.ntfs_rules.proofs.ContentLemmas.{whole-buffer}
use Rattle.ntfs_volume.specs.Scan.{HoldRecords, Scanning, taken_count}
use Rattle.ntfs_boot.specs.declared.geometry.Geometry.{Geometry}

pub returns-clause-gives : goal.returns-clause-gives
returns-clause-gives g c told =
    let o = c.args.table.now in
    let content = (g.G.Image.seen c.args.image.now).content in
    let f = cluster_at content o.geometry.cluster in
    let size = ap (λ (k : Geometry). k.record_size) c.geometry.ensures.kept in
    let long : length c.fill.new.buffer ≡ c.in_ok-records.records.len = c.fill.auto.buffer ∙ c.deref_mut.ensures.len in
    let room : length c.deref_mut.result.now ≡ 4 * o.geometry.record_size = c.deref_mut.ensures.len ∙ c.in_ok-records.ensures.len ∙ ap (λ n. 4 * n) size in
    against-given o f c.geometry.result.now.record_size c.in-Ok.count (length c.deref_mut.result.now) c.fill.new.buffer c.deref.result.now c.args.mirror.now c.check_copies.result size
    (omega (arith, c.geometry.ensures.good.least_record))
    (c.deref.ensures.value ∙ whole-buffer c.fill.new.buffer _ c.in_ok-records.records.len long)
    (subst (λ (s : Scanning). HoldRecords s.table.geometry s.table.map (cluster_at content s.table.geometry.cluster) s.next c.in-Ok.count c.fill.new.buffer) c.scan-scan.ensures (c.in-Ok.ensures.gives told))
    room
    (c.in-Ok.ensures.count ∙ ap (λ (s : Scanning). taken_count s (length c.deref_mut.result.now)) c.scan-scan.ensures)
    c.check_copies.ensures.gives
