use Rattle.std.proofs.Common.{◌≡◌, ◌&&◌, ◌∙◌, subst, sym, Bool, [], None, Some, if◌then◌else◌}
use Rattle.std.specs.Result.{result_ok}
use Rattle.std.specs.Prelude.{IfOk}
use Rattle.ntfs_base.proofs.FramesLemmas.{told_still}
use Rattle.ntfs_base.specs.Bytes.{cluster_at}
use Rattle.ntfs_bitmap.specs.ClusterSet.{has}
use Rattle.ntfs_boot.specs.declared.geometry.Geometry.{Geometry}
use Rattle.ntfs_check_clusters.proofs.StreamLemmas.{bitmap-gathered, bitmap-listed, bitmap-missing}
use Rattle.ntfs_check_clusters.proofs.bitmap.bitmap_matches.Goals as goal
use Rattle.ntfs_check_clusters.specs.Outcome.{bitmap_of}
use Rattle.ntfs_rules.proofs.ContentLemmas.{ok-weaker}
use Rattle.ntfs_rules.specs.Clusters.{are_bits_of}
use Rattle.ntfs_rules.specs.FixedRecords.{is_bitmap}
use Rattle.ntfs_rules.specs.VolumeData.{volume_data}
use Rattle.ntfs_stream.specs.StreamBytes.{bytes_of_stream, filled_stream}
use Rattle.ntfs_volume.specs.Streams.{gather_of}

pub returns-then-listed-clause-found : goal.returns-then-listed-clause-found
returns-then-listed-clause-found g c told =
    let o = c.args.table.now in
    bitmap-listed o (cluster_at (g.G.Image.seen c.args.image.now).content o.geometry.cluster) (has c.args.set.now) c.in_ok-listed.listed (c.in_ok-listed.ensures.found told) c.if-listed.true

pub returns-in-None-clause-found : goal.returns-in-None-clause-found
returns-in-None-clause-found g c told =
    let o = c.args.table.now in
    let found = told_still g.G.Image _ _ (λ content. c.in_ok-gather_unnamed.field-0 ≡ result_ok (gather_of o.geometry o.map (cluster_at content o.geometry.cluster) 6 0x80 [])) c.in_ok-listed.ensures.reads.seen
    c.in_ok-gather_unnamed.ensures.found told in
    bitmap-missing o (cluster_at (g.G.Image.seen c.args.image.now).content o.geometry.cluster) (has c.args.set.now) c.in_ok-listed.listed (c.in_ok-listed.ensures.found told) c.if-listed.false
    (sym c.in-None.is ∙ found)

pub returns-in-Some-clause-found : goal.returns-in-Some-clause-found
returns-in-Some-clause-found g c told =
    let o = c.args.table.now in
    let content = (g.G.Image.seen c.args.image.now).content in
    let found = told_still g.G.Image _ _ (λ content. c.in_ok-gather_unnamed.field-0 ≡ result_ok (gather_of o.geometry o.map (cluster_at content o.geometry.cluster) 6 0x80 [])) c.in_ok-listed.ensures.reads.seen
    c.in_ok-gather_unnamed.ensures.found told in
    let matched = told_still g.G.Image _ _ (λ content. IfOk c.stream_matches.result (λ is. is ≡ (is_bitmap c.geometry.result.now.clusters c.in-Some.stream && are_bits_of (has c.args.set.now) c.geometry.result.now.clusters
    (bytes_of_stream c.geometry.result.now.cluster (filled_stream c.geometry.result.now content c.in-Some.stream.stream)))))
    (c.in_ok-gather_unnamed.ensures.reads.seen ∙ c.in_ok-listed.ensures.reads.seen) c.stream_matches.ensures.found told in
    ok-weaker (λ (is : Bool). is ≡ (is_bitmap o.geometry.clusters c.in-Some.stream && are_bits_of (has c.args.set.now) o.geometry.clusters (bytes_of_stream o.geometry.cluster (filled_stream o.geometry content c.in-Some.stream.stream))))
    (λ (is : Bool). bitmap_of (has c.args.set.now) (volume_data o (cluster_at content o.geometry.cluster)) ≡ (if is then None else Some 6)) c.stream_matches.result
    (λ is same. bitmap-gathered o (cluster_at content o.geometry.cluster) (has c.args.set.now) c.in_ok-listed.listed is c.in-Some.stream (c.in_ok-listed.ensures.found told) c.if-listed.false (sym c.in-Some.is ∙ found) same)
    (subst (λ (k : Geometry). IfOk c.stream_matches.result (λ is. is ≡ (is_bitmap k.clusters c.in-Some.stream && are_bits_of (has c.args.set.now) k.clusters (bytes_of_stream k.cluster (filled_stream k content c.in-Some.stream.stream)))))
    c.geometry.ensures.kept matched)
