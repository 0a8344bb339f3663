use Rattle.std.proofs.Common.{◌≡◌}
use Rattle.ntfs_base.proofs.FramesLemmas.{told_still}
use Rattle.ntfs_base.specs.Bytes.{cluster_at}
use Rattle.ntfs_check_fixed.proofs.FixedLemmas.{stream-none}
use Rattle.ntfs_check_fixed.proofs.fixed.stream_holds.Goals as goal
use Rattle.ntfs_check_fixed.specs.Rows.{found_by}
use Rattle.ntfs_volume.specs.Streams.{gather_of}

pub returns-in-None-clause-found : goal.returns-in-None-clause-found
returns-in-None-clause-found g c told =
    let o = c.args.table.now in
    let c_size = o.geometry.cluster in
    let found = told_still g.G.Image _ _ (λ content. c.in_ok-found.found ≡ found_by (gather_of o.geometry o.map (cluster_at content c_size) c.row_record-2.result c.row_kind.result c.row_name.result.now))
    c.in_ok-has_list.ensures.reads.seen c.in_ok-found.ensures.found told in
    stream-none o (cluster_at (g.G.Image.seen c.args.image.now).content c_size) c.args.row c.row_record-2.result c.row_kind.result c.row_name.result.now c.in_ok-found.found
    c.row_record-2.ensures c.row_kind.ensures c.row_name.ensures found c.in-None.is
