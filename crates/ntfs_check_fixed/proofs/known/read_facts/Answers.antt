use Rattle.std.proofs.Common.{◌≡◌, ◌<◌, ◌^◌, ◌∙◌, ap, sym, arith, length, ℕ, List, [], Option}
use Rattle.ntfs_base.proofs.FramesLemmas.{told_still}
use Rattle.ntfs_base.specs.Bytes.{cluster_at}
use Rattle.ntfs_bitmap.specs.ClusterSet.{bound_of}
use Rattle.ntfs_boot.specs.declared.geometry.Geometry.{Geometry}
use Rattle.ntfs_check_fixed.proofs.FactLemmas.{bad-in-place, end-within, facts-are, fixed-bound, found-plain}
use Rattle.ntfs_check_fixed.proofs.known.read_facts.Goals as goal
use Rattle.ntfs_check_fixed.specs.Facts.{gathered_cells, owned_end, fixed_in}
use Rattle.ntfs_check_fixed.specs.Rows.{found_by}
use Rattle.ntfs_directory.specs.UpCase.{data_kind}
use Rattle.ntfs_rules.specs.FixedRecords.{are_in_place, bad_name, volume_information_kind}
use Rattle.ntfs_rules.specs.VolumeData.{volume_data}
use Rattle.ntfs_runs.specs.Clusters.{vcns}
use Rattle.ntfs_volume.specs.StreamBytes.{clusters_in}
use Rattle.ntfs_volume.specs.Streams.{gather_of}

pub returns-clause-found : goal.returns-clause-found
unfolding volume_data
returns-clause-found g c told = λ sound claims lies.
    let o = c.args.table.now in
    let f = cluster_at (g.G.Image.seen c.args.image.now).content o.geometry.cluster in
    let bitmap = c.in_ok-bitmap.bitmap in
    let bad = c.in_ok-bad.bad in
    let information = c.in_ok-information.information in
    let kept = c.geometry-geometry.ensures.kept in
    let many : c.geometry-geometry.result.now.clusters ≡ o.geometry.clusters = ap (λ (k : Geometry). k.clusters) kept in
    let few : o.geometry.clusters < 2 ^ 63 = omega (arith, c.geometry-geometry.ensures.good.most_clusters) in
    let bitmap_is : bitmap ≡ found_by (gather_of o.geometry o.map f 6 data_kind []) = c.in_ok-bitmap.ensures.found told in
    let bad_read = told_still g.G.Image _ _ (λ content. bad ≡ found_by (gather_of o.geometry o.map (cluster_at content o.geometry.cluster) 8 data_kind c.row_name.result.now))
    c.in_ok-bitmap.ensures.reads.seen c.in_ok-bad.ensures.found told in
    let bad_is : bad ≡ found_by (gather_of o.geometry o.map f 8 data_kind bad_name) = bad_read ∙ ap (λ (name : List ℕ). found_by (gather_of o.geometry o.map f 8 data_kind name)) c.row_name.ensures in
    let information_is : information ≡ found_by (gather_of o.geometry o.map f 3 volume_information_kind []) =
    told_still g.G.Image _ _ (λ content. information ≡ found_by (gather_of o.geometry o.map (cluster_at content o.geometry.cluster) 3 volume_information_kind []))
    (c.in_ok-bad.ensures.reads.seen ∙ c.in_ok-bitmap.ensures.reads.seen) c.in_ok-information.ensures.found told in
    let bitmap_cells = c.runs_found.ensures.cells (found-plain o f 6 data_kind [] bitmap bitmap_is).0 in
    let bad_cells = c.runs_found-bad_runs.ensures.cells (found-plain o f 8 data_kind bad_name bad bad_is).0 in
    facts-are o f bitmap bad information c.owned_end.result c.count_clusters-bad_count.result c.in_ok-fixed.fixed c.is_flagged.result bitmap_is bad_is information_is
    (c.owned_end.ensures o.geometry.clusters few lies ∙ ap (owned_end 7) (sym claims))
    (c.in_ok-fixed.ensures ∙ ap (λ n. fixed_in n (vcns c.runs_found.result.now) (vcns c.runs_found-bad_runs.result.now)) many
    ∙ ap (λ (cells : List (Option ℕ)). fixed_in o.geometry.clusters cells (vcns c.runs_found-bad_runs.result.now)) bitmap_cells
    ∙ ap (λ (cells : List (Option ℕ)). fixed_in o.geometry.clusters (gathered_cells bitmap) cells) bad_cells)
    (c.count_clusters-bad_count.ensures c.geometry-geometry.result.now.clusters (omega (arith, many, few)) c.runs_found-bad_runs.ensures.below (ap (are_in_place 0) bad_cells ∙ bad-in-place o f bad bad_is sound)
    ∙ ap (λ (cells : List (Option ℕ)). length (clusters_in cells)) bad_cells)
    (c.is_flagged.ensures (found-plain o f 3 volume_information_kind [] information information_is).1)

pub returns-clause-bound : goal.returns-clause-bound
returns-clause-bound g c =
    ap bound_of c.in_ok-fixed.ensures ∙ fixed-bound c.geometry-geometry.result.now.clusters (vcns c.runs_found.result.now) (vcns c.runs_found-bad_runs.result.now)
    ∙ ap (λ (k : Geometry). k.clusters) c.geometry-geometry.ensures.kept

pub returns-clause-ended : goal.returns-clause-ended
returns-clause-ended g c = λ lies.
    let o = c.args.table.now in
    let kept = ap (λ (k : Geometry). k.clusters) c.geometry-geometry.ensures.kept in
    let few : o.geometry.clusters < 2 ^ 63 = omega (arith, c.geometry-geometry.ensures.good.most_clusters, kept) in
    let end = c.owned_end.ensures o.geometry.clusters few lies in
    omega (arith, end, end-within 7 o.geometry.clusters c.args.owners.now lies)
