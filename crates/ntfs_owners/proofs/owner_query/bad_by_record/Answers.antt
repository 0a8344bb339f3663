use Rattle.std.proofs.Common.{sym, ap, ◌∙◌, map, Ok}
use Rattle.ntfs_base.specs.Bytes.{cluster_at}
use Rattle.ntfs_bitmap.specs.ClusterSet.{count_where}
use Rattle.ntfs_boot.specs.declared.geometry.Geometry.{Geometry}
use Rattle.ntfs_record.specs.Views.{placed_of, shown_placed}
use Rattle.ntfs_owners.specs.Owners.{are_bad_in, record_attributes, bad_clusters_record}
use Rattle.ntfs_owners.proofs.OwnersLemmas.{gives-no-bad}
use Rattle.ntfs_owners.proofs.SlotLemmas.{read-attributes, read-parses, read-refused}
use Rattle.ntfs_owners.proofs.owner_query.bad_by_record.Goals as goal

pub returns-in-Err-clause-gives : goal.returns-in-Err-clause-gives
returns-in-Err-clause-gives g c told whole =
    let o = c.args.table.now in
    let f = cluster_at (g.G.Image.seen c.args.image.now).content o.geometry.cluster in
    gives-no-bad bad_clusters_record o.geometry.clusters c.in-Err.fault (record_attributes o f bad_clusters_record) c.none_if_absent.result c.none_if_absent.ensures.value
    (λ settled. read-refused o f bad_clusters_record c.in-Err.fault whole (c.in-Err.ensures.gives told settled))

pub returns-in-Err-parse-clause-gives : goal.returns-in-Err-parse-clause-gives
returns-in-Err-parse-clause-gives g c told whole settled =
    let o = c.args.table.now in
    absurd (read-parses o (cluster_at (g.G.Image.seen c.args.image.now).content o.geometry.cluster) bad_clusters_record c.read_record.new.into c.in-Err-parse.field-0
    (c.in-Ok.ensures.gives told) (sym c.in-Err-parse.ensures.exact))

pub returns-in_ok-bad_in_record-in-Ok-parse-clause-gives : goal.returns-in_ok-bad_in_record-in-Ok-parse-clause-gives
returns-in_ok-bad_in_record-in-Ok-parse-clause-gives g c told whole =
    let o = c.args.table.now in
    let attributes = read-attributes o (cluster_at (g.G.Image.seen c.args.image.now).content o.geometry.cluster) bad_clusters_record c.read_record.new.into c.in-Ok-parse.view
    (c.in-Ok.ensures.gives told) (sym c.in-Ok-parse.ensures.exact) in
    ap (λ shown. Ok (count_where (are_bad_in shown) o.geometry.clusters)) attributes
    ∙ sym (ap Ok (c.in_ok-bad_in_record-in-Ok-parse.ensures ∙ ap (λ (k : Geometry). count_where (are_bad_in (map shown_placed (placed_of c.in-Ok-parse.view))) k.clusters) c.geometry.ensures.kept))
