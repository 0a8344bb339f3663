use Rattle.std.proofs.Common.{◌==◌, ◌&&◌, sym, ap, ◌∙◌, map, Err, arith}
use Rattle.std.proofs.lemmas.Bool.{eqb-true}
use Rattle.ntfs_attrlist.specs.Views.{shown_entry}
use Rattle.ntfs_record.specs.FileRecord.{attributes_of}
use Rattle.ntfs_record.specs.Views.{shown_body}
use Rattle.ntfs_record.specs.declared.attribute.Body.{Body}
use Rattle.ntfs_volume.specs.Fault.{volume_origin}
use Rattle.ntfs_volume.specs.Known.{behind_known, joined_clusters, known_clusters}
use Rattle.ntfs_volume.specs.MftMap.{is_data}
use Rattle.ntfs_volume.specs.Views.{is_wanted, told, told_view}
use Rattle.ntfs_volume.specs.declared.wanted.Wanted.TheVariants as wanted
use Rattle.ntfs_volume.proofs.AnswerLemmas.{and-left, and-right, gives_by}
use Rattle.ntfs_volume.proofs.ListLemmas.{find-meets}
use Rattle.ntfs_volume.proofs.MapLemmas.{extent-none, extent-resident, extent-runs}
use Rattle.ntfs_volume.proofs.mft_map.add_extent.Goals as goal

pub returns-in-None-clause-gives : goal.returns-in-None-clause-gives
returns-in-None-clause-gives c settled =
    ap (behind_known (known_clusters c.args.known.now)) (extent-none c.args.geometry.now.clusters (shown_entry c.args.entry.now) c.args.holder.now c.in-None.ensures.found) ∙ ap Err (sym c.no_map.ensures)

pub returns-in-Resident-clause-gives : goal.returns-in-Resident-clause-gives
returns-in-Resident-clause-gives c settled =
    ap (behind_known (known_clusters c.args.known.now)) (extent-resident c.args.geometry.now.clusters (shown_entry c.args.entry.now) c.args.holder.now (told_view c.in-Some.extent) c.in-Some.ensures.found (ap (λ (b : Body). (shown_body b).is_resident) c.in-Resident.is))
    ∙ ap Err (sym c.no_map-in-Resident.ensures)

pub add-requires-clause-few : goal.add-requires-clause-few
add-requires-clause-few c =
    let s = told_view c.in-Some.extent in
    let e = shown_entry c.args.entry.now in
    let meets = find-meets (is_wanted (wanted.Extent e.lowest e.instance)) (map told (attributes_of c.args.holder.now)) s (sym c.in-Some.ensures.found) in
    let same = eqb-true s.body.lowest e.lowest (and-left (s.body.lowest == e.lowest) (s.instance == e.instance) (and-right (is_data s.kind s.name) ((s.body.lowest == e.lowest) && (s.instance == e.instance)) meets)) in
    omega (arith, same, c.in-Some.ensures.lowest, c.requires.begins)

pub returns-in-Runs-clause-gives : goal.returns-in-Runs-clause-gives
returns-in-Runs-clause-gives c =
    let known = known_clusters c.args.known.now in
    let n = c.args.geometry.now.clusters in
    gives_by volume_origin _ _ _ c.add.result
    (ap (behind_known known) (extent-runs n (shown_entry c.args.entry.now) c.args.holder.now (told_view c.in-Some.extent) c.in-Runs.pairs.now c.in-Some.ensures.found
    (ap (λ (b : Body). (shown_body b).is_resident) c.in-Runs.is) (ap (λ (b : Body). (shown_body b).pairs) c.in-Runs.is))
    ∙ ap (λ t. joined_clusters known n t c.in-Runs.pairs.now) (sym c.target.ensures)) c.add.ensures.gives
