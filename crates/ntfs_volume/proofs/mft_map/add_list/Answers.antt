use Rattle.std.proofs.Common.{◌∙◌, sym, ap}
use Rattle.std.proofs.lemmas.Result.{err_from_is_err_and}
use Rattle.ntfs_base.specs.Bytes.{cluster_at}
use Rattle.ntfs_base.specs.Frames.{Gives}
use Rattle.ntfs_base.proofs.FramesLemmas.{told_still}
use Rattle.ntfs_record.specs.Views.{shown_body}
use Rattle.ntfs_record.specs.declared.attribute.Body.{Body}
use Rattle.ntfs_volume.specs.Fault.{volume_origin}
use Rattle.ntfs_volume.specs.Known.{known_clusters, listed_clusters}
use Rattle.ntfs_volume.specs.Views.{told_view}
use Rattle.ntfs_volume.proofs.AnswerLemmas.{gives_by}
use Rattle.ntfs_volume.proofs.TableListLemmas.{all-none, all-read, all-resident, all-unread, table-list}
use Rattle.ntfs_volume.proofs.mft_map.add_list.Goals as goal

pub returns-in_default-clause-gives : goal.returns-in_default-clause-gives
returns-in_default-clause-gives g c told =
    let a = c.args in
    all-none a.geometry.now (cluster_at (g.G.Image.seen a.image.now).content a.geometry.now.cluster) a.valid a.first.now (known_clusters a.known.now) c.in_default.ensures.found

pub returns-in-Resident-clause-gives : goal.returns-in-Resident-clause-gives
returns-in-Resident-clause-gives g c told =
    let a = c.args in
    let f = cluster_at (g.G.Image.seen a.image.now).content a.geometry.now.cluster in
    gives_by volume_origin _ _ _ c.add_entries.result
    (all-resident a.geometry.now f a.valid a.first.now (known_clusters a.known.now) c.in-Resident.value.now (told_view c.in-Some.list) c.in-Some.ensures.found
    (ap (λ (b : Body). (shown_body b).is_resident) c.in-Resident.is) (ap (λ (b : Body). (shown_body b).value) c.in-Resident.is))
    (c.add_entries.ensures.gives told)

pub returns-in_err-bytes-in-Runs-clause-gives : goal.returns-in_err-bytes-in-Runs-clause-gives
returns-in_err-bytes-in-Runs-clause-gives g c told =
    let a = c.args in
    let f = cluster_at (g.G.Image.seen a.image.now).content a.geometry.now.cluster in
    let p = err_from_is_err_and c.from_residual-in_err-bytes-in-Runs.result c.from_residual-in_err-bytes-in-Runs.ensures.1 in
    let found = table-list a.first.now (told_view c.in-Some.list) c.in-Some.ensures.found in
    rw (p.1, p.2) (λ settled. all-unread a.geometry.now f a.valid a.first.now (known_clusters a.known.now) found.0 c.in_err-bytes-in-Runs.field-0.0 found.1
    (c.in_err-bytes-in-Runs.ensures.gives told found.0 found.2 settled))

pub returns-clause-gives : goal.returns-clause-gives
returns-clause-gives g c told =
    let a = c.args in
    let k = a.geometry.now in
    let f = cluster_at (g.G.Image.seen a.image.now).content k.cluster in
    let known = known_clusters a.known.now in
    let found = table-list a.first.now (told_view c.in-Some.list) c.in-Some.ensures.found in
    let added = told_still g.G.Image _ _ (λ content. Gives volume_origin (λ done. known_clusters c.add_entries-in-Runs.new.known)
    (listed_clusters k (cluster_at content k.cluster) a.valid a.first.now known c.deref.result.now) c.add_entries-in-Runs.result)
    c.in_ok-bytes-in-Runs.ensures.reads.seen c.add_entries-in-Runs.ensures.gives in
    gives_by volume_origin _ _ _ c.add_entries-in-Runs.result
    (all-read k f a.valid a.first.now known c.in_ok-bytes-in-Runs.bytes.items found.0 found.1 (c.in_ok-bytes-in-Runs.ensures.gives told found.0 found.2)
    ∙ ap (listed_clusters k f a.valid a.first.now known) (sym c.deref.ensures.value))
    (added told)
