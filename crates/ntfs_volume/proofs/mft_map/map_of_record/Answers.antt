use Rattle.std.proofs.Common.{◌∙◌, sym, ap, Ok, Err}
use Rattle.std.proofs.lemmas.Result.{err_from_is_err_and}
use Rattle.ntfs_base.specs.Bytes.{cluster_at}
use Rattle.ntfs_record.specs.Views.{shown_body}
use Rattle.ntfs_record.specs.declared.attribute.Body.{Body}
use Rattle.ntfs_volume.specs.Known.{known_clusters}
use Rattle.ntfs_volume.specs.Opened.{Opened}
use Rattle.ntfs_volume.specs.Views.{told_view}
use Rattle.ntfs_volume.proofs.MapLemmas.{known-count}
use Rattle.ntfs_volume.proofs.TableMapLemmas.{by-fault, by-list-fault, by-map, first-none, first-resident, first-runs, joined-first, known-new, known-none, map-right, map-wrong}
use Rattle.ntfs_volume.proofs.mft_map.map_of_record.Goals as goal

pub returns-in_default-clause-gives : goal.returns-in_default-clause-gives
returns-in_default-clause-gives g c told settled =
    first-none c.args.geometry.now (cluster_at (g.G.Image.seen c.args.image.now).content c.args.geometry.now.cluster) c.args.first.now c.in_default.ensures.found
    ∙ ap Err (sym c.no_map.ensures)

pub add-requires-clause-known : goal.add-requires-clause-known
add-requires-clause-known g c = known-new c.args.geometry.now.clusters c.new-known.result c.new-known.ensures.runs c.new-known.ensures.count

pub returns-in_err-add-in-Runs-clause-gives : goal.returns-in_err-add-in-Runs-clause-gives
returns-in_err-add-in-Runs-clause-gives g c told =
    let k = c.args.geometry.now in
    let f = cluster_at (g.G.Image.seen c.args.image.now).content k.cluster in
    let p = err_from_is_err_and c.from_residual.result c.from_residual.ensures.1 in
    let none = known-none c.new-known.result c.new-known.ensures.runs in
    rw (p.1, p.2) (λ settled.
    first-runs k f c.args.first.now (told_view c.in-Some.extent) c.in-Runs.pairs.now c.in-Runs.size c.in-Runs.valid c.in-Some.ensures.found
    (ap (λ (b : Body). (shown_body b).pairs) c.in-Runs.is) (ap (λ (b : Body). (shown_body b).size) c.in-Runs.is) (ap (λ (b : Body). (shown_body b).valid) c.in-Runs.is)
    ∙ by-fault k f c.args.first.now c.in-Runs.pairs.now c.in-Runs.size c.in-Runs.valid c.in_err-add-in-Runs.field-0.0
    (sym (joined-first (known_clusters c.new-known.result) k.clusters c.in-Runs.pairs.now none) ∙ c.in_err-add-in-Runs.ensures.gives settled))

pub returns-in_err-add_list-in-Runs-clause-gives :
    goal.returns-in_err-add_list-in-Runs-clause-gives
returns-in_err-add_list-in-Runs-clause-gives g c told =
    let k = c.args.geometry.now in
    let f = cluster_at (g.G.Image.seen c.args.image.now).content k.cluster in
    let p = err_from_is_err_and c.from_residual-in_err-add_list-in-Runs.result c.from_residual-in_err-add_list-in-Runs.ensures.1 in
    let none = known-none c.new-known.result c.new-known.ensures.runs in
    rw (p.1, p.2) (λ settled.
    first-runs k f c.args.first.now (told_view c.in-Some.extent) c.in-Runs.pairs.now c.in-Runs.size c.in-Runs.valid c.in-Some.ensures.found
    (ap (λ (b : Body). (shown_body b).pairs) c.in-Runs.is) (ap (λ (b : Body). (shown_body b).size) c.in-Runs.is) (ap (λ (b : Body). (shown_body b).valid) c.in-Runs.is)
    ∙ by-list-fault k f c.args.first.now c.in-Runs.pairs.now c.in-Runs.size c.in-Runs.valid (known_clusters c.add.new.self) c.in_err-add_list-in-Runs.field-0.0
    (sym (joined-first (known_clusters c.new-known.result) k.clusters c.in-Runs.pairs.now none) ∙ c.in_ok-add-in-Runs.ensures.gives)
    (c.in_err-add_list-in-Runs.ensures.gives told settled))

pub returns-then-not-is_table-clause-gives : goal.returns-then-not-is_table-clause-gives
returns-then-not-is_table-clause-gives g c told settled =
    let k = c.args.geometry.now in
    let f = cluster_at (g.G.Image.seen c.args.image.now).content k.cluster in
    let none = known-none c.new-known.result c.new-known.ensures.runs in
    first-runs k f c.args.first.now (told_view c.in-Some.extent) c.in-Runs.pairs.now c.in-Runs.size c.in-Runs.valid c.in-Some.ensures.found
    (ap (λ (b : Body). (shown_body b).pairs) c.in-Runs.is) (ap (λ (b : Body). (shown_body b).size) c.in-Runs.is) (ap (λ (b : Body). (shown_body b).valid) c.in-Runs.is)
    ∙ by-map k f c.args.first.now c.in-Runs.pairs.now c.in-Runs.size c.in-Runs.valid (known_clusters c.add.new.self) (known_clusters c.add_list.new.known)
    (sym (joined-first (known_clusters c.new-known.result) k.clusters c.in-Runs.pairs.now none) ∙ c.in_ok-add-in-Runs.ensures.gives)
    (c.in_ok-add_list-in-Runs.ensures.gives told)
    ∙ map-wrong k (known_clusters c.add_list.new.known) c.add_list.new.known.count c.in-Runs.size c.in-Runs.valid (known-count k.clusters c.add_list.new.known c.in_ok-add_list-in-Runs.ensures.known)
    (sym c.is_table.ensures ∙ c.if-not-is_table.true)
    ∙ ap Err (sym c.no_map-then-not-is_table.ensures)

pub returns-in-Resident-clause-gives : goal.returns-in-Resident-clause-gives
returns-in-Resident-clause-gives g c told settled =
    absurd (first-resident c.args.first.now (told_view c.in-Some.extent) c.in-Some.ensures.found (ap (λ (b : Body). (shown_body b).is_resident) c.in-Resident.is))

pub returns-else-not-is_table-clause-gives : goal.returns-else-not-is_table-clause-gives
returns-else-not-is_table-clause-gives g c told =
    let k = c.args.geometry.now in
    let f = cluster_at (g.G.Image.seen c.args.image.now).content k.cluster in
    let none = known-none c.new-known.result c.new-known.ensures.runs in
    first-runs k f c.args.first.now (told_view c.in-Some.extent) c.in-Runs.pairs.now c.in-Runs.size c.in-Runs.valid c.in-Some.ensures.found
    (ap (λ (b : Body). (shown_body b).pairs) c.in-Runs.is) (ap (λ (b : Body). (shown_body b).size) c.in-Runs.is) (ap (λ (b : Body). (shown_body b).valid) c.in-Runs.is)
    ∙ by-map k f c.args.first.now c.in-Runs.pairs.now c.in-Runs.size c.in-Runs.valid (known_clusters c.add.new.self) (known_clusters c.add_list.new.known)
    (sym (joined-first (known_clusters c.new-known.result) k.clusters c.in-Runs.pairs.now none) ∙ c.in_ok-add-in-Runs.ensures.gives)
    (c.in_ok-add_list-in-Runs.ensures.gives told)
    ∙ map-right k (known_clusters c.add_list.new.known) c.add_list.new.known.count c.in-Runs.size c.in-Runs.valid (known-count k.clusters c.add_list.new.known c.in_ok-add_list-in-Runs.ensures.known)
    (sym c.is_table.ensures ∙ c.if-not-is_table.false)
    ∙ ap (λ (o : Opened). Ok o.map) (sym c.new.ensures)
