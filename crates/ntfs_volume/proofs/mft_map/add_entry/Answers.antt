use Rattle.std.proofs.Common.{◌≡◌, ◌==◌, sym, ap, ◌∙◌, length, false, true, Err}
use Rattle.std.proofs.lemmas.Bool.{eq-eqb, ne_eqb}
use Rattle.ntfs_attrlist.specs.Views.{shown_entry}
use Rattle.ntfs_base.specs.Bytes.{cluster_at}
use Rattle.ntfs_volume.specs.Fault.{volume_origin}
use Rattle.ntfs_volume.specs.Known.{behind_known, known_clusters}
use Rattle.ntfs_volume.proofs.AnswerLemmas.{gives_by}
use Rattle.ntfs_volume.proofs.MapLemmas.{entry-extension, entry-gap, entry-own, known-count}
use Rattle.ntfs_volume.proofs.mft_map.add_entry.Goals as goal

pub returns-then-entry-known-clause-gives : goal.returns-then-entry-known-clause-gives
returns-then-entry-known-clause-gives g c told settled =
    let a = c.args in
    let k = a.geometry.now in
    let f = cluster_at (g.G.Image.seen a.image.now).content k.cluster in
    let e = shown_entry a.entry.now in
    let known = known_clusters a.known.now in
    let gap : (e.lowest == length known) ≡ false
    = ap (λ n. e.lowest == n) (known-count k.clusters a.known.now c.requires.known) ∙ ne_eqb a.entry.now.lowest a.known.now.count c.if-entry-known.true in
    ap (behind_known known) (entry-gap k f a.valid a.first.now known e gap) ∙ ap Err (sym c.no_map.ensures)

pub returns-then-target-eq0-clause-gives : goal.returns-then-target-eq0-clause-gives
returns-then-target-eq0-clause-gives g c told =
    let a = c.args in
    let k = a.geometry.now in
    let f = cluster_at (g.G.Image.seen a.image.now).content k.cluster in
    let e = shown_entry a.entry.now in
    let known = known_clusters a.known.now in
    let meets : (e.lowest == length known) ≡ true
    = ap (λ n. e.lowest == n) (known-count k.clusters a.known.now c.requires.known) ∙ eq-eqb a.entry.now.lowest a.known.now.count c.if-entry-known.false in
    gives_by volume_origin _ _ _ c.add_extent.result
    (ap (behind_known known) (entry-own k f a.valid a.first.now known e meets (ap (λ n. n == 0) (sym c.target.ensures) ∙ eq-eqb c.target.result 0 c.if-target-eq0.true))) c.add_extent.ensures.gives

pub returns-clause-gives : goal.returns-clause-gives
returns-clause-gives g c told =
    let a = c.args in
    let k = a.geometry.now in
    let f = cluster_at (g.G.Image.seen a.image.now).content k.cluster in
    let e = shown_entry a.entry.now in
    let known = known_clusters a.known.now in
    let meets : (e.lowest == length known) ≡ true
    = ap (λ n. e.lowest == n) (known-count k.clusters a.known.now c.requires.known) ∙ eq-eqb a.entry.now.lowest a.known.now.count c.if-entry-known.false in
    gives_by volume_origin _ _ _ c.add_from_extension.result
    (entry-extension k f a.valid a.first.now known e meets (ap (λ n. n == 0) (sym c.target.ensures) ∙ ne_eqb c.target.result 0 c.if-target-eq0.false)) (c.add_from_extension.ensures.gives told)
