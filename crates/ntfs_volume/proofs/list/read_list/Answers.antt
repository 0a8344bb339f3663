use Rattle.std.proofs.Common.{◌≡◌, sym, ap, ◌∙◌, Err, Ok, ℕ, List, length}
use Rattle.std.specs.Option.{ok_or}
use Rattle.std.proofs.lemmas.List.{length-replicate}
use Rattle.ntfs_base.specs.Bytes.{cluster_at}
use Rattle.ntfs_runs.specs.Cells.{map_cells}
use Rattle.ntfs_runs.specs.Clusters.{vcns}
use Rattle.ntfs_runs.specs.declared.run.Run.{Run}
use Rattle.ntfs_record.specs.Views.{Shown}
use Rattle.ntfs_volume.specs.MftMap.{no_map}
use Rattle.ntfs_volume.specs.StreamBytes.{runs_bytes}
use Rattle.ntfs_volume.specs.Views.{told_view}
use Rattle.ntfs_volume.proofs.AnswerLemmas.{given}
use Rattle.ntfs_volume.proofs.ListLemmas.{list-back, list-many, list-read, list-refused}
use Rattle.ntfs_volume.proofs.list.read_list.Goals as goal

pub returns-then-not-is_only_list-clause-gives : goal.returns-then-not-is_only_list-clause-gives
returns-then-not-is_only_list-clause-gives g c told a same settled =
    ap (λ o. ok_or o (no_map 0)) (list-many c.args.geometry.now (cluster_at (g.G.Image.seen c.args.image.now).content c.args.geometry.now.cluster) a c.args.view.now c.args.list.now.name.now
    (ap (λ (s : Shown). s.body.is_resident) same ∙ c.requires.runs) (ap (λ (s : Shown). s.name) same) (sym c.is_only_list.ensures ∙ c.if-not-is_only_list.true))
    ∙ ap Err (sym c.no_map.ensures)

pub returns-in-Err-clause-gives : goal.returns-in-Err-clause-gives
returns-in-Err-clause-gives g c told a same settled =
    list-refused c.args.geometry.now (cluster_at (g.G.Image.seen c.args.image.now).content c.args.geometry.now.cluster) a c.args.view.now (told_view c.args.list.now) c.in-Err.fault same c.requires.runs
    (sym c.is_only_list.ensures ∙ c.if-not-is_only_list.false) (c.in-Err.ensures.gives settled)

pub returns-clause-gives : goal.returns-clause-gives
returns-clause-gives g c told a same =
    let k = c.args.geometry.now in
    let f = cluster_at (g.G.Image.seen c.args.image.now).content k.cluster in
    let s = told_view c.args.list.now in
    let whole = list-read k f a c.args.view.now s (vcns c.in-Ok.runs) same c.requires.runs (sym c.is_only_list.ensures ∙ c.if-not-is_only_list.false) c.in-Ok.ensures.gives in
    let read = c.in_ok-read_front.ensures.gives told in
    let bytes = c.in_ok-bytes.bytes in
    let shown = c.deref_mut.result.now in
    let size : s.body.size ≡ length shown =
    sym c.sizes_of-size.ensures.size ∙ sym (length-replicate {A = ℕ} c.sizes_of-size.result.0 0) ∙ sym (ap length c.in_ok-bytes.ensures) ∙ sym (ap length c.deref_mut.ensures.value) in
    ap (λ o. ok_or o (no_map 0)) whole
    ∙ ap Ok (ap (λ n. runs_bytes k.cluster n s.body.valid (map_cells f (vcns c.in-Ok.runs))) size
    ∙ ap (λ n. runs_bytes k.cluster (length shown) n (map_cells f (vcns c.in-Ok.runs))) (sym c.sizes_of-size.ensures.valid)
    ∙ ap (λ (rs : List Run). runs_bytes k.cluster (length shown) c.sizes_of-size.result.1 (map_cells f (vcns rs))) (sym c.runs-2.ensures)
    ∙ sym (given _ _ read)
    ∙ sym (list-back bytes.len c.read_front.new.bytes bytes.items shown c.read_front.auto.bytes c.deref_mut.ensures.value bytes.ok.0))
