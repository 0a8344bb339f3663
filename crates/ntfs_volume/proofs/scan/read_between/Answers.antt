use Rattle.std.proofs.Common.{◌≡◌, ◌≤◌, ◌+◌, ◌-◌, ◌*◌, ℕ, List, ap, sym, subst, arith, length, Ok}
use Rattle.ntfs_base.specs.Bytes.{cluster_at}
use Rattle.ntfs_boot.specs.Geometry.{bytes_of_clusters}
use Rattle.ntfs_runs.specs.Clusters.{vcns}
use Rattle.ntfs_runs.specs.declared.run.Run.{Run}
use Rattle.ntfs_volume.specs.Fault.{volume_origin}
use Rattle.ntfs_volume.proofs.AnswerLemmas.{gives_by}
use Rattle.ntfs_volume.proofs.PieceLemmas.{clusters-long}
use Rattle.ntfs_volume.proofs.ScanLemmas.{between-room, bytes-between, cells-between, front-cut}
use Rattle.ntfs_volume.proofs.scan.read_between.Goals as goal

pub read_from-requires-clause-cells : goal.read_from-requires-clause-cells
read_from-requires-clause-cells g c = cells-between c.args.geometry.now.clusters c.args.runs.now c.args.from.index (c.min-end.result - c.args.from.index) c.requires.cells

pub read_from-requires-clause-within : goal.read_from-requires-clause-within
read_from-requires-clause-within g c =
    let runs = c.args.runs.now in
    let size = c.args.geometry.now.cluster in
    let end = c.min-end.result in
    let last = c.args.place + length c.args.into.now in
    between-room runs size c.args.from.index end c.args.from.begins c.args.place (length c.args.into.now) (omega (arith, c.min-end.ensures, c.requires.from.index, c.requires.further)) c.requires.from.begins c.requires.above
    (subst (λ (rs : List Run). last ≤ length (vcns rs) * size) (sym (front-cut runs (c.args.to.index + 1) end c.min-end.ensures)) c.requires.to.below)

pub returns-clause-gives : goal.returns-clause-gives
returns-clause-gives g c told =
    let k = c.args.geometry.now in
    let runs = c.args.runs.now in
    let content = (g.G.Image.seen c.args.image.now).content in
    let end = c.min-end.result in
    let m = length c.args.into.now in
    let long : length content ≡ (g.G.Image.seen c.args.image.now).size = g.met.G.Image.told_size c.args.image.now told in
    let held = subst (λ (n : ℕ). bytes_of_clusters k ≤ n) (sym long) c.requires.opened.held in
    let room = between-room runs k.cluster c.args.from.index end c.args.from.begins c.args.place m (omega (arith, c.min-end.ensures, c.requires.from.index, c.requires.further)) c.requires.from.begins c.requires.above
    (subst (λ (rs : List Run). c.args.place + m ≤ length (vcns rs) * k.cluster) (sym (front-cut runs (c.args.to.index + 1) end c.min-end.ensures)) c.requires.to.below) in
    gives_by volume_origin _ _ _ c.read_from.result
    (ap Ok (bytes-between (cluster_at content k.cluster) k.cluster k.clusters runs c.args.from.index (end - c.args.from.index) c.args.from.begins c.args.place m (clusters-long content k.cluster k.clusters held) c.requires.cells c.requires.from.begins c.requires.above room))
    (c.read_from.ensures.gives told)
