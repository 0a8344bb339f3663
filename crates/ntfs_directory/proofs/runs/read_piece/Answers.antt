use Rattle.std.proofs.Common.{◌≡◌, ◌≤◌, ◌/◌, ◌-◌, ℕ, sym, ap, ◌∙◌, subst, arith, length, min, Some}
use Rattle.ntfs_boot.specs.Geometry.{bytes_of_clusters}
use Rattle.ntfs_runs.specs.Clusters.{vcns}
use Rattle.ntfs_stream.proofs.RowLemmas.{clusters-small}
use Rattle.ntfs_directory.proofs.ReadLemmas.{cell-below, cell-there, piece-empty, piece-hole, piece-read, read-end}
use Rattle.ntfs_directory.proofs.runs.read_piece.Goals.{in_default-via-in-Some+else-valid-gt0, in_default-via-in_default}
use Rattle.ntfs_directory.proofs.runs.read_piece.Goals as goal

pub cell_of-requires-clause-there : goal.cell_of-requires-clause-there
cell_of-requires-clause-there g c =
    let k = c.args.geometry.now in
    let p = c.args.stream.now in
    cell-there k.cluster c.from-cluster.result (length (vcns p.runs.now)) p.size p.valid c.args.place (length c.args.into.now) c.from-cluster.ensures (omega (arith, c.requires.readable.least)) c.requires.readable.room c.requires.some c.requires.within

pub overflow_mul-lcn : goal.overflow_mul-lcn
overflow_mul-lcn g c =
    let k = c.args.geometry.now in
    let below = cell-below k.clusters (vcns c.args.stream.now.runs.now) (c.args.place / c.from-cluster.result) c.in-Some.lcn c.requires.readable.cells (c.cell_of.ensures ∙ ap Some c.in-Some.is) in
    let inside = read-end c.in-Some.lcn k.clusters k.cluster c.from-cluster.result c.args.place (length c.args.into.now) (bytes_of_clusters k) c.from-cluster.ensures below (omega arith) c.requires.one in
    let small = clusters-small k.clusters k.cluster (omega (arith, c.requires.readable.few)) c.requires.readable.most in
    omega (arith, inside, small)

pub overflow_add-lcn : goal.overflow_add-lcn
overflow_add-lcn g c =
    let k = c.args.geometry.now in
    let below = cell-below k.clusters (vcns c.args.stream.now.runs.now) (c.args.place / c.from-cluster.result) c.in-Some.lcn c.requires.readable.cells (c.cell_of.ensures ∙ ap Some c.in-Some.is) in
    let inside = read-end c.in-Some.lcn k.clusters k.cluster c.from-cluster.result c.args.place (length c.args.into.now) (bytes_of_clusters k) c.from-cluster.ensures below (omega arith) c.requires.one in
    let small = clusters-small k.clusters k.cluster (omega (arith, c.requires.readable.few)) c.requires.readable.most in
    omega (arith, inside, small)

pub read_at-requires : goal.read_at-requires
read_at-requires g c =
    let k = c.args.geometry.now in
    let below = cell-below k.clusters (vcns c.args.stream.now.runs.now) (c.args.place / c.from-cluster.result) c.in-Some.lcn c.requires.readable.cells (c.cell_of.ensures ∙ ap Some c.in-Some.is) in
    read-end c.in-Some.lcn k.clusters k.cluster c.from-cluster.result c.args.place (length c.args.into.now) (g.G.Image.seen c.args.image.now).size c.from-cluster.ensures below c.requires.readable.held c.requires.one

pub returns-in_ok-read_at-in-Some-clause-bytes : goal.returns-in_ok-read_at-in-Some-clause-bytes
returns-in_ok-read_at-in-Some-clause-bytes g c told =
    let k = c.args.geometry.now in
    let p = c.args.stream.now in
    let image = g.G.Image.seen c.args.image.now in
    let m = length c.args.into.now in
    let long : length image.content ≡ image.size = g.met.G.Image.told_size c.args.image.now told in
    let held = subst (λ (n : ℕ). bytes_of_clusters k ≤ n) (sym long) c.requires.readable.held in
    let least : c.min-valid.result ≡ min (p.valid - c.args.place) m = omega (arith, c.min-valid.ensures, c.saturating_sub.ensures) in
    piece-read image.content c.read_at.new.into c.clear.new.buffer k.cluster c.from-cluster.result k.clusters p.size p.valid c.args.place m c.min-valid.result c.in-Some.lcn (vcns p.runs.now)
    c.from-cluster.ensures held c.requires.readable.cells c.requires.readable.room c.requires.within c.requires.one least (c.cell_of.ensures ∙ ap Some c.in-Some.is)
    (c.in_ok-read_at-in-Some.ensures.bytes told) c.read_at.auto.into c.clear.ensures

pub returns-in_default-clause-bytes : goal.returns-in_default-clause-bytes
returns-in_default-clause-bytes g c told =
    let k = c.args.geometry.now in
    let p = c.args.stream.now in
    let image = g.G.Image.seen c.args.image.now in
    let m = length c.args.into.now in
    let long : length image.content ≡ image.size = g.met.G.Image.told_size c.args.image.now told in
    let held = subst (λ (n : ℕ). bytes_of_clusters k ≤ n) (sym long) c.requires.readable.held in
    let least : c.min-valid.result ≡ min (p.valid - c.args.place) m = omega (arith, c.min-valid.ensures, c.saturating_sub.ensures) in
    let same : m ≡ m = omega arith in
    elim c.in_default.branch [
      | in_default-via-in-Some+else-valid-gt0 w ↦
          let none : c.min-valid.result ≡ 0 = omega (arith, w.if-valid-gt0.false) in
          piece-empty image.content c.args.into.now c.clear-in_default.new.buffer k.cluster k.clusters p.size p.valid c.args.place m c.min-valid.result (vcns p.runs.now) held
          c.requires.readable.cells c.requires.readable.room c.requires.within least none same c.clear-in_default.ensures
      | in_default-via-in_default w ↦
          piece-hole image.content c.args.into.now c.clear-in_default.new.buffer k.cluster c.from-cluster.result k.clusters p.size p.valid c.args.place m c.min-valid.result (vcns p.runs.now)
          c.from-cluster.ensures held c.requires.readable.cells c.requires.readable.room c.requires.within c.requires.one least (c.cell_of.ensures ∙ ap Some w.in_default.is) same c.clear-in_default.ensures
    ]
