use Rattle.std.proofs.Common.{◌≡◌, ◌*◌, ◌+◌, sym, ap, ◌∙◌, subst, ℕ, length, take, drop, Option, Ok, arith, true}
use Rattle.ntfs_base.specs.Bytes.{cluster_at}
use Rattle.ntfs_boot.specs.Geometry.{bytes_of_clusters}
use Rattle.ntfs_runs.specs.Cells.{are_cells, map_cells}
use Rattle.ntfs_runs.specs.Clusters.{row}
use Rattle.ntfs_volume.specs.StreamBytes.{cells_bytes}
use Rattle.ntfs_volume.proofs.PieceLemmas.{clusters-small, hole-read, not-empty, run-below, run-inside, run-read, some-cells}
use Rattle.ntfs_volume.proofs.pieces.read_run.Goals as goal

pub returns-in_default-clause-gives : goal.returns-in_default-clause-gives
returns-in_default-clause-gives g c told =
    let f = cluster_at (g.G.Image.seen c.args.image.now).content c.args.geometry.now.cluster in
    let size = c.args.geometry.now.cluster in
    let m = length c.args.into.now in
    let within = c.requires.within (not-empty m c.if-is_empty.ensures) in
    ap Ok (subst (λ (o : Option ℕ). take m (drop c.args.from (cells_bytes size (map_cells f (row c.args.run.now.length o)))) ≡ c.clear.new.bytes) (sym c.in_default.is)
    (hole-read f size c.args.run.now.length c.args.from m within ∙ sym c.clear.ensures))

pub overflow_mul-lcn : goal.overflow_mul-lcn
overflow_mul-lcn g c =
    let k = c.args.geometry.now in
    let m = length c.args.into.now in
    let within = c.requires.within (not-empty m c.if-is_empty.ensures) in
    let below = run-below true k.clusters c.in-Some.lcn c.args.run.now.length (subst (λ (o : Option ℕ). are_cells true k.clusters (row c.args.run.now.length o) ≡ true) c.in-Some.is c.requires.cells) (some-cells c.args.run.now.length k.cluster c.args.from m (not-empty m c.if-is_empty.ensures) within) in
    let inside = run-inside c.in-Some.lcn c.args.run.now.length k.clusters k.cluster (bytes_of_clusters k) below (omega arith) in
    let small = clusters-small k.clusters k.cluster (omega (arith, c.requires.opened.good.most_clusters)) c.requires.opened.good.most_cluster in
    let same : c.in-Some.lcn * c.from.result ≡ c.in-Some.lcn * k.cluster = ap (λ n. c.in-Some.lcn * n) c.from.ensures in
    omega (arith, inside, small, same)

pub overflow_add-lcn : goal.overflow_add-lcn
overflow_add-lcn g c =
    let k = c.args.geometry.now in
    let m = length c.args.into.now in
    let within = c.requires.within (not-empty m c.if-is_empty.ensures) in
    let below = run-below true k.clusters c.in-Some.lcn c.args.run.now.length (subst (λ (o : Option ℕ). are_cells true k.clusters (row c.args.run.now.length o) ≡ true) c.in-Some.is c.requires.cells) (some-cells c.args.run.now.length k.cluster c.args.from m (not-empty m c.if-is_empty.ensures) within) in
    let inside = run-inside c.in-Some.lcn c.args.run.now.length k.clusters k.cluster (bytes_of_clusters k) below (omega arith) in
    let small = clusters-small k.clusters k.cluster (omega (arith, c.requires.opened.good.most_clusters)) c.requires.opened.good.most_cluster in
    let same : c.in-Some.lcn * c.from.result ≡ c.in-Some.lcn * k.cluster = ap (λ n. c.in-Some.lcn * n) c.from.ensures in
    omega (arith, inside, small, same, within)

pub read_at-requires : goal.read_at-requires
read_at-requires g c =
    let k = c.args.geometry.now in
    let m = length c.args.into.now in
    let within = c.requires.within (not-empty m c.if-is_empty.ensures) in
    let below = run-below true k.clusters c.in-Some.lcn c.args.run.now.length (subst (λ (o : Option ℕ). are_cells true k.clusters (row c.args.run.now.length o) ≡ true) c.in-Some.is c.requires.cells) (some-cells c.args.run.now.length k.cluster c.args.from m (not-empty m c.if-is_empty.ensures) within) in
    let inside = run-inside c.in-Some.lcn c.args.run.now.length k.clusters k.cluster (g.G.Image.seen c.args.image.now).size below c.requires.opened.held in
    let same : c.in-Some.lcn * c.from.result ≡ c.in-Some.lcn * k.cluster = ap (λ n. c.in-Some.lcn * n) c.from.ensures in
    omega (arith, inside, same, within)

pub returns-clause-gives : goal.returns-clause-gives
returns-clause-gives g c told =
    let image = (g.G.Image.seen c.args.image.now).content in
    let size = c.args.geometry.now.cluster in
    let m = length c.args.into.now in
    let within = c.requires.within (not-empty m c.if-is_empty.ensures) in
    let place : c.in-Some.lcn * c.from.result + c.args.from ≡ c.in-Some.lcn * size + c.args.from = ap (λ n. c.in-Some.lcn * n + c.args.from) c.from.ensures in
    ap Ok (subst (λ (o : Option ℕ). take m (drop c.args.from (cells_bytes size (map_cells (cluster_at image size) (row c.args.run.now.length o)))) ≡ c.read_at.new.into) (sym c.in-Some.is)
    (sym (run-read image c.read_at.new.into size c.args.run.now.length c.in-Some.lcn c.args.from m (c.in-Some.lcn * c.from.result + c.args.from) m (c.in_ok-read_at.ensures.bytes told) place (omega arith) within)))
