use Rattle.std.proofs.Common.{◌≡◌, ◌+◌, ◌*◌, ◌<◌, ◌≤◌, ℕ, Option, sym, ap, ◌∙◌, subst, arith, length, slice_range}
use Rattle.std.specs.Prelude.{IfSome}
use Rattle.std.specs.Option.{option_map}
use Rattle.ntfs_base.specs.Bytes.{cluster_at}
use Rattle.ntfs_boot.specs.Geometry.{bytes_of_clusters}
use Rattle.ntfs_rules.proofs.ContentLemmas.{cell-empty, cell-hole, cell-read}
use Rattle.ntfs_rules.proofs.content.read_cell.Goals.{in_default-via-in-Some+else-count-gt0, in_default-via-in_default}
use Rattle.ntfs_rules.proofs.content.read_cell.Goals as goal
use Rattle.ntfs_stream.specs.Putting.{shown_cell}

pub returns-in_ok-read_at-in-Some-clause-bytes : goal.returns-in_ok-read_at-in-Some-clause-bytes
returns-in_ok-read_at-in-Some-clause-bytes g c told =
    let k = c.args.geometry.now in
    let image = g.G.Image.seen c.args.image.now in
    let f = cluster_at image.content k.cluster in
    let size : length image.content ≡ image.size = g.met.G.Image.told_size c.args.image.now told in
    let held = subst (λ (n : ℕ). bytes_of_clusters k ≤ n) (sym size) c.requires.opened.held in
    let below : c.in-Some.lcn < k.clusters = subst (λ (o : Option ℕ). IfSome o (λ lcn. lcn < k.clusters)) c.in-Some.is c.requires.below in
    let is = c.in_ok-read_at-in-Some.ensures.bytes told ∙ ap (λ m. slice_range image.content (c.in-Some.lcn * c.from-cluster.result) (c.in-Some.lcn * c.from-cluster.result + m)) c.requires.whole in
    cell-read image.content c.read_at.new.into c.clear.new.buffer k.cluster c.from-cluster.result k.clusters c.in-Some.lcn c.args.valid c.min-count.result c.from-cluster.ensures below held
    c.min-count.ensures is (c.read_at.auto.into ∙ c.requires.whole) c.clear.ensures
    ∙ ap (λ (o : Option ℕ). shown_cell k.cluster c.args.valid (option_map f o)) (sym c.in-Some.is)

pub returns-in_default-clause-bytes : goal.returns-in_default-clause-bytes
returns-in_default-clause-bytes g c told =
    let k = c.args.geometry.now in
    let f = cluster_at (g.G.Image.seen c.args.image.now).content k.cluster in
    elim c.in_default.branch [
      | in_default-via-in-Some+else-count-gt0 w ↦
          cell-empty f c.args.into.now c.clear-in_default.new.buffer k.cluster c.args.valid c.args.cell
          (omega (arith, w.if-count-gt0.false, c.min-count.ensures, c.from-cluster.ensures, c.requires.opened.good.least_cluster)) c.requires.whole c.clear-in_default.ensures
      | in_default-via-in_default w ↦ cell-hole f c.args.into.now c.clear-in_default.new.buffer k.cluster c.args.valid c.args.cell w.in_default.is c.requires.whole c.clear-in_default.ensures
    ]
