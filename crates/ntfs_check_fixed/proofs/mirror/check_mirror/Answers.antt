use Rattle.std.proofs.Common.{◌≡◌, ◌*◌, ◌∙◌, ap, sym, subst, arith, take, Err, Option}
use Rattle.ntfs_base.proofs.FramesLemmas.{told_still}
use Rattle.ntfs_base.specs.Bytes.{cluster_at, stream}
use Rattle.ntfs_base.specs.Frames.{Gives}
use Rattle.ntfs_base.specs.declared.refusal.Rule.TheVariants as rule
use Rattle.ntfs_boot.specs.declared.geometry.Geometry.{Geometry}
use Rattle.ntfs_check_fixed.proofs.MirrorLemmas.{mirror-given, no-mirror}
use Rattle.ntfs_check_fixed.proofs.mirror.check_mirror.Goals as goal
use Rattle.ntfs_rules.specs.FixedRecords.{c16}
use Rattle.ntfs_rules.specs.Outcome.{check_origin, unless_number}
use Rattle.ntfs_stream.specs.StreamBytes.{bytes_of_stream, filled_stream}
use Rattle.std.specs.Prelude.{ℕ}

pub returns-in-None-clause-gives : goal.returns-in-None-clause-gives
returns-in-None-clause-gives g c told = λ settled.
    let o = c.args.table.now in
    ap (λ (broken : Option ℕ). unless_number rule.C16 broken tt) (no-mirror o (cluster_at (g.G.Image.seen c.args.image.now).content o.geometry.cluster) (omega (arith, c.geometry-geometry.ensures.good.least_record))
    (sym c.in-None.is ∙ c.in_ok-found.ensures.found told))
    ∙ ap Err (sym c.damaged.ensures)

pub returns-in_ok-front-in-Some-clause-gives : goal.returns-in_ok-front-in-Some-clause-gives
returns-in_ok-front-in-Some-clause-gives g c told =
    let o = c.args.table.now in
    let content = (g.G.Image.seen c.args.image.now).content in
    let front = c.in_ok-front-in-Some.front in
    let most = 4 * c.from-most.result in
    let kept = c.geometry-geometry.ensures.kept in
    let read = told_still g.G.Image _ _ (λ content. front ≡ take most (bytes_of_stream c.geometry-geometry.result.now.cluster (filled_stream c.geometry-geometry.result.now content c.in-Some.stream.stream)))
    c.in_ok-found.ensures.reads.seen c.in_ok-front-in-Some.ensures.bytes told in
    let given = told_still g.G.Image _ _ (λ content. Gives check_origin (λ done. done) (unless_number rule.C16 (c16 o.geometry.record_size (take o.map.valid (stream (cluster_at content o.geometry.cluster) o.map.clusters))
    c.bytes.result.now) tt) c.check_against.result) (c.in_ok-front-in-Some.ensures.reads.seen ∙ c.in_ok-found.ensures.reads.seen) c.check_against.ensures.gives told in
    mirror-given o content most front c.bytes.result.now c.in-Some.stream c.check_against.result
    (ap (λ n. 4 * n) (c.from-most.ensures ∙ ap (λ (k : Geometry). k.record_size) kept))
    (sym c.in-Some.is ∙ c.in_ok-found.ensures.found told)
    (subst (λ (k : Geometry). front ≡ take most (bytes_of_stream k.cluster (filled_stream k content c.in-Some.stream.stream))) kept read)
    c.bytes.ensures given
