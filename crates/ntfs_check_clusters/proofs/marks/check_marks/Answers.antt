use Rattle.std.proofs.Common.{◌≤◌, ◌*◌, ◌∙◌, ap, arith, sym, ℕ, Option, Err}
use Rattle.std.proofs.lemmas.Grind.{div_ceil_times}
use Rattle.ntfs_base.proofs.FramesLemmas.{told_still}
use Rattle.ntfs_base.specs.Bytes.{cluster_at}
use Rattle.ntfs_base.specs.Frames.{Gives}
use Rattle.ntfs_base.specs.declared.refusal.Rule.TheVariants as rule
use Rattle.ntfs_check_clusters.proofs.MarkLemmas.{marks-absent, marks-given}
use Rattle.ntfs_check_clusters.proofs.marks.check_marks.Goals as goal
use Rattle.ntfs_check_records.specs.Asked.{first_refused}
use Rattle.ntfs_check_clusters.specs.Asked.{cluster_answer}
use Rattle.ntfs_check_clusters.specs.declared.asked.Asked.TheVariants as asked
use Rattle.ntfs_rules.specs.Outcome.{check_origin, unless_number}
use Rattle.ntfs_volume.specs.Scan.{initialised_count}

pub returns-in-None-clause-gives : goal.returns-in-None-clause-gives
returns-in-None-clause-gives g c told settled =
    let o = c.args.table.now in
    let f = cluster_at (g.G.Image.seen c.args.image.now).content o.geometry.cluster in
    ap (λ (found : Option ℕ). unless_number rule.C5 found (tt {0})) (marks-absent o f c.div_ceil-most.result (sym c.in-None.is ∙ c.in_ok-read_marks.ensures.bytes told))
    ∙ ap Err (sym c.damaged.ensures)

pub returns-in-Some-clause-gives : goal.returns-in-Some-clause-gives
returns-in-Some-clause-gives g c told =
    let o = c.args.table.now in
    let f = cluster_at (g.G.Image.seen c.args.image.now).content o.geometry.cluster in
    let enough : initialised_count o.geometry o.map ≤ 8 * c.div_ceil-most.result =
    omega (arith, div_ceil_times c.initialised_count.result 8, c.div_ceil-most.ensures, c.initialised_count.ensures.count) in
    let asked = told_still g.G.Image _ _ (λ content. Gives check_origin (λ done. done) (unless_number rule.C5 (first_refused (cluster_answer (asked.Mark c.bytes.result)) o (cluster_at content o.geometry.cluster)) tt) c.ask_all.result)
    c.in_ok-read_marks.ensures.reads.seen (λ after. c.ask_all.ensures.gives after tt) told in
    marks-given o f c.div_ceil-most.result c.in-Some.front c.bytes.result c.ask_all.result enough (sym c.in-Some.is ∙ c.in_ok-read_marks.ensures.bytes told) c.bytes.ensures asked
