use Rattle.std.proofs.Common.{◌++◌, ◌∙◌, sym, ap, subst, List, length, arith, true, false, Err, Ok}
use Rattle.ntfs_runs.specs.Clusters.{vcns}
use Rattle.ntfs_runs.specs.declared.run.Run.{Run}
use Rattle.ntfs_volume.specs.Known.{known_clusters}
use Rattle.ntfs_volume.specs.Opened.{AreTableRuns}
use Rattle.ntfs_volume.specs.StreamBytes.{clusters_in}
use Rattle.ntfs_volume.proofs.MapLemmas.{count-append, joined-right, joined-wrong, known-append, table-append}
use Rattle.ntfs_volume.proofs.known.Known.add.Goals as goal

pub returns-in-Err-BadPairs-clause-gives : goal.returns-in-Err-BadPairs-clause-gives
returns-in-Err-BadPairs-clause-gives c settled =
    let wrong = rw c.in-Err-BadPairs.field-0-is at c.in-Err-BadPairs.ensures.exact in
    joined-wrong (known_clusters c.args.self.now) c.args.clusters c.args.number c.args.pairs.now wrong.0 ∙ ap Err (sym c.no_map.ensures)

pub returns-then-not-lies_below-clause-gives : goal.returns-then-not-lies_below-clause-gives
returns-then-not-lies_below-clause-gives c settled =
    joined-right (known_clusters c.args.self.now) c.args.clusters c.args.number c.args.pairs.now c.in-Ok.list false c.in-Ok.ensures.exact.0 c.in-Ok.ensures.exact.1 (sym c.lies_below.ensures ∙ c.if-not-lies_below.true)
    ∙ ap Err (sym c.no_map-then-not-lies_below.ensures)

pub returns-in_ok-append-in-Ok-clause-gives : goal.returns-in_ok-append-in-Ok-clause-gives
returns-in_ok-append-in-Ok-clause-gives c =
    joined-right (known_clusters c.args.self.now) c.args.clusters c.args.number c.args.pairs.now c.in-Ok.list true c.in-Ok.ensures.exact.0 c.in-Ok.ensures.exact.1 (sym c.lies_below.ensures ∙ c.if-not-lies_below.false)
    ∙ ap Ok (sym (ap (λ rs. clusters_in (vcns rs)) (c.in_ok-append-in-Ok.ensures ∙ ap (λ rs. c.args.self.now.runs ++ rs) c.runs.ensures) ∙ known-append c.args.self.now.runs c.in-Ok.list))

pub returns-in_ok-append-in-Ok-clause-known : goal.returns-in_ok-append-in-Ok-clause-known
returns-in_ok-append-in-Ok-clause-known c =
    let runs = c.in_ok-append-in-Ok.ensures ∙ ap (λ rs. c.args.self.now.runs ++ rs) c.runs.ensures in
    let more = ap (λ (rs : List Run). length (vcns rs)) runs in
    let parts = count-append c.args.self.now.runs c.in-Ok.list in
    record {
      table = subst (λ (rs : List Run). AreTableRuns c.args.clusters rs) (sym runs) (table-append c.args.clusters c.args.self.now.runs c.in-Ok.list c.requires.known.table (sym c.lies_below.ensures ∙ c.if-not-lies_below.false) c.in-Ok.ensures.within);
      counted = omega (arith, c.requires.known.counted, c.vcn_count.ensures.count, more, parts);
    }
