use Rattle.std.proofs.Common.{arith, length-append, ◌+◌, ◌*◌, length, rules, w64}
use Rattle.std.proofs.lemmas.Int.{to_z-of_z}
use mir.Val.{SFits}
use Rattle.ntfs_runs.specs.Number.{shortest}
use Rattle.ntfs_runs.proofs.WritingLemmas.{put-pair}
use Rattle.ntfs_runs.proofs.put.put_clusters.Goals as goal

pub returns-then-into-at-clause-place : goal.returns-then-into-at-clause-place
returns-then-into-at-clause-place c within =
    let fits : SFits w64 c.args.count = search rules in
    let fits-too : SFits w64 c.args.delta = search rules in
    let one = simp to_z-of_z at c.shortest_size-count_size.ensures.value in
    let two = simp to_z-of_z at c.shortest_size-delta_size.ensures.value in
    omega (arith, length-append (shortest c.args.count) (shortest c.args.delta))

pub returns-clause-place : goal.returns-clause-place
returns-clause-place c =
    let fits : SFits w64 c.args.count = search rules in
    let fits-too : SFits w64 c.args.delta = search rules in
    let one = simp to_z-of_z at c.shortest_size-count_size.ensures.value in
    let two = simp to_z-of_z at c.shortest_size-delta_size.ensures.value in
    (omega (arith, length-append (shortest c.args.count) (shortest c.args.delta)), omega (arith, length-append (shortest c.args.count) (shortest c.args.delta)))

pub returns-clause-written : goal.returns-clause-written
returns-clause-written c =
    let fits : SFits w64 c.args.count = search rules in
    let fits-too : SFits w64 c.args.delta = search rules in
    let one = simp to_z-of_z at c.shortest_size-count_size.ensures.value in
    let two = simp to_z-of_z at c.shortest_size-delta_size.ensures.value in
    let count-is = simp to_z-of_z at c.put_number.ensures in
    let delta-is = simp to_z-of_z at c.put_number-2.ensures in
    rw (delta-is, count-is, c.put_byte.ensures, one, two)
    (put-pair (length (shortest c.args.count) + 16 * length (shortest c.args.delta)) (shortest c.args.count) (shortest c.args.delta) c.args.at c.args.into.now (omega arith))
