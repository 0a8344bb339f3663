use Rattle.std.proofs.Common.{arith, length-append, [], rules, w64}
use Rattle.std.proofs.lemmas.Int.{to_z-of_z}
use mir.Val.{SFits}
use Rattle.ntfs_runs.specs.Number.{shortest}
use Rattle.ntfs_runs.proofs.WritingLemmas.{put-hole}
use Rattle.ntfs_runs.proofs.put.put_hole.Goals as goal

pub returns-then-into-at-clause-place : goal.returns-then-into-at-clause-place
returns-then-into-at-clause-place c within =
    let fits : SFits w64 c.args.count = search rules in
    let one = simp to_z-of_z at c.shortest_size-size.ensures.value in
    omega (arith, length-append (shortest c.args.count) [])

pub returns-clause-place : goal.returns-clause-place
returns-clause-place c =
    let fits : SFits w64 c.args.count = search rules in
    let one = simp to_z-of_z at c.shortest_size-size.ensures.value in
    (omega (arith, length-append (shortest c.args.count) []), omega (arith, length-append (shortest c.args.count) []))

pub returns-clause-written : goal.returns-clause-written
returns-clause-written c =
    let fits : SFits w64 c.args.count = search rules in
    let one = simp to_z-of_z at c.shortest_size-size.ensures.value in
    let count-is = simp to_z-of_z at c.put_number.ensures in
    rw (count-is, c.put_byte.ensures, one)
    (put-hole (shortest c.args.count) c.args.at c.args.into.now c.requires)
