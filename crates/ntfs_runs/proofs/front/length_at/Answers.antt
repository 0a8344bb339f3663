use Rattle.std.proofs.Common.{rules, w64, sym}
use Rattle.std.proofs.lemmas.Int.{to_z-of_z}
use mir.Val.{SFits}
use Rattle.ntfs_runs.proofs.NumberLemmas.{length-low, length-high, length-right}
use Rattle.ntfs_runs.proofs.front.length_at.Goals as goal
use Rattle.ntfs_runs.proofs.front.length_at.Goals.{then-length-lt1-via-then-length-lt1, then-length-lt1-via-else-length-lt1+then-length-room}

pub returns-then-length-lt1 : goal.returns-then-length-lt1
returns-then-length-lt1 c =
    let z = c.signed_at-length.result in
    let fits : SFits w64 z = search rules in
    let is = c.signed_at-length.ensures in
    elim c.then-length-lt1.branch [
      | then-length-lt1-via-then-length-lt1 w ↦
          let low = simp to_z-of_z at w.if-length-lt1.true in
          rw (← is) (sym (length-low c.args.room z low))
      | then-length-lt1-via-else-length-lt1+then-length-room w ↦
          let low = simp to_z-of_z at w.if-length-lt1.false in
          let high = simp to_z-of_z at w.if-length-room.true in
          rw (← is) (sym (length-high c.args.room z low high))
    ]

pub returns : goal.returns
returns c =
    let z = c.signed_at-length.result in
    let fits : SFits w64 z = search rules in
    let is = c.signed_at-length.ensures in
    let low = simp to_z-of_z at c.if-length-lt1.false in
    let within = simp to_z-of_z at c.if-length-room.false in
    simp to_z-of_z (rw (← is) (sym (length-right c.args.room z low within)))
