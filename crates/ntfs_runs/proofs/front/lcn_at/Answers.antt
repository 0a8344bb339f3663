use Rattle.std.proofs.Common.{pos, ◌+ℤ◌, ◌^◌, rules, w64, ◌∙◌, sym, arith, Some, None}
use Rattle.std.proofs.lemmas.Int.{to_z-of_z}
use mir.Val.{SFits}
use Rattle.ntfs_runs.proofs.NumberLemmas.{lcn-none, lcn-high, lcn-right, lcn_in-of}
use Rattle.ntfs_runs.proofs.front.lcn_at.Goals as goal

pub returns-in_err-lcn : goal.returns-in_err-lcn
returns-in_err-lcn c =
    let z = c.signed_at-delta.result in
    let fits : SFits w64 z = search rules in
    let none = simp to_z-of_z at c.in_err-lcn.ensures in
    c.from_residual.ensures ∙ sym (lcn_in-of c.args.last c.args.size c.args.bytes.now z None (omega arith) c.signed_at-delta.ensures (lcn-none (2 ^ 48) (pos c.args.last +ℤ z) (omega arith) none))

pub returns-then-lcn-gt-MOST : goal.returns-then-lcn-gt-MOST
returns-then-lcn-gt-MOST c =
    let z = c.signed_at-delta.result in
    let fits : SFits w64 z = search rules in
    let some = simp to_z-of_z at c.in_ok-lcn.ensures in
    sym (lcn_in-of c.args.last c.args.size c.args.bytes.now z None (omega arith) c.signed_at-delta.ensures (lcn-high (2 ^ 48) c.in_ok-lcn.lcn (pos c.args.last +ℤ z) some.0 (sym some.1) (c.if-lcn-gt-MOST.true)))

pub returns : goal.returns
returns c =
    let z = c.signed_at-delta.result in
    let fits : SFits w64 z = search rules in
    let some = simp to_z-of_z at c.in_ok-lcn.ensures in
    sym (lcn_in-of c.args.last c.args.size c.args.bytes.now z (Some c.in_ok-lcn.lcn) (omega arith) c.signed_at-delta.ensures (lcn-right (2 ^ 48) c.in_ok-lcn.lcn (pos c.args.last +ℤ z) some.0 (sym some.1) (c.if-lcn-gt-MOST.false)))
