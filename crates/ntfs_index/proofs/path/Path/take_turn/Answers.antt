use Rattle.std.proofs.Common.{◌∙◌, refl, arith}
use Rattle.std.proofs.lemmas.Result.{err_from_is_err_and}
use Rattle.ntfs_index.proofs.MostLemmas.{most-own, passed-left}
use Rattle.ntfs_index.proofs.PathLemmas.{moved-down, turn-down, turn-refused, turn-up}
use Rattle.ntfs_index.proofs.path.Path.take_turn.Goals as goal

pub enter-requires-clause-child : goal.enter-requires-clause-child
enter-requires-clause-child g c = (c.in-Child.ensures c.args.self.now.present.vcn).0

pub returns-in_err-enter-in-Child-clause-told : goal.returns-in_err-enter-in-Child-clause-told
returns-in_err-enter-in-Child-clause-told g c told =
    let old = c.args.self.now in
    let meets = rw c.entry.ensures at (c.in-Child.ensures old.present.vcn) in
    let p = err_from_is_err_and c.from_residual.result c.from_residual.ensures.1 in
    rw (p.1, p.2)
    (λ settled. turn-refused (g.B.Blocks.seen c.args.blocks.now).blocks old c.in-Child.vcn _ meets
    (c.in_err-enter-in-Child.ensures.told told settled))

pub key_of-requires-clause-fields : goal.key_of-requires-clause-fields
key_of-requires-clause-fields g c =
    let own = rw c.entry.ensures at (c.in-Own.ensures 0).0 in
    rw c.entry-in-Own.ensures (omega (arith, own))

pub key_of-requires-clause-within : goal.key_of-requires-clause-within
key_of-requires-clause-within g c =
    let own = rw c.entry.ensures at (c.in-Own.ensures 0).0 in
    rw c.entry-in-Own.ensures own

pub returns-in_ok-enter-in-Child-clause-told : goal.returns-in_ok-enter-in-Child-clause-told
returns-in_ok-enter-in-Child-clause-told g c told =
    let old = c.args.self.now in
    let arm = c.in_ok-enter-in-Child.ensures in
    let blocks = (g.B.Blocks.seen c.args.blocks.now).blocks in
    let meets = rw c.entry.ensures at (c.in-Child.ensures old.present.vcn) in
    turn-down blocks old c.in-Child.vcn c.enter.new.self meets arm.down (arm.told told)

pub returns-in_ok-enter-in-Child-clause-moves : goal.returns-in_ok-enter-in-Child-clause-moves
returns-in_ok-enter-in-Child-clause-moves g c =
    let arm = c.in_ok-enter-in-Child.ensures in
    moved-down c.args.self.now c.enter.new.self _ _
    (c.in-Child.ensures c.args.self.now.present.vcn).0 arm.down arm.path arm.one

pub returns-then-leave-clause-told : goal.returns-then-leave-clause-told
returns-then-leave-clause-told g c told =
    let old = c.args.self.now in
    let step = rw c.entry.ensures at (c.in-End.ensures old.present.vcn) in
    turn-up (g.B.Blocks.seen c.args.blocks.now).blocks old c.leave.new.self step (c.if-leave.ensures.up refl)
    c.if-leave.ensures.met

pub returns-in_ok-show-in-Own-clause-most : goal.returns-in_ok-show-in-Own-clause-most
returns-in_ok-show-in-Own-clause-most g c =
    let old = c.args.self.now in
    let own = rw c.entry.ensures at (c.in-Own.ensures old.present.vcn) in
    let passed = c.pass.ensures in
    let fewer = most-own old c.pass.new.self _ (own.2 ∙ passed-left old.present c.in-Own.length c.pass.new.self _ passed) in
    omega (arith, fewer)

pub returns-in_ok-show-in-Own-clause-fewer : goal.returns-in_ok-show-in-Own-clause-fewer
returns-in_ok-show-in-Own-clause-fewer g c =
    let old = c.args.self.now in
    let own = rw c.entry.ensures at (c.in-Own.ensures old.present.vcn) in
    let passed = c.pass.ensures in
    most-own old c.pass.new.self _ (own.2 ∙ passed-left old.present c.in-Own.length c.pass.new.self _ passed)
