use Rattle.std.proofs.Common.{◌≡◌, ◌<◌, ◌≤◌, ◌-◌, false, length, map, refl, ap, arith}
use Rattle.std.proofs.lemmas.Result.{err_from_is_err_and}
use Rattle.ntfs_index.specs.Walk.{listing}
use Rattle.ntfs_index.specs.Path.{left_in}
use Rattle.ntfs_index.proofs.AlikeLemmas.{insert-met, insert-new, insert-twice}
use Rattle.ntfs_index.proofs.MostLemmas.{insert-more, most-down, most-lost, most-met}
use Rattle.ntfs_index.proofs.PathLemmas.{AreEntered-more, child-broken, child-twice}
use Rattle.ntfs_index.proofs.path.Path.enter.Goals as goal

pub returns-then-not-branch-clause-told : goal.returns-then-not-branch-clause-told
returns-then-not-branch-clause-told g c told settled =
    let old = c.args.self.now in
    let some : 0 < 15 - length old.above.items = omega arith in
    let twice =
    insert-twice c.args.vcn old.met.keys c.in_ok-insert.field-0 c.in_ok-insert.ensures.added c.if-not-branch.true in
    ap listing (child-twice (g.B.Blocks.seen c.args.blocks.now).blocks (15 - length old.above.items)
    c.args.vcn old.met.keys some twice)

pub returns-in_err-child-clause-told : goal.returns-in_err-child-clause-told
returns-in_err-child-clause-told g c told =
    let old = c.args.self.now in
    let some : 0 < 15 - length old.above.items = omega arith in
    let new =
    insert-new c.args.vcn old.met.keys c.in_ok-insert.field-0 c.in_ok-insert.ensures.added c.if-not-branch.false in
    let p = err_from_is_err_and c.from_residual-in_err-child.result c.from_residual-in_err-child.ensures.1 in
    rw (p.1, p.2)
    (λ settled. ap listing (child-broken (g.B.Blocks.seen c.args.blocks.now).blocks (15 - length old.above.items)
    c.args.vcn old.met.keys _ some new (c.in_err-child.ensures.told told settled)))

pub returns-clause-told : goal.returns-clause-told
returns-clause-told g c told =
    let old = c.args.self.now in
    let inserted = c.in_ok-insert.ensures in
    record {
      within = omega arith;
      twice = insert-new c.args.vcn old.met.keys c.in_ok-insert.field-0 inserted.added c.if-not-branch.false;
      met = insert-met c.args.vcn old.met.keys c.insert.new.self.keys inserted.updates.0;
      node = rw c.replace-parent.ensures.after (c.in_ok-child.ensures.told told);
      bears = rw c.replace-parent.ensures.after c.in_ok-child.ensures.first.bears;
    }

pub returns-clause-path : goal.returns-clause-path
returns-clause-path g c = record {
  few = omega (arith, c.in_ok-push.ensures.len);
  entered = rw c.in_ok-push.ensures.items (AreEntered-more c.args.self.now.above.items _ c.requires.path.entered refl);
}

pub returns-in_err-child-clause-most : goal.returns-in_err-child-clause-most
returns-in_err-child-clause-most g c =
    let old = c.args.self.now in
    most-met (left_in old.present) (map left_in old.above.items) old.met.keys c.insert.new.self.keys
    (omega (arith, c.in_ok-insert.ensures.len))

pub returns-in_err-push-clause-most : goal.returns-in_err-push-clause-most
returns-in_err-push-clause-most g c =
    let inserted = insert-more _ _ c.in_ok-insert.field-0 c.if-not-branch.false c.in_ok-insert.ensures.len in
    let first : c.replace-parent.new.dest.entered ≡ false = rw c.replace-parent.ensures.after c.in_ok-child.ensures.first.first in
    let small : length c.replace-parent.new.dest.bytes.items ≤ 65536 = rw c.replace-parent.ensures.after c.in_ok-child.ensures.small in
    most-lost c.args.self.now c.replace-parent.new.dest c.insert.new.self inserted
    (omega (arith, c.len-met.ensures.small, c.len-met.ensures.len)) first small c.push.new.self c.in_err-push.ensures.items

pub returns-clause-most : goal.returns-clause-most
returns-clause-most g c =
    let inserted = insert-more _ _ c.in_ok-insert.field-0 c.if-not-branch.false c.in_ok-insert.ensures.len in
    let first : c.replace-parent.new.dest.entered ≡ false = rw c.replace-parent.ensures.after c.in_ok-child.ensures.first.first in
    let small : length c.replace-parent.new.dest.bytes.items ≤ 65536 = rw c.replace-parent.ensures.after c.in_ok-child.ensures.small in
    most-down c.args.self.now c.replace-parent.new.dest c.insert.new.self inserted
    (omega (arith, c.len-met.ensures.small, c.len-met.ensures.len)) first small c.push.new.self c.requires.child
    (rw c.replace-parent.ensures.value at c.in_ok-push.ensures.items)
