use Rattle.std.proofs.Common.{◌≡◌, ◌≤◌, ◌+◌, ◌-ℤ◌, ◌^◌, ℕ, List, length, pos, to_z, of_z, w64, arith, subst}
use Rattle.std.specs.Prelude.{Option, IfSome}
use Rattle.std.specs.Option.{SomeIff, OnSome}
use Rattle.std.proofs.lemmas.Int.{ints}
use Rattle.ntfs_runs.specs.Writing.{put}
use Rattle.ntfs_runs.proofs.WritingLemmas.{hole-text, clusters-text}
use Rattle.ntfs_runs.proofs.put.put_run.Goals as goal

pub returns-in-None-clause-place : goal.returns-in-None-clause-place
returns-in-None-clause-place c =
    let length-is : to_z w64 c.args.run.length ≡ pos c.args.run.length = omega (arith, ints) in
    subst (λ (text : List ℕ). SomeIff c.put_hole.result (c.args.at + length text ≤ length c.args.into.now) (c.args.at + length text)) (hole-text c.args.last c.args.run (to_z w64 c.args.run.length) c.in-None.is length-is) c.put_hole.ensures.place

pub returns-in-None-clause-written : goal.returns-in-None-clause-written
returns-in-None-clause-written c =
    let length-is : to_z w64 c.args.run.length ≡ pos c.args.run.length = omega (arith, ints) in
    subst (λ (text : List ℕ). OnSome c.put_hole.result (c.put_hole.new.into ≡ put text c.args.at c.args.into.now)) (hole-text c.args.last c.args.run (to_z w64 c.args.run.length) c.in-None.is length-is) c.put_hole.ensures.written

pub returns-in-Some-clause-place : goal.returns-in-Some-clause-place
returns-in-Some-clause-place c =
    let lcn = c.in-Some.lcn in
    let small : lcn ≤ 2 ^ 48 = subst (λ (o : Option ℕ). IfSome o (λ l. l ≤ 2 ^ 48)) c.in-Some.is c.requires.small.1 in
    let length-is : to_z w64 c.args.run.length ≡ pos c.args.run.length = omega (arith, ints) in
    let delta-is : to_z w64 (of_z w64 (to_z w64 lcn -ℤ to_z w64 c.args.last)) ≡ pos lcn -ℤ pos c.args.last = omega (arith, ints) in
    subst (λ (text : List ℕ). SomeIff c.put_clusters.result (c.args.at + length text ≤ length c.args.into.now) (c.args.at + length text))
    (clusters-text c.args.last lcn c.args.run (to_z w64 c.args.run.length) (to_z w64 (of_z w64 (to_z w64 lcn -ℤ to_z w64 c.args.last))) c.in-Some.is length-is delta-is) c.put_clusters.ensures.place

pub returns-in-Some-clause-written : goal.returns-in-Some-clause-written
returns-in-Some-clause-written c =
    let lcn = c.in-Some.lcn in
    let small : lcn ≤ 2 ^ 48 = subst (λ (o : Option ℕ). IfSome o (λ l. l ≤ 2 ^ 48)) c.in-Some.is c.requires.small.1 in
    let length-is : to_z w64 c.args.run.length ≡ pos c.args.run.length = omega (arith, ints) in
    let delta-is : to_z w64 (of_z w64 (to_z w64 lcn -ℤ to_z w64 c.args.last)) ≡ pos lcn -ℤ pos c.args.last = omega (arith, ints) in
    subst (λ (text : List ℕ). OnSome c.put_clusters.result (c.put_clusters.new.into ≡ put text c.args.at c.args.into.now))
    (clusters-text c.args.last lcn c.args.run (to_z w64 c.args.run.length) (to_z w64 (of_z w64 (to_z w64 lcn -ℤ to_z w64 c.args.last))) c.in-Some.is length-is delta-is) c.put_clusters.ensures.written
