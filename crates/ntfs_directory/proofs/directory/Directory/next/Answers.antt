use Rattle.std.proofs.Common.{◌≡◌, sym, subst, None}
use Rattle.ntfs_base.specs.Frames.{refused_as}
use Rattle.ntfs_boot.specs.declared.geometry.Geometry.{Geometry}
use Rattle.ntfs_directory.specs.Fault.{directory_fault}
use Rattle.ntfs_directory.specs.State.{DirectoryState, IsNextEntry, answered, left_of}
use Rattle.ntfs_directory.proofs.NextLemmas.{next-entry, not-answered}
use Rattle.ntfs_directory.proofs.directory.Directory.next.Goals as goal

pub returns-clause-told : goal.returns-clause-told
returns-clause-told g c sound told =
    let content = (g.G.Image.seen c.args.image.now).content in
    let k = c.args.table.now.geometry in
    let inside = c.self.inside in
    let walk = c.next_entry-answer.new.walk in
    let old : DirectoryState = record { number = inside.number; allocation = inside.allocation; walk = inside.walk } in
    let new : DirectoryState = record { number = inside.number; allocation = inside.allocation; walk = walk } in
    let begun = not-answered inside.number inside.walk.fault (subst (λ (d : DirectoryState). answered d ≡ None) (sym c.self.view_is) sound) in
    let next = next-entry inside.number _ _ c.next_entry-answer.result walk.key (c.next_entry-answer.ensures.told begun told) in
    subst (λ (d : DirectoryState). IsNextEntry (left_of k content d) c.in_directory.result (left_of k content new) walk.key) c.self.view_is
    (rw c.in_directory.ensures (subst (λ (h : Geometry). IsNextEntry (left_of h content old) (refused_as (directory_fault inside.number) c.next_entry-answer.result) (left_of h content new) walk.key) c.geometry.ensures.kept next))
