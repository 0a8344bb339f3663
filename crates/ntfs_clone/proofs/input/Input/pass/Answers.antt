use Rattle.std.proofs.lemmas.List.{length-take, length-drop}
use Rattle.ntfs_clone.proofs.TakingLemmas.{waiting-behind}
use Rattle.ntfs_clone.proofs.input.Input.pass.Goals as goal

pub returns-clause-waiting : goal.returns-clause-waiting
returns-clause-waiting c =
    let s = c.args.self.now in
    waiting-behind s.start s.end c.args.count s.bytes.items (simp (length-take, length-drop) at c.requires)
