use Rattle.std.proofs.Common.{subst, arith}
use Rattle.ntfs_index.specs.Path.{AreEntered}
use Rattle.ntfs_index.proofs.MostLemmas.{most-up}
use Rattle.ntfs_index.proofs.PathLemmas.{AreEntered-parts}
use Rattle.ntfs_index.proofs.path.Path.leave.Goals as goal

pub returns-in-Some-clause-path : goal.returns-in-Some-clause-path
returns-in-Some-clause-path c =
    let parts =
    AreEntered-parts c.pop.new.self.items c.in-Some.parent
    (subst AreEntered c.in-Some.ensures.items c.requires.path.entered) in
    record { few = omega (arith, c.in-Some.ensures.len, c.requires.path.few); entered = parts.0 }

pub returns-in-Some-clause-up : goal.returns-in-Some-clause-up
returns-in-Some-clause-up c up =
    let parts =
    AreEntered-parts c.pop.new.self.items c.in-Some.parent
    (subst AreEntered c.in-Some.ensures.items c.requires.path.entered) in
    record { above = c.in-Some.ensures.items; entered = parts.1 }

pub returns-in-Some-clause-most : goal.returns-in-Some-clause-most
returns-in-Some-clause-most c =
    most-up c.args.self.now c.in-Some.parent c.pop.new.self c.in-Some.ensures.items
