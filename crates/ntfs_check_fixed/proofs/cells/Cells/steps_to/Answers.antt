use Rattle.ntfs_check_fixed.proofs.PlaceLemmas.{front-hole, front-is, front-none}
use Rattle.ntfs_check_fixed.proofs.cells.Cells.steps_to.Goals as goal

pub returns-in-None : goal.returns-in-None
returns-in-None c = λ rest. front-none c.args.cluster rest c.args.self.now c.in-None.ensures

pub returns-in-Some-None : goal.returns-in-Some-None
returns-in-Some-None c = λ rest. front-hole c.args.cluster rest c.args.self.now c.step.new.self (rw c.in-Some-None.field-0-is at c.in-Some-None.ensures)

pub returns-in-Some-Some : goal.returns-in-Some-Some
returns-in-Some-Some c = λ rest. front-is c.args.cluster c.in-Some-Some.own rest c.args.self.now c.step.new.self (rw c.in-Some-Some.field-0-is at c.in-Some-Some.ensures)
