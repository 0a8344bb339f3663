use Rattle.ntfs_volume.proofs.PartsLemmas.{join-more, join-parts}
use Rattle.ntfs_volume.proofs.parts.Parts.join.Goals as goal

pub returns-in_ok-append-clause-shown : goal.returns-in_ok-append-clause-shown
returns-in_ok-append-clause-shown c =
    join-more c.args.self.now c.args.runs.now c.append.new.list c.args.lowest c.args.next c.goes_on-self.result c.goes_on-self.ensures c.if-self.true c.in_ok-append.ensures

pub returns-in_ok-append-clause-parts : goal.returns-in_ok-append-clause-parts
returns-in_ok-append-clause-parts c n are =
    join-parts n c.args.self.now c.args.runs.now c.append.new.list c.args.lowest c.args.next c.goes_on-self.result c.goes_on-self.ensures c.if-self.true c.in_ok-append.ensures are
