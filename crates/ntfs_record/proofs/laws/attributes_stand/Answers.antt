use Rattle.ntfs_record.proofs.StandsLemmas.{attribute-stands, sound-stands, raw-stands, raw-is}
use Rattle.ntfs_record.proofs.laws.attributes_stand.Goals as goal

pub returns-clause-says : goal.returns-clause-says
returns-clause-says c raw at is = attribute-stands c.args.place raw c.args.bytes.now at is

pub returns-clause-sound : goal.returns-clause-sound
returns-clause-sound c raw used at is room = sound-stands used c.args.place raw c.args.bytes.now at is room

pub returns-clause-own : goal.returns-clause-own
returns-clause-own c used within sound other =
    let at = raw-stands used c.args.place c.args.bytes.now within sound in
    (at, raw-is used c.args.place c.args.bytes.now within sound other)
