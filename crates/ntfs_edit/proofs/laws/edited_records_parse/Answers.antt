use Rattle.std.proofs.Common.{arith}
use Rattle.ntfs_edit.proofs.RespeltLemmas.{respelt-long, respelt-parses, respelt-own}
use Rattle.ntfs_edit.proofs.RowLemmas.{respelt-accepted, parsed-accepted}
use Rattle.ntfs_edit.proofs.laws.edited_records_parse.Goals as goal

pub returns-clause-same : goal.returns-clause-same
returns-clause-same c is = respelt-own c.args.bytes.now (λ i. omega (arith, c.type_inv.bytes i)) is

pub returns-clause-long : goal.returns-clause-long
returns-clause-long c raws is = respelt-long c.args.bytes.now raws is.accepted is.room

pub returns-clause-parses : goal.returns-clause-parses
returns-clause-parses c raws is = respelt-parses c.args.bytes.now raws is

pub returns-clause-accepted : goal.returns-clause-accepted
returns-clause-accepted c raws is = respelt-accepted c.args.bytes.now raws is

pub returns-clause-parsed : goal.returns-clause-parsed
returns-clause-parsed c r parses small = parsed-accepted c.args.bytes.now r parses small
