use Rattle.ntfs_edit.proofs.TwiceLemmas.{need-twice, respelt-twice, turn}
use Rattle.ntfs_edit.proofs.laws.edits_in_a_row_are_one.Goals as goal

pub returns-clause-need : goal.returns-clause-need
returns-clause-need c raws others is = need-twice c.args.bytes.now raws others is

pub returns-clause-twice : goal.returns-clause-twice
returns-clause-twice c raws others is more = respelt-twice c.args.bytes.now raws others is more

pub returns-clause-turn : goal.returns-clause-turn
returns-clause-turn c place f before raw after is at = turn c.args.bytes.now place f before raw after is at
