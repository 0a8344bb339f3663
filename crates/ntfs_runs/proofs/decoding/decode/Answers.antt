use Rattle.ntfs_runs.proofs.ItemsLemmas.{gives-found, gives-only, gives-bad, gives-first, gives-spellable, gives-within}
use Rattle.ntfs_runs.proofs.decoding.decode.Goals as goal

pub returns-clause-found : goal.returns-clause-found
returns-clause-found c = gives-found c.args.bytes.now c.decode_all.result c.decode_all.ensures

pub returns-clause-only : goal.returns-clause-only
returns-clause-only c = gives-only c.args.bytes.now c.decode_all.result c.decode_all.ensures

pub returns-clause-bad : goal.returns-clause-bad
returns-clause-bad c = gives-bad c.args.bytes.now c.decode_all.result c.decode_all.ensures

pub returns-clause-first : goal.returns-clause-first
returns-clause-first c = gives-first c.args.bytes.now c.decode_all.result c.decode_all.ensures

pub returns-clause-spellable : goal.returns-clause-spellable
returns-clause-spellable c = gives-spellable c.args.bytes.now c.decode_all.result c.decode_all.ensures

pub returns-clause-within : goal.returns-clause-within
returns-clause-within c = gives-within c.args.bytes.now c.decode_all.result c.decode_all.ensures
