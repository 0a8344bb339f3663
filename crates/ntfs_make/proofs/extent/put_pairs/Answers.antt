use Rattle.ntfs_make.proofs.RunsLemmas.{canon-short}
use Rattle.ntfs_make.proofs.extent.put_pairs.Goals as goal

pub encode_into-requires : goal.encode_into-requires
encode_into-requires c = c.in_ok-runs.ensures.spellable

pub unreachable-requires : goal.unreachable-requires
unreachable-requires c = c.in-None.ensures.fits (canon-short c.in_ok-runs.runs c.in_ok-runs.ensures.spellable c.in_ok-runs.ensures.few)
