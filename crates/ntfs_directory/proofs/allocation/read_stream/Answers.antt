use Rattle.ntfs_directory.proofs.AllocationLemmas.{copied-piece, placed-piece}
use Rattle.ntfs_directory.proofs.allocation.read_stream.Goals as goal

pub returns-in-Some-clause-bytes : goal.returns-in-Some-clause-bytes
returns-in-Some-clause-bytes g c told =
    copied-piece c.args.geometry.now (g.G.Image.seen c.args.image.now).content c.in-Some.value.now c.copy_from_slice.new.self c.args.stream.now.stream c.args.place _
    (rw c.in-Some.is at c.value.ensures) c.copy_from_slice.ensures.after

pub returns-clause-bytes : goal.returns-clause-bytes
returns-clause-bytes g c told =
    placed-piece c.args.geometry.now (g.G.Image.seen c.args.image.now).content c.args.stream.now.stream c.in-Some-runs.runs.now c.size.result c.valid.result c.args.place _ c.read_runs.new.into
    (rw c.in-Some-runs.is at c.runs.ensures.cells) c.size.ensures c.valid.ensures (c.in_ok-read_runs-in-Some-runs.ensures.bytes told)
