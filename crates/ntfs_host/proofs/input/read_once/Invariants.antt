use Rattle.std.proofs.Common.{◌≡◌, length}
use Rattle.std.specs.Io.KnownBytes.{Keeps}
use Rattle.ntfs_host.proofs.input.read_once.Given as goal

-- an interrupted read has consumed nothing
abbrev pub invariant-tries : goal.invariant-tries
invariant-tries g l = (length l.into ≡ length l.initial.into)
    × Keeps (g.R.Read.remaining l.initial.reader) (g.R.Read.remaining l.reader)
