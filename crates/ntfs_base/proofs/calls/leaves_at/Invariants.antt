use Rattle.std.proofs.Common.{◌≡◌, drop}
use Rattle.ntfs_base.specs.Calls.{failing_at}
use Rattle.ntfs_base.proofs.calls.leaves_at.Given as goal

-- no call before this one has the number
abbrev pub invariant-loop-call : goal.invariant-loop-call
invariant-loop-call l = failing_at l.number (drop l.call-index l.failing) ≡ failing_at l.number l.failing
