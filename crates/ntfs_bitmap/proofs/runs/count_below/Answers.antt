use Rattle.std.proofs.Common.{◌+◌, ℕ, List, sym, ap, ◌∙◌, arith}
use Rattle.ntfs_bitmap.specs.Runs.{is_covered, lengths_of}
use Rattle.ntfs_bitmap.proofs.CountLemmas.{AllFrom-zero, clipped, count-clipped, count-le, follows-sorted}
use Rattle.ntfs_bitmap.proofs.runs.count_below.Goals as goal

pub runs-init : goal.runs-init
runs-init c =
    let part = c.into_iter-first-iterator.ensures.into_iter_gives ∙ c.range-first-items.ensures.between tt in
    let follows = follows-sorted c.args.runs.now.entries 0 c.args.cluster c.range-first-items.ensures.ordered
    (AllFrom-zero c.args.runs.now.entries) in
    let counted = count-clipped c.requires.0 (lengths_of c.args.runs.now) c.requires.1 0 c.args.cluster _ (omega arith)
    (λ first length is before. absurd (omega (arith, before))) follows in
    ap (λ (rest : List (ℕ × ℕ)). 0 + clipped c.args.cluster rest) part ∙ sym counted

pub overflow_add-count : goal.overflow_add-count
overflow_add-count c =
    let first = ap (clipped c.args.cluster) c.in-Some.ensures.steps in
    let most = count-le (is_covered (lengths_of c.args.runs.now)) c.args.cluster in
    omega (arith, c.runs.invariant, first, most, c.min-count.ensures, c.ranges.cluster.fits)
