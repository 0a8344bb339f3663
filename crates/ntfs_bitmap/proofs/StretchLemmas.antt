-- The stretches of the set that runs hold.
use Rattle.std.proofs.Common.{◌≡◌, ◌<◌, ◌≤◌, ◌-◌, ℕ, true, false, sym, ◌∙◌, arith}
use Rattle.ntfs_bitmap.specs.ClusterSet.{bound_of, has, set_where}
use Rattle.ntfs_bitmap.specs.Runs.{Lengths, AreLongestRuns, IsEndAt, IsNextFirst, is_covered}
use Rattle.ntfs_bitmap.specs.Stretch.{IsStretch}
use Rattle.ntfs_bitmap.proofs.SetLemmas.{bound-set_where, has-set_where}
use Rattle.ntfs_bitmap.proofs.RunsLemmas.{free-up_to, in-run, next-begins, next-later, run-ends}

module _ (bound : ℕ) (runs : Lengths) (are : AreLongestRuns bound runs) (cluster end : ℕ) where
  end-below : end ≤ bound → end ≤ bound_of (set_where bound (is_covered runs))
  end-below le = omega (arith, le, bound-set_where bound (is_covered runs))

  at-below : (n : ℕ) → n < bound → has (set_where bound (is_covered runs)) n ≡ is_covered runs n
  at-below n below = has-set_where bound (is_covered runs) n below

  below-end : end < bound_of (set_where bound (is_covered runs)) → end < bound
  below-end below = omega (arith, below, bound-set_where bound (is_covered runs))

  -- the rest of a run is a stretch that is in
  pub stretch-in : IsEndAt runs cluster end
      → IsStretch (set_where bound (is_covered runs)) cluster (record { is_in = true; end = end })
  stretch-in run =
      let within : end ≤ bound = omega (arith, are.within run.first (end - run.first) run.is, run.begins, run.ends) in
      record {
        some = run.ends;
        within = end-below within;
        same = λ n from below. at-below n (omega (arith, below, within))
            ∙ in-run bound runs are cluster end run n from below;
        longest = λ below is.
            let free = sym (at-below end (below-end below)) ∙ is in
            let ends = run-ends bound runs are cluster end run in cc;
      }

  -- from a free cluster on up to the next run is a stretch that isn't in
  pub stretch-free : cluster < bound → is_covered runs cluster ≡ false → IsNextFirst bound runs cluster end
      → IsStretch (set_where bound (is_covered runs)) cluster (record { is_in = false; end = end })
  stretch-free inside free next = record {
    some = next-later bound runs are cluster end inside free next;
    within = end-below next.within;
    same = λ n from below.
        at-below n (omega (arith, below, next.within)) ∙ free-up_to bound runs are cluster end free next n from below;
    longest = λ below is.
        let no_run = sym (at-below end (below-end below)) ∙ is in
        let begins = next-begins bound runs are cluster end next (below-end below) in cc;
  }
