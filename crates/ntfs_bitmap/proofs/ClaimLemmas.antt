-- What a claim makes of the set that runs hold.
use Rattle.std.proofs.Common.{◌≡◌, ◌+◌, ◌<◌, ◌≤◌, ◌||◌, ℕ, inl, inr, sym, ap, ◌∙◌, arith}
use Rattle.std.proofs.lemmas.Bool.{cases_lt}
use Rattle.ntfs_bitmap.specs.ClusterSet.{Clusters, IsTaken, bound_of, with_claim, has, in_run, set_where}
use Rattle.ntfs_bitmap.specs.Runs.{Lengths, AreFree, AreLongestRuns, IsJoined, is_covered}
use Rattle.ntfs_bitmap.proofs.SetLemmas.{bound-set_where, has-past, has-set_where, set_where-same}
use Rattle.ntfs_bitmap.proofs.RunsLemmas.{covered-no, true_or_false}
use Rattle.ntfs_bitmap.proofs.JoinLemmas.{joined-covered}

module _ (bound : ℕ) (runs : Lengths) (set : Clusters) (view : set_where bound (is_covered runs) ≡ set) where
  -- the set has the bound of its runs
  pub bound-is : bound_of set ≡ bound
  bound-is = ap bound_of (sym view) ∙ bound-set_where bound (is_covered runs)

  -- where no number of a run is in, the runs leave it free
  pub free-from : (first length : ℕ) → first + length ≤ bound → ((cluster : ℕ) → IsTaken set first length cluster → ⊥)
      → AreFree runs first length
  free-from first length within none cluster from below =
      let inside : cluster < bound = omega (arith, below, within) in
      let same = sym (has-set_where bound (is_covered runs) cluster inside)
      ∙ ap (λ (s : Clusters). has s cluster) view in
      elim (true_or_false (is_covered runs cluster)) [
        | inl is ↦ absurd (none cluster (record { from = from; below = below; is_in = sym same ∙ is }))
        | inr is ↦ is
      ]

  -- joined runs hold the set with the run added
  pub claimed-from : (first length : ℕ) (new : Lengths) → AreLongestRuns bound runs → 0 < length → first + length ≤ bound
      → AreFree runs first length → IsJoined runs first length new
      → set_where bound (is_covered new) ≡ with_claim first length set
  unfolding with_claim
  claimed-from first length new are some within free joined =
      set_where-same bound (is_covered new) (λ cluster. has set cluster || in_run first length cluster)
      (λ cluster below.
      joined-covered bound runs new first length are some within free joined cluster
      ∙ ap (λ b. b || in_run first length cluster)
      (sym (has-set_where bound (is_covered runs) cluster below) ∙ ap (λ (s : Clusters). has s cluster) view))
      ∙ ap (λ n. set_where n (λ cluster. has set cluster || in_run first length cluster)) (sym bound-is)

  -- the set has just the clusters of its runs
  pub has-covered : AreLongestRuns bound runs → (cluster : ℕ) → has set cluster ≡ is_covered runs cluster
  has-covered are cluster =
      elim (cases_lt cluster bound) [
        | inl below ↦
            ap (λ (s : Clusters). has s cluster) (sym view) ∙ has-set_where bound (is_covered runs) cluster below
        | inr past ↦
            has-past set cluster (omega (arith, past, bound-is))
            ∙ sym (covered-no runs cluster
            (λ run. omega (arith, past, run.ends, are.within run.first run.length run.is)))
      ]
