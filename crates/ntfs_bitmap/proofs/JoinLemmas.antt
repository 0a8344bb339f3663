-- What holds after a run was joined: the runs are still the longest, and have just the clusters of the new run besides.
use Rattle.std.proofs.Common.{◌≡◌, ◌≢◌, ◌+◌, ◌-◌, ◌<◌, ◌≤◌, ◌||◌, ◌&&◌, ◌⊎◌, inl, inr, ℕ, Bool, true, false, Some, refl, sym, ap, ap₂, ◌∙◌, arith, nat_le, nat_lt}
use Rattle.std.proofs.lemmas.Bool.{cases_eq, cases_lt, lt-ltb, le-leb, ltb-true, leb-true}
use Rattle.ntfs_bitmap.specs.ClusterSet.{in_run}
use Rattle.ntfs_bitmap.specs.Runs.{Lengths, AreFree, AreLongestRuns, IsJoined, is_covered}
use Rattle.ntfs_bitmap.proofs.RunsLemmas.{covered-run, covered-yes, no-run, or-cases, or-left, or-right, same-from-both, same-some}

pub in-run-yes : (first length cluster : ℕ) → first ≤ cluster → cluster < first + length
    → in_run first length cluster ≡ true
in-run-yes first length cluster from below =
    ap₂ (λ a b. a && b) (le-leb first cluster from) (lt-ltb cluster (first + length) below)

and-parts : (a b : Bool) → a && b ≡ true → (a ≡ true) × (b ≡ true)
and-parts true b is = (refl, is)
and-parts false b is = cc

pub in-run-parts : (first length cluster : ℕ) → in_run first length cluster ≡ true
    → (first ≤ cluster) × (cluster < first + length)
in-run-parts first length cluster is =
    let parts = and-parts (nat_le first cluster) (nat_lt cluster (first + length)) is in
    (leb-true first cluster parts.0, ltb-true cluster (first + length) parts.1)

zero-or-more : (n : ℕ) → (n ≡ 0) ⊎ (0 < n)
zero-or-more n = elim (cases_lt 0 n) [ inl more ↦ inr more | inr none ↦ inl (omega arith) ]

module _ (bound : ℕ) (old new : Lengths) (first length : ℕ) (are : AreLongestRuns bound old) (some : 0 < length)
    (within : first + length ≤ bound) (free : AreFree old first length) (joined : IsJoined old first length new) where
  abbrev before : ℕ
  before = joined.before

  abbrev after : ℕ
  after = joined.after

  -- the run before begins so
  before-up : before ≤ first
  before-up =
      elim (zero-or-more before) [
        | inl none ↦ omega (arith, none)
        | inr more ↦ omega (arith, (joined.is_before.run more).0)
      ]

  -- the new run ends below the bound
  after-within : first + length + after ≤ bound
  after-within =
      elim (zero-or-more after) [
        | inl none ↦ omega (arith, none, within)
        | inr more ↦ are.within (first + length) after (joined.is_after.run more)
      ]

  -- a run of the old ones lies before the new clusters, or behind them
  outside : (at more : ℕ) → old at ≡ Some more → (at + more ≤ first) ⊎ (first + length ≤ at)
  outside at more is =
      elim (cases_lt first (at + more)) [
        | inr before ↦ inl before
        | inl reaches ↦ elim (cases_lt at (first + length)) [
          | inr behind ↦ inr behind
          | inl begins ↦ elim (cases_lt at first) [
            | inl earlier ↦ absurd (no-run old first (free first (omega arith) (omega (arith, some)))
                (record { first = at; length = more; is = is; begins = omega (arith, earlier); ends = reaches }))
            | inr inside ↦ absurd (no-run old at (free at inside begins)
                (record {
                  first = at;
                  length = more;
                  is = is;
                  begins = omega arith;
                  ends = omega (arith, are.some at more is);
                }))
          ]
        ]
      ]

  -- an old run that isn't joined leaves a number free before the joined run, or behind it
  record IsApart (at more : ℕ) : Type 0 where
    pub is : old at ≡ Some more
    pub lies : (at + more < first - before) ⊎ (first + length + after < at)

  apart : (at more : ℕ) → old at ≡ Some more → at ≢ first + length → at ≢ first - before → IsApart at more
  apart at more is not_after not_before =
      elim (outside at more is) [
        | inl front ↦ elim (zero-or-more before) [
          | inl none ↦ elim (cases_eq (at + more) first) [
            | inl ends ↦ absurd (joined.is_before.none none at more is ends)
            | inr differ ↦ record { is = is; lies = inl (omega (arith, front, differ, none)) }
          ]
          | inr some_before ↦
              let run = joined.is_before.run some_before in
              elim (cases_lt at (first - before)) [
                | inl earlier ↦ record {
                  is =
                      is;
                  lies = inl (are.apart at more (first - before) before is run.1 earlier);
                }
                | inr from ↦
                    let later = are.apart (first - before) before at more run.1 is (omega (arith, from, not_before)) in
                    absurd (omega (arith, later, front, run.0))
              ]
        ]
        | inr behind ↦
            let later : first + length < at = omega (arith, behind, not_after) in
            elim (zero-or-more after) [
              | inl none ↦ record { is = is; lies = inr (omega (arith, later, none)) }
              | inr some_after ↦ record {
                is = is;
                lies = inr (are.apart (first + length) after at more (joined.is_after.run some_after) is later);
              }
            ]
      ]

  -- a run is the joined one, or an old one apart from it
  record IsNew (at more : ℕ) : Type 0 where
    pub begins : at ≡ first - before
    pub has : more ≡ before + length + after

  new-run : (at more : ℕ) → new at ≡ Some more → IsNew at more ⊎ IsApart at more
  new-run at more is =
      elim (cases_eq at (first + length)) [
        | inl end ↦ let none = ap new end ∙ joined.gone in cc
        | inr not_after ↦ elim (cases_eq at (first - before)) [
          | inl same ↦
              inl (record {
                begins = same;
                has = same-some more _ (new (first - before))
                    (ap new (sym same) ∙ is) joined.run;
              })
          | inr not_before ↦ inr (apart at more (sym (joined.others at not_after not_before) ∙ is) not_after not_before)
        ]
      ]

  -- the runs are runs again
  pub joined-runs : AreLongestRuns bound new
  joined-runs = record {
    some = λ at more is.
        elim (new-run at more is) [ inl new ↦ omega (arith, new.has, some) | inr old ↦ are.some at more old.is ];
    within = λ at more is.
        elim (new-run at more is) [
          | inl new ↦ omega (arith, new.begins, new.has, before-up, after-within)
          | inr old ↦ are.within at more old.is
        ];
    apart = λ at more next extra is other later.
        elim (new-run at more is) [
          | inl new ↦ elim (new-run next extra other) [
            | inl same ↦ omega (arith, new.begins, same.begins, later)
            | inr old ↦ elim old.lies [
              | inl front ↦ omega (arith, front, new.begins, later)
              | inr behind ↦ omega (arith, behind, new.begins, new.has, before-up)
            ]
          ]
          | inr old ↦ elim (new-run next extra other) [
            | inl new ↦ elim old.lies [
              | inl front ↦ omega (arith, front, new.begins)
              | inr behind ↦ omega (arith, behind, new.begins, later)
            ]
            | inr next_old ↦ are.apart at more next extra old.is next_old.is later
          ]
        ];
  }

  -- a cluster of the joined run
  in-joined : (cluster : ℕ) → first - before ≤ cluster → cluster < first + length + after
      → is_covered new cluster ≡ true
  in-joined cluster from below =
      covered-yes new cluster (first - before) (before + length + after) joined.run from
      (omega (arith, below, before-up))

  -- and what it was before
  was : (cluster : ℕ) → first - before ≤ cluster → cluster < first + length + after
      → (is_covered old cluster || in_run first length cluster) ≡ true
  was cluster from below =
      elim (cases_lt cluster first) [
        | inl front ↦
            let run = joined.is_before.run (omega (arith, from, front)) in
            or-left _ _ (covered-yes old cluster (first - before) before run.1 from (omega (arith, front, run.0)))
        | inr reached ↦ elim (cases_lt cluster (first + length)) [
          | inl inside ↦ or-right (is_covered old cluster) _ (in-run-yes first length cluster reached inside)
          | inr behind ↦
              let run = joined.is_after.run (omega (arith, behind, below)) in
              or-left _ _ (covered-yes old cluster (first + length) after run behind below)
        ]
      ]

  still : (cluster at more : ℕ) → old at ≡ Some more → at ≤ cluster → cluster < at + more
      → is_covered new cluster ≡ true
  still cluster at more is begins ends =
      elim (cases_eq at (first + length)) [
        | inl end ↦ elim (zero-or-more after) [
          | inl none ↦ let gone = ap old end ∙ joined.is_after.none none in cc
          | inr some_after ↦
              let same = same-some more after (old (first + length)) (ap old (sym end) ∙ is)
              (joined.is_after.run some_after) in
              in-joined cluster (omega (arith, end, begins)) (omega (arith, end, same, ends))
        ]
        | inr not_after ↦ elim (cases_eq at (first - before)) [
          | inl front ↦
              elim (outside at more is) [
                | inl up ↦ in-joined cluster (omega (arith, front, begins)) (omega (arith, up, ends))
                | inr behind ↦ absurd (omega (arith, behind, front, some))
              ]
          | inr not_before ↦ covered-yes new cluster at more (joined.others at not_after not_before ∙ is) begins ends
        ]
      ]

  -- the clusters are the old ones and those of the new run
  pub joined-covered : (cluster : ℕ) → is_covered new cluster ≡ is_covered old cluster || in_run first length cluster
  joined-covered cluster = same-from-both _ _
      (λ is.
      let run = covered-run new cluster is in
      elim (new-run run.first run.length run.is) [
        | inl new ↦ was cluster (omega (arith, new.begins, run.begins))
            (omega (arith, new.begins, new.has, run.ends, before-up))
        | inr apart ↦ or-left _ _ (covered-yes old cluster run.first run.length apart.is run.begins run.ends)
      ])
      (λ is.
      elim (or-cases (is_covered old cluster) _ is) [
        | inl has ↦ let run = covered-run old cluster has in still cluster run.first run.length run.is run.begins
            run.ends
        | inr new ↦ let parts = in-run-parts first length cluster new in in-joined cluster (omega (arith, parts.0))
            (omega (arith, parts.1))
      ])
