-- How often a cluster is claimed: by cells, by runs, by areas.
use Rattle.std.proofs.Common.{◌≡◌, ◌≤◌, ◌+◌, ◌-◌, ◌==◌, ◌&&◌, inl, inr, ℕ, zero, suc, Bool, true, false, List, [], ◌∷◌, ◌++◌, Option, Some, None, refl, ap, ◌∙◌, arith, nat_le, nat_lt, if◌then◌else◌}
use Rattle.std.specs.Prelude.{slice_get, unwrap_or, length}
use Rattle.std.proofs.lemmas.Bool.{eqb-true}
use Rattle.std.proofs.lemmas.Bool.Decides.{nat_tests}
use Rattle.ntfs_make.specs.declared.table.Area.{Area}
use Rattle.ntfs_make.specs.Extents.{unless_empty}
use Rattle.ntfs_make.specs.Streams.{has_area}
use Rattle.ntfs_make.proofs.AreaLemmas.{AllAreas}
use Rattle.ntfs_make.proofs.ApartLemmas.{AllSplit, Split}
use Rattle.ntfs_rules.specs.Clusters.{c8, count_if, first_double, times}
use Rattle.ntfs_runs.specs.Clusters.{row, vcns}
use Rattle.ntfs_runs.specs.declared.run.Run.{Run}
use Rattle.ntfs_survey.specs.Owned.{Claim, cell_claims}
use Rattle.ntfs_made.proofs.RoomLemmas.{Avoids}

-- ---- claims

pub times-append : (k : ℕ) (xs ys : List (Claim ℕ)) → times k (xs ++ ys) ≡ times k xs + times k ys
unfolding times
times-append k [] ys = omega arith
times-append k (x ∷ xs) ys = let rest = times-append k xs ys in omega (arith, rest)

-- a cluster that is taken once at most with all that follow isn't doubled by them
none-double : (taken claims : List (Claim ℕ)) → ((k : ℕ) → times k taken + times k claims ≤ 1) → first_double taken claims ≡ None
unfolding first_double times
none-double taken [] most = refl
none-double taken (claim ∷ claims) most =
    let here = most claim.cluster in
    let one : count_if (claim.cluster == claim.cluster) ≡ 1 = grind (arith, nat_tests) in
    let free : times claim.cluster taken ≡ 0 = omega (arith, here, one) in
    ap (λ n. if n == 0 then first_double (claim ∷ taken) claims else Some claim.number) free
    ∙ none-double (claim ∷ taken) claims (λ k. let all = most k in omega (arith, all))

-- where each cluster is claimed once at most, none is claimed twice
pub single-none : (claims : List (Claim ℕ)) → ((k : ℕ) → times k claims ≤ 1) → c8 claims ≡ None
unfolding c8 times
single-none claims most = none-double [] claims (λ k. let all = most k in omega (arith, all))

-- ---- cells

-- how many cells are cluster k
abbrev pub hits : ℕ → List (Option ℕ) → ℕ
hits k [] = 0
hits k (None ∷ cells) = hits k cells
hits k (Some x ∷ cells) = count_if (x == k) + hits k cells

pub times-cells : (k r place vcn : ℕ) (cells : List (Option ℕ)) → times k (cell_claims r place vcn cells) ≡ hits k cells
unfolding times cell_claims
times-cells k r place vcn [] = refl
times-cells k r place vcn (None ∷ cells) = times-cells k r place (suc vcn) cells
times-cells k r place vcn (Some x ∷ cells) = ap (λ n. count_if (x == k) + n) (times-cells k r place (suc vcn) cells)

hits-append : (k : ℕ) (xs ys : List (Option ℕ)) → hits k (xs ++ ys) ≡ hits k xs + hits k ys
hits-append k [] ys = omega arith
hits-append k (None ∷ xs) ys = hits-append k xs ys
hits-append k (Some x ∷ xs) ys = let rest = hits-append k xs ys in omega (arith, rest)

-- ---- runs

-- whether a cluster is one of so many from a place on
abbrev pub is_within : ℕ → ℕ → ℕ → Bool
is_within start count k = nat_le start k && nat_lt (k - start) count

-- the clusters of a run
abbrev pub run_cells : Run → List (Option ℕ)
run_cells run = row run.length run.lcn

within-none : (start k : ℕ) → 0 ≡ count_if (is_within start 0 k)
within-none start k = grind (arith, nat_tests)

within-more : (start count k : ℕ) → count_if (start == k) + count_if (is_within (start + 1) count k) ≡ count_if (is_within start (suc count) k)
within-more start count k = grind (arith, nat_tests)

pub hits-row : (k count start : ℕ) → hits k (row count (Some start)) ≡ count_if (is_within start count k)
unfolding row
hits-row k zero start = within-none start k
hits-row k (suc count) start = ap (λ n. count_if (start == k) + n) (hits-row k count (start + 1)) ∙ within-more start count k

pub hits-holes : (k count : ℕ) → hits k (row count None) ≡ 0
unfolding row
hits-holes k zero = refl
hits-holes k (suc count) = hits-holes k count

front-step : (k n : ℕ) (lcn : Option ℕ) (runs : List Run) (t : Bool) → n == 0 ≡ t
    → hits k (vcns ((if t then [] else record { length = n; lcn = lcn } ∷ []) ++ runs)) ≡ hits k (row n lcn) + hits k (vcns runs)
unfolding vcns row
front-step k n lcn runs true is =
    let none : hits k (row n lcn) ≡ 0 = ap (λ m. hits k (row m lcn)) (eqb-true n 0 is) in omega (arith, none)
front-step k n lcn runs false is = hits-append k (row n lcn) (vcns runs)

-- a run in front of others, where it isn't empty
pub hits-front : (k : ℕ) (run : Run) (runs : List Run) → hits k (vcns (unless_empty run ++ runs)) ≡ hits k (run_cells run) + hits k (vcns runs)
hits-front k run runs = front-step k run.length run.lcn runs (run.length == 0) refl

-- ---- areas

-- how many of the areas have cluster k
abbrev pub area_hits : ℕ → List Area → ℕ
area_hits k [] = 0
area_hits k (area ∷ areas) = count_if (is_within area.start area.length k) + area_hits k areas

split-other : (k : ℕ) (p q : Area) → is_within p.start p.length k ≡ true → Split p q → count_if (is_within q.start q.length k) ≡ 0
split-other k p q has (inl before) = grind (arith, nat_tests)
split-other k p q has (inr behind) = grind (arith, nat_tests)

-- the cluster of an area lies in none that is apart from it
split-none : (k : ℕ) (p : Area) (areas : List Area) → is_within p.start p.length k ≡ true → AllAreas (Split p) areas → area_hits k areas ≡ 0
split-none k p [] has apart = refl
split-none k p (area ∷ areas) has apart =
    let rest = split-none k p areas has apart.1 in
    let none = split-other k p area has apart.0 in
    omega (arith, rest, none)

has-step : (k : ℕ) (area : Area) (areas : List Area) (t : Bool) → is_within area.start area.length k ≡ t → AllAreas (Split area) areas
    → area_hits k areas ≡ count_if (has_area areas k) → count_if t + area_hits k areas ≡ count_if (if t then true else has_area areas k)
has-step k area areas true has apart rest = let none = split-none k area areas has apart in omega (arith, none)
has-step k area areas false has apart rest = omega (arith, rest)

-- where all areas are apart, a cluster lies in one at most
pub area-once : (k : ℕ) (areas : List Area) → AllSplit areas → area_hits k areas ≡ count_if (has_area areas k)
area-once k [] apart = refl
area-once k (area ∷ areas) apart =
    has-step k area areas (is_within area.start area.length k) refl apart.0 (area-once k areas apart.1)

avoids-none : (k : ℕ) (area : Area) → Avoids k area → is_within area.start area.length k ≡ false
avoids-none k area (inl below) = grind (arith, nat_tests)
avoids-none k area (inr above) = grind (arith, nat_tests)

-- a cluster that all areas avoid lies in none
pub none-has : (k : ℕ) (areas : List Area) → AllAreas (Avoids k) areas → has_area areas k ≡ false
none-has k [] avoid = refl
none-has k (area ∷ areas) avoid =
    ap (λ t. if t then true else has_area areas k) (avoids-none k area avoid.0) ∙ none-has k areas avoid.1

-- ---- areas by their numbers

-- the sum of what a function gives for the numbers below one
abbrev pub sum_below : (ℕ → ℕ) → ℕ → ℕ
sum_below f zero = 0
sum_below f (suc n) = f 0 + sum_below (λ i. f (suc i)) n

pub hits-numbered : (k : ℕ) (none : Area) (areas : List Area)
    → sum_below (λ i. let area = unwrap_or (slice_get areas i) none in count_if (is_within area.start area.length k)) (length areas) ≡ area_hits k areas
hits-numbered k none [] = refl
hits-numbered k none (area ∷ areas) = ap (λ n. count_if (is_within area.start area.length k) + n) (hits-numbered k none areas)
