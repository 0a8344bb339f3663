-- What an accepted volume is asked for later.
use Rattle.std.proofs.Common.{◌≡◌, ◌≤◌, ◌<◌, ◌+◌, ◌-◌, ◌%◌, ◌^◌, ◌==◌, ◌&&◌, ◌||◌, ◌∙◌, inl, inr, ap, sym, refl, subst, arith, ℕ, zero, suc, Bool, true, false, List, [], ◌∷◌, ◌++◌, length, drop, min, max, get_or, length-append, nat_le, nat_lt, Option, Some, None, Result, Ok, Err, if◌then◌else◌}
use Rattle.std.proofs.lemmas.Bool.{cases_lt}
use Rattle.std.proofs.lemmas.Bool.Decides.{nat_tests}
use Rattle.std.proofs.lemmas.List.{at_drop_all, at_drop_more, get_or_past}
use Rattle.std.proofs.lemmas.List.Elements.{recursion_from_All}
use Rattle.std.specs.Prelude.{All, IfSome, map, not, slice_index}
use Rattle.std.specs.List.{AllByRecursion, flat_map}
use Rattle.ntfs_base.specs.Bytes.{Cluster, number_at}
use Rattle.ntfs_base.specs.Checks.{Check, first_wrong}
use Rattle.ntfs_bitmap.proofs.LawLemmas.{has-empty}
use Rattle.ntfs_bitmap.proofs.RunsLemmas.{true_or_false}
use Rattle.ntfs_bitmap.proofs.SetLemmas.{bound-set_where, set_where-has, set_where-same}
use Rattle.ntfs_bitmap.specs.ClusterSet.{Clusters, IsFree, bound_of, empty_set, has, in_run, set_where}
use Rattle.ntfs_bitmap.specs.Search.{IsLeast}
use Rattle.ntfs_check_fixed.proofs.PlaceLemmas.{all-clusters, run-cells, run-clusters}
use Rattle.ntfs_check_fixed.proofs.FixedLemmas.{all_rows, fixed-is, is-plain}
use Rattle.ntfs_check_fixed.specs.Facts.{AddsClusters, HasNoValue, VolumeFacts, cells_found, gathered_cells, owned_end, facts_of, fixed_in, is_among, is_dirty, value_found, value_in}
use Rattle.ntfs_check_fixed.specs.Rows.{HasNoClusters, found_by, row_check}
use Rattle.ntfs_directory.specs.UpCase.{data_kind}
use Rattle.ntfs_rules.proofs.DataLemmas.{stream-is}
use Rattle.ntfs_rules.specs.Accepts.{claims_in}
use Rattle.ntfs_rules.specs.FixedRecords.{are_in_place, bad_name, c15, row_8, volume_information_kind}
use Rattle.ntfs_rules.specs.VolumeData.{listings, numbers, stream_in, volume_data}
use Rattle.ntfs_runs.proofs.CellsLemmas.{are_cells-some, no_run, vcns-all}
use Rattle.ntfs_runs.specs.Cells.{are_cells, is_cell}
use Rattle.ntfs_runs.specs.Clusters.{row, vcns}
use Rattle.ntfs_runs.specs.declared.run.Run.{Run}
use Rattle.ntfs_stream.proofs.BoolLemmas.{and-left, and-right}
use Rattle.ntfs_survey.specs.Owned.{Claim, LiesBelow, cell_claims, owner_claims}
use Rattle.ntfs_survey.specs.declared.owners.Owner.{Owner}
use Rattle.ntfs_volume.specs.Gather.{Lists}
use Rattle.ntfs_volume.specs.Located.{slots_of}
use Rattle.ntfs_volume.specs.Opened.{Opened}
use Rattle.ntfs_volume.specs.StreamBytes.{clusters_in}
use Rattle.ntfs_volume.specs.Streams.{Gathered, gather_of, lists_of}
use Rattle.ntfs_volume.specs.declared.fault.VolumeFault.{VolumeFault}

-- ---- a run that is added piece by piece

or-none : (b : Bool) → (b || false) ≡ b
or-none true = refl
or-none false = refl

or-three : (a b c : Bool) → ((a || b) || c) ≡ (a || (b || c))
or-three true b c = refl
or-three false b c = refl

none-in-run : (first k : ℕ) → in_run first 0 k ≡ false
none-in-run first k = grind (arith, nat_tests)

first-zero : (first at k : ℕ) → at ≡ first → in_run first (at - first) k ≡ false
first-zero first at k same = let none : at - first ≡ 0 = omega (arith, same) in ap (λ n. in_run first n k) none ∙ none-in-run first k

pub adds-none : (set : Clusters) (first at : ℕ) → at ≡ first → AddsClusters set set (in_run first (at - first))
adds-none set first at same = record { bound = refl; members = λ k. sym (ap (λ b. has set k || b) (first-zero first at k same) ∙ or-none (has set k)) }

run-yes : (first n k : ℕ) → first ≤ k → k < first + n → in_run first n k ≡ true
run-yes first n k from below = grind (arith, nat_tests)

run-before : (first n k : ℕ) → k < first → in_run first n k ≡ false
run-before first n k before = grind (arith, nat_tests)

run-past : (first n k : ℕ) → first + n ≤ k → in_run first n k ≡ false
run-past first n k past = grind (arith, nat_tests)

or-true : (a b : Bool) → b ≡ true → (a || b) ≡ true
or-true true b is = refl
or-true false b is = is

or-first : (a b : Bool) → a ≡ true → (a || b) ≡ true
or-first a b is = rw is refl

or-false : (a b : Bool) → b ≡ false → (a || b) ≡ a
or-false a b is = ap (λ c. a || c) is ∙ or-none a

-- numbers from one on up to another are in the set
abbrev AreIn : Clusters → ℕ → ℕ → Type 0
AreIn set at end = (k : ℕ) → at ≤ k → k < end → has set k ≡ true

taken-before : (set : Clusters) (at end f : ℕ) → IsLeast (IsFree set at end) f → AreIn set at f
taken-before set at end f least k from below = elim (true_or_false (has set k)) [
  | inl is ↦ is
  | inr free ↦ absurd (least.none_below k below (record { reached = from; below = omega (arith, below, least.holds.below); is_free = free }))
]

taken-all : (set : Clusters) (at end : ℕ) → ((k : ℕ) → IsFree set at end k → ⊥) → AreIn set at end
taken-all set at end none k from below = elim (true_or_false (has set k)) [
  | inl is ↦ is
  | inr free ↦ absurd (none k (record { reached = from; below = below; is_free = free }))
]

-- numbers that are in already may be counted with the run
wider : (old set : Clusters) (first at end : ℕ) → first ≤ at → at ≤ end → AddsClusters old set (in_run first (at - first)) → AreIn set at end → AddsClusters old set (in_run first (end - first))
wider old set first at end from to adds are = record {
  bound = adds.bound;
  members = λ k. elim (cases_lt k at) [
    | inl before ↦ adds.members k ∙ ap (λ b. has old k || b) (same k before)
    | inr past ↦ elim (cases_lt k end) [
      | inl below ↦ are k past below ∙ sym (or-true (has old k) (in_run first (end - first) k) (run-yes first (end - first) k (omega (arith, from, past)) (omega (arith, below, from, to))))
      | inr out ↦ adds.members k ∙ ap (λ b. has old k || b) (run-past first (at - first) k (omega (arith, from, past)) ∙ sym (run-past first (end - first) k (omega (arith, out, from, to))))
    ]
  ];
}
  where
    same : (k : ℕ) → k < at → in_run first (at - first) k ≡ in_run first (end - first) k
    same k before = elim (cases_lt k first) [
      | inl low ↦ run-before first (at - first) k low ∙ sym (run-before first (end - first) k low)
      | inr high ↦ run-yes first (at - first) k high (omega (arith, before, from)) ∙ sym (run-yes first (end - first) k high (omega (arith, before, from, to)))
    ]

joined-runs : (first f n k : ℕ) → first ≤ f → (in_run first (f - first) k || in_run f n k) ≡ in_run first (f + n - first) k
joined-runs first f n k from = elim (cases_lt k f) [
  | inl before ↦ or-false (in_run first (f - first) k) (in_run f n k) (run-before f n k before) ∙ front k before
  | inr past ↦ elim (cases_lt k (f + n)) [
    | inl below ↦ or-true (in_run first (f - first) k) (in_run f n k) (run-yes f n k past below) ∙ sym (run-yes first (f + n - first) k (omega (arith, from, past)) (omega (arith, below, from)))
    | inr out ↦ or-false (in_run first (f - first) k) (in_run f n k) (run-past f n k out) ∙ run-past first (f - first) k (omega (arith, from, past)) ∙ sym (run-past first (f + n - first) k (omega (arith, out, from)))
  ]
]
  where
    front : (k : ℕ) → k < f → in_run first (f - first) k ≡ in_run first (f + n - first) k
    front k before = elim (cases_lt k first) [
      | inl low ↦ run-before first (f - first) k low ∙ sym (run-before first (f + n - first) k low)
      | inr high ↦ run-yes first (f - first) k high (omega (arith, before, from)) ∙ sym (run-yes first (f + n - first) k high (omega (arith, before, from)))
    ]

pub piece-added : (old set new : Clusters) (first at end f n : ℕ) → first ≤ at → IsLeast (IsFree set at end) f → AddsClusters old set (in_run first (at - first)) → AddsClusters set new (in_run f n)
    → AddsClusters old new (in_run first (f + n - first))
piece-added old set new first at end f n from least adds more =
    let reached = least.holds.reached in
    let wide = wider old set first at f from reached adds (taken-before set at end f least) in
    record {
      bound = more.bound ∙ adds.bound;
      members = λ k. more.members k ∙ ap (λ b. b || in_run f n k) (wide.members k) ∙ or-three (has old k) (in_run first (f - first) k) (in_run f n k)
          ∙ ap (λ b. has old k || b) (joined-runs first f n k (omega (arith, from, reached)));
    }

pub pieces-added : (old set : Clusters) (first at end n : ℕ) → first ≤ at → at ≤ end → end ≡ first + n → AddsClusters old set (in_run first (at - first)) → ((k : ℕ) → IsFree set at end k → ⊥) → AddsClusters old set (in_run first n)
pieces-added old set first at end n from to is adds none =
    let same : end - first ≡ n = omega (arith, is) in
    subst (λ (m : ℕ). AddsClusters old set (in_run first m)) same (wider old set first at end from to adds (taken-all set at end none))

-- ---- cells

among-row : (n first k : ℕ) → is_among (row n (Some first)) k ≡ in_run first n k
unfolding row is_among
among-row zero first k = sym (none-in-run first k)
among-row (suc n) first k = ap (λ b. (first == k) || b) (among-row n (first + 1) k) ∙ next first n k
  where
    next : (first n k : ℕ) → ((first == k) || in_run (first + 1) n k) ≡ in_run first (suc n) k
    next first n k = grind (arith, nat_tests)

among-holes : (n k : ℕ) → is_among (row n None) k ≡ false
unfolding row is_among
among-holes zero k = refl
among-holes (suc n) k = among-holes n k

among-append : (front rest : List (Option ℕ)) (k : ℕ) → is_among (front ++ rest) k ≡ (is_among front k || is_among rest k)
unfolding is_among
among-append [] rest k = refl
among-append (None ∷ front) rest k = among-append front rest k
among-append (Some cluster ∷ front) rest k = ap (λ b. (cluster == k) || b) (among-append front rest k) ∙ sym (or-three (cluster == k) (is_among front k) (is_among rest k))

among-run : (runs : List Run) (i k : ℕ) → i < length runs
    → is_among (vcns (drop i runs)) k ≡ (is_among (row (get_or runs i no_run).length (get_or runs i no_run).lcn) k || is_among (vcns (drop (i + 1) runs)) k)
unfolding vcns
among-run runs i k lt =
    at_drop_more (λ rs. is_among (vcns rs) k) runs i no_run lt
    ∙ among-append (row (get_or runs i no_run).length (get_or runs i no_run).lcn) (vcns (drop (i + 1) runs)) k

-- a run that adds no cluster
same-among : (runs : List Run) (i k : ℕ) (all set new : Bool) → i < length runs → is_among (row (get_or runs i no_run).length (get_or runs i no_run).lcn) k ≡ false → new ≡ set
    → all ≡ (set || is_among (vcns (drop i runs)) k) → all ≡ (new || is_among (vcns (drop (i + 1) runs)) k)
same-among runs i k all set new lt none same is =
    is ∙ ap (λ b. set || b) (among-run runs i k lt ∙ ap (λ b. b || is_among (vcns (drop (i + 1) runs)) k) none) ∙ ap (λ b. b || is_among (vcns (drop (i + 1) runs)) k) (sym same)

pub hole-among : (runs : List Run) (i k : ℕ) (all : Bool) (set new : Clusters) → i < length runs → (get_or runs i no_run).lcn ≡ None → new ≡ set
    → all ≡ (has set k || is_among (vcns (drop i runs)) k) → all ≡ (has new k || is_among (vcns (drop (i + 1) runs)) k)
hole-among runs i k all set new lt hole same is =
    same-among runs i k all (has set k) (has new k) lt (ap (λ (lcn : Option ℕ). is_among (row (get_or runs i no_run).length lcn) k) hole ∙ among-holes (get_or runs i no_run).length k) (ap (λ (s : Clusters). has s k) same) is

pub empty-among : (runs : List Run) (i k : ℕ) (all : Bool) (set new : Clusters) → i < length runs → (get_or runs i no_run).length ≤ 0 → new ≡ set
    → all ≡ (has set k || is_among (vcns (drop i runs)) k) → all ≡ (has new k || is_among (vcns (drop (i + 1) runs)) k)
unfolding row is_among
empty-among runs i k all set new lt none same is =
    let zero_length : (get_or runs i no_run).length ≡ 0 = omega (arith, none) in
    same-among runs i k all (has set k) (has new k) lt (ap (λ n. is_among (row n (get_or runs i no_run).lcn) k) zero_length) (ap (λ (s : Clusters). has s k) same) is

pub some-among : (runs : List Run) (i k first : ℕ) (all : Bool) (set added new : Clusters) → i < length runs → (get_or runs i no_run).lcn ≡ Some first → new ≡ added → AddsClusters set added (in_run first (get_or runs i no_run).length)
    → all ≡ (has set k || is_among (vcns (drop i runs)) k) → all ≡ (has new k || is_among (vcns (drop (i + 1) runs)) k)
some-among runs i k first all set added new lt lcn same adds is =
    is
    ∙ ap (λ b. has set k || b) (among-run runs i k lt ∙ ap (λ b. b || is_among (vcns (drop (i + 1) runs)) k) (ap (λ (o : Option ℕ). is_among (row (get_or runs i no_run).length o) k) lcn ∙ among-row (get_or runs i no_run).length first k))
    ∙ sym (or-three (has set k) (in_run first (get_or runs i no_run).length k) (is_among (vcns (drop (i + 1) runs)) k))
    ∙ ap (λ b. b || is_among (vcns (drop (i + 1) runs)) k) (sym (adds.members k) ∙ ap (λ (s : Clusters). has s k) (sym same))

pub no-among : (runs : List Run) (i k : ℕ) (all set : Bool) → length runs ≤ i → all ≡ (set || is_among (vcns (drop i runs)) k) → set ≡ all
unfolding is_among
no-among runs i k all set le is = sym (is ∙ ap (λ (cells : List (Option ℕ)). set || is_among cells k) (vcns-all runs i le) ∙ or-none set)

-- a run of clusters lies below the bound
pub run-within : (runs : List Run) (i first n : ℕ) → i < length runs → are_cells true n (vcns (drop i runs)) ≡ true → (get_or runs i no_run).lcn ≡ Some first → 0 < (get_or runs i no_run).length → first + (get_or runs i no_run).length ≤ n
run-within runs i first n lt are lcn some =
    let m = (get_or runs i no_run).length in
    let front = and-left (are_cells true n (row m (get_or runs i no_run).lcn)) (are_cells true n (vcns (drop (i + 1) runs))) (run-cells runs i n lt are) in
    let fits = sym (are_cells-some true n first m) ∙ sym (ap (λ (o : Option ℕ). are_cells true n (row m o)) lcn) ∙ front in
    below m first n fits some
  where
    below : (m first n : ℕ) → nat_le m (n - first) ≡ true → 0 < m → first + m ≤ n
    below m first n is some = let le : m ≤ n - first = grind (arith, nat_tests) in omega (arith, le, some)

-- ---- how many clusters there are

length-clusters : (n first : ℕ) → length (clusters_in (row n (Some first))) ≡ n
unfolding row clusters_in
length-clusters zero first = refl
length-clusters (suc n) first = ap suc (length-clusters n (first + 1))

pub holes-count : (n : ℕ) → 0 ≡ length (clusters_in (row n None))
unfolding row clusters_in
holes-count zero = refl
holes-count (suc n) = holes-count n

pub clusters-count : (n first : ℕ) → n ≡ length (clusters_in (row n (Some first)))
clusters-count n first = sym (length-clusters n first)

pub count-next : (runs : List Run) (i s part all : ℕ) → i < length runs → part ≡ length (clusters_in (row (get_or runs i no_run).length (get_or runs i no_run).lcn)) → s + length (clusters_in (vcns (drop i runs))) ≡ all
    → s + part + length (clusters_in (vcns (drop (i + 1) runs))) ≡ all
count-next runs i s part all lt here is =
    let parts = ap (λ (ks : List ℕ). length ks) (run-clusters runs i lt) in
    omega (arith, parts, length-append (clusters_in (row (get_or runs i no_run).length (get_or runs i no_run).lcn)) (clusters_in (vcns (drop (i + 1) runs))), here, is)

in-place-few : (n vcn : ℕ) (cells : List (Option ℕ)) → are_cells true n cells ≡ true → are_in_place vcn cells ≡ true → length (clusters_in cells) ≤ n - vcn
unfolding are_cells are_in_place clusters_in
in-place-few n vcn [] are place = omega arith
in-place-few n vcn (None ∷ cells) are place = omega (arith, in-place-few n (suc vcn) cells are place)
in-place-few n vcn (Some k ∷ cells) are place =
    let below : k < n = lt-of k n (and-left (is_cell true n (Some k)) (are_cells true n cells) are) in
    let at : k ≡ vcn = eq-of k vcn (and-left (k == vcn) (are_in_place (suc vcn) cells) place) in
    let rest = in-place-few n (suc vcn) cells (and-right (is_cell true n (Some k)) (are_cells true n cells) are) (and-right (k == vcn) (are_in_place (suc vcn) cells) place) in
    omega (arith, below, at, rest)
  where
    lt-of : (a b : ℕ) → nat_lt a b ≡ true → a < b
    lt-of a b is = grind (arith, nat_tests)

    eq-of : (a b : ℕ) → (a == b) ≡ true → a ≡ b
    eq-of a b is = grind (arith, nat_tests)

pub count-end : (runs : List Run) (i s count n : ℕ) → length runs ≤ i → count ≡ min s (2 ^ 64 - 1) → s + length (clusters_in (vcns (drop i runs))) ≡ length (clusters_in (vcns runs))
    → n < 2 ^ 63 → are_cells true n (vcns runs) ≡ true → are_in_place 0 (vcns runs) ≡ true → count ≡ length (clusters_in (vcns runs))
count-end runs i s count n le capped is few are place =
    let none = ap (λ (ks : List ℕ). length ks) (all-clusters runs i le) in
    let most = in-place-few n 0 (vcns runs) are place in
    omega (arith, none, capped, is, few, most)

-- ---- how far a record reaches

end-append : (r : ℕ) (front rest : List (Claim ℕ)) → owned_end r (front ++ rest) ≡ max (owned_end r front) (owned_end r rest)
unfolding owned_end
end-append r [] rest = omega arith
end-append r (claim ∷ front) rest =
    ap (λ n. max (if claim.number == r then claim.cluster + 1 else 0) n) (end-append r front rest)
    ∙ (omega arith)

end-row : (r number place vcn n first : ℕ) → (number == r) ≡ true → 1 ≤ n → owned_end r (cell_claims number place vcn (row n (Some first))) ≡ first + n
unfolding owned_end cell_claims row
end-row r number place vcn zero first own some = absurd (omega (arith, some))
end-row r number place vcn (suc zero) first own some = ap (λ b. max (if b then first + 1 else 0) 0) own ∙ (omega arith)
end-row r number place vcn (suc (suc n)) first own some =
    ap (λ b. max (if b then first + 1 else 0) (owned_end r (cell_claims number place (suc vcn) (row (suc n) (Some (first + 1)))))) own
    ∙ ap (λ m. max (first + 1) m) (end-row r number place (suc vcn) (suc n) (first + 1) own (omega arith)) ∙ (omega arith)

end-other : (r number place vcn n first : ℕ) → (number == r) ≡ false → owned_end r (cell_claims number place vcn (row n (Some first))) ≡ 0
unfolding owned_end cell_claims row
end-other r number place vcn zero first other = refl
end-other r number place vcn (suc n) first other =
    ap (λ b. max (if b then first + 1 else 0) (owned_end r (cell_claims number place (suc vcn) (row n (Some (first + 1)))))) other
    ∙ ap (λ m. max 0 m) (end-other r number place (suc vcn) n (first + 1) other) ∙ (omega arith)

abbrev pub no_owner : Owner
no_owner = record { first = 0; length = 0; number = 0; place = 0; vcn = 0 }

owners-next : (r : ℕ) (owners : List Owner) (i : ℕ) → i < length owners
    → owned_end r (flat_map owner_claims (drop i owners)) ≡ max (owned_end r (owner_claims (get_or owners i no_owner))) (owned_end r (flat_map owner_claims (drop (i + 1) owners)))
owners-next r owners i lt =
    at_drop_more (λ os. owned_end r (flat_map owner_claims os)) owners i no_owner lt
    ∙ end-append r (owner_claims (get_or owners i no_owner)) (flat_map owner_claims (drop (i + 1) owners))

same-number : (a b : ℕ) → a ≡ b → (a == b) ≡ true
same-number a b is = grind (arith, nat_tests)

other-number : (a b : ℕ) → (a ≡ b → ⊥) → (a == b) ≡ false
other-number a b is = grind (arith, nat_tests)

pub own-end : (r sum n : ℕ) (o : Owner) → n < 2 ^ 63 → LiesBelow n o → o.number ≡ r → sum ≡ min (o.first + o.length) (2 ^ 64 - 1) → sum ≡ owned_end r (owner_claims o)
own-end r sum n o few lies own summed =
    let first = end-row r o.number o.place o.vcn o.length o.first (same-number o.number r own) lies.some in
    omega (arith, few, lies.within, first, summed)

pub other-end : (r : ℕ) (o : Owner) → (o.number ≡ r → ⊥) → 0 ≡ owned_end r (owner_claims o)
other-end r o other = sym (end-other r o.number o.place o.vcn o.length o.first (other-number o.number r other))

pub next-end : (r : ℕ) (owners : List Owner) (i all end part next : ℕ) → i < length owners → part ≡ owned_end r (owner_claims (get_or owners i no_owner)) → next ≡ max end part
    → all ≡ max end (owned_end r (flat_map owner_claims (drop i owners))) → all ≡ max next (owned_end r (flat_map owner_claims (drop (i + 1) owners)))
next-end r owners i all end part next lt here is same = let parts = owners-next r owners i lt in omega (arith, here, parts, is, same)

pub last-end : (r : ℕ) (owners : List Owner) (i all end : ℕ) → length owners ≤ i → all ≡ max end (owned_end r (flat_map owner_claims (drop i owners))) → end ≡ all
unfolding owned_end
last-end r owners i all end le same =
    let none = at_drop_all (λ os. owned_end r (flat_map owner_claims os)) owners i le in
    omega (arith, none, same)

-- a record reaches no further than its owners
owner-within : (r n : ℕ) (o : Owner) (b : Bool) → (o.number == r) ≡ b → LiesBelow n o → owned_end r (owner_claims o) ≤ n
owner-within r n o true own lies = let end = end-row r o.number o.place o.vcn o.length o.first own lies.some in omega (arith, end, lies.within)
owner-within r n o false other lies = let none = end-other r o.number o.place o.vcn o.length o.first other in omega (arith, none)

owners-within : (r n : ℕ) (owners : List Owner) → AllByRecursion (LiesBelow n) owners → owned_end r (flat_map owner_claims owners) ≤ n
unfolding owned_end
owners-within r n [] lies = omega arith
owners-within r n (o ∷ owners) lies =
    let parts = end-append r (owner_claims o) (flat_map owner_claims owners) in
    omega (arith, parts, owner-within r n o (o.number == r) refl lies.0, owners-within r n owners lies.1)

pub end-within : (r n : ℕ) (owners : List Owner) → All (LiesBelow n) owners → owned_end r (flat_map owner_claims owners) ≤ n
end-within r n owners lies = owners-within r n owners (recursion_from_All (LiesBelow n) owners lies)

-- ---- the dirty flag

low-bit : (value : List ℕ) → number_at 2 0x0A value % 2 ≡ slice_index value 0x0A % 2
unfolding number_at
low-bit value = omega arith

pub dirty-is : (value : List ℕ) → (slice_index value 0x0A % 2 == 1) ≡ is_dirty value
unfolding is_dirty
dirty-is value = ap (λ n. n == 1) (sym (low-bit value))

pub dirty-short : (value : List ℕ) → length value < 11 → false ≡ is_dirty value
dirty-short value short = ap (λ n. n % 2 == 1) (sym (get_or_past value 0x0A 0 (omega (arith, short)))) ∙ dirty-is value

-- ---- the clusters of two streams

pub fixed-bound : (n : ℕ) (bitmap bad : List (Option ℕ)) → bound_of (fixed_in n bitmap bad) ≡ n
fixed-bound n bitmap bad = bound-set_where n (λ k. is_among bitmap k || is_among bad k)

pub fixed-set : (n : ℕ) (none one both : Clusters) (bitmap bad : List (Option ℕ)) → none ≡ empty_set n → AddsClusters none one (is_among bitmap) → AddsClusters one both (is_among bad) → both ≡ fixed_in n bitmap bad
fixed-set n none one both bitmap bad empty first second =
    let bound : bound_of both ≡ n = second.bound ∙ first.bound ∙ ap bound_of empty ∙ bound-set_where n (λ _. false) in
    sym (set_where-has both) ∙ ap (λ m. set_where m (has both)) bound
    ∙ set_where-same n (has both) (λ k. is_among bitmap k || is_among bad k)
    (λ k below. second.members k ∙ ap (λ b. b || is_among bad k) (first.members k ∙ ap (λ b. b || is_among bitmap k) (ap (λ (s : Clusters). has s k) empty ∙ has-empty n k)))

-- ---- what was found

cells-of : (o : Result (Gathered ℕ) VolumeFault) → gathered_cells (found_by o) ≡ cells_found o
cells-of (Ok found) = refl
cells-of (Err fault) = refl

value-of : (o : Result (Gathered ℕ) VolumeFault) → value_in (found_by o) ≡ value_found o
value-of (Ok found) = refl
value-of (Err fault) = refl

plain-of : (o : Result (Gathered ℕ) VolumeFault) → ((found : Gathered ℕ) → o ≡ Ok found → HasNoClusters found.stream × HasNoValue found.stream)
    → IfSome (found_by o) (λ s. HasNoClusters s.stream) × IfSome (found_by o) (λ s. HasNoValue s.stream)
plain-of (Ok found) plain = plain found refl
plain-of (Err fault) plain = (tt, tt)

pub found-plain : (o : Opened) (f : ℕ → List ℕ) (r kind : ℕ) (name : List ℕ) (found : Option (Gathered ℕ)) → found ≡ found_by (gather_of o.geometry o.map f r kind name)
    → IfSome found (λ s. HasNoClusters s.stream) × IfSome found (λ s. HasNoValue s.stream)
found-plain o f r kind name found is =
    subst (λ (x : Option (Gathered ℕ)). IfSome x (λ s. HasNoClusters s.stream) × IfSome x (λ s. HasNoValue s.stream)) (sym is)
    (plain-of (gather_of o.geometry o.map f r kind name) (λ x given. is-plain o.geometry o.map f r kind name x given))

all-clear : (checks : List (Check ℕ)) → first_wrong checks ≡ None → AllByRecursion (λ (c : Check ℕ). c.holds ≡ true) checks
all-clear [] none = tt
all-clear (c ∷ checks) none = go c.holds refl none (λ rest. all-clear checks rest)
  where
    go : (b : Bool) → c.holds ≡ b → (if b then first_wrong checks else Some c.names) ≡ None → (first_wrong checks ≡ None → AllByRecursion (λ (c : Check ℕ). c.holds ≡ true) checks)
        → (c.holds ≡ true) × AllByRecursion (λ (c : Check ℕ). c.holds ≡ true) checks
    go true is none rest = (is, rest none)
    go false is none rest = absurd cc

row-8-place : (lists : Lists) (o : Result (Gathered ℕ) VolumeFault) → row_8 lists o ≡ true → are_in_place 0 (cells_found o) ≡ true
unfolding row_8 are_in_place
row-8-place lists (Ok found) is =
    let s = found.stream in
    let all = and-right (not (lists 8).is_there) ((s.flags == 0) && (not s.is_resident && ((found.extents == 1) && are_in_place 0 s.cells))) is in
    let further = and-right (s.flags == 0) (not s.is_resident && ((found.extents == 1) && are_in_place 0 s.cells)) all in
    let last = and-right (not s.is_resident) ((found.extents == 1) && are_in_place 0 s.cells) further in
    and-right (found.extents == 1) (are_in_place 0 s.cells) last
row-8-place lists (Err fault) is = refl

pub bad-in-place : (o : Opened) (f : ℕ → List ℕ) (bad : Option (Gathered ℕ)) → bad ≡ found_by (gather_of o.geometry o.map f 8 data_kind bad_name)
    → c15 (volume_data o f).geometry (map (λ (k : Cluster). k.number) (volume_data o f).table) (listings (volume_data o f)) (numbers (volume_data o f)) ≡ None → are_in_place 0 (gathered_cells bad) ≡ true
bad-in-place o f bad is none =
    let clear = all-clear (map (row_check o f) all_rows) (sym (fixed-is o f) ∙ none) in
    ap (λ x. are_in_place 0 (gathered_cells x)) is ∙ ap (are_in_place 0) (cells-of (gather_of o.geometry o.map f 8 data_kind bad_name))
    ∙ row-8-place (lists_of o.geometry f (slots_of o.geometry o.map f)) (gather_of o.geometry o.map f 8 data_kind bad_name) clear.1.1.1.1.1.1.1.0

-- ---- all facts

with_parts : ℕ → Clusters → ℕ → Bool → VolumeFacts
with_parts boot set count dirty = record { boot_end = boot; fixed = set; bad_count = count; dirty = dirty }

pub facts-are : (o : Opened) (f : ℕ → List ℕ) (bitmap bad information : Option (Gathered ℕ)) (boot count : ℕ) (set : Clusters) (dirty : Bool)
    → bitmap ≡ found_by (gather_of o.geometry o.map f 6 data_kind []) → bad ≡ found_by (gather_of o.geometry o.map f 8 data_kind bad_name)
    → information ≡ found_by (gather_of o.geometry o.map f 3 volume_information_kind []) → boot ≡ owned_end 7 (claims_in (volume_data o f))
    → set ≡ fixed_in o.geometry.clusters (gathered_cells bitmap) (gathered_cells bad) → count ≡ length (clusters_in (gathered_cells bad)) → dirty ≡ is_dirty (value_in information)
    → record { boot_end = boot; fixed = set; bad_count = count; dirty = dirty } ≡ facts_of (volume_data o f)
unfolding facts_of volume_data with_parts
facts-are o f bitmap bad information boot count set dirty bitmap_is bad_is information_is boot_is set_is count_is dirty_is =
    let bitmap_cells = ap gathered_cells bitmap_is ∙ cells-of (gather_of o.geometry o.map f 6 data_kind []) ∙ sym (ap cells_found (stream-is o f 6 data_kind [])) in
    let bad_cells = ap gathered_cells bad_is ∙ cells-of (gather_of o.geometry o.map f 8 data_kind bad_name) ∙ sym (ap cells_found (stream-is o f 8 data_kind bad_name)) in
    let value = ap value_in information_is ∙ value-of (gather_of o.geometry o.map f 3 volume_information_kind []) ∙ sym (ap value_found (stream-is o f 3 volume_information_kind [])) in
    ap (λ n. with_parts n set count dirty) boot_is
    ∙ ap (λ (s : Clusters). with_parts (owned_end 7 (claims_in (volume_data o f))) s count dirty)
    (set_is ∙ ap (λ (cells : List (Option ℕ)). fixed_in o.geometry.clusters cells (gathered_cells bad)) bitmap_cells
    ∙ ap (λ (cells : List (Option ℕ)). fixed_in o.geometry.clusters (cells_found (stream_in (volume_data o f) 6 data_kind [])) cells) bad_cells)
    ∙ ap (λ n. with_parts (owned_end 7 (claims_in (volume_data o f))) (facts_of (volume_data o f)).fixed n dirty) (count_is ∙ ap (λ (cells : List (Option ℕ)). length (clusters_in cells)) bad_cells)
    ∙ ap (λ b. with_parts (owned_end 7 (claims_in (volume_data o f))) (facts_of (volume_data o f)).fixed (facts_of (volume_data o f)).bad_count b) (dirty_is ∙ ap is_dirty value)
