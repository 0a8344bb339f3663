-- Claims of runs, one owner after the other.
use Rattle.std.proofs.Common.{◌≡◌, ◌+◌, ◌<◌, ◌≤◌, ◌==◌, ◌||◌, inl, inr, ℕ, zero, suc, Bool, true, false, List, [], ◌∷◌, ◌++◌, Option, Some, None, Ok, Err, drop, get_or, length, take, refl, sym, ap, ◌∙◌, arith, if◌then◌else◌, nat_lt}
use Rattle.std.proofs.Math.Seq.{take-suc}
use Rattle.std.proofs.lemmas.Bool.{cases_eq}
use Rattle.std.proofs.lemmas.Bool.Decides.{nat_tests}
use Rattle.std.proofs.lemmas.Grind.{flat_map-append}
use Rattle.std.proofs.lemmas.List.{append-nil, drop_all, drop_more, take_all}
use Rattle.std.proofs.lemmas.List.Concat.{flat_map-cons}
use Rattle.std.specs.List.{flat_map}
use Rattle.ntfs_base.specs.declared.refusal.Rule.TheVariants as rule
use Rattle.ntfs_bitmap.proofs.RunsLemmas.{true_or_false}
use Rattle.ntfs_bitmap.proofs.SetLemmas.{bound-set_where, has-set_where, set_where-same}
use Rattle.ntfs_bitmap.specs.ClusterSet.{Clusters, IsTaken, bound_of, empty_set, has, in_run, set_where, with_claim}
use Rattle.ntfs_rules.specs.Clusters.{c8, count_if, first_double, is_owned, times}
use Rattle.ntfs_check_clusters.specs.Outcome.{claimed_once, claimed_set}
use Rattle.ntfs_rules.specs.Outcome.{unless_number}
use Rattle.ntfs_rules.specs.declared.fault.CheckFault.TheVariants as check
use Rattle.ntfs_runs.specs.Clusters.{row}
use Rattle.ntfs_survey.specs.Owned.{Claim, LiesBelow, cell_claims, owner_claims}
use Rattle.ntfs_survey.specs.declared.owners.Owner.{Owner}

-- the two lists claim each cluster as often
abbrev pub ClaimAlike : List (Claim ℕ) → List (Claim ℕ) → Type 0
ClaimAlike a b = (k : ℕ) → times k a ≡ times k b

pub times-append : (k : ℕ) (a b : List (Claim ℕ)) → times k (a ++ b) ≡ times k a + times k b
unfolding times
times-append k [] b = omega arith
times-append k (claim ∷ a) b = omega (arith, times-append k a b)

if-none : {A : Type 0} (n m : ℕ) (x y : A) → n ≡ m → (if n == 0 then x else y) ≡ (if m == 0 then x else y)
if-none n m x y same = rw same refl

-- what is taken counts by its clusters alone
pub first_double-alike : (a b claims : List (Claim ℕ)) → ClaimAlike a b → first_double a claims ≡ first_double b claims
unfolding first_double times
first_double-alike a b [] same = refl
first_double-alike a b (claim ∷ claims) same =
    ap (λ (rest : Option ℕ). if times claim.cluster a == 0 then rest else Some claim.number)
    (first_double-alike (claim ∷ a) (claim ∷ b) claims (λ k. ap (λ n. count_if (claim.cluster == k) + n) (same k)))
    ∙ if-none (times claim.cluster a) (times claim.cluster b) (first_double (claim ∷ b) claims) (Some claim.number) (same claim.cluster)

-- the claims of a run of one record
abbrev pub run_claims : ℕ → ℕ → ℕ → ℕ → ℕ → List (Claim ℕ)
run_claims r place vcn first length = cell_claims r place vcn (row length (Some first))

count-other : (a k : ℕ) → a < k → count_if (a == k) ≡ 0
count-other a k below = grind (arith, nat_tests)

count-joined : (first length k : ℕ) → count_if (first == k) + count_if (in_run (first + 1) length k) ≡ count_if (in_run first (suc length) k)
count-joined first length k = grind (arith, nat_tests)

nonzero : (n : ℕ) → 1 ≤ n → (n == 0) ≡ false
nonzero n some = grind (arith, nat_tests)

count-none : (first k : ℕ) → count_if (in_run first 0 k) ≡ 0
count-none first k = grind (arith, nat_tests)

-- a cluster is claimed by a run once, where it lies in it
pub run-times : (r place vcn first length k : ℕ) → times k (run_claims r place vcn first length) ≡ count_if (in_run first length k)
unfolding times cell_claims row
run-times r place vcn first zero k = sym (count-none first k)
run-times r place vcn first (suc length) k =
    ap (λ n. count_if (first == k) + n) (run-times r place (suc vcn) (first + 1) length k) ∙ count-joined first length k

-- a run none of whose clusters is taken is passed, and taken then
pub run-free : (taken later rest : List (Claim ℕ)) (r place vcn first length : ℕ)
    → ((k : ℕ) → first ≤ k → k < first + length → times k taken ≡ 0)
    → ((k : ℕ) → times k later ≡ times k taken + count_if (in_run first length k))
    → first_double taken (run_claims r place vcn first length ++ rest) ≡ first_double later rest
unfolding cell_claims row first_double times
run-free taken later rest r place vcn first zero free after =
    first_double-alike taken later rest (λ k. omega (arith, after k, count-none first k))
run-free taken later rest r place vcn first (suc length) free after =
    let claim : Claim ℕ = record { cluster = first; number = r; place = place; vcn = vcn } in
    if-none (times first taken) 0 (first_double (claim ∷ taken) (run_claims r place (suc vcn) (first + 1) length ++ rest)) (Some r) (free first (omega arith) (omega arith))
    ∙ run-free (claim ∷ taken) later rest r place (suc vcn) (first + 1) length
    (λ k above below. omega (arith, free k (omega (arith, above)) (omega (arith, below)), count-other first k (omega (arith, above))))
    (λ k. omega (arith, after k, count-joined first length k))

-- a run one of whose clusters is taken is named by its record
pub run-taken : (taken rest : List (Claim ℕ)) (r place vcn first length k : ℕ) → first ≤ k → k < first + length → 1 ≤ times k taken
    → first_double taken (run_claims r place vcn first length ++ rest) ≡ Some r
unfolding cell_claims row first_double times
run-taken taken rest r place vcn first zero k above below some = absurd (omega (arith, above, below))
run-taken taken rest r place vcn first (suc length) k above below some =
    let claim : Claim ℕ = record { cluster = first; number = r; place = place; vcn = vcn } in
    elim (cases_eq first k) [
      | inl same ↦ step (times first taken) (first_double (claim ∷ taken) (run_claims r place (suc vcn) (first + 1) length ++ rest)) (ap (λ j. times j taken) same) some
      | inr other ↦ either (times first taken) (first_double (claim ∷ taken) (run_claims r place (suc vcn) (first + 1) length ++ rest))
          (run-taken (claim ∷ taken) rest r place (suc vcn) (first + 1) length k (omega (arith, above, other)) (omega (arith, below)) (omega (arith, some)))
    ]
  where
    step : (n : ℕ) (o : Option ℕ) → n ≡ times k taken → 1 ≤ times k taken → (if n == 0 then o else Some r) ≡ Some r
    step n o is more = rw (nonzero n (omega (arith, is, more))) refl

    either : (n : ℕ) (o : Option ℕ) → o ≡ Some r → (if n == 0 then o else Some r) ≡ Some r
    either zero o is = is
    either (suc n) o is = rw (nonzero (suc n) (omega arith)) refl

-- ---- a set and claims

-- the claims of these owners, one after the other
abbrev pub claims_of : List Owner → List (Claim ℕ)
claims_of owners = flat_map owner_claims owners

not-below : (n : ℕ) → 0 < n → nat_lt 0 n ≡ true
not-below n some = grind (arith, nat_tests)

counted : (n : ℕ) (b : Bool) → nat_lt 0 (n + count_if b) ≡ nat_lt 0 n || b
counted zero true = refl
counted zero false = refl
counted (suc n) true = not-below (suc n + 1) (omega arith) ∙ sym (ap (λ b. b || true) (not-below (suc n) (omega arith)))
counted (suc n) false = not-below (suc n + 0) (omega arith) ∙ sym (ap (λ b. b || false) (not-below (suc n) (omega arith)))

zero-times : (n : ℕ) → nat_lt 0 n ≡ false → n ≡ 0
zero-times n is = grind (arith, nat_tests)

some-times : (n : ℕ) → nat_lt 0 n ≡ true → 1 ≤ n
some-times n is = grind (arith, nat_tests)

-- a cluster is owned by claims and an owner's where it is by either
owned-more : (taken : List (Claim ℕ)) (owner : Owner) (k : ℕ) → is_owned (taken ++ owner_claims owner) k ≡ is_owned taken k || in_run owner.first owner.length k
unfolding is_owned
owned-more taken owner k =
    ap (nat_lt 0) (times-append k taken (owner_claims owner) ∙ ap (λ n. times k taken + n) (run-times owner.number owner.place owner.vcn owner.first owner.length k))
    ∙ counted (times k taken) (in_run owner.first owner.length k)

pub has-claimed : (n : ℕ) (taken : List (Claim ℕ)) (k : ℕ) → k < n → has (claimed_set n taken) k ≡ is_owned taken k
unfolding claimed_set
has-claimed n taken k below = has-set_where n (is_owned taken) k below

pub bound-claims : (n : ℕ) (taken : List (Claim ℕ)) → bound_of (claimed_set n taken) ≡ n
unfolding claimed_set
bound-claims n taken = bound-set_where n (is_owned taken)

-- the set with an owner's run
claimed-more : (n : ℕ) (taken : List (Claim ℕ)) (owner : Owner) → with_claim owner.first owner.length (claimed_set n taken) ≡ claimed_set n (taken ++ owner_claims owner)
unfolding with_claim claimed_set
claimed-more n taken owner =
    let set = set_where n (is_owned taken) in
    ap (λ bound. set_where bound (λ k. has set k || in_run owner.first owner.length k)) (bound-set_where n (is_owned taken))
    ∙ set_where-same n (λ k. has set k || in_run owner.first owner.length k) (is_owned (taken ++ owner_claims owner))
    (λ k below. ap (λ b. b || in_run owner.first owner.length k) (has-set_where n (is_owned taken) k below) ∙ sym (owned-more taken owner k))

-- ---- owner by owner

abbrev pub no_owner : Owner
no_owner = record { first = 0; length = 0; number = 0; place = 0; vcn = 0 }

claims-next : (owners : List Owner) (i : ℕ) → i < length owners → claims_of (take (i + 1) owners) ≡ claims_of (take i owners) ++ owner_claims (get_or owners i no_owner)
claims-next owners i lt =
    let next : i + 1 ≡ suc i = omega arith in
    ap (λ k. claims_of (take k owners)) next
    ∙ ap claims_of (take-suc owners i no_owner lt)
    ∙ flat_map-append owner_claims (take i owners) (get_or owners i no_owner ∷ [])
    ∙ ap (λ rest. claims_of (take i owners) ++ rest) (flat_map-cons owner_claims (get_or owners i no_owner) [] ∙ append-nil (owner_claims (get_or owners i no_owner)))

claims-left : (owners : List Owner) (i : ℕ) → i < length owners → claims_of (drop i owners) ≡ owner_claims (get_or owners i no_owner) ++ claims_of (drop (i + 1) owners)
claims-left owners i lt = ap claims_of (drop_more owners i no_owner lt) ∙ flat_map-cons owner_claims (get_or owners i no_owner) (drop (i + 1) owners)

-- the set after one owner more
pub set-next : (n i : ℕ) (owners : List Owner) (set new : Clusters) → i < length owners → set ≡ claimed_set n (claims_of (take i owners))
    → new ≡ with_claim (get_or owners i no_owner).first (get_or owners i no_owner).length set → new ≡ claimed_set n (claims_of (take (i + 1) owners))
set-next n i owners set new lt is added =
    let owner = get_or owners i no_owner in
    added ∙ ap (with_claim owner.first owner.length) is ∙ claimed-more n (claims_of (take i owners)) owner
    ∙ ap (claimed_set n) (sym (claims-next owners i lt))

free-times : (n k : ℕ) (taken : List (Claim ℕ)) (set : Clusters) → set ≡ claimed_set n taken → k < n → (has set k ≡ true → ⊥) → times k taken ≡ 0
unfolding is_owned
free-times n k taken set is below free =
    elim (true_or_false (has set k)) [
      | inl is_in ↦ absurd (free is_in)
      | inr is_out ↦ zero-times (times k taken) (sym (ap (λ s. has s k) is ∙ has-claimed n taken k below) ∙ is_out)
    ]

-- what is left of the search for a cluster that is claimed twice, past an owner none of whose clusters is taken
pub double-next : (n i : ℕ) (owners : List Owner) (set : Clusters) (found : Option ℕ) → i < length owners → LiesBelow n (get_or owners i no_owner) → set ≡ claimed_set n (claims_of (take i owners))
    → ((k : ℕ) → IsTaken set (get_or owners i no_owner).first (get_or owners i no_owner).length k → ⊥)
    → first_double (claims_of (take i owners)) (claims_of (drop i owners)) ≡ found
    → first_double (claims_of (take (i + 1) owners)) (claims_of (drop (i + 1) owners)) ≡ found
double-next n i owners set found lt lies is free same =
    let owner = get_or owners i no_owner in
    let taken = claims_of (take i owners) in
    sym (run-free taken (claims_of (take (i + 1) owners)) (claims_of (drop (i + 1) owners)) owner.number owner.place owner.vcn owner.first owner.length
    (λ k above below. free-times n k taken set is (omega (arith, below, lies.within)) (λ inside. free k (record { from = above; below = below; is_in = inside })))
    (λ k. ap (times k) (claims-next owners i lt) ∙ times-append k taken (owner_claims owner) ∙ ap (λ m. times k taken + m) (run-times owner.number owner.place owner.vcn owner.first owner.length k)))
    ∙ ap (first_double taken) (sym (claims-left owners i lt))
    ∙ same

-- an owner one of whose clusters is taken is the one that is found
pub double-found : (n i k : ℕ) (owners : List Owner) (set : Clusters) (found : Option ℕ) → i < length owners → LiesBelow n (get_or owners i no_owner) → set ≡ claimed_set n (claims_of (take i owners))
    → IsTaken set (get_or owners i no_owner).first (get_or owners i no_owner).length k
    → first_double (claims_of (take i owners)) (claims_of (drop i owners)) ≡ found → found ≡ Some (get_or owners i no_owner).number
unfolding is_owned
double-found n i k owners set found lt lies is taken_is same =
    let owner = get_or owners i no_owner in
    let taken = claims_of (take i owners) in
    let some = some-times (times k taken) (sym (ap (λ s. has s k) is ∙ has-claimed n taken k (omega (arith, taken_is.below, lies.within))) ∙ taken_is.is_in) in
    sym same ∙ ap (first_double taken) (claims-left owners i lt)
    ∙ run-taken taken (claims_of (drop (i + 1) owners)) owner.number owner.place owner.vcn owner.first owner.length k taken_is.from taken_is.below some

-- no owner is left
pub double-none : (i : ℕ) (owners : List Owner) (found : Option ℕ) → length owners ≤ i → first_double (claims_of (take i owners)) (claims_of (drop i owners)) ≡ found → found ≡ None
unfolding first_double
double-none i owners found past same = sym same ∙ ap (λ rest. first_double (claims_of (take i owners)) (claims_of rest)) (drop_all i owners past)

pub set-all : (n i : ℕ) (owners : List Owner) (set : Clusters) → length owners ≤ i → set ≡ claimed_set n (claims_of (take i owners)) → set ≡ claimed_set n (claims_of owners)
set-all n i owners set past is = is ∙ ap (λ xs. claimed_set n (claims_of xs)) (take_all i owners past)

-- ---- the answer

pub once-found : (n r : ℕ) (claims : List (Claim ℕ)) → c8 claims ≡ Some r → claimed_once n claims ≡ Err (check.Damaged rule.C8 r)
unfolding claimed_once
once-found n r claims is = ap (λ (o : Option ℕ). unless_number rule.C8 o (claimed_set n claims)) is

pub once-none : (n : ℕ) (claims : List (Claim ℕ)) (set : Clusters) → c8 claims ≡ None → set ≡ claimed_set n claims → claimed_once n claims ≡ Ok set
unfolding claimed_once
once-none n claims set is same = ap (λ (o : Option ℕ). unless_number rule.C8 o (claimed_set n claims)) is ∙ ap Ok (sym same)

-- ---- the beginning

pub claimed-none : (n : ℕ) → empty_set n ≡ claimed_set n []
unfolding claimed_set is_owned times
claimed-none n = set_where-same n (λ k. false) (is_owned []) (λ k below. refl)

pub double-all : (claims : List (Claim ℕ)) → first_double [] claims ≡ c8 claims
unfolding c8
double-all claims = refl
