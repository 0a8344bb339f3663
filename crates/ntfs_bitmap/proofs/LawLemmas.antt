-- What holds of claims, counts and bits.
use Rattle.std.proofs.Common.{◌≡◌, ◌↔◌, ◌+◌, ◌-◌, ◌*◌, ◌/◌, ◌%◌, ◌<◌, ◌≤◌, ◌||◌, ◌++◌, ℕ, zero, suc, Bool, true, false, List, [], ◌∷◌, length, inl, inr, refl, sym, ap, ap₂, subst, ◌∙◌, arith, length-append, get_or, nat_eq, slice_index, if◌then◌else◌}
use Rattle.std.proofs.Math.ListN.{get_or-append}
use Rattle.std.proofs.Math.Seq.{get_or-append_right}
use Rattle.std.proofs.lemmas.Bool.{cases_eq, cases_lt, cond-true, cond-false}
use Rattle.std.proofs.lemmas.List.{get_or_default, get_or_push}
use Rattle.std.proofs.lemmas.List.Elements.{Contains-append_cases, Contains-append_left, Contains-append_right}
use Rattle.std.specs.Int.{bit_at}
use Rattle.std.specs.List.{Contains}
use Rattle.std.specs.List.Sorted.{IsStrictlyIncreasing}
use Rattle.ntfs_bitmap.specs.Bits.{bit_of}
use Rattle.ntfs_bitmap.specs.ClusterSet.{Clusters, bound_of, with_claim, count_below, count_where, empty_set, has, in_run, members}
use Rattle.ntfs_bitmap.proofs.SetLemmas.{bound-claimed, bound-set_where, has-claimed, has-past, has-set_where, same-set}
use Rattle.ntfs_bitmap.proofs.JoinLemmas.{in-run-parts, in-run-yes}
use Rattle.ntfs_bitmap.proofs.RunsLemmas.{or-cases, or-left, or-right, same-from-both, true_or_false}
use Rattle.ntfs_bitmap.proofs.CountLemmas.{count-none}

-- ---- claims

pub has-empty : (bound cluster : ℕ) → has (empty_set bound) cluster ≡ false
has-empty bound cluster =
    elim (cases_lt cluster bound) [
      | inl below ↦ has-set_where bound (λ _. false) cluster below
      | inr past ↦ has-past (empty_set bound) cluster (omega (arith, past, bound-set_where bound (λ _. false)))
    ]

-- a run that lies before a number hasn't it
in-run-past : (first length cluster : ℕ) → first + length ≤ cluster → in_run first length cluster ≡ false
in-run-past first length cluster past =
    elim (true_or_false (in_run first length cluster)) [
      | inl is ↦ let parts = in-run-parts first length cluster is in absurd (omega (arith, parts.1, past))
      | inr is ↦ is
    ]

or-both : (a b : Bool) → a ≡ false → b ≡ false → a || b ≡ false
or-both false b no_a no_b = no_b
or-both true b no_a no_b = cc

pub claimed-has : (first length : ℕ) (set : Clusters) (cluster : ℕ) → first + length ≤ bound_of set
    → has (with_claim first length set) cluster ≡ has set cluster || in_run first length cluster
claimed-has first length set cluster within =
    elim (cases_lt cluster (bound_of set)) [
      | inl below ↦ has-claimed first length set cluster below
      | inr past ↦ has-past (with_claim first length set) cluster (omega (arith, past, bound-claimed first length set))
          ∙ sym (or-both _ _ (has-past set cluster past)
          (in-run-past first length cluster (omega (arith, past, within))))
    ]

or-swap : (a b c : Bool) → (a || b) || c ≡ (a || c) || b
or-swap true b c = refl
or-swap false true true = refl
or-swap false true false = refl
or-swap false false true = refl
or-swap false false false = refl

or-assoc : (a b c : Bool) → (a || b) || c ≡ a || (b || c)
or-assoc true b c = refl
or-assoc false b c = refl

-- a set of one bound with two claims
twice : (first length next more : ℕ) (set : Clusters) (cluster : ℕ) → cluster < bound_of set
    → has (with_claim first length (with_claim next more set)) cluster
    ≡ (has set cluster || in_run next more cluster) || in_run first length cluster
twice first length next more set cluster below =
    has-claimed first length (with_claim next more set) cluster (omega (arith, below, bound-claimed next more set))
    ∙ ap (λ b. b || in_run first length cluster) (has-claimed next more set cluster below)

bound-twice : (first length next more : ℕ) (set : Clusters)
    → bound_of (with_claim first length (with_claim next more set)) ≡ bound_of set
bound-twice first length next more set =
    bound-claimed first length (with_claim next more set) ∙ bound-claimed next more set

-- sets with one bound and the same numbers below it
same-below : (a b : Clusters) → bound_of a ≡ bound_of b
    → ((cluster : ℕ) → cluster < bound_of a → has a cluster ≡ has b cluster) → a ≡ b
same-below a b bounds members = same-set a b bounds (λ cluster.
    elim (cases_lt cluster (bound_of a)) [
      | inl below ↦ members cluster below
      | inr past ↦ has-past a cluster past ∙ sym (has-past b cluster (omega (arith, past, bounds)))
    ])

pub claimed-swap : (first length next more : ℕ) (set : Clusters)
    → with_claim first length (with_claim next more set) ≡ with_claim next more (with_claim first length set)
claimed-swap first length next more set =
    same-below (with_claim first length (with_claim next more set)) (with_claim next more (with_claim first length set))
    (bound-twice first length next more set ∙ sym (bound-twice next more first length set))
    (λ cluster below.
    let inside : cluster < bound_of set = omega (arith, below, bound-twice first length next more set) in
    twice first length next more set cluster inside
    ∙ or-swap (has set cluster) (in_run next more cluster) (in_run first length cluster)
    ∙ sym (twice next more first length set cluster inside))

-- runs in a row
in-row : (first length more cluster : ℕ)
    → in_run first length cluster || in_run (first + length) more cluster ≡ in_run first (length + more) cluster
in-row first length more cluster = same-from-both _ _
    (λ is.
    elim (or-cases (in_run first length cluster) _ is) [
      | inl here ↦ let parts = in-run-parts first length cluster here in
          in-run-yes first (length + more) cluster parts.0 (omega (arith, parts.1))
      | inr behind ↦ let parts = in-run-parts (first + length) more cluster behind in
          in-run-yes first (length + more) cluster (omega (arith, parts.0)) (omega (arith, parts.1))
    ])
    (λ is.
    let parts = in-run-parts first (length + more) cluster is in
    elim (cases_lt cluster (first + length)) [
      | inl front ↦ or-left _ _ (in-run-yes first length cluster parts.0 front)
      | inr behind ↦
          or-right (in_run first length cluster) _
          (in-run-yes (first + length) more cluster behind (omega (arith, parts.1)))
    ])

pub claimed-row : (first length more : ℕ) (set : Clusters)
    → with_claim (first + length) more (with_claim first length set) ≡ with_claim first (length + more) set
claimed-row first length more set =
    same-below (with_claim (first + length) more (with_claim first length set)) (with_claim first (length + more) set)
    (bound-twice (first + length) more first length set ∙ sym (bound-claimed first (length + more) set))
    (λ cluster below.
    let inside : cluster < bound_of set = omega (arith, below, bound-twice (first + length) more first length set) in
    twice (first + length) more first length set cluster inside
    ∙ or-assoc (has set cluster) (in_run first length cluster) (in_run (first + length) more cluster)
    ∙ ap (λ b. has set cluster || b) (in-row first length more cluster)
    ∙ sym (has-claimed first (length + more) set cluster inside))

-- ---- counts

length-more : (b : Bool) (xs : List ℕ) (n : ℕ) → length (if b then xs ++ n ∷ [] else xs)
    ≡ length xs + (if b then 1 else 0)
length-more true xs n = length-append xs (n ∷ [])
length-more false xs n = omega arith

pub count-members : (set : Clusters) (n : ℕ) → count_below set n ≡ length (members set n)
unfolding count_below
count-members set zero = refl
count-members set (suc n) =
    ap (λ count. count + (if has set n then 1 else 0)) (count-members set n)
    ∙ sym (length-more (has set n) (members set n) n)

pub count-past : (set : Clusters) (n : ℕ) → bound_of set ≤ n → count_below set n ≡ count_below set (bound_of set)
unfolding count_below
count-past set n past =
    let same : n ≡ bound_of set + (n - bound_of set) = omega (arith, past) in
    ap (count_where (has set)) same
    ∙ count-none (has set) (bound_of set) (n - bound_of set) (λ c from below. has-past set c from)

-- ---- bits

pub bit-first : (bits more : List ℕ) (place : ℕ) → place < 8 * length bits
    → bit_of (bits ++ more) place ≡ bit_of bits place
unfolding bit_of
bit-first bits more place below =
    ap (λ b. nat_eq (bit_at b (place % 8)) 1) (get_or-append bits more 0 (place / 8) (omega (arith, below)))

pub bit-second : (bits more : List ℕ) (place : ℕ) → bit_of (bits ++ more) (8 * length bits + place) ≡ bit_of more place
unfolding bit_of
bit-second bits more place =
    let byte : (8 * length bits + place) / 8 ≡ length bits + place / 8 = omega arith in
    let bit : (8 * length bits + place) % 8 ≡ place % 8 = omega arith in
    let behind : (length bits + place / 8) - length bits ≡ place / 8 = omega arith in
    ap₂ (λ k i. nat_eq (bit_at (slice_index (bits ++ more) k) i) 1) byte bit
    ∙ ap (λ b. nat_eq (bit_at b (place % 8)) 1)
    (get_or-append_right bits more (length bits + place / 8) 0 (omega arith) ∙ ap (λ k. get_or more k 0) behind)

-- ---- members

members-yes : (set : Clusters) (n : ℕ) → has set n ≡ true → members set (suc n) ≡ members set n ++ n ∷ []
members-yes set n is = cond-true (has set n) (members set n ++ n ∷ []) (members set n) is

members-no : (set : Clusters) (n : ℕ) → has set n ≡ false → members set (suc n) ≡ members set n
members-no set n is = cond-false (has set n) (members set n ++ n ∷ []) (members set n) is

contains-one : (n : ℕ) → Contains (n ∷ []) n
contains-one n = (0, omega arith, refl)

one-contains : (n cluster : ℕ) → Contains (n ∷ []) cluster → cluster ≡ n
one-contains n cluster (zero, within, is) = sym is
one-contains n cluster (suc k, within, is) = absurd (omega (arith, within))

member-to : (set : Clusters) (n cluster : ℕ) → Contains (members set n) cluster
    → (cluster < n) × (has set cluster ≡ true)
member-to set zero cluster (k, within, is) = absurd (omega (arith, within))
member-to set (suc n) cluster here =
    elim (true_or_false (has set n)) [
      | inl yes_in ↦
          elim (Contains-append_cases (members set n) (n ∷ []) cluster
          (subst (λ (xs : List ℕ). Contains xs cluster) (members-yes set n yes_in) here)) [
            | inl before ↦ let rest = member-to set n cluster before in (omega (arith, rest.0), rest.1)
            | inr last ↦ let same = one-contains n cluster last in (omega (arith, same), ap (has set) same ∙ yes_in)
          ]
      | inr not_in ↦
          let rest = member-to set n cluster
          (subst (λ (xs : List ℕ). Contains xs cluster) (members-no set n not_in) here) in
          (omega (arith, rest.0), rest.1)
    ]

member-from : (set : Clusters) (n cluster : ℕ) → cluster < n → has set cluster ≡ true → Contains (members set n) cluster
member-from set zero cluster below is = absurd (omega (arith, below))
member-from set (suc n) cluster below is =
    elim (true_or_false (has set n)) [
      | inl yes_in ↦ subst (λ (xs : List ℕ). Contains xs cluster) (sym (members-yes set n yes_in))
          (elim (cases_eq cluster n) [
            | inl same ↦
                Contains-append_right (members set n) (n ∷ []) cluster
                (subst (Contains (n ∷ [])) (sym same) (contains-one n))
            | inr differ ↦
                Contains-append_left (members set n) (n ∷ []) cluster
                (member-from set n cluster (omega (arith, below, differ)) is)
          ])
      | inr not_in ↦ subst (λ (xs : List ℕ). Contains xs cluster) (sym (members-no set n not_in))
          (member-from set n cluster (apart-from n cluster below
          (λ same. let has_n = ap (has set) (sym same) ∙ is in cc)) is)
    ]
  where
    apart-from : (n cluster : ℕ) → cluster < suc n → (cluster ≡ n → ⊥) → cluster < n
    apart-from n cluster below differ = omega (arith, below, differ)

pub member-is : (set : Clusters) (n cluster : ℕ)
    → Contains (members set n) cluster ↔ ((cluster < n) × (has set cluster ≡ true))
member-is set n cluster = (member-to set n cluster, λ is. member-from set n cluster is.0 is.1)

ascending-more : (xs : List ℕ) (n : ℕ) → IsStrictlyIncreasing xs → ((k : ℕ) → k < length xs → slice_index xs k < n)
    → IsStrictlyIncreasing (xs ++ n ∷ [])
ascending-more xs n ascend below k within =
    elim (cases_lt (k + 1) (length xs)) [
      | inl inside ↦
          let first = get_or-append xs (n ∷ []) 0 k (omega (arith, inside)) in
          let second = get_or-append xs (n ∷ []) 0 (k + 1) inside in
          omega (arith, first, second, ascend k inside)
      | inr past ↦
          let last : k + 1 ≡ length xs = omega (arith, past, within, length-append xs (n ∷ [])) in
          let first = get_or-append xs (n ∷ []) 0 k (omega (arith, last)) in
          let second = get_or_push xs n 0 (k + 1) (sym last) in
          omega (arith, first, second, below k (omega (arith, last)))
    ]

pub members-ascend : (set : Clusters) (n : ℕ) → IsStrictlyIncreasing (members set n)
members-ascend set zero = λ k within. absurd (omega (arith, within))
members-ascend set (suc n) =
    elim (true_or_false (has set n)) [
      | inl yes_in ↦ subst IsStrictlyIncreasing (sym (members-yes set n yes_in))
          (ascending-more (members set n) n (members-ascend set n)
          (λ k within. (member-to set n (slice_index (members set n) k) (k, within, get_or_default _ k _ 0 within)).0))
      | inr not_in ↦ subst IsStrictlyIncreasing (sym (members-no set n not_in)) (members-ascend set n)
    ]
