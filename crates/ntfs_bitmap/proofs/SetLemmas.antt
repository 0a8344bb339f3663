-- What a set has that was made by a test: the numbers below its bound that pass.
use Rattle.std.proofs.Common.{◌≡◌, ◌+◌, ◌<◌, ◌≤◌, ◌||◌, ◌&&◌, nat_le, nat_lt, ℕ, zero, suc, Bool, true, false, [], ◌∷◌, ◌++◌, length, get_or, inl, inr, refl, sym, ap, ap₂, ◌∙◌, arith, length-append}
use Rattle.std.proofs.Math.ListN.{get_or-append}
use Rattle.std.proofs.Math.Seq.{get_or-append_seam}
use Rattle.std.proofs.lemmas.Bool.{cases_eq, cases_lt, le-ltb, lt-leb}
use Rattle.std.proofs.lemmas.List.{get_or_default, get_or_past, same_lists}
use Rattle.ntfs_bitmap.specs.ClusterSet.{Clusters, answers, bound_of, with_claim, has, in_run, set_where}

length-answers : (test : ℕ → Bool) (n : ℕ) → length (answers test n) ≡ n
length-answers test zero = refl
length-answers test (suc n) = omega (arith, length-append (answers test n) (test n ∷ []), length-answers test n)

answers-at : (test : ℕ → Bool) (n c : ℕ) → c < n → get_or (answers test n) c false ≡ test c
answers-at test zero c below = absurd (omega (arith, below))
answers-at test (suc n) c below =
    elim (cases_eq c n) [
      | inl same ↦
          let at : c ≡ length (answers test n) = same ∙ sym (length-answers test n) in
          ap (λ k. get_or (answers test n ++ test n ∷ []) k false) at
          ∙ get_or-append_seam (answers test n) (test n) [] false ∙ ap test (sym same)
      | inr differ ↦
          let before : c < n = omega (arith, below, differ) in
          let inside : c < length (answers test n) = omega (arith, before, length-answers test n) in
          get_or-append (answers test n) (test n ∷ []) false c inside ∙ answers-at test n c before
    ]

answers-same : (f g : ℕ → Bool) (n : ℕ) → ((c : ℕ) → c < n → f c ≡ g c) → answers f n ≡ answers g n
answers-same f g zero same = refl
answers-same f g (suc n) same =
    ap₂ (λ flags flag. flags ++ flag ∷ []) (answers-same f g n (λ c below. same c (omega (arith, below))))
    (same n (omega arith))

pub bound-set_where : (bound : ℕ) (test : ℕ → Bool) → bound_of (set_where bound test) ≡ bound
unfolding bound_of set_where
bound-set_where bound test = length-answers test bound

pub has-set_where : (bound : ℕ) (test : ℕ → Bool) (cluster : ℕ) → cluster < bound
    → has (set_where bound test) cluster ≡ test cluster
unfolding has set_where
has-set_where bound test cluster below = answers-at test bound cluster below

-- sets with one bound and the same numbers are equal
pub set_where-same : (bound : ℕ) (f g : ℕ → Bool) → ((cluster : ℕ) → cluster < bound → f cluster ≡ g cluster)
    → set_where bound f ≡ set_where bound g
unfolding set_where
set_where-same bound f g same = ap (λ flags. record { flags = flags }) (answers-same f g bound same)

-- no number from the bound on is in a set
pub has-past : (set : Clusters) (cluster : ℕ) → bound_of set ≤ cluster → has set cluster ≡ false
unfolding has bound_of
has-past set cluster past = get_or_past set.flags cluster false past

pub has-below : (set : Clusters) (cluster : ℕ) → has set cluster ≡ true → cluster < bound_of set
has-below set cluster is =
    elim (cases_lt cluster (bound_of set)) [ inl below ↦ below | inr past ↦ let no = has-past set cluster past in cc ]

-- a set is that of the numbers below its bound that are in
pub set_where-has : (set : Clusters) → set_where (bound_of set) (has set) ≡ set
unfolding set_where bound_of has
set_where-has set = ap (λ flags. record { flags = flags })
    (same_lists (answers (λ c. get_or set.flags c false) (length set.flags)) set.flags
    (length-answers _ (length set.flags))
    (λ k d within.
    let inside : k < length set.flags =
    omega (arith, within, length-answers (λ c. get_or set.flags c false) (length set.flags)) in
    get_or_default (answers (λ c. get_or set.flags c false) (length set.flags)) k d false within
    ∙ answers-at (λ c. get_or set.flags c false) (length set.flags) k inside
    ∙ get_or_default set.flags k false d inside))

-- sets with one bound and the same numbers are equal
pub same-set : (a b : Clusters) → bound_of a ≡ bound_of b → ((cluster : ℕ) → has a cluster ≡ has b cluster) → a ≡ b
same-set a b bounds members =
    sym (set_where-has a) ∙ set_where-same (bound_of a) (has a) (has b) (λ cluster below. members cluster)
    ∙ ap (λ n. set_where n (has b)) bounds ∙ set_where-has b

pub bound-claimed : (first length : ℕ) (set : Clusters) → bound_of (with_claim first length set) ≡ bound_of set
unfolding with_claim
bound-claimed first length set = bound-set_where (bound_of set) _

-- a number is in after a claim if it was, or if it is in the run
pub has-claimed : (first length : ℕ) (set : Clusters) (cluster : ℕ) → cluster < bound_of set
    → has (with_claim first length set) cluster ≡ has set cluster || in_run first length cluster
unfolding with_claim
has-claimed first length set cluster below = has-set_where (bound_of set) _ cluster below

and-false : (a : Bool) → a && false ≡ false
and-false true = refl
and-false false = refl

in-no-run : (first cluster : ℕ) → in_run first 0 cluster ≡ false
in-no-run first cluster =
    elim (cases_lt cluster first) [
      | inl below ↦ ap (λ b. b && nat_lt cluster (first + 0)) (lt-leb first cluster below)
      | inr from ↦ ap (λ b. nat_le first cluster && b) (le-ltb cluster (first + 0) (omega (arith, from)))
          ∙ and-false (nat_le first cluster)
    ]

or-false : (a : Bool) → a || false ≡ a
or-false true = refl
or-false false = refl

-- a run of length 0 adds nothing
pub claimed-none : (first : ℕ) (set : Clusters) → with_claim first 0 set ≡ set
claimed-none first set = same-set (with_claim first 0 set) set (bound-claimed first 0 set) (λ cluster.
    elim (cases_lt cluster (bound_of set)) [
      | inl below ↦ has-claimed first 0 set cluster below ∙ ap (λ b. has set cluster || b) (in-no-run first cluster)
          ∙ or-false (has set cluster)
      | inr past ↦ has-past (with_claim first 0 set) cluster (omega (arith, past, bound-claimed first 0 set))
          ∙ sym (has-past set cluster past)
    ])
