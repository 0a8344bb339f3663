-- A sweep, cluster by cluster.
use Rattle.std.proofs.Common.{◌≡◌, ◌+◌, ◌-◌, ◌<◌, ◌≤◌, ◌==◌, ◌&&◌, ℕ, zero, suc, Bool, true, false, ltb, leb, List, [], ◌∷◌, ◌++◌, drop, get_or, length, Option, Some, None, refl, sym, ap, ap₂, ◌∙◌, arith, subst, if◌then◌else◌}
use Rattle.std.specs.Prelude.{All, filter}
use Rattle.std.specs.List.Sorted.{IsNonDecreasing, IsNonDecreasingBy}
use Rattle.std.proofs.lemmas.Bool.{eqb-false, eqb-true, leb-true, ltb-false, ltb-true}
use Rattle.std.proofs.lemmas.Grind.{common_steps}
use Rattle.std.proofs.lemmas.List.{drop_more}
use Rattle.std.proofs.lemmas.List.Elements.{All-head, All-nil, All-same, All-weaker, filter_passes}
use Rattle.ntfs_owners.specs.Sweep.{HasCluster, IsSwept, Span, due_row, span_end, span_first, next_cluster, no_span, rows_cluster, span_lines, swept_lines, upto}
use Rattle.ntfs_owners.proofs.SpanLemmas.{lines-rows}
use Rattle.ntfs_owners.proofs.SweepLemmas.{has_row, later-head, swept-active, swept-gap, swept-jump}

drop_past : {X : Type 0} (xs : List X) (i : ℕ) → length xs ≤ i → drop i xs ≡ []
drop_past xs i past = grind (arith, common_steps)

-- ---- the cluster that is looked at next

-- what is known of it
pub record IsNext (spans : List Span) (end at cluster : ℕ) (active : List ℕ) (waiting : List (ℕ × ℕ)) : Type 0 where
  pub swept : IsSwept (span_first spans) (span_end spans) (length spans) cluster active waiting
  pub behind : at ≤ cluster
  pub below : cluster < end
  pub gap : (k : ℕ) → at ≤ k → k < cluster → span_lines k spans ≡ []

no-lines : (k : ℕ) (spans : List Span) → filter (has_row (span_first spans) (span_end spans) k) (upto (length spans)) ≡ [] → span_lines k spans ≡ []
unfolding rows_cluster
no-lines k spans none = lines-rows k spans ∙ ap (rows_cluster k spans) none

same-some : {x y : ℕ} → Some x ≡ Some y → x ≡ y
same-some is = cc

pub next-is : (spans : List Span) (end at cluster : ℕ) (active : List ℕ) (waiting : List (ℕ × ℕ)) → All (λ (s : Span). s.end ≤ end) spans → All (λ i. at < span_end spans i) active
    → IsSwept (span_first spans) (span_end spans) (length spans) at active waiting → next_cluster at active waiting ≡ Some cluster → IsNext spans end at cluster active waiting
next-is spans end at cluster (x ∷ active) waiting ends going swept is =
    let same = same-some is in
    let lt = All-head (λ i. at < span_end spans i) x active going in
    let there = (All-head (λ i. (span_first spans i ≤ at) × (i < length spans)) x active swept.begun).1 in
    let le = ends x no_span there in
    record {
      swept = subst (λ k. IsSwept (span_first spans) (span_end spans) (length spans) k (x ∷ active) waiting) same swept;
      behind = omega (arith, same);
      below = omega (arith, same, lt, le);
      gap = λ k low high. absurd (omega (arith, same, low, high));
    }
next-is spans end at cluster [] [] ends going swept is = absurd cc
next-is spans end at cluster [] (s ∷ waiting) ends going swept is =
    let same = same-some is in
    let low = All-head (λ (s : ℕ × ℕ). at ≤ s.0) s waiting swept.later in
    let tied = All-head (λ (s : ℕ × ℕ). (s.0 ≡ span_first spans s.1) × (s.0 < span_end spans s.1) × (s.1 < length spans)) s waiting swept.tied in
    let le = ends s.1 no_span tied.2 in
    let lt = tied.1 in
    let at_least : All (λ (s : ℕ × ℕ). cluster ≤ s.0) (s ∷ waiting) = λ k d below. let up = swept.sorted 0 k d (omega arith) below in omega (arith, up, same) in
    record {
      swept = swept-jump (span_first spans) (span_end spans) (length spans) at cluster (s ∷ waiting) (omega (arith, same, low)) swept at_least;
      behind = omega (arith, same, low);
      below = omega (arith, same, lt, le);
      gap = λ k from high. no-lines k spans (swept-gap (span_first spans) (span_end spans) (length spans) at k (s ∷ waiting) from swept
          (All-weaker (λ (s : ℕ × ℕ). cluster ≤ s.0) (λ s. k < s.0) (λ s up. omega (arith, up, high)) (s ∷ waiting) at_least));
    }

-- ---- lines

one-more : (spans : List Span) (at end : ℕ) → at < end → swept_lines spans at (end - at) ≡ span_lines at spans ++ swept_lines spans (at + 1) (end - (at + 1))
unfolding swept_lines
one-more spans at end lt =
    let count : end - at ≡ suc (end - (at + 1)) = omega (arith, lt) in
    let next : suc at ≡ at + 1 = omega arith in
    ap (swept_lines spans at) count ∙ ap (λ k. span_lines at spans ++ swept_lines spans k (end - (at + 1))) next

over-gap : (spans : List Span) (at end count : ℕ) → at + count ≤ end → ((k : ℕ) → at ≤ k → k < at + count → span_lines k spans ≡ []) → swept_lines spans at (end - at) ≡ swept_lines spans (at + count) (end - (at + count))
over-gap spans at end zero le gap = let e : at ≡ at + 0 = omega arith in ap (λ k. swept_lines spans k (end - k)) e
over-gap spans at end (suc count) le gap =
    let e : (at + 1) + count ≡ at + suc count = omega arith in
    one-more spans at end (omega (arith, le))
    ∙ ap (λ xs. xs ++ swept_lines spans (at + 1) (end - (at + 1))) (gap at (omega arith) (omega arith))
    ∙ over-gap spans (at + 1) end count (omega (arith, le)) (λ k low high. gap k (omega (arith, low)) (omega (arith, high)))
    ∙ ap (λ k. swept_lines spans k (end - k)) e

pub next-lines : (spans : List Span) (at end cluster : ℕ) → at ≤ cluster → cluster < end → ((k : ℕ) → at ≤ k → k < cluster → span_lines k spans ≡ [])
    → swept_lines spans at (end - at) ≡ span_lines cluster spans ++ swept_lines spans (cluster + 1) (end - (cluster + 1))
next-lines spans at end cluster le lt gap =
    let e : at + (cluster - at) ≡ cluster = omega (arith, le) in
    over-gap spans at end (cluster - at) (omega (arith, e, lt)) (λ k low high. gap k low (omega (arith, high, e)))
    ∙ ap (λ k. swept_lines spans k (end - k)) e ∙ one-more spans cluster end lt

no-more : (spans : List Span) (at count : ℕ) → ((k : ℕ) → at ≤ k → span_lines k spans ≡ []) → swept_lines spans at count ≡ []
unfolding swept_lines
no-more spans at zero none = refl
no-more spans at (suc count) none = ap₂ (λ a b. a ++ b) (none at (omega arith)) (no-more spans (suc at) count (λ k low. none k (omega (arith, low))))

-- no row is active, and none waits
pub end-lines : (spans : List Span) (at count : ℕ) (active : List ℕ) (waiting : List (ℕ × ℕ)) → IsSwept (span_first spans) (span_end spans) (length spans) at active waiting → next_cluster at active waiting ≡ None
    → swept_lines spans at count ≡ []
end-lines spans at count (x ∷ active) waiting swept is = absurd cc
end-lines spans at count [] (s ∷ waiting) swept is = absurd cc
end-lines spans at count [] [] swept is =
    no-more spans at count (λ k low. no-lines k spans (swept-gap (span_first spans) (span_end spans) (length spans) at k [] low swept (All-nil (λ (s : ℕ × ℕ). k < s.0))))

-- ---- the rows that begin

abbrev due_by : ℕ → ℕ × ℕ → Bool → Option ℕ
due_by at s b = if b then Some s.1 else None

-- the next row is due
pub due-some : (at row : ℕ) (waiting : List (ℕ × ℕ)) → due_row at waiting ≡ Some row → (s : ℕ × ℕ) × (rest : List (ℕ × ℕ)) × (waiting ≡ s ∷ rest) × (s.0 ≡ at) × (s.1 ≡ row)
due-some at row [] is = absurd cc
due-some at row (s ∷ rest) is = by_case (s.0 == at) refl is
  where
    by_case : (b : Bool) → (s.0 == at) ≡ b → due_by at s b ≡ Some row → (t : ℕ × ℕ) × (others : List (ℕ × ℕ)) × ((s ∷ rest) ≡ (t ∷ others)) × (t.0 ≡ at) × (t.1 ≡ row)
    by_case true same is = (s, rest, refl, eqb-true s.0 at same, cc)
    by_case false other is = absurd cc

-- none is
pub due-none : (at : ℕ) (waiting : List (ℕ × ℕ)) → All (λ (s : ℕ × ℕ). at ≤ s.0) waiting → IsNonDecreasingBy (λ (s : ℕ × ℕ). s.0) waiting → due_row at waiting ≡ None → All (λ (s : ℕ × ℕ). at < s.0) waiting
due-none at [] later sorted is = All-nil (λ (s : ℕ × ℕ). at < s.0)
due-none at (s ∷ rest) later sorted is = by_case (s.0 == at) refl is
  where
    by_case : (b : Bool) → (s.0 == at) ≡ b → due_by at s b ≡ None → All (λ (s : ℕ × ℕ). at < s.0) (s ∷ rest)
    by_case true same is = absurd cc
    by_case false other is =
        let le = All-head (λ (s : ℕ × ℕ). at ≤ s.0) s rest later in
        let not : s.0 ≡ at → ⊥ = eqb-false s.0 at other in
        later-head rest s at sorted (strictly s.0 at le not)
      where
        strictly : (a b : ℕ) → b ≤ a → (a ≡ b → ⊥) → b < a
        strictly a b le not = by_order (ltb b a) refl
          where
            by_order : (t : Bool) → ltb b a ≡ t → b < a
            by_order true is = ltb-true b a is
            by_order false is = let ge = ltb-false b a is in absurd (not (omega (arith, le, ge)))

-- ---- the active rows

and-left : (a b : Bool) → (a && b) ≡ true → a ≡ true
and-left true b is = refl
and-left false b is = is

and-right : (a b : Bool) → (a && b) ≡ true → b ≡ true
and-right true b is = is
and-right false b is = absurd cc

pub active-lines : (spans : List Span) (at : ℕ) (active : List ℕ) (waiting : List (ℕ × ℕ)) → IsSwept (span_first spans) (span_end spans) (length spans) at active waiting → IsNonDecreasing active
    → All (λ (s : ℕ × ℕ). at < s.0) waiting → span_lines at spans ≡ rows_cluster at spans active
active-lines spans at active waiting swept order later =
    lines-rows at spans ∙ ap (rows_cluster at spans) (sym (swept-active (span_first spans) (span_end spans) (length spans) at active waiting swept later order))

pub active-have : (spans : List Span) (at : ℕ) (active : List ℕ) (waiting : List (ℕ × ℕ)) → IsSwept (span_first spans) (span_end spans) (length spans) at active waiting → IsNonDecreasing active
    → All (λ (s : ℕ × ℕ). at < s.0) waiting → All (HasCluster spans at) active
active-have spans at active waiting swept order later =
    let has = has_row (span_first spans) (span_end spans) at in
    let passes = All-same (λ i. has i ≡ true) active (filter has (upto (length spans))) (swept-active (span_first spans) (span_end spans) (length spans) at active waiting swept later order) (filter_passes has (upto (length spans))) in
    λ k d below.
    let is = passes k d below in
    let i = get_or active k d in
    record {
      there = (swept.begun k d below).1;
      first = leb-true (span_first spans i) at (and-left (leb (span_first spans i) at) (ltb at (span_end spans i)) is);
      below = ltb-true at (span_end spans i) (and-right (leb (span_first spans i) at) (ltb at (span_end spans i)) is);
    }

pub ended-go : (spans : List Span) (at : ℕ) (active : List ℕ) → All (λ i. at < span_end spans i) (filter (λ i. ltb at (span_end spans i)) active)
ended-go spans at active = All-weaker (λ i. ltb at (span_end spans i) ≡ true) (λ i. at < span_end spans i) (λ i is. ltb-true at (span_end spans i) is) (filter (λ i. ltb at (span_end spans i)) active)
    (filter_passes (λ i. ltb at (span_end spans i)) active)

-- the same rows by other words
pub swept-by : (first end : ℕ → ℕ) (m at : ℕ) (active rows : List ℕ) (waiting rest : List (ℕ × ℕ)) → active ≡ rows → waiting ≡ rest → IsSwept first end m at active waiting → IsSwept first end m at rows rest
swept-by first end m at active rows waiting rest same is swept =
    subst (λ rows. IsSwept first end m at rows rest) same (subst (λ waiting. IsSwept first end m at active waiting) is swept)

same-rest : {X : Type 0} {x y : X} {xs ys : List X} → (x ∷ xs) ≡ (y ∷ ys) → xs ≡ ys
same-rest is = cc

pub drop-tail : {X : Type 0} (xs : List X) (i : ℕ) (y : X) (ys : List X) → drop i xs ≡ y ∷ ys → drop (i + 1) xs ≡ ys
drop-tail xs i y ys is = by_order (ltb i (length xs)) refl
  where
    by_order : (b : Bool) → ltb i (length xs) ≡ b → drop (i + 1) xs ≡ ys
    by_order true lt = same-rest (sym (drop_more xs i y (ltb-true i (length xs) lt)) ∙ is)
    by_order false past = let none = drop_past xs i (ltb-false i (length xs) past) in let e = sym none ∙ is in absurd cc
