-- The rows of a range at the beginning of a sweep.
use Rattle.std.proofs.Common.{◌≡◌, ◌+◌, ◌-◌, ◌<◌, ◌≤◌, ℕ, suc, Bool, true, false, ltb, List, [], ◌∷◌, ◌++◌, drop, get_or, length, map, max, min, Option, Some, None, refl, sym, ap, ◌∙◌, append_assoc, arith, subst, if◌then◌else◌}
use Rattle.std.specs.Prelude.{All, sum_by}
use Rattle.std.specs.List.Sorted.{IsNonDecreasingBy, IsPermutation}
use Rattle.std.proofs.lemmas.Bool.{ltb-true}
use Rattle.std.proofs.lemmas.List.{drop_more, get_or-map}
use Rattle.std.proofs.lemmas.List.Elements.{All-append, All-cons, All-nil, All-same}
use Rattle.std.proofs.lemmas.List.Sorted.{All-permutation, sum_by-IsPermutation}
use Rattle.std.proofs.lemmas.List.Sums.{sum_by-cons, sum_by_push}
use Rattle.ntfs_runs.specs.declared.run.Run.{Run}
use Rattle.ntfs_owners.specs.Held.{Held}
use Rattle.ntfs_owners.specs.Sweep.{IsSwept, LiesBetween, Span, span_end, span_first, held_spans, no_span, row_spans, row_span, run_spans, starts_from, upto}
use Rattle.ntfs_owners.specs.declared.row.Row.{Row}
use Rattle.ntfs_owners.proofs.SweepLemmas.{swept-start}

-- ---- rows lie in the range

clip-lies : (from end : ℕ) (text : List ℕ) (vcn first high : ℕ) (some : Bool) → ltb (max first from) (min high end) ≡ some
    → All (LiesBetween from end) (if some then record { text = text; vcn = vcn; first = max first from; end = min high end } ∷ [] else [])
clip-lies from end text vcn first high true is =
    All-cons (LiesBetween from end) (record { text = text; vcn = vcn; first = max first from; end = min high end }) []
    (let lt = ltb-true (max first from) (min high end) is in record { some = lt; low = omega arith; high = omega arith }) (All-nil (LiesBetween from end))
clip-lies from end text vcn first high false is = All-nil (LiesBetween from end)

row-lies : (from end : ℕ) (text : List ℕ) (vcn count : ℕ) (lcn : Option ℕ) → All (LiesBetween from end) (row_spans from end text vcn count lcn)
row-lies from end text vcn count None = All-nil (LiesBetween from end)
row-lies from end text vcn count (Some first) = clip-lies from end text (vcn + (max first from - first)) first (first + count) (ltb (max first from) (min (first + count) end)) refl

runs-lie : (from end : ℕ) (text : List ℕ) (vcn : ℕ) (runs : List Run) → All (LiesBetween from end) (run_spans from end text vcn runs)
unfolding run_spans
runs-lie from end text vcn [] = All-nil (LiesBetween from end)
runs-lie from end text vcn (run ∷ runs) =
    All-append (LiesBetween from end) (row_spans from end text vcn run.length run.lcn) (run_spans from end text (vcn + run.length) runs)
    (row-lies from end text vcn run.length run.lcn) (runs-lie from end text (vcn + run.length) runs)

held-lie : (from end : ℕ) (held : List Held) → All (LiesBetween from end) (held_spans from end held)
unfolding held_spans
held-lie from end [] = All-nil (LiesBetween from end)
held-lie from end (h ∷ held) =
    All-append (LiesBetween from end) (run_spans from end h.text h.lowest h.runs) (held_spans from end held) (runs-lie from end h.text h.lowest h.runs) (held-lie from end held)

pub rows-lie : (from end : ℕ) (held : List Held) (spans : List Span) → spans ≡ held_spans from end held → All (LiesBetween from end) spans
rows-lie from end held spans is = All-same (LiesBetween from end) spans (held_spans from end held) is (held-lie from end held)

-- ---- their first clusters and numbers

starts-sum : (f : ℕ → ℕ) (n : ℕ) (spans : List Span) → sum_by f (upto n) + sum_by (λ (s : ℕ × ℕ). f s.1) (starts_from n spans) ≡ sum_by f (upto (n + length spans))
starts-sum f n [] = let e : n + 0 ≡ n = omega arith in let same = ap (λ m. sum_by f (upto m)) e in omega (arith, same)
starts-sum f n (span ∷ spans) =
    let c = sum_by-cons (λ (s : ℕ × ℕ). f s.1) (span.first, n) (starts_from (suc n) spans) in
    let p = sum_by_push f (upto n) n in
    let rest = starts-sum f (suc n) spans in
    let e : suc n + length spans ≡ n + suc (length spans) = omega arith in
    let same = ap (λ m. sum_by f (upto m)) e in
    omega (arith, c, p, rest, same)

abbrev Tied : List Span → ℕ × ℕ → Type 0
Tied all s = (s.0 ≡ span_first all s.1) × (s.0 < span_end all s.1) × (s.1 < length all)

starts-tied : (from end n : ℕ) (all spans : List Span) → All (LiesBetween from end) all → n + length spans ≡ length all → drop n all ≡ spans → All (Tied all) (starts_from n spans)
starts-tied from end n all [] lies long is = All-nil (Tied all)
starts-tied from end n all (span ∷ spans) lies long is =
    let lt : n < length all = omega (arith, long) in
    let parts = sym (drop_more all n no_span lt) ∙ is in
    let here : get_or all n no_span ≡ span = head parts in
    let rest : drop (n + 1) all ≡ spans = tail parts in
    let next : n + 1 ≡ suc n = omega arith in
    let row = lies n no_span lt in
    All-cons (Tied all) (span.first, n) (starts_from (suc n) spans)
    (sym (ap (λ (s : Span). s.first) here), subst (λ (s : Span). s.first < (get_or all n no_span).end) here row.some, lt)
    (starts-tied from end (suc n) all spans lies (omega (arith, long)) (ap (λ k. drop k all) (sym next) ∙ rest))
  where
    head : {x y : Span} {xs ys : List Span} → (x ∷ xs) ≡ (y ∷ ys) → x ≡ y
    head is = cc

    tail : {x y : Span} {xs ys : List Span} → (x ∷ xs) ≡ (y ∷ ys) → xs ≡ ys
    tail is = cc

starts-low : (from end n : ℕ) (spans : List Span) → All (LiesBetween from end) spans → All (λ (s : ℕ × ℕ). from ≤ s.0) (starts_from n spans)
starts-low from end n [] lies = All-nil (λ (s : ℕ × ℕ). from ≤ s.0)
starts-low from end n (span ∷ spans) lies =
    All-cons (λ (s : ℕ × ℕ). from ≤ s.0) (span.first, n) (starts_from (suc n) spans) (lies 0 no_span (omega arith)).low
    (starts-low from end (suc n) spans (λ k d below. lies (suc k) d (omega (arith, below))))

-- before the first cluster all rows wait
pub starts-swept : (from end : ℕ) (spans : List Span) (starts : List (ℕ × ℕ)) → All (LiesBetween from end) spans → IsPermutation (starts_from 0 spans) starts → IsNonDecreasingBy (λ (s : ℕ × ℕ). s.0) starts
    → IsSwept (span_first spans) (span_end spans) (length spans) from [] starts
starts-swept from end spans starts lies moved sorted =
    swept-start (span_first spans) (span_end spans) (length spans) from starts
    (λ f. let p = sum_by-IsPermutation (λ (s : ℕ × ℕ). f s.1) (starts_from 0 spans) starts moved in let s = starts-sum f 0 spans in
    let e : 0 + length spans ≡ length spans = omega arith in let same = ap (λ m. sum_by f (upto m)) e in omega (arith, p, s, same))
    (λ i lt. let row = lies i no_span lt in let a = row.some in let b = row.low in omega (arith, a, b))
    (All-permutation (λ (s : ℕ × ℕ). from ≤ s.0) (starts_from 0 spans) starts moved (starts-low from end 0 spans lies))
    (All-permutation (Tied spans) (starts_from 0 spans) starts moved (starts-tied from end 0 spans spans lies (omega arith) refl))
    sorted

-- one row more
pub starts-next : (n : ℕ) (spans : List Span) (old new all : List (ℕ × ℕ)) (first : ℕ) → n < length spans → first ≡ (get_or spans n no_span).first → new ≡ old ++ (first, n) ∷ []
    → old ++ starts_from n (drop n spans) ≡ all → new ++ starts_from (n + 1) (drop (n + 1) spans) ≡ all
starts-next n spans old new all first lt is added same =
    let next : suc n ≡ n + 1 = omega arith in
    ap (λ xs. xs ++ starts_from (n + 1) (drop (n + 1) spans)) added
    ∙ append_assoc old ((first, n) ∷ []) (starts_from (n + 1) (drop (n + 1) spans))
    ∙ ap (λ k. old ++ ((k, n) ∷ starts_from (n + 1) (drop (n + 1) spans))) is
    ∙ ap (λ k. old ++ (((get_or spans n no_span).first, n) ∷ starts_from k (drop (n + 1) spans))) (sym next)
    ∙ ap (λ xs. old ++ starts_from n xs) (sym (drop_more spans n no_span lt)) ∙ same

-- a row by its number
pub span-at : (rows : List Row) (i : ℕ) (x : Row) → i < length rows → x ≡ get_or rows i x → get_or (map row_span rows) i no_span ≡ row_span x
span-at rows i x lt is = get_or-map row_span rows i x no_span lt ∙ ap row_span (sym is)
