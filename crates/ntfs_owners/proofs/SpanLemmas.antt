-- The clusters of a range row by row, and the lines of each cluster.
use Rattle.std.proofs.Common.{◌≡◌, ◌+◌, ◌-◌, ◌<◌, ◌≤◌, ◌&&◌, ℕ, zero, suc, Bool, true, false, cond, ltb, leb, List, [], ◌∷◌, ◌++◌, drop, get_or, length, map, max, min, take, Option, Some, None, refl, sym, ap, ap₂, ◌∙◌, arith, append_assoc, if◌then◌else◌}
use Rattle.std.specs.List.{filter}
use Rattle.std.proofs.lemmas.Bool.{le-leb, leb-false, leb-true, lt-ltb, ltb-false, ltb-true}
use Rattle.std.proofs.lemmas.Grind.{common_steps}
use Rattle.std.proofs.lemmas.List.{append-nil, drop_more, take_all, take_more}
use Rattle.std.proofs.lemmas.List.Elements.{filter-append}
use Rattle.ntfs_runs.specs.declared.run.Run.{Run}
use Rattle.ntfs_runs.proofs.CellsLemmas.{no_run}
use Rattle.ntfs_runs.proofs.ClustersLemmas.{next-run}
use Rattle.ntfs_owners.specs.Held.{Held, held_of}
use Rattle.ntfs_owners.specs.declared.holding.Holding.{Holding}
use Rattle.ntfs_owners.specs.OwnerLines.{cluster_line, held_cluster, held_clusters, row_line, runs_cluster}
use Rattle.ntfs_owners.specs.Sweep.{Span, span_end, span_first, held_spans, line_in, no_span, row_spans, rows_cluster, run_spans, span_line, span_lines, swept_lines, upto}
use Rattle.ntfs_owners.proofs.SweepLemmas.{has_row, leb-above, ltb-past}

-- ---- rows are those of the runs

lines-append : (k : ℕ) (xs ys : List Span) → span_lines k (xs ++ ys) ≡ span_lines k xs ++ span_lines k ys
unfolding span_lines
lines-append k [] ys = refl
lines-append k (x ∷ xs) ys = ap (λ rest. span_line k x ++ rest) (lines-append k xs ys) ∙ sym (append_assoc (span_line k x) (span_lines k xs) (span_lines k ys))

abbrev line_if : Bool → List ℕ → List ℕ
line_if b line = if b then line else []

in-both : (a b c d : ℕ) → a ≤ b → c < d → (leb a b && ltb c d) ≡ true
in-both a b c d low high = ap₂ (λ p q. p && q) (le-leb a b low) (lt-ltb c d high)

not-first : (a b c d : ℕ) → b < a → (leb a b && ltb c d) ≡ false
not-first a b c d lt = ap (λ p. p && ltb c d) (leb-above a b lt)

and-false : (a : Bool) → (a && false) ≡ false
and-false true = refl
and-false false = refl

not-second : (a b c d : ℕ) → d ≤ c → (leb a b && ltb c d) ≡ false
not-second a b c d le = ap (λ q. leb a b && q) (ltb-past c d le) ∙ and-false (leb a b)

abbrev clip : ℕ → ℕ → List ℕ → ℕ → ℕ → ℕ → Bool → List Span
clip from end text vcn count first some =
    if some
    then record { text = text; vcn = vcn + (max first from - first); first = max first from; end = min (first + count) end } ∷ []
    else []

-- by where cluster k lies in the run
row-in : (from end k : ℕ) (text : List ℕ) (vcn count first : ℕ) → from ≤ k → k < end
    → (low : Bool) → ltb k first ≡ low → (high : Bool) → ltb k (first + count) ≡ high → (some : Bool) → ltb (max first from) (min (first + count) end) ≡ some
    → span_lines k (clip from end text vcn count first some) ≡ row_line k text vcn count (Some first)
unfolding span_lines
row-in from end k text vcn count first lo hi true before high is true some =
    let lt = ltb-true k first before in
    append-nil _ ∙ ap (λ b. line_if b (cluster_line k text ((vcn + (max first from - first)) + (k - max first from)))) (not-first (max first from) k k (min (first + count) end) (omega (arith, lt)))
    ∙ sym (ap (λ b. line_if b (cluster_line k text (vcn + (k - first)))) (not-first first k k (first + count) lt))
row-in from end k text vcn count first lo hi true before high is false none =
    let lt = ltb-true k first before in
    sym (ap (λ b. line_if b (cluster_line k text (vcn + (k - first)))) (not-first first k k (first + count) lt))
row-in from end k text vcn count first lo hi false from_first false past true some =
    let le = ltb-false k (first + count) past in
    append-nil _ ∙ ap (λ b. line_if b (cluster_line k text ((vcn + (max first from - first)) + (k - max first from)))) (not-second (max first from) k k (min (first + count) end) (omega (arith, le)))
    ∙ sym (ap (λ b. line_if b (cluster_line k text (vcn + (k - first)))) (not-second first k k (first + count) le))
row-in from end k text vcn count first lo hi false from_first false past false none =
    let le = ltb-false k (first + count) past in
    sym (ap (λ b. line_if b (cluster_line k text (vcn + (k - first)))) (not-second first k k (first + count) le))
row-in from end k text vcn count first lo hi false from_first true within true some =
    let le = ltb-false k first from_first in
    let lt = ltb-true k (first + count) within in
    let place : (vcn + (max first from - first)) + (k - max first from) ≡ vcn + (k - first) = omega (arith, le, lo) in
    append-nil _
    ∙ ap₂ (λ b n. line_if b (cluster_line k text n)) (in-both (max first from) k k (min (first + count) end) (omega (arith, le, lo)) (omega (arith, lt, hi))) place
    ∙ sym (ap (λ b. line_if b (cluster_line k text (vcn + (k - first)))) (in-both first k k (first + count) le lt))
row-in from end k text vcn count first lo hi false from_first true within false none =
    let le = ltb-false k first from_first in
    let lt = ltb-true k (first + count) within in
    let past = ltb-false (max first from) (min (first + count) end) none in
    absurd (omega (arith, le, lt, lo, hi, past))

row-clipped : (from end k : ℕ) (text : List ℕ) (vcn count : ℕ) (lcn : Option ℕ) → from ≤ k → k < end
    → span_lines k (row_spans from end text vcn count lcn) ≡ row_line k text vcn count lcn
unfolding span_lines
row-clipped from end k text vcn count None lo hi = refl
row-clipped from end k text vcn count (Some first) lo hi =
    row-in from end k text vcn count first lo hi (ltb k first) refl (ltb k (first + count)) refl (ltb (max first from) (min (first + count) end)) refl

runs-clipped : (from end k : ℕ) (text : List ℕ) (vcn : ℕ) (runs : List Run) → from ≤ k → k < end → span_lines k (run_spans from end text vcn runs) ≡ runs_cluster k text vcn runs
unfolding span_lines run_spans runs_cluster
runs-clipped from end k text vcn [] lo hi = refl
runs-clipped from end k text vcn (run ∷ runs) lo hi =
    lines-append k (row_spans from end text vcn run.length run.lcn) (run_spans from end text (vcn + run.length) runs)
    ∙ ap₂ (λ a b. a ++ b) (row-clipped from end k text vcn run.length run.lcn lo hi) (runs-clipped from end k text (vcn + run.length) runs lo hi)

held-clipped : (from end k : ℕ) (held : List Held) → from ≤ k → k < end → span_lines k (held_spans from end held) ≡ held_cluster k held
unfolding span_lines held_spans held_cluster
held-clipped from end k [] lo hi = refl
held-clipped from end k (h ∷ held) lo hi =
    lines-append k (run_spans from end h.text h.lowest h.runs) (held_spans from end held)
    ∙ ap₂ (λ a b. a ++ b) (runs-clipped from end k h.text h.lowest h.runs lo hi) (held-clipped from end k held lo hi)

-- the lines of a range
range-from : (from end at count : ℕ) (held : List Held) → from ≤ at → at + count ≤ end → swept_lines (held_spans from end held) at count ≡ held_clusters at count held
unfolding swept_lines held_clusters
range-from from end at zero held lo hi = refl
range-from from end at (suc count) held lo hi =
    ap₂ (λ a b. a ++ b) (held-clipped from end at held lo (omega (arith, hi))) (range-from from end (suc at) count held (omega (arith, lo)) (omega (arith, hi)))

pub range-clipped : (from end : ℕ) (held : List Held) → swept_lines (held_spans from end held) from (end - from) ≡ held_clusters from (end - from) held
unfolding swept_lines held_clusters
range-clipped from end held = by_order (leb from end) refl
  where
    none : (n : ℕ) → n ≡ 0 → swept_lines (held_spans from end held) from n ≡ held_clusters from n held
    none n is = ap (λ n. swept_lines (held_spans from end held) from n) is ∙ sym (ap (λ n. held_clusters from n held) is)

    by_order : (b : Bool) → leb from end ≡ b → swept_lines (held_spans from end held) from (end - from) ≡ held_clusters from (end - from) held
    by_order true is = range-from from end from (end - from) held (omega arith) (let le = leb-true from end is in omega (arith, le))
    by_order false is = none (end - from) (let lt = leb-false from end is in omega (arith, lt))

-- ---- rows by their number

rows-append : (k : ℕ) (spans : List Span) (xs ys : List ℕ) → rows_cluster k spans (xs ++ ys) ≡ rows_cluster k spans xs ++ rows_cluster k spans ys
unfolding rows_cluster
rows-append k spans [] ys = refl
rows-append k spans (x ∷ xs) ys =
    ap (λ rest. line_in k (get_or spans x no_span) ++ rest) (rows-append k spans xs ys)
    ∙ sym (append_assoc (line_in k (get_or spans x no_span)) (rows_cluster k spans xs) (rows_cluster k spans ys))

one-row : (k : ℕ) (spans : List Span) (i : ℕ) (b : Bool) → rows_cluster k spans (cond b (i ∷ []) []) ≡ line_if b (line_in k (get_or spans i no_span))
unfolding rows_cluster
one-row k spans i true = append-nil (line_in k (get_or spans i no_span))
one-row k spans i false = refl

lines-one : (k : ℕ) (span : Span) → span_lines k (span ∷ []) ≡ span_line k span
unfolding span_lines
lines-one k span = append-nil (span_line k span)

lines-upto : (k n : ℕ) (spans : List Span) → n ≤ length spans → span_lines k (take n spans) ≡ rows_cluster k spans (filter (has_row (span_first spans) (span_end spans) k) (upto n))
unfolding span_lines rows_cluster
lines-upto k zero spans le = refl
lines-upto k (suc n) spans le =
    let has = has_row (span_first spans) (span_end spans) k in
    let next : n + 1 ≡ suc n = omega arith in
    ap (λ m. span_lines k (take m spans)) (sym next)
    ∙ ap (span_lines k) (take_more spans n no_span (omega (arith, le)))
    ∙ lines-append k (take n spans) (get_or spans n no_span ∷ [])
    ∙ ap₂ (λ a b. a ++ b) (lines-upto k n spans (omega (arith, le))) (lines-one k (get_or spans n no_span) ∙ sym (one-row k spans n (has n)))
    ∙ sym (rows-append k spans (filter has (upto n)) (cond (has n) (n ∷ []) []))
    ∙ sym (ap (rows_cluster k spans) (filter-append has (upto n) (n ∷ [])))

-- the lines of a cluster are those of the rows that have it
pub lines-rows : (k : ℕ) (spans : List Span) → span_lines k spans ≡ rows_cluster k spans (filter (has_row (span_first spans) (span_end spans) k) (upto (length spans)))
lines-rows k spans = ap (span_lines k) (sym (take_all (length spans) spans (omega arith))) ∙ lines-upto k (length spans) spans (omega arith)

-- ---- rows that are added

drop_past : {X : Type 0} (xs : List X) (i : ℕ) → length xs ≤ i → drop i xs ≡ []
drop_past xs i past = grind (arith, common_steps)

pub spans-next : (from end : ℕ) (text : List ℕ) (vcn i : ℕ) (runs : List Run) (old new more all : List Span) → i < length runs
    → more ≡ row_spans from end text vcn (get_or runs i no_run).length (get_or runs i no_run).lcn → new ≡ old ++ more → old ++ run_spans from end text vcn (drop i runs) ≡ all
    → new ++ run_spans from end text (vcn + (get_or runs i no_run).length) (drop (i + 1) runs) ≡ all
unfolding run_spans
spans-next from end text vcn i runs old new more all lt is added same =
    let run = get_or runs i no_run in
    let rest = run_spans from end text (vcn + run.length) (drop (i + 1) runs) in
    ap (λ xs. xs ++ rest) (added ∙ ap (λ xs. old ++ xs) is)
    ∙ append_assoc old (row_spans from end text vcn run.length run.lcn) rest
    ∙ ap (λ xs. old ++ run_spans from end text vcn xs) (sym (next-run runs i no_run lt)) ∙ same

pub spans-last : (from end : ℕ) (text : List ℕ) (vcn i : ℕ) (runs : List Run) (old all : List Span) → length runs ≤ i → old ++ run_spans from end text vcn (drop i runs) ≡ all → old ≡ all
unfolding run_spans
spans-last from end text vcn i runs old all past same =
    sym (append-nil old) ∙ ap (λ xs. old ++ run_spans from end text vcn xs) (sym (drop_past runs i past)) ∙ same

pub held-next : (from end i : ℕ) (held : List Holding) (x : Holding) (old new more all : List Span) → i < length held → x ≡ get_or held i x
    → more ≡ run_spans from end (held_of x).text (held_of x).lowest (held_of x).runs → new ≡ old ++ more → old ++ held_spans from end (map held_of (drop i held)) ≡ all
    → new ++ held_spans from end (map held_of (drop (i + 1) held)) ≡ all
unfolding held_spans
held-next from end i held x old new more all lt is_x is added same =
    let rest = held_spans from end (map held_of (drop (i + 1) held)) in
    ap (λ xs. xs ++ rest) (added ∙ ap (λ xs. old ++ xs) is)
    ∙ append_assoc old (run_spans from end (held_of x).text (held_of x).lowest (held_of x).runs) rest
    ∙ ap (λ (y : Holding). old ++ (run_spans from end (held_of y).text (held_of y).lowest (held_of y).runs ++ rest)) is_x
    ∙ ap (λ xs. old ++ held_spans from end (map held_of xs)) (sym (drop_more held i x lt)) ∙ same

pub held-last : (from end i : ℕ) (held : List Holding) (old all : List Span) → length held ≤ i → old ++ held_spans from end (map held_of (drop i held)) ≡ all → old ≡ all
unfolding held_spans
held-last from end i held old all past same =
    sym (append-nil old) ∙ ap (λ xs. old ++ held_spans from end (map held_of xs)) (sym (drop_past held i past)) ∙ same

-- ---- the lines of rows

pub rows-next : (k i : ℕ) (spans : List Span) (active : List ℕ) → i < length active
    → rows_cluster k spans (drop i active) ≡ line_in k (get_or spans (get_or active i 0) no_span) ++ rows_cluster k spans (drop (i + 1) active)
unfolding rows_cluster
rows-next k i spans active lt = ap (rows_cluster k spans) (drop_more active i 0 lt)

pub rows-last : (k i : ℕ) (spans : List Span) (active : List ℕ) → length active ≤ i → rows_cluster k spans (drop i active) ≡ []
unfolding rows_cluster
rows-last k i spans active past = ap (rows_cluster k spans) (drop_past active i past)
