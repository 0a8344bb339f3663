-- Where the clusters of cells lie.
use Rattle.std.proofs.Common.{◌≡◌, ◌≤◌, ◌<◌, ◌+◌, ◌-◌, ◌^◌, ◌==◌, ◌&&◌, ◌||◌, ℕ, zero, suc, Bool, true, false, List, [], ◌∷◌, ◌++◌, length, drop, get_or, min, refl, sym, ap, ◌∙◌, arith, Option, Some, None}
use Rattle.std.proofs.lemmas.Bool.Decides.{nat_tests}
use Rattle.std.proofs.lemmas.Bool.{ltb-true}
use Rattle.std.proofs.lemmas.List.{append-nil, at_drop_more}
use Rattle.ntfs_rules.specs.FixedRecords.{are_in_place, begin_with}
use Rattle.ntfs_runs.proofs.CellsLemmas.{are_cells-next, no_run, vcns-all}
use Rattle.ntfs_runs.specs.Cells.{are_cells, is_cell}
use Rattle.ntfs_runs.specs.Clusters.{row, vcns}
use Rattle.ntfs_runs.specs.declared.run.Run.{Run}
use Rattle.ntfs_stream.proofs.BoolLemmas.{and-left, and-right}
use Rattle.ntfs_volume.specs.StreamBytes.{clusters_in}

-- ---- cells one after another

-- a run without clusters in front plays no part
pub empty-front : (run : Run) (runs : List Run) → run.length ≡ 0 → vcns (run ∷ runs) ≡ vcns runs
unfolding vcns row
empty-front run runs none = ap (λ n. row n run.lcn ++ vcns runs) none

-- the first cell of a run, and those behind it
pub front-cell : (run rest : Run) (runs : List Run) → row run.length run.lcn ≡ run.lcn ∷ row rest.length rest.lcn → vcns (run ∷ runs) ≡ run.lcn ∷ vcns (rest ∷ runs)
unfolding vcns
front-cell run rest runs is = ap (λ (cells : List (Option ℕ)). cells ++ vcns runs) is

pub no-cells : (runs : List Run) → length runs ≡ 0 → vcns runs ≡ []
unfolding vcns
no-cells [] none = refl
no-cells (run ∷ runs) none = absurd (omega (arith, none))

-- a run without its first cell
pub row-behind : (n : ℕ) → 1 ≤ n → row n None ≡ None ∷ row (n - 1) None
unfolding row
row-behind zero some = absurd (omega (arith, some))
row-behind (suc n) some = let same : n ≡ suc n - 1 = omega arith in ap (λ k. None ∷ row k None) same

pub row-after : (n first next : ℕ) → 1 ≤ n → first + n ≤ 2 ^ 64 → next ≡ min (first + 1) (2 ^ 64 - 1) → row n (Some first) ≡ Some first ∷ row (n - 1) (Some next)
unfolding row
row-after zero first next some within is = absurd (omega (arith, some))
row-after (suc zero) first next some within is = let same : 0 ≡ suc zero - 1 = omega arith in ap (λ k. Some first ∷ row k (Some next)) same
row-after (suc (suc n)) first next some within is =
    let same : suc n ≡ suc (suc n) - 1 = omega arith in
    let behind : first + 1 ≡ next = omega (arith, within, is) in
    ap (λ k. Some first ∷ row (suc n) (Some k)) behind ∙ ap (λ k. Some first ∷ row k (Some next)) same

-- ---- a row of clusters in front

pub front-none : (cluster : ℕ) (ks : List ℕ) (cells : List (Option ℕ)) → cells ≡ [] → begin_with (cluster ∷ ks) cells ≡ false
unfolding begin_with
front-none cluster ks cells is = ap (begin_with (cluster ∷ ks)) is

pub front-hole : (cluster : ℕ) (ks : List ℕ) (cells rest : List (Option ℕ)) → cells ≡ None ∷ rest → begin_with (cluster ∷ ks) cells ≡ false
unfolding begin_with
front-hole cluster ks cells rest is = ap (begin_with (cluster ∷ ks)) is

pub front-is : (cluster own : ℕ) (ks : List ℕ) (cells rest : List (Option ℕ)) → cells ≡ Some own ∷ rest → begin_with (cluster ∷ ks) cells ≡ ((own == cluster) && begin_with ks rest)
unfolding begin_with
front-is cluster own ks cells rest is = ap (begin_with (cluster ∷ ks)) is

-- one cluster of a row, and those behind it
pub row-more : (n first : ℕ) (ks : List ℕ) → clusters_in (row (suc n) (Some first)) ++ ks ≡ first ∷ (clusters_in (row n (Some (first + 1))) ++ ks)
unfolding row clusters_in
row-more n first ks = refl

pub row-none : (cell : Option ℕ) (ks : List ℕ) → clusters_in (row 0 cell) ++ ks ≡ ks
unfolding row clusters_in
row-none cell ks = refl

clusters-append : (front rest : List (Option ℕ)) → clusters_in (front ++ rest) ≡ clusters_in front ++ clusters_in rest
unfolding clusters_in
clusters-append [] rest = refl
clusters-append (None ∷ front) rest = clusters-append front rest
clusters-append (Some k ∷ front) rest = ap (λ (ks : List ℕ). k ∷ ks) (clusters-append front rest)

holes-none : (n : ℕ) → clusters_in (row n None) ≡ []
unfolding row clusters_in
holes-none zero = refl
holes-none (suc n) = holes-none n

-- the clusters from a run on
pub run-clusters : (runs : List Run) (i : ℕ) → i < length runs
    → clusters_in (vcns (drop i runs)) ≡ clusters_in (row (get_or runs i no_run).length (get_or runs i no_run).lcn) ++ clusters_in (vcns (drop (i + 1) runs))
unfolding vcns
run-clusters runs i lt =
    at_drop_more (λ rs. clusters_in (vcns rs)) runs i no_run lt
    ∙ clusters-append (row (get_or runs i no_run).length (get_or runs i no_run).lcn) (vcns (drop (i + 1) runs))

pub hole-clusters : (runs : List Run) (i : ℕ) → i < length runs → (get_or runs i no_run).lcn ≡ None → clusters_in (vcns (drop i runs)) ≡ clusters_in (vcns (drop (i + 1) runs))
hole-clusters runs i lt hole =
    run-clusters runs i lt ∙ ap (λ (lcn : Option ℕ). clusters_in (row (get_or runs i no_run).length lcn) ++ clusters_in (vcns (drop (i + 1) runs))) hole
    ∙ ap (λ (ks : List ℕ). ks ++ clusters_in (vcns (drop (i + 1) runs))) (holes-none (get_or runs i no_run).length)

pub some-clusters : (runs : List Run) (i first : ℕ) → i < length runs → (get_or runs i no_run).lcn ≡ Some first
    → clusters_in (vcns (drop i runs)) ≡ clusters_in (row (get_or runs i no_run).length (Some first)) ++ clusters_in (vcns (drop (i + 1) runs))
some-clusters runs i first lt is =
    run-clusters runs i lt ∙ ap (λ (lcn : Option ℕ). clusters_in (row (get_or runs i no_run).length lcn) ++ clusters_in (vcns (drop (i + 1) runs))) is

pub all-clusters : (runs : List Run) (i : ℕ) → length runs ≤ i → clusters_in (vcns (drop i runs)) ≡ []
unfolding clusters_in
all-clusters runs i le = ap clusters_in (vcns-all runs i le)

-- nothing has to be in front
pub nothing-first : (cells : List (Option ℕ)) → begin_with [] cells ≡ true
unfolding begin_with
nothing-first cells = refl

-- ---- each cluster at the VCN of its number

pub holes-in-place : (n vcn : ℕ) → are_in_place vcn (row n None) ≡ true
unfolding row are_in_place
holes-in-place zero vcn = refl
holes-in-place (suc n) vcn = holes-in-place n (suc vcn)

same-next : (a b : ℕ) → (a + 1 == suc b) ≡ (a == b)
same-next a b = grind (arith, nat_tests)

and-same : (a b : Bool) → (a && (b || a)) ≡ a
and-same true true = refl
and-same true false = refl
and-same false b = refl

pub run-in-place : (n lcn vcn : ℕ) → are_in_place vcn (row n (Some lcn)) ≡ ((n == 0) || (lcn == vcn))
unfolding row are_in_place
run-in-place zero lcn vcn = refl
run-in-place (suc n) lcn vcn =
    ap (λ b. (lcn == vcn) && b) (run-in-place n (lcn + 1) (suc vcn) ∙ ap (λ b. (n == 0) || b) (same-next lcn vcn)) ∙ and-same (lcn == vcn) (n == 0)
    ∙ ap (λ b. b || (lcn == vcn)) (sym (not-zero n))
  where
    not-zero : (n : ℕ) → (suc n == 0) ≡ false
    not-zero n = grind (arith, nat_tests)

pub no-run-in-place : (n vcn : ℕ) (cell : Option ℕ) → n ≡ 0 → (n == 0) ≡ are_in_place vcn (row n cell)
unfolding row are_in_place
no-run-in-place n vcn cell none = ap (λ k. k == 0) none ∙ sym (ap (λ k. are_in_place vcn (row k cell)) none)

pub some-run-in-place : (n lcn vcn : ℕ) → (n ≡ 0 → ⊥) → (lcn == vcn) ≡ are_in_place vcn (row n (Some lcn))
some-run-in-place n lcn vcn some = ap (λ b. b || (lcn == vcn)) (sym (no-zero n some)) ∙ sym (run-in-place n lcn vcn)
  where
    no-zero : (n : ℕ) → (n ≡ 0 → ⊥) → (n == 0) ≡ false
    no-zero n some = grind (arith, nat_tests)

and-three : (a b c : Bool) → (a && (b && c)) ≡ ((a && b) && c)
and-three true b c = refl
and-three false b c = refl

place-append : (n vcn : ℕ) (cell : Option ℕ) (rest : List (Option ℕ)) → are_in_place vcn (row n cell ++ rest) ≡ (are_in_place vcn (row n cell) && are_in_place (vcn + n) rest)
unfolding row are_in_place
place-append zero vcn cell rest = let same : vcn ≡ vcn + 0 = omega arith in ap (λ v. are_in_place v rest) same
place-append (suc n) vcn None rest = let same : suc vcn + n ≡ vcn + suc n = omega arith in place-append n (suc vcn) None rest ∙ ap (λ v. are_in_place (suc vcn) (row n None) && are_in_place v rest) same
place-append (suc n) vcn (Some k) rest =
    let same : suc vcn + n ≡ vcn + suc n = omega arith in
    ap (λ b. (k == vcn) && b) (place-append n (suc vcn) (Some (k + 1)) rest ∙ ap (λ v. are_in_place (suc vcn) (row n (Some (k + 1))) && are_in_place v rest) same)
    ∙ and-three (k == vcn) (are_in_place (suc vcn) (row n (Some (k + 1)))) (are_in_place (vcn + suc n) rest)

-- one run more
pub place-next : (runs : List Run) (i vcn : ℕ) → i < length runs
    → are_in_place vcn (vcns (drop i runs)) ≡ (are_in_place vcn (row (get_or runs i no_run).length (get_or runs i no_run).lcn) && are_in_place (vcn + (get_or runs i no_run).length) (vcns (drop (i + 1) runs)))
unfolding vcns
place-next runs i vcn lt =
    at_drop_more (λ rs. are_in_place vcn (vcns rs)) runs i no_run lt
    ∙ place-append (get_or runs i no_run).length vcn (get_or runs i no_run).lcn (vcns (drop (i + 1) runs))

-- a VCN at or above a limit counts as the limit, where all clusters are below it
capped-some : (n lcn most vcn clusters : ℕ) → are_cells true clusters (row n (Some lcn)) ≡ true → clusters ≤ most → ((n == 0) || (lcn == min vcn most)) ≡ ((n == 0) || (lcn == vcn))
unfolding row are_cells
capped-some zero lcn most vcn clusters are few = refl
capped-some (suc n) lcn most vcn clusters are few =
    let below : lcn < clusters = ltb-true lcn clusters (and-left (is_cell true clusters (Some lcn)) (are_cells true clusters (row n (Some (lcn + 1)))) are) in
    ap (λ b. (suc n == 0) || b) (same lcn most vcn (omega (arith, below, few)))
  where
    same : (lcn most vcn : ℕ) → lcn < most → (lcn == min vcn most) ≡ (lcn == vcn)
    same lcn most vcn below = grind (arith, nat_tests)

capped-row : (n most vcn clusters : ℕ) (cell : Option ℕ) → are_cells true clusters (row n cell) ≡ true → clusters ≤ most → are_in_place (min vcn most) (row n cell) ≡ are_in_place vcn (row n cell)
capped-row n most vcn clusters None are few = holes-in-place n (min vcn most) ∙ sym (holes-in-place n vcn)
capped-row n most vcn clusters (Some lcn) are few = run-in-place n lcn (min vcn most) ∙ capped-some n lcn most vcn clusters are few ∙ sym (run-in-place n lcn vcn)

-- one run more, by a VCN that is capped
pub run-cells : (runs : List Run) (i clusters : ℕ) → i < length runs → are_cells true clusters (vcns (drop i runs)) ≡ true
    → (are_cells true clusters (row (get_or runs i no_run).length (get_or runs i no_run).lcn) && are_cells true clusters (vcns (drop (i + 1) runs))) ≡ true
run-cells runs i clusters lt are = sym (are_cells-next true clusters runs i lt) ∙ are

pub cells-behind : (runs : List Run) (i clusters : ℕ) → i < length runs → are_cells true clusters (vcns (drop i runs)) ≡ true → are_cells true clusters (vcns (drop (i + 1) runs)) ≡ true
cells-behind runs i clusters lt are = and-right (are_cells true clusters (row (get_or runs i no_run).length (get_or runs i no_run).lcn)) (are_cells true clusters (vcns (drop (i + 1) runs))) (run-cells runs i clusters lt are)

pub place-step : (runs : List Run) (i vcn most at clusters : ℕ) (holds : Bool) → i < length runs → are_cells true clusters (vcns (drop i runs)) ≡ true → clusters ≤ most → at ≡ min vcn most
    → holds ≡ are_in_place at (row (get_or runs i no_run).length (get_or runs i no_run).lcn)
    → are_in_place vcn (vcns (drop i runs)) ≡ (holds && are_in_place (vcn + (get_or runs i no_run).length) (vcns (drop (i + 1) runs)))
place-step runs i vcn most at clusters holds lt are few at_is is =
    let n = (get_or runs i no_run).length in
    let cell = (get_or runs i no_run).lcn in
    let front = and-left (are_cells true clusters (row n cell)) (are_cells true clusters (vcns (drop (i + 1) runs))) (run-cells runs i clusters lt are) in
    place-next runs i vcn lt
    ∙ ap (λ b. b && are_in_place (vcn + n) (vcns (drop (i + 1) runs))) (sym (is ∙ ap (λ v. are_in_place v (row n cell)) at_is ∙ capped-row n most vcn clusters cell front few))

pub place-wrong : (runs : List Run) (i vcn most at clusters : ℕ) (holds : Bool) (all : Bool) → i < length runs → are_cells true clusters (vcns (drop i runs)) ≡ true → clusters ≤ most → at ≡ min vcn most
    → holds ≡ are_in_place at (row (get_or runs i no_run).length (get_or runs i no_run).lcn) → holds ≡ false → all ≡ are_in_place vcn (vcns (drop i runs)) → false ≡ all
place-wrong runs i vcn most at clusters holds all lt are few at_is is wrong same =
    sym (same ∙ place-step runs i vcn most at clusters holds lt are few at_is is ∙ ap (λ b. b && are_in_place (vcn + (get_or runs i no_run).length) (vcns (drop (i + 1) runs))) wrong)

pub place-right : (runs : List Run) (i vcn most at clusters : ℕ) (holds : Bool) (all : Bool) → i < length runs → are_cells true clusters (vcns (drop i runs)) ≡ true → clusters ≤ most → at ≡ min vcn most
    → holds ≡ are_in_place at (row (get_or runs i no_run).length (get_or runs i no_run).lcn) → holds ≡ true → all ≡ are_in_place vcn (vcns (drop i runs)) → all ≡ are_in_place (vcn + (get_or runs i no_run).length) (vcns (drop (i + 1) runs))
place-right runs i vcn most at clusters holds all lt are few at_is is right same =
    same ∙ place-step runs i vcn most at clusters holds lt are few at_is is ∙ ap (λ b. b && are_in_place (vcn + (get_or runs i no_run).length) (vcns (drop (i + 1) runs))) right

pub place-all : (runs : List Run) (i vcn : ℕ) (all : Bool) → length runs ≤ i → all ≡ are_in_place vcn (vcns (drop i runs)) → true ≡ all
unfolding are_in_place
place-all runs i vcn all le same = sym (same ∙ ap (are_in_place vcn) (vcns-all runs i le))

-- ---- one cluster of a row more

pub row-step : (count place first : ℕ) (ks : List ℕ) (cells : List (Option ℕ)) → place < count
    → begin_with (clusters_in (row (count - place) (Some (first + place))) ++ ks) cells ≡ begin_with ((first + place) ∷ (clusters_in (row (count - (place + 1)) (Some (first + (place + 1)))) ++ ks)) cells
row-step count place first ks cells lt =
    let left : count - place ≡ suc (count - (place + 1)) = omega (arith, lt) in
    let next : first + place + 1 ≡ first + (place + 1) = omega arith in
    ap (λ n. begin_with (clusters_in (row n (Some (first + place))) ++ ks) cells) left
    ∙ ap (λ (xs : List ℕ). begin_with xs cells) (row-more (count - (place + 1)) (first + place) ks)
    ∙ ap (λ k. begin_with ((first + place) ∷ (clusters_in (row (count - (place + 1)) (Some k)) ++ ks)) cells) next

pub row-end : (count place first : ℕ) (ks : List ℕ) (cells : List (Option ℕ)) → count ≤ place → begin_with (clusters_in (row (count - place) (Some (first + place))) ++ ks) cells ≡ begin_with ks cells
row-end count place first ks cells le =
    let left : count - place ≡ 0 = omega (arith, le) in
    ap (λ n. begin_with (clusters_in (row n (Some (first + place))) ++ ks) cells) left ∙ ap (λ (xs : List ℕ). begin_with xs cells) (row-none (Some (first + place)) ks)

pub alone-first : (ks : List ℕ) (cells rest : List (Option ℕ)) (answer : Bool) → begin_with (ks ++ []) cells ≡ (answer && begin_with [] rest) → answer ≡ begin_with ks cells
alone-first ks cells rest answer is =
    sym (ap (λ (xs : List ℕ). begin_with xs cells) (sym (append-nil ks)) ∙ is ∙ ap (λ b. answer && b) (nothing-first rest) ∙ and-true answer)
  where
    and-true : (a : Bool) → (a && true) ≡ a
    and-true true = refl
    and-true false = refl

pub answered-by : (a b : Bool) (rest : Bool) (x : Bool) → x ≡ (a && rest) → a ≡ b → x ≡ (b && rest)
answered-by a b rest x is same = is ∙ ap (λ c. c && rest) same
