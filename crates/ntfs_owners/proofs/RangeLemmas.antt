-- What is wanted for a range of clusters has all lines of the range.
use Rattle.std.proofs.Common.{◌≡◌, ◌+◌, ◌-◌, ◌<◌, ◌≤◌, ◌&&◌, ◌||◌, ℕ, zero, suc, Bool, true, false, ltb, leb, List, [], ◌∷◌, ◌++◌, map, Option, Some, None, refl, sym, ap, ap₂, ◌∙◌, arith, append_assoc, if◌then◌else◌}
use Rattle.std.specs.List.{list_any}
use Rattle.std.proofs.lemmas.Bool.{leb-false, leb-true, lt-ltb, ltb-true}
use Rattle.std.proofs.lemmas.List.{append-nil}
use Rattle.ntfs_bitmap.specs.ClusterSet.{in_run}
use Rattle.ntfs_record.specs.FileRecord.{Laid}
use Rattle.ntfs_record.specs.Slots.{Slot}
use Rattle.ntfs_record.specs.Views.{Shown}
use Rattle.ntfs_runs.specs.declared.run.Run.{Run}
use Rattle.ntfs_owners.specs.Held.{Held, all_shown_held, holder_text, pairs_held, reaches, row_reaches, shown_held, slot_held, slots_held}
use Rattle.ntfs_owners.specs.OwnerLines.{cluster_line, held_cluster, held_clusters, row_line, runs_cluster}
use Rattle.ntfs_owners.specs.Owners.{all_runs}
use Rattle.ntfs_survey.specs.Owned.{runs_in}
use Rattle.ntfs_survey.specs.Surveying.{shown_located}
use Rattle.ntfs_volume.specs.Located.{Located}

cluster-append : (k : ℕ) (xs ys : List Held) → held_cluster k (xs ++ ys) ≡ held_cluster k xs ++ held_cluster k ys
unfolding held_cluster
cluster-append k [] ys = refl
cluster-append k (x ∷ xs) ys = ap (λ rest. runs_cluster k x.text x.lowest x.runs ++ rest) (cluster-append k xs ys) ∙ sym (append_assoc (runs_cluster k x.text x.lowest x.runs) (held_cluster k xs) (held_cluster k ys))

-- ---- a run that has no cluster of the range

and-left : (a b : Bool) → (a && b) ≡ true → a ≡ true
and-left true b is = refl
and-left false b is = is

and-right : (a b : Bool) → (a && b) ≡ true → b ≡ true
and-right true b is = is
and-right false b is = absurd cc

not-row : (from end k first count : ℕ) (text : List ℕ) (vcn : ℕ) → from ≤ k → k < end → (has : Bool) → in_run first count k ≡ has → (ltb first end && ltb from (first + count)) ≡ false
    → (if has then text else []) ≡ []
not-row from end k first count text vcn lo hi false is unreached = refl
not-row from end k first count text vcn lo hi true is unreached =
    let low = leb-true first k (and-left (leb first k) (ltb k (first + count)) is) in
    let high = ltb-true k (first + count) (and-right (leb first k) (ltb k (first + count)) is) in
    let both : (ltb first end && ltb from (first + count)) ≡ true = ap₂ (λ a b. a && b) (lt-ltb first end (omega (arith, low, hi))) (lt-ltb from (first + count) (omega (arith, lo, high))) in
    let e = sym both ∙ unreached in absurd cc

row-unreached : (from end k : ℕ) (text : List ℕ) (vcn count : ℕ) (lcn : Option ℕ) → from ≤ k → k < end → row_reaches from end count lcn ≡ false → row_line k text vcn count lcn ≡ []
row-unreached from end k text vcn count None lo hi is = refl
row-unreached from end k text vcn count (Some first) lo hi is = not-row from end k first count (cluster_line k text (vcn + (k - first))) vcn lo hi (in_run first count k) refl is

or-left : (a b : Bool) → (a || b) ≡ false → a ≡ false
or-left false b is = refl
or-left true b is = is

or-right : (a b : Bool) → (a || b) ≡ false → b ≡ false
or-right false b is = is
or-right true b is = absurd cc

runs-unreached : (from end k : ℕ) (text : List ℕ) (vcn : ℕ) (runs : List Run) → from ≤ k → k < end → list_any (reaches from end) runs ≡ false → runs_cluster k text vcn runs ≡ []
unfolding runs_cluster reaches
runs-unreached from end k text vcn [] lo hi is = refl
runs-unreached from end k text vcn (run ∷ runs) lo hi is =
    ap₂ (λ a b. a ++ b) (row-unreached from end k text vcn run.length run.lcn lo hi (or-left (reaches from end run) (list_any (reaches from end) runs) is))
    (runs-unreached from end k text (vcn + run.length) runs lo hi (or-right (reaches from end run) (list_any (reaches from end) runs) is))

-- ---- what attributes hold

same-if : (from end k : ℕ) (h : Held) (any : Bool) → list_any (reaches from end) h.runs ≡ any → from ≤ k → k < end
    → held_cluster k (if any then h ∷ [] else []) ≡ held_cluster k (h ∷ [])
unfolding held_cluster
same-if from end k h true is lo hi = refl
same-if from end k h false is lo hi = sym (append-nil (runs_cluster k h.text h.lowest h.runs) ∙ runs-unreached from end k h.text h.lowest h.runs lo hi is)

pairs-same : (from end k r kind : ℕ) (name : List ℕ) (lowest : ℕ) (pairs : List ℕ) → from ≤ k → k < end
    → held_cluster k (pairs_held (list_any (reaches from end)) r kind name lowest pairs) ≡ held_cluster k (pairs_held all_runs r kind name lowest pairs)
unfolding pairs_held
pairs-same from end k r kind name lowest pairs lo hi =
    same-if from end k (record { text = holder_text r kind name; lowest = lowest; runs = runs_in pairs }) (list_any (reaches from end) (runs_in pairs)) refl lo hi

shown-same_by : (from end k r : ℕ) (shown : Shown) (resident : Bool) → from ≤ k → k < end
    → held_cluster k (if resident then [] else pairs_held (list_any (reaches from end)) r shown.kind shown.name shown.body.lowest shown.body.pairs)
    ≡ held_cluster k (if resident then [] else pairs_held all_runs r shown.kind shown.name shown.body.lowest shown.body.pairs)
shown-same_by from end k r shown true lo hi = refl
shown-same_by from end k r shown false lo hi = pairs-same from end k r shown.kind shown.name shown.body.lowest shown.body.pairs lo hi

shown-same : (from end k r : ℕ) (shown : Shown) → from ≤ k → k < end → held_cluster k (shown_held (list_any (reaches from end)) r shown) ≡ held_cluster k (shown_held all_runs r shown)
unfolding shown_held
shown-same from end k r shown lo hi = shown-same_by from end k r shown shown.body.is_resident lo hi

all-same : (from end k r : ℕ) (shown : List Shown) → from ≤ k → k < end → held_cluster k (all_shown_held (list_any (reaches from end)) r shown) ≡ held_cluster k (all_shown_held all_runs r shown)
unfolding all_shown_held
all-same from end k r [] lo hi = refl
all-same from end k r (x ∷ rest) lo hi =
    cluster-append k (shown_held (list_any (reaches from end)) r x) (all_shown_held (list_any (reaches from end)) r rest)
    ∙ ap₂ (λ a b. a ++ b) (shown-same from end k r x lo hi) (all-same from end k r rest lo hi)
    ∙ sym (cluster-append k (shown_held all_runs r x) (all_shown_held all_runs r rest))

slot-same_by : (from end k r : ℕ) (shown : List Shown) (passes : Bool) → from ≤ k → k < end
    → held_cluster k (if passes then all_shown_held (list_any (reaches from end)) r shown else []) ≡ held_cluster k (if passes then all_shown_held all_runs r shown else [])
slot-same_by from end k r shown true lo hi = all-same from end k r shown lo hi
slot-same_by from end k r shown false lo hi = refl

slots-same : (from end k : ℕ) (p : ℕ → ℕ → Bool) (r : ℕ) (slots : List (Slot (Located (Laid (List ℕ))))) → from ≤ k → k < end
    → held_cluster k (slots_held p (list_any (reaches from end)) r slots) ≡ held_cluster k (slots_held p all_runs r slots)
unfolding slots_held slot_held
slots-same from end k p r [] lo hi = refl
slots-same from end k p r (s ∷ ss) lo hi =
    cluster-append k (slot_held p (list_any (reaches from end)) r s) (slots_held p (list_any (reaches from end)) (suc r) ss)
    ∙ ap₂ (λ a b. a ++ b) (slot-same_by from end k r (map shown_located s.attributes) (p r s.head.base) lo hi) (slots-same from end k p (suc r) ss lo hi)
    ∙ sym (cluster-append k (slot_held p all_runs r s) (slots_held p all_runs (suc r) ss))

range-from : (from end : ℕ) (p : ℕ → ℕ → Bool) (slots : List (Slot (Located (Laid (List ℕ))))) (at count : ℕ) → from ≤ at → at + count ≤ end
    → held_clusters at count (slots_held p (list_any (reaches from end)) 0 slots) ≡ held_clusters at count (slots_held p all_runs 0 slots)
unfolding held_clusters
range-from from end p slots at zero lo hi = refl
range-from from end p slots at (suc count) lo hi =
    ap₂ (λ a b. a ++ b) (slots-same from end at p 0 slots lo (omega (arith, hi))) (range-from from end p slots (suc at) count (omega (arith, lo)) (omega (arith, hi)))

-- the clusters from one on, below an end
pub range-wanted : (from end : ℕ) (p : ℕ → ℕ → Bool) (slots : List (Slot (Located (Laid (List ℕ)))))
    → held_clusters from (end - from) (slots_held p (list_any (reaches from end)) 0 slots) ≡ held_clusters from (end - from) (slots_held p all_runs 0 slots)
unfolding held_clusters
range-wanted from end p slots = by_order (leb from end) refl
  where
    wanted : List Held
    wanted = slots_held p (list_any (reaches from end)) 0 slots

    every : List Held
    every = slots_held p all_runs 0 slots

    none : (n : ℕ) → n ≡ 0 → held_clusters from n wanted ≡ held_clusters from n every
    none n is = ap (λ n. held_clusters from n wanted) is ∙ sym (ap (λ n. held_clusters from n every) is)

    by_order : (b : Bool) → leb from end ≡ b → held_clusters from (end - from) wanted ≡ held_clusters from (end - from) every
    by_order true is = range-from from end p slots from (end - from) (omega arith) (let le = leb-true from end is in omega (arith, le))
    by_order false is = none (end - from) (let lt = leb-false from end is in omega (arith, lt))
