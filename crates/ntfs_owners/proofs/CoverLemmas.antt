-- Sets of clusters that grow run by run.
use Rattle.std.proofs.Common.{◌≡◌, ◌+◌, ◌<◌, ◌≤◌, ◌||◌, ℕ, zero, suc, Bool, true, false, List, [], drop, get_or, length, Option, Some, None, refl, sym, ap, ap₂, ◌∙◌, arith, if◌then◌else◌}
use Rattle.std.specs.List.{list_any}
use Rattle.std.proofs.lemmas.Grind.{common_steps}
use Rattle.std.proofs.lemmas.List.{drop_more}
use Rattle.std.proofs.Math.Bool.{or_assoc}
use Rattle.ntfs_bitmap.specs.ClusterSet.{Clusters, count_below, count_where, has, in_run}
use Rattle.ntfs_bitmap.proofs.CountLemmas.{count-le}
use Rattle.ntfs_runs.specs.declared.run.Run.{Run}
use Rattle.ntfs_runs.proofs.CellsLemmas.{no_run}
use Rattle.ntfs_owners.specs.Owners.{owns, row_has, runs_have}
use Rattle.ntfs_survey.specs.declared.owners.Owner.{Owner}

pub or-false : (a : Bool) → (a || false) ≡ a
or-false true = refl
or-false false = refl

-- what a run adds
pub run-added : (k count first : ℕ) (lcn : Option ℕ) (old new : Bool) → lcn ≡ Some first → new ≡ (old || in_run first count k) → new ≡ (old || row_has k count lcn)
run-added k count first lcn old new is added = added ∙ ap (λ lcn. old || row_has k count lcn) (sym is)

pub hole-added : (k count : ℕ) (lcn : Option ℕ) (old new : Bool) → lcn ≡ None → new ≡ old → new ≡ (old || row_has k count lcn)
hole-added k count lcn old new is same = same ∙ sym (ap (λ lcn. old || row_has k count lcn) is ∙ or-false old)

-- ---- one element more

any-next : {X : Type 0} (p : X → Bool) (xs : List X) (i : ℕ) (d : X) (old new all : Bool) → i < length xs → new ≡ (old || p (get_or xs i d))
    → (old || list_any p (drop i xs)) ≡ all → (new || list_any p (drop (i + 1) xs)) ≡ all
any-next p xs i d old new all lt grown is =
    ap (λ b. b || list_any p (drop (i + 1) xs)) grown ∙ or_assoc old (p (get_or xs i d)) (list_any p (drop (i + 1) xs))
    ∙ ap (λ xs. old || list_any p xs) (sym (drop_more xs i d lt)) ∙ is

drop_past : {X : Type 0} (xs : List X) (i : ℕ) → length xs ≤ i → drop i xs ≡ []
drop_past xs i past = grind (arith, common_steps)

any-last : {X : Type 0} (p : X → Bool) (xs : List X) (i : ℕ) (old all : Bool) → length xs ≤ i → (old || list_any p (drop i xs)) ≡ all → old ≡ all
any-last p xs i old all past is = sym (or-false old) ∙ ap (λ xs. old || list_any p xs) (sym (drop_past xs i past)) ∙ is

pub runs-next : (runs : List Run) (i k : ℕ) (old new all : Bool) → i < length runs → new ≡ (old || row_has k (get_or runs i no_run).length (get_or runs i no_run).lcn)
    → (old || runs_have (drop i runs) k) ≡ all → (new || runs_have (drop (i + 1) runs) k) ≡ all
unfolding runs_have
runs-next runs i k = any-next (λ (run : Run). row_has k run.length run.lcn) runs i no_run

pub runs-last : (runs : List Run) (i k : ℕ) (old all : Bool) → length runs ≤ i → (old || runs_have (drop i runs) k) ≡ all → old ≡ all
unfolding runs_have
runs-last runs i k = any-last (λ (run : Run). row_has k run.length run.lcn) runs i

pub owners-next : (owners : List Owner) (i k : ℕ) (d : Owner) (old new all : Bool) → i < length owners → new ≡ (old || in_run (get_or owners i d).first (get_or owners i d).length k)
    → (old || owns (drop i owners) k) ≡ all → (new || owns (drop (i + 1) owners) k) ≡ all
unfolding owns
owners-next owners i k d = any-next (λ (owner : Owner). in_run owner.first owner.length k) owners i d

pub owners-last : (owners : List Owner) (i k : ℕ) (old all : Bool) → length owners ≤ i → (old || owns (drop i owners) k) ≡ all → old ≡ all
unfolding owns
owners-last owners i k = any-last (λ (owner : Owner). in_run owner.first owner.length k) owners i

-- tests with the same answers below a number count the same there
pub count-alike : (f g : ℕ → Bool) (n : ℕ) → ((k : ℕ) → k < n → f k ≡ g k) → count_where f n ≡ count_where g n
count-alike f g zero same = refl
count-alike f g (suc n) same =
    ap₂ (λ count b. count + (if b then 1 else 0)) (count-alike f g n (λ k below. same k (omega (arith, below)))) (same n (omega arith))

-- how many numbers of a set there are below one, by a test that tells them there
pub count-has : (set : Clusters) (f : ℕ → Bool) (n : ℕ) → ((k : ℕ) → k < n → has set k ≡ f k) → count_below set n ≡ count_where f n
unfolding count_below
count-has set f n = count-alike (has set) f n

pub count-below-le : (set : Clusters) (n : ℕ) → count_below set n ≤ n
unfolding count_below
count-below-le set n = count-le (has set) n
