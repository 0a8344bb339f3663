-- Names that ascend, none twice, one after the other.
use Rattle.std.proofs.Common.{◌≡◌, ◌&&◌, ◌||◌, ◌++◌, ℕ, Bool, true, false, List, [], ◌∷◌, refl, sym, ap, ◌∙◌, append_assoc}
use Rattle.std.proofs.lemmas.Bool.{and_parts}
use Rattle.std.proofs.lemmas.Cmp.{alike_right, tied_itself}
use Rattle.std.proofs.lemmas.List.{append-nil}
use Rattle.std.proofs.lemmas.List.Folds.{list_any-append}
use Rattle.std.specs.List.{AllByRecursion, list_any}
use Rattle.std.specs.Ordering.{is_gt}
use Rattle.std.specs.Prelude.{is_some, not}
use Rattle.std.specs.Str.{bytes_eq}
use Rattle.std.specs.declared.cmp.Ordering.{Ordering}
use Rattle.std.specs.declared.cmp.Ordering.TheVariants.{Less, Equal, Greater}
use Rattle.ntfs_base.proofs.ShelfLemmas.{same_name}
use Rattle.ntfs_check_directories.specs.Row.{may_come, name_may_follow, row_behind, row_of, stands_in}
use Rattle.ntfs_directory.specs.Directory.{DirectoryWalk, only_refused}
use Rattle.ntfs_directory.specs.Entries.{key_name}
use Rattle.ntfs_directory.specs.State.{entry_before, whole}
use Rattle.ntfs_index.specs.Node.{IndexEntry}
use Rattle.ntfs_rules.specs.Directories.{are_ascending, are_distinct_names, is_ordered, name_of, names_in}
use Rattle.ntfs_upcase.proofs.CollationLemmas.{collate-total}
use Rattle.ntfs_upcase.specs.Collation.{collate}
use Rattle.ntfs_volume.specs.declared.fault.VolumeFault.{VolumeFault}

-- ---- names that are distinct

or-true : (b : Bool) → (b || true) ≡ true
or-true true = refl
or-true false = refl

and-none : (b : Bool) → (b && false) ≡ false
and-none true = refl
and-none false = refl

or-none : (b : Bool) → (b || false) ≡ b
or-none true = refl
or-none false = refl

or-parts : (a b : Bool) → (a || b) ≡ false → (a ≡ false) × (b ≡ false)
or-parts true b is = absurd cc
or-parts false b is = (refl, is)

not-true : (b : Bool) → not b ≡ true → b ≡ false
not-true false is = refl
not-true true is = absurd cc

not-false : (b : Bool) → not b ≡ false → b ≡ true
not-false true is = refl
not-false false is = absurd cc

stands-among : (x name : List ℕ) (xs names : List (List ℕ)) → bytes_eq x name ≡ true → list_any (bytes_eq x) (xs ++ name ∷ names) ≡ true
stands-among x name xs names is =
    list_any-append (bytes_eq x) xs (name ∷ names) ∙ ap (λ b. list_any (bytes_eq x) xs || (b || list_any (bytes_eq x) names)) is ∙ or-true (list_any (bytes_eq x) xs)

-- a name that stands among others comes again
repeated-step : (x name : List ℕ) (xs names : List (List ℕ)) (same : Bool) → bytes_eq x name ≡ same → (same || stands_in xs name) ≡ true
    → (stands_in xs name ≡ true → are_distinct_names (xs ++ name ∷ names) ≡ false) → (not (list_any (bytes_eq x) (xs ++ name ∷ names)) && are_distinct_names (xs ++ name ∷ names)) ≡ false
repeated-step x name xs names true is stands rest = ap (λ b. not b && are_distinct_names (xs ++ name ∷ names)) (stands-among x name xs names is)
repeated-step x name xs names false is stands rest =
    ap (λ b. not (list_any (bytes_eq x) (xs ++ name ∷ names)) && b) (rest stands) ∙ and-none (not (list_any (bytes_eq x) (xs ++ name ∷ names)))

repeated : (xs : List (List ℕ)) (name : List ℕ) (names : List (List ℕ)) → stands_in xs name ≡ true → are_distinct_names (xs ++ name ∷ names) ≡ false
unfolding are_distinct_names
repeated [] name names stands = absurd cc
repeated (x ∷ xs) name names stands = repeated-step x name xs names (bytes_eq x name) refl stands (repeated xs name names)

-- one more that doesn't stand among them
distinct-more : (xs : List (List ℕ)) (name : List ℕ) → are_distinct_names xs ≡ true → stands_in xs name ≡ false → are_distinct_names (xs ++ name ∷ []) ≡ true
unfolding are_distinct_names
distinct-more [] name distinct stands = refl
distinct-more (x ∷ xs) name distinct stands =
    let parts = and_parts (not (list_any (bytes_eq x) xs)) (are_distinct_names xs) distinct in
    let other = or-parts (bytes_eq x name) (stands_in xs name) stands in
    ap (λ b. not b && are_distinct_names (xs ++ name ∷ [])) (list_any-append (bytes_eq x) xs (name ∷ []))
    ∙ ap (λ b. not (list_any (bytes_eq x) xs || (b || false)) && are_distinct_names (xs ++ name ∷ [])) other.0
    ∙ ap (λ b. not b && are_distinct_names (xs ++ name ∷ [])) (or-none (list_any (bytes_eq x) xs))
    ∙ ap (λ b. b && are_distinct_names (xs ++ name ∷ [])) parts.0
    ∙ distinct-more xs name parts.1 other.1

-- none of the first stands among the last
abbrev Apart : List (List ℕ) → List (List ℕ) → Type 0
Apart xs ys = AllByRecursion (λ x. list_any (bytes_eq x) ys ≡ false) xs

distinct-apart : (xs ys : List (List ℕ)) → are_distinct_names xs ≡ true → Apart xs ys → are_distinct_names (xs ++ ys) ≡ are_distinct_names ys
unfolding are_distinct_names
distinct-apart [] ys distinct apart = refl
distinct-apart (x ∷ xs) ys distinct apart =
    let parts = and_parts (not (list_any (bytes_eq x) xs)) (are_distinct_names xs) distinct in
    ap (λ b. not b && are_distinct_names (xs ++ ys)) (list_any-append (bytes_eq x) xs ys)
    ∙ ap (λ b. not (list_any (bytes_eq x) xs || b) && are_distinct_names (xs ++ ys)) apart.0
    ∙ ap (λ b. not b && are_distinct_names (xs ++ ys)) (or-none (list_any (bytes_eq x) xs))
    ∙ ap (λ b. b && are_distinct_names (xs ++ ys)) parts.0
    ∙ distinct-apart xs ys parts.1 apart.1

-- ---- names that ascend

-- behind a name that comes after another one all come after that
behind : (table first name : List ℕ) (names : List (List ℕ)) → collate table first name ≡ Less → are_ascending table (name ∷ names) ≡ true → AllByRecursion (λ other. collate table first other ≡ Less) (name ∷ names)
unfolding are_ascending
behind table first name [] less ascending = (less, tt)
behind table first name (next ∷ names) less ascending =
    let parts = and_parts (not (is_gt (collate table name next))) (are_ascending table (next ∷ names)) ascending in
    (less, behind table first next names (go (collate table name next) refl parts.0) parts.1)
  where
    go : (order : Ordering) → collate table name next ≡ order → not (is_gt order) ≡ true → collate table first next ≡ Less
    go Less is up = (collate-total table).trans first name next less is
    go Equal is up = sym (alike_right (collate-total table) name next first is) ∙ less
    go Greater is up = absurd cc

-- names that tie begin alike
ascending-alike : (table a b : List ℕ) (names : List (List ℕ)) → collate table a b ≡ Equal → are_ascending table (a ∷ names) ≡ are_ascending table (b ∷ names)
unfolding are_ascending
ascending-alike table a b [] tie = refl
ascending-alike table a b (next ∷ names) tie = ap (λ (order : Ordering). not (is_gt order) && are_ascending table (next ∷ names)) ((collate-total table).congr a b next tie)

-- ---- a row of names that tie

-- all tie with the first
abbrev pub Tie : List ℕ → List (List ℕ) → Type 0
Tie table [] = Unit {0}
Tie table (first ∷ row) = AllByRecursion (λ other. collate table first other ≡ Equal) row

-- a row of names that tie, none twice
pub record IsRow (table : List ℕ) (row : List (List ℕ)) : Type 0 where
  pub tie : Tie table row
  pub distinct : are_distinct_names row ≡ true

-- names ascend behind a row
abbrev ascend_behind : List ℕ → List (List ℕ) → List (List ℕ) → Bool
ascend_behind table [] names = are_ascending table names
ascend_behind table (first ∷ row) names = are_ascending table (first ∷ names)

-- what is left of a walk is whole, and its names ascend behind a row, none twice
unfoldable pub ordered_behind : List ℕ → List (List ℕ) → DirectoryWalk → Bool
ordered_behind table row walk =
    not (is_some walk.fault) && (ascend_behind table row (names_in walk.entries) && are_distinct_names (row ++ names_in walk.entries))

pub row-none : (table : List ℕ) → IsRow table []
unfolding are_distinct_names
row-none table = record { tie = tt; distinct = refl }

pub ordered-start : (table : List ℕ) (walk : DirectoryWalk) → ordered_behind table [] walk ≡ is_ordered table walk
unfolding ordered_behind is_ordered
ordered-start table walk = refl

pub ordered-fault : (table : List ℕ) (row : List (List ℕ)) (fault : VolumeFault) → ordered_behind table row (only_refused fault) ≡ false
unfolding ordered_behind
ordered-fault table row fault = refl

pub ordered-end : (table : List ℕ) (row : List (List ℕ)) → IsRow table row → ordered_behind table row whole ≡ true
unfolding ordered_behind are_ascending
ordered-end table [] is = is.distinct
ordered-end table (first ∷ row) is = ap are_distinct_names (append-nil (first ∷ row)) ∙ is.distinct

-- ---- one name more

abbrev no_more : Bool → Bool → Bool → Bool
no_more fault ascend distinct = not fault && (ascend && distinct)

refused-wrong : (fault ascend distinct : Bool) → ascend ≡ false → no_more fault ascend distinct ≡ false
refused-wrong true ascend distinct is = refl
refused-wrong false ascend distinct is = ap (λ b. b && distinct) is

refused-double : (fault ascend distinct : Bool) → distinct ≡ false → no_more fault ascend distinct ≡ false
refused-double true ascend distinct is = refl
refused-double false true distinct is = is
refused-double false false distinct is = refl

-- a name that may not follow
pub ordered-refused : (table : List ℕ) (row : List (List ℕ)) (entry : IndexEntry) (walk : DirectoryWalk) → name_may_follow table row (name_of entry.key) ≡ false → ordered_behind table row (entry_before entry walk) ≡ false
unfolding ordered_behind name_may_follow are_ascending
ordered-refused table [] entry walk may = absurd cc
ordered-refused table (first ∷ row) entry walk may = go (collate table first (name_of entry.key)) refl may
  where
    go : (order : Ordering) → collate table first (name_of entry.key) ≡ order → may_come order (stands_in (first ∷ row) (name_of entry.key)) ≡ false
        → no_more (is_some walk.fault) (not (is_gt (collate table first (name_of entry.key))) && are_ascending table (name_of entry.key ∷ names_in walk.entries))
        (are_distinct_names (first ∷ (row ++ name_of entry.key ∷ names_in walk.entries))) ≡ false
    go Less is may = absurd cc
    go Equal is may =
        refused-double (is_some walk.fault) (not (is_gt (collate table first (name_of entry.key))) && are_ascending table (name_of entry.key ∷ names_in walk.entries)) (are_distinct_names (first ∷ (row ++ name_of entry.key ∷ names_in walk.entries)))
        (repeated (first ∷ row) (name_of entry.key) (names_in walk.entries) (not-false (stands_in (first ∷ row) (name_of entry.key)) may))
    go Greater is may =
        refused-wrong (is_some walk.fault) (not (is_gt (collate table first (name_of entry.key))) && are_ascending table (name_of entry.key ∷ names_in walk.entries)) (are_distinct_names (first ∷ (row ++ name_of entry.key ∷ names_in walk.entries)))
        (ap (λ (order : Ordering). not (is_gt order) && are_ascending table (name_of entry.key ∷ names_in walk.entries)) is)

tied-with : (table : List ℕ) (first : List ℕ) (row : List (List ℕ)) → Tie table (first ∷ row) → AllByRecursion (λ other. collate table first other ≡ Equal) (first ∷ row)
tied-with table first row tie = (tied_itself (collate-total table) first, tie)

-- names that come after a row stand apart from it
apart-step : (table first x name : List ℕ) (names : List (List ℕ)) (same : Bool) → bytes_eq x name ≡ same → collate table first x ≡ Equal → collate table first name ≡ Less
    → list_any (bytes_eq x) names ≡ false → (same || list_any (bytes_eq x) names) ≡ false
apart-step table first x name names true is tie less rest = let one : Equal ≡ Less = sym tie ∙ ap (collate table first) (same_name x name is) ∙ less in absurd cc
apart-step table first x name names false is tie less rest = rest

apart-one : (table first x : List ℕ) (names : List (List ℕ)) → collate table first x ≡ Equal → AllByRecursion (λ other. collate table first other ≡ Less) names → list_any (bytes_eq x) names ≡ false
apart-one table first x [] tie less = refl
apart-one table first x (name ∷ names) tie less = apart-step table first x name names (bytes_eq x name) refl tie less.0 (apart-one table first x names tie less.1)

apart-all : (table first : List ℕ) (xs names : List (List ℕ)) → AllByRecursion (λ other. collate table first other ≡ Equal) xs → AllByRecursion (λ other. collate table first other ≡ Less) names → Apart xs names
apart-all table first [] names tie less = tt
apart-all table first (x ∷ xs) names tie less = (apart-one table first x names tie.0 less, apart-all table first xs names tie.1 less)

-- where the names ascend a row that lies before them plays no part
ascending-drops : (table first name : List ℕ) (row names : List (List ℕ)) (fault ascend : Bool) → IsRow table (first ∷ row) → collate table first name ≡ Less → are_ascending table (name ∷ names) ≡ ascend
    → no_more fault ascend (are_distinct_names (first ∷ row ++ name ∷ names)) ≡ no_more fault ascend (are_distinct_names (name ∷ names))
ascending-drops table first name row names fault false is less ascends = refl
ascending-drops table first name row names fault true is less ascends =
    ap (λ b. no_more fault true b) (distinct-apart (first ∷ row) (name ∷ names) is.distinct
    (apart-all table first (first ∷ row) (name ∷ names) (tied-with table first row is.tie) (behind table first name names less ascends)))

all-more : {A : Type 0} (P : A → Type 0) (xs : List A) (x : A) → AllByRecursion P xs → P x → AllByRecursion P (xs ++ x ∷ [])
all-more P [] x all is = (is, tt)
all-more P (y ∷ xs) x all is = (all.0, all-more P xs x all.1 is)

-- a name that may follow
pub record IsTaken (table : List ℕ) (row : List (List ℕ)) (entry : IndexEntry) (walk : DirectoryWalk) : Type 0 where
  pub is : IsRow table (row_of table row (name_of entry.key))
  pub same : ordered_behind table row (entry_before entry walk) ≡ ordered_behind table (row_of table row (name_of entry.key)) walk

taken-by : (table first : List ℕ) (row : List (List ℕ)) (entry : IndexEntry) (walk : DirectoryWalk) (order : Ordering) → collate table first (name_of entry.key) ≡ order → IsRow table (first ∷ row)
    → may_come order (stands_in (first ∷ row) (name_of entry.key)) ≡ true
    → IsRow table (row_behind order (first ∷ row) (name_of entry.key)) × (ordered_behind table (first ∷ row) (entry_before entry walk) ≡ ordered_behind table (row_behind order (first ∷ row) (name_of entry.key)) walk)
unfolding ordered_behind are_ascending are_distinct_names
taken-by table first row entry walk Less order is may = (
  record { tie = tt; distinct = refl },
  ap (λ (o : Ordering). no_more (is_some walk.fault) (not (is_gt o) && are_ascending table (name_of entry.key ∷ names_in walk.entries)) (are_distinct_names (first ∷ row ++ name_of entry.key ∷ names_in walk.entries))) order
      ∙ ascending-drops table first (name_of entry.key) row (names_in walk.entries) (is_some walk.fault) (are_ascending table (name_of entry.key ∷ names_in walk.entries)) is order refl,
)
taken-by table first row entry walk Equal order is may = (
  record { tie = all-more (λ other. collate table first other ≡ Equal) row (name_of entry.key) is.tie order; distinct = distinct-more (first ∷ row) (name_of entry.key) is.distinct (not-true (stands_in (first ∷ row) (name_of entry.key)) may) },
  ap (λ (o : Ordering). no_more (is_some walk.fault) (not (is_gt o) && are_ascending table (name_of entry.key ∷ names_in walk.entries)) (are_distinct_names (first ∷ row ++ name_of entry.key ∷ names_in walk.entries))) order
      ∙ ap (λ b. no_more (is_some walk.fault) b (are_distinct_names (first ∷ row ++ name_of entry.key ∷ names_in walk.entries))) (sym (ascending-alike table first (name_of entry.key) (names_in walk.entries) order))
      ∙ ap (λ (xs : List (List ℕ)). no_more (is_some walk.fault) (are_ascending table (first ∷ names_in walk.entries)) (are_distinct_names xs)) (sym (append_assoc (first ∷ row) (name_of entry.key ∷ []) (names_in walk.entries))),
)
taken-by table first row entry walk Greater order is may = absurd cc

row-one : (table name : List ℕ) → IsRow table (name ∷ [])
unfolding are_distinct_names
row-one table name = record { tie = tt; distinct = refl }

ordered-one : (table : List ℕ) (entry : IndexEntry) (walk : DirectoryWalk) → ordered_behind table [] (entry_before entry walk) ≡ ordered_behind table (name_of entry.key ∷ []) walk
unfolding ordered_behind
ordered-one table entry walk = refl

pub ordered-taken : (table : List ℕ) (row : List (List ℕ)) (entry : IndexEntry) (walk : DirectoryWalk) → IsRow table row → name_may_follow table row (name_of entry.key) ≡ true → IsTaken table row entry walk
unfolding name_may_follow row_of
ordered-taken table [] entry walk is may = record { is = row-one table (name_of entry.key); same = ordered-one table entry walk }
ordered-taken table (first ∷ row) entry walk is may =
    let both = taken-by table first row entry walk (collate table first (name_of entry.key)) refl is may in record { is = both.0; same = both.1 }

-- the name in a key, as ntfs_directory reads it
pub name-read : (key read : List ℕ) → read ≡ key_name key → read ≡ name_of key
unfolding key_name name_of
name-read key read is = is
