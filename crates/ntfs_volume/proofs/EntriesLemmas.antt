-- The extents that the entries of a list tell, one after the other.
use Rattle.std.proofs.Common.{◌≡◌, ◌≤◌, ◌<◌, ◌++◌, arith, ⊎_elim, ℕ, List, [], ◌∷◌, refl, sym, ap, ◌∙◌, true, false, Result, Ok, Err}
use Rattle.std.proofs.Math.Nat.{eq-or-lt_of_le}
use Rattle.std.specs.Prelude.{filter, is_ok}
use Rattle.std.specs.Result.{result_map_both}
use Rattle.ntfs_attrlist.specs.Entry.{Listed}
use Rattle.ntfs_attrlist.specs.Reading.{all_or_first, list_entries}
use Rattle.ntfs_attrlist.specs.declared.fault.BadEntry.{BadEntry}
use Rattle.ntfs_base.specs.Causes.{Rose, last_count}
use Rattle.ntfs_base.specs.Frames.{Because, Origin, content, reading, writing, memory}
use Rattle.ntfs_boot.specs.declared.geometry.Geometry.{Geometry}
use Rattle.ntfs_record.specs.FileRecord.{FileRecord}
use Rattle.ntfs_volume.specs.Known.{behind_known, listed_clusters}
use Rattle.ntfs_volume.specs.Listing.{listing_of_entries}
use Rattle.ntfs_volume.specs.MftMap.{clusters_by, extent_of_entry, further, is_further, no_map}
use Rattle.ntfs_volume.specs.declared.fault.VolumeFault.{VolumeFault}

-- the entries that are right
abbrev pub right_entries : List (Result Listed BadEntry) → List Listed
right_entries [] = []
right_entries (Ok entry ∷ items) = entry ∷ right_entries items
right_entries (Err fault ∷ items) = right_entries items

right_first : (entry : Listed) (right : List Listed) (rest : Result (List Listed) BadEntry) (entries : List Listed) → ((others : List Listed) → rest ≡ Ok others → right ≡ others)
    → result_map_both (λ xs. entry ∷ xs) (λ (e : BadEntry). e) rest ≡ Ok entries → entry ∷ right ≡ entries
right_first entry right (Ok others) entries more is =
    let same : ◌≡◌ {A = Result (List Listed) BadEntry} (Ok (entry ∷ others)) (Ok entries) = is in
    let whole : entry ∷ others ≡ entries = cc in
    ap (λ xs. entry ∷ xs) (more others refl) ∙ whole
right_first entry right (Err fault) entries more is = let same : ◌≡◌ {A = Result (List Listed) BadEntry} (Err fault) (Ok entries) = is in absurd cc

right_all : (items : List (Result Listed BadEntry)) (entries : List Listed) → all_or_first items ≡ Ok entries → right_entries items ≡ entries
right_all [] entries is = let here : ◌≡◌ {A = Result (List Listed) BadEntry} (Ok []) (Ok entries) = is in cc
right_all (Ok entry ∷ items) entries is = right_first entry (right_entries items) (all_or_first items) entries (right_all items) is
right_all (Err fault ∷ items) entries is = let here : ◌≡◌ {A = Result (List Listed) BadEntry} (Err fault) (Ok entries) = is in absurd cc

-- a list with an entry that isn't right gives no map
bad_listing : (g : Geometry) (f : ℕ → List ℕ) (valid : ℕ) (first : FileRecord) (known : List ℕ) (entries : Result (List Listed) BadEntry) → is_ok entries ≡ false
    → clusters_by g f valid first known (listing_of_entries entries) ≡ Err (no_map 0)
unfolding clusters_by
bad_listing g f valid first known (Ok entries) is = absurd cc
bad_listing g f valid first known (Err fault) is = refl

pub listed-bad : (g : Geometry) (f : ℕ → List ℕ) (valid : ℕ) (first : FileRecord) (known list : List ℕ) → is_ok (list_entries list) ≡ false
    → listed_clusters g f valid first known list ≡ Err (no_map 0)
unfolding listed_clusters
listed-bad g f valid first known list is = bad_listing g f valid first known (list_entries list) is

good_listing : (g : Geometry) (f : ℕ → List ℕ) (valid : ℕ) (first : FileRecord) (known : List ℕ) (items : List (Result Listed BadEntry)) (entries : Result (List Listed) BadEntry)
    → all_or_first items ≡ entries → is_ok entries ≡ true
    → clusters_by g f valid first known (listing_of_entries entries) ≡ further g f valid first known (filter is_further (right_entries items))
unfolding clusters_by
good_listing g f valid first known items (Ok entries) is good = ap (λ es. further g f valid first known (filter is_further es)) (sym (right_all items entries is))
good_listing g f valid first known items (Err fault) is good = absurd cc

-- a list in which all entries are right gives the extents of those of $MFT, in order
pub listed-good : (g : Geometry) (f : ℕ → List ℕ) (valid : ℕ) (first : FileRecord) (known list : List ℕ) (items : List (Result Listed BadEntry)) → all_or_first items ≡ list_entries list
    → is_ok (list_entries list) ≡ true → listed_clusters g f valid first known list ≡ further g f valid first known (filter is_further (right_entries items))
unfolding listed_clusters
listed-good g f valid first known list items is good = good_listing g f valid first known items (list_entries list) is good

-- what is left behind an entry that tells of no further extent
pub entry-skip : (items rest : List (Result Listed BadEntry)) (entry : Listed) → items ≡ Ok entry ∷ rest → is_further entry ≡ false
    → filter is_further (right_entries items) ≡ filter is_further (right_entries rest)
entry-skip items rest entry is other = ap (λ xs. filter is_further (right_entries xs)) is ∙ rw other refl

pub entry-take : (items rest : List (Result Listed BadEntry)) (entry : Listed) → items ≡ Ok entry ∷ rest → is_further entry ≡ true
    → filter is_further (right_entries items) ≡ entry ∷ filter is_further (right_entries rest)
entry-take items rest entry is more = ap (λ xs. filter is_further (right_entries xs)) is ∙ rw more refl

pub entry-wrong : (items rest : List (Result Listed BadEntry)) (fault : BadEntry) → items ≡ Err fault ∷ rest
    → filter is_further (right_entries items) ≡ filter is_further (right_entries rest)
entry-wrong items rest fault is = ap (λ xs. filter is_further (right_entries xs)) is

-- an extent more
further_by : (g : Geometry) (f : ℕ → List ℕ) (valid : ℕ) (first : FileRecord) (known new : List ℕ) (entry : Listed) (entries : List Listed) (extent : Result (List ℕ) VolumeFault)
    → extent_of_entry g f valid first known entry ≡ extent → behind_known known extent ≡ Ok new
    → further g f valid first known (entry ∷ entries) ≡ further g f valid first new entries
unfolding further
further_by g f valid first known new entry entries (Ok more) is whole =
    let same : ◌≡◌ {A = Result (List ℕ) VolumeFault} (Ok (known ++ more)) (Ok new) = whole in
    let here : known ++ more ≡ new = cc in
    rw is (ap (λ ks. further g f valid first ks entries) here)
further_by g f valid first known new entry entries (Err fault) is whole = let same : ◌≡◌ {A = Result (List ℕ) VolumeFault} (Err fault) (Ok new) = whole in absurd cc

pub further-more : (g : Geometry) (f : ℕ → List ℕ) (valid : ℕ) (first : FileRecord) (known new : List ℕ) (entry : Listed) (entries : List Listed)
    → behind_known known (extent_of_entry g f valid first known entry) ≡ Ok new
    → further g f valid first known (entry ∷ entries) ≡ further g f valid first new entries
further-more g f valid first known new entry entries whole = further_by g f valid first known new entry entries (extent_of_entry g f valid first known entry) refl whole

further_fault : (g : Geometry) (f : ℕ → List ℕ) (valid : ℕ) (first : FileRecord) (known : List ℕ) (entry : Listed) (entries : List Listed) (fault : VolumeFault) (extent : Result (List ℕ) VolumeFault)
    → extent_of_entry g f valid first known entry ≡ extent → behind_known known extent ≡ Err fault
    → further g f valid first known (entry ∷ entries) ≡ Err fault
unfolding further
further_fault g f valid first known entry entries fault (Ok more) is whole = let same : ◌≡◌ {A = Result (List ℕ) VolumeFault} (Ok (known ++ more)) (Err fault) = whole in absurd cc
further_fault g f valid first known entry entries fault (Err found) is whole = rw is whole

pub further-stops : (g : Geometry) (f : ℕ → List ℕ) (valid : ℕ) (first : FileRecord) (known : List ℕ) (entry : Listed) (entries : List Listed) (fault : VolumeFault)
    → behind_known known (extent_of_entry g f valid first known entry) ≡ Err fault
    → further g f valid first known (entry ∷ entries) ≡ Err fault
further-stops g f valid first known entry entries fault whole = further_fault g f valid first known entry entries fault (extent_of_entry g f valid first known entry) refl whole

pub further-ends : (g : Geometry) (f : ℕ → List ℕ) (valid : ℕ) (first : FileRecord) (known : List ℕ) → further g f valid first known [] ≡ Ok known
unfolding further
further-ends g f valid first known = refl

-- ---- counts of reads over several calls

rose_more : (a b c : ℕ) → a ≤ b → b ≤ c → Rose b c → Rose a c
rose_more a b c first second rose below =
    ⊎_elim (λ (same : a ≡ c). let here : b < last_count = omega (arith, same, first, second, below) in omega (arith, rose here, same, first))
    (λ (less : a < c). less) (eq-or-lt_of_le {n = a} {m = c} (omega (arith, first, second)))

pub because-more : (origin : Origin) (a b c : ℕ) → a ≤ b → b ≤ c → Because origin (Rose b c) ⊥ (Unit {0}) → Because origin (Rose a c) ⊥ (Unit {0})
because-more content a b c first second cause = tt
because-more reading a b c first second cause = rose_more a b c first second cause
because-more writing a b c first second cause = cause
because-more memory a b c first second cause = cause
