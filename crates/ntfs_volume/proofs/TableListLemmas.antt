-- The attribute list of record 0, in the clusters that it tells.
use Rattle.std.proofs.Common.{◌≡◌, ℕ, List, [], ◌∷◌, map, refl, ap, ◌∙◌, Bool, true, false, Option, Some, None, Result, Ok, Err, if◌then◌else◌}
use Rattle.std.specs.Prelude.{find}
use Rattle.std.specs.Option.{option_map, ok_or}
use Rattle.ntfs_boot.specs.declared.geometry.Geometry.{Geometry}
use Rattle.ntfs_record.specs.FileRecord.{Attribute, FileRecord, Laid, attributes_of}
use Rattle.ntfs_record.specs.Views.{Shown}
use Rattle.ntfs_volume.specs.Known.{listed_clusters}
use Rattle.ntfs_volume.specs.ListViews.{list_bytes_of}
use Rattle.ntfs_volume.specs.Listing.{filled_attribute, filled_attributes, is_list, bytes_of_list, listing_in, listing_of_bytes}
use Rattle.ntfs_volume.specs.MftMap.{all_clusters, clusters_by, further, no_map}
use Rattle.ntfs_volume.specs.Views.{is_wanted, told}
use Rattle.ntfs_volume.specs.declared.fault.VolumeFault.{VolumeFault}
use Rattle.ntfs_volume.specs.declared.wanted.Wanted.TheVariants as wanted
use Rattle.ntfs_volume.proofs.ListLemmas.{find-map, found-none, found-some}

find_filled : (n : ℕ) (f : ℕ → List ℕ) (a : Attribute (Laid (List ℕ))) (b : Bool) (found : Option _) (rest : Option (Attribute (Laid (List ℕ)))) → found ≡ option_map (filled_attribute n f) rest
    → (if b then Some (filled_attribute n f a) else found) ≡ option_map (filled_attribute n f) (if b then Some a else rest)
find_filled n f a true found rest is = refl
find_filled n f a false found rest is = is

find-filled : (n : ℕ) (f : ℕ → List ℕ) (them : List (Attribute (Laid (List ℕ))))
    → find (λ (a : Attribute _). is_list a.face) (filled_attributes n f them) ≡ option_map (filled_attribute n f) (find (λ (a : Attribute _). is_list a.face) them)
find-filled n f [] = refl
find-filled n f (a ∷ them) = find_filled n f a (is_list a.face) (find (λ (a : Attribute _). is_list a.face) (filled_attributes n f them)) (find (λ (a : Attribute _). is_list a.face) them) (find-filled n f them)

list_wanted : (first : FileRecord) → find (is_wanted wanted.List) (map told (attributes_of first)) ≡ option_map told (find (λ (a : Attribute _). is_list a.face) (attributes_of first))
list_wanted first = find-map told (is_wanted wanted.List) (λ a. is_list a.face) (λ a. refl) (attributes_of first)

-- without a list the known clusters are all
pub all-none : (g : Geometry) (f : ℕ → List ℕ) (valid : ℕ) (first : FileRecord) (known : List ℕ) → None ≡ find (is_wanted wanted.List) (map told (attributes_of first))
    → all_clusters g f valid first known ≡ Ok known
unfolding all_clusters clusters_by listing_in further
all-none g f valid first known is =
    let none = found-none (find (λ (a : Attribute _). is_list a.face) (attributes_of first)) (is ∙ list_wanted first) in
    rw (find-filled g.clusters f (attributes_of first), none) refl

-- with one they are those that its bytes tell
all_listed : (g : Geometry) (f : ℕ → List ℕ) (valid : ℕ) (first : FileRecord) (known : List ℕ) (a : Attribute (Laid (List ℕ))) → find (λ (a : Attribute _). is_list a.face) (attributes_of first) ≡ Some a
    → all_clusters g f valid first known ≡ clusters_by g f valid first known (listing_of_bytes (list_bytes_of g f a first))
unfolding all_clusters listing_in
all_listed g f valid first known a is = rw (find-filled g.clusters f (attributes_of first), is) refl

pub all-resident : (g : Geometry) (f : ℕ → List ℕ) (valid : ℕ) (first : FileRecord) (known value : List ℕ) (s : Shown) → Some s ≡ find (is_wanted wanted.List) (map told (attributes_of first))
    → s.body.is_resident ≡ true → s.body.value ≡ value → all_clusters g f valid first known ≡ listed_clusters g f valid first known value
unfolding listed_clusters bytes_of_list
all-resident g f valid first known value s is resident same =
    let found = found-some (find (λ (a : Attribute _). is_list a.face) (attributes_of first)) s (is ∙ list_wanted first) in
    all_listed g f valid first known found.0 found.1
    ∙ rw (ap (λ (t : Shown). t.body.is_resident) found.2 ∙ resident) (ap (λ bytes. clusters_by g f valid first known (listing_of_bytes (Some bytes))) (ap (λ (t : Shown). t.body.value) found.2 ∙ same))

-- the list of record 0 that is shown
pub table-list : (first : FileRecord) (s : Shown) → Some s ≡ find (is_wanted wanted.List) (map told (attributes_of first))
    → (a : Attribute (Laid (List ℕ))) × (find (λ (a : Attribute _). is_list a.face) (attributes_of first) ≡ Some a) × (told a ≡ s)
table-list first s is = found-some (find (λ (a : Attribute _). is_list a.face) (attributes_of first)) s (is ∙ list_wanted first)

ok_bytes : (o : Option (List ℕ)) (bytes : List ℕ) → ok_or o (no_map 0) ≡ Ok bytes → o ≡ Some bytes
ok_bytes None bytes is = let same : ◌≡◌ {A = Result (List ℕ) VolumeFault} (Err (no_map 0)) (Ok bytes) = is in absurd cc
ok_bytes (Some found) bytes is = let same : ◌≡◌ {A = Result (List ℕ) VolumeFault} (Ok found) (Ok bytes) = is in let here : found ≡ bytes = cc in ap Some here

pub all-read : (g : Geometry) (f : ℕ → List ℕ) (valid : ℕ) (first : FileRecord) (known bytes : List ℕ) (a : Attribute (Laid (List ℕ))) → find (λ (a : Attribute _). is_list a.face) (attributes_of first) ≡ Some a
    → ok_or (list_bytes_of g f a first) (no_map 0) ≡ Ok bytes → all_clusters g f valid first known ≡ listed_clusters g f valid first known bytes
unfolding listed_clusters
all-read g f valid first known bytes a is read = all_listed g f valid first known a is ∙ ap (λ o. clusters_by g f valid first known (listing_of_bytes o)) (ok_bytes (list_bytes_of g f a first) bytes read)

unread : (g : Geometry) (f : ℕ → List ℕ) (valid : ℕ) (first : FileRecord) (known : List ℕ) (o : Option (List ℕ)) (fault : VolumeFault) → ok_or o (no_map 0) ≡ Err fault
    → clusters_by g f valid first known (listing_of_bytes o) ≡ Err fault
unfolding clusters_by
unread g f valid first known None fault is = is
unread g f valid first known (Some bytes) fault is = let same : ◌≡◌ {A = Result (List ℕ) VolumeFault} (Ok bytes) (Err fault) = is in absurd cc

pub all-unread : (g : Geometry) (f : ℕ → List ℕ) (valid : ℕ) (first : FileRecord) (known : List ℕ) (a : Attribute (Laid (List ℕ))) (fault : VolumeFault) → find (λ (a : Attribute _). is_list a.face) (attributes_of first) ≡ Some a
    → ok_or (list_bytes_of g f a first) (no_map 0) ≡ Err fault → all_clusters g f valid first known ≡ Err fault
all-unread g f valid first known a fault is refused = all_listed g f valid first known a is ∙ unread g f valid first known (list_bytes_of g f a first) fault refused
