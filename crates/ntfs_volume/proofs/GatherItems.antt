-- The items of an attribute list, taken one after another.
use Rattle.std.proofs.Common.{◌≡◌, ◌+◌, length, arith, ℕ, Bool, true, false, List, [], ◌∷◌, Some, None, Result, Ok, Err, refl, sym, ap, ◌∙◌, if◌then◌else◌}
use Rattle.std.specs.Prelude.{is_ok}
use Rattle.std.specs.Result.{result_map_both}
use Rattle.ntfs_attrlist.specs.Entry.{Listed}
use Rattle.ntfs_attrlist.specs.Reading.{all_or_first, list_entries, list_items}
use Rattle.ntfs_attrlist.specs.declared.fault.BadEntry.{BadEntry}
use Rattle.ntfs_base.specs.Frames.{must, ◌>>=◌}
use Rattle.ntfs_record.specs.FileRecord.{Laid}
use Rattle.ntfs_record.specs.Slots.{Slot}
use Rattle.ntfs_runs.specs.Cells.{Cells}
use Rattle.ntfs_volume.specs.Gather.{bad_list, lists}
use Rattle.ntfs_volume.specs.Gathering.{Progress, entry_part, entry_parts, found_part, listed_parts}
use Rattle.ntfs_volume.specs.Listing.{listing_of_bytes, listing_of_entries}
use Rattle.ntfs_volume.specs.Located.{Located, slot_at}
use Rattle.ntfs_volume.specs.References.{target}
use Rattle.ntfs_volume.specs.declared.fault.VolumeFault.{VolumeFault}

abbrev pub Slots : Type 0
Slots = List (Slot (Located (Laid (Cells ℕ))))

-- the extents of the entries among the items
unfoldable pub items_parts : ℕ → ℕ → ℕ → List ℕ → Slots → List (Result Listed BadEntry) → Progress → Result Progress VolumeFault
items_parts r sequence kind name slots [] p = Ok p
items_parts r sequence kind name slots (Ok entry ∷ items) p = do
  q ← entry_part r sequence kind name slots entry p
  items_parts r sequence kind name slots items q
items_parts r sequence kind name slots (Err fault ∷ items) p = items_parts r sequence kind name slots items p

whole-step : (r sequence kind : ℕ) (name : List ℕ) (slots : Slots) (entry : Listed) (all : Result (List Listed) BadEntry) (items : List (Result Listed BadEntry)) (p : Progress)
    → ((p : Progress) → is_ok all ≡ true → (must (listing_of_entries all).is_good (bad_list r) >>= (λ _. entry_parts r sequence kind name slots (listing_of_entries all).entries p)) ≡ items_parts r sequence kind name slots items p)
    → is_ok all ≡ true
    → (must (listing_of_entries (result_map_both (λ xs. entry ∷ xs) (λ e. e) all)).is_good (bad_list r)
    >>= (λ _. entry_parts r sequence kind name slots (listing_of_entries (result_map_both (λ xs. entry ∷ xs) (λ e. e) all)).entries p))
    ≡ (entry_part r sequence kind name slots entry p >>= (λ q. items_parts r sequence kind name slots items q))
unfolding entry_parts
whole-step r sequence kind name slots entry (Ok entries) items p rest good = by_part (entry_part r sequence kind name slots entry p)
  where
    by_part : (x : Result Progress VolumeFault) → (x >>= (λ q. entry_parts r sequence kind name slots entries q)) ≡ (x >>= (λ q. items_parts r sequence kind name slots items q))
    by_part (Ok q) = rest q refl
    by_part (Err fault) = refl
whole-step r sequence kind name slots entry (Err e) items p rest good = absurd cc

map-good : (entry : Listed) (all : Result (List Listed) BadEntry) → is_ok (result_map_both (λ (xs : List Listed). entry ∷ xs) (λ (e : BadEntry). e) all) ≡ true → is_ok all ≡ true
map-good entry (Ok xs) good = refl
map-good entry (Err e) good = good

whole-items : (r sequence kind : ℕ) (name : List ℕ) (slots : Slots) (items : List (Result Listed BadEntry)) (p : Progress) → is_ok (all_or_first items) ≡ true
    → (must (listing_of_entries (all_or_first items)).is_good (bad_list r) >>= (λ _. entry_parts r sequence kind name slots (listing_of_entries (all_or_first items)).entries p))
    ≡ items_parts r sequence kind name slots items p
unfolding items_parts entry_parts
whole-items r sequence kind name slots [] p good = refl
whole-items r sequence kind name slots (Err fault ∷ items) p good = absurd cc
whole-items r sequence kind name slots (Ok entry ∷ items) p good =
    whole-step r sequence kind name slots entry (all_or_first items) items p (λ p good. whole-items r sequence kind name slots items p good) (map-good entry (all_or_first items) good)

-- all items are entries
pub listed-items : (r sequence kind : ℕ) (name : List ℕ) (slots : Slots) (list : List ℕ) (p : Progress) → is_ok (list_entries list) ≡ true
    → listed_parts r sequence kind name slots (listing_of_bytes (Some list)) p ≡ items_parts r sequence kind name slots (list_items list) p
unfolding listed_parts list_entries
listed-items r sequence kind name slots list p good = whole-items r sequence kind name slots (list_items list) p good

listed-by : (r sequence kind : ℕ) (name : List ℕ) (slots : Slots) (all : Result (List Listed) BadEntry) (p : Progress) → is_ok all ≡ false
    → (must (listing_of_entries all).is_good (bad_list r) >>= (λ _. entry_parts r sequence kind name slots (listing_of_entries all).entries p)) ≡ Err (bad_list r)
listed-by r sequence kind name slots (Ok xs) p bad = absurd cc
listed-by r sequence kind name slots (Err fault) p bad = refl

-- one isn't
pub listed-bad : (r sequence kind : ℕ) (name : List ℕ) (slots : Slots) (list : List ℕ) (p : Progress) → is_ok (list_entries list) ≡ false
    → listed_parts r sequence kind name slots (listing_of_bytes (Some list)) p ≡ Err (bad_list r)
unfolding listed_parts
listed-bad r sequence kind name slots list p bad = listed-by r sequence kind name slots (list_entries list) p bad

-- there are no bytes of a list
pub listed-none : (r sequence kind : ℕ) (name : List ℕ) (slots : Slots) (p : Progress) → listed_parts r sequence kind name slots (listing_of_bytes None) p ≡ Err (bad_list r)
unfolding listed_parts
listed-none r sequence kind name slots p = refl

-- ---- one item

pub item-fault : (r sequence kind : ℕ) (name : List ℕ) (slots : Slots) (items rest : List (Result Listed BadEntry)) (fault : BadEntry) (p : Progress) → items ≡ Err fault ∷ rest
    → items_parts r sequence kind name slots items p ≡ items_parts r sequence kind name slots rest p
unfolding items_parts
item-fault r sequence kind name slots items rest fault p is = ap (λ items. items_parts r sequence kind name slots items p) is

pub item-other : (r sequence kind : ℕ) (name : List ℕ) (slots : Slots) (items rest : List (Result Listed BadEntry)) (entry : Listed) (listed : Bool) (p : Progress) → items ≡ Ok entry ∷ rest
    → listed ≡ lists kind name entry → listed ≡ false → items_parts r sequence kind name slots items p ≡ items_parts r sequence kind name slots rest p
unfolding items_parts entry_part
item-other r sequence kind name slots items rest entry listed p is test other =
    ap (λ items. items_parts r sequence kind name slots items p) is
    ∙ ap (λ b. (if b then found_part r sequence entry (slot_at slots (target entry.reference)) p else Ok p) >>= (λ q. items_parts r sequence kind name slots rest q)) (sym test ∙ other)

item-listed : (r sequence kind : ℕ) (name : List ℕ) (slots : Slots) (items rest : List (Result Listed BadEntry)) (entry : Listed) (listed : Bool) (p : Progress) (found : Result Progress VolumeFault) → items ≡ Ok entry ∷ rest
    → listed ≡ lists kind name entry → listed ≡ true → found_part r sequence entry (slot_at slots (target entry.reference)) p ≡ found
    → items_parts r sequence kind name slots items p ≡ (found >>= (λ q. items_parts r sequence kind name slots rest q))
unfolding items_parts entry_part
item-listed r sequence kind name slots items rest entry listed p found is test holds same =
    ap (λ items. items_parts r sequence kind name slots items p) is
    ∙ ap (λ b. (if b then found_part r sequence entry (slot_at slots (target entry.reference)) p else Ok p) >>= (λ q. items_parts r sequence kind name slots rest q)) (sym test ∙ holds)
    ∙ ap (λ found. found >>= (λ q. items_parts r sequence kind name slots rest q)) same

pub item-taken : (r sequence kind : ℕ) (name : List ℕ) (slots : Slots) (items rest : List (Result Listed BadEntry)) (entry : Listed) (listed : Bool) (p q : Progress) → items ≡ Ok entry ∷ rest
    → listed ≡ lists kind name entry → listed ≡ true → found_part r sequence entry (slot_at slots (target entry.reference)) p ≡ Ok q
    → items_parts r sequence kind name slots items p ≡ items_parts r sequence kind name slots rest q
item-taken r sequence kind name slots items rest entry listed p q is test holds same =
    item-listed r sequence kind name slots items rest entry listed p (Ok q) is test holds same

pub item-refused : (r sequence kind : ℕ) (name : List ℕ) (slots : Slots) (items rest : List (Result Listed BadEntry)) (entry : Listed) (listed : Bool) (p : Progress) (fault : VolumeFault) → items ≡ Ok entry ∷ rest
    → listed ≡ lists kind name entry → listed ≡ true → found_part r sequence entry (slot_at slots (target entry.reference)) p ≡ Err fault
    → items_parts r sequence kind name slots items p ≡ Err fault
item-refused r sequence kind name slots items rest entry listed p fault is test holds same =
    item-listed r sequence kind name slots items rest entry listed p (Err fault) is test holds same

pub items-end : (r sequence kind : ℕ) (name : List ℕ) (slots : Slots) (items : List (Result Listed BadEntry)) (p : Progress) → items ≡ [] → items_parts r sequence kind name slots items p ≡ Ok p
unfolding items_parts
items-end r sequence kind name slots items p is = ap (λ items. items_parts r sequence kind name slots items p) is

pub items-less : (items : List (Result Listed BadEntry)) (item : Result Listed BadEntry) (rest : List (Result Listed BadEntry)) → items ≡ item ∷ rest → length items ≡ length rest + 1
items-less items item rest is = let long = ap length is in omega (arith, long)
