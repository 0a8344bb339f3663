-- Reading an attribute list, as a function on lists: the entries up to the first place at which none stands. The
-- relation stands in `AttributeList`; laws tie the two. The words are ours.
use Rattle.std.specs.Prelude.{◌<◌, ◌+◌, ◌-◌, ◌*◌, ◌&&◌, ℕ, zero, suc, List, [], ◌∷◌, ◌++◌, length, take, map, Bool, Result, Ok, Err, MatchResult, nat_le, if◌then◌else◌}
use Rattle.std.specs.Result.{result_map_both}
use Rattle.ntfs_attrlist.specs.declared.fault.BadEntry.{BadEntry}
use Rattle.ntfs_attrlist.specs.Layout.{list_entry_length, entry_name_units, entry_name_offset}
use Rattle.ntfs_attrlist.specs.Entry.{Listed, listed_of, HasEntryBounds}

-- an entry stands at the front of the bytes
unfoldable pub has_entry : List ℕ → Bool
has_entry bytes =
    nat_le 26 (length bytes) && (nat_le 26 (list_entry_length bytes) && (nat_le (list_entry_length bytes) (length bytes)
    && nat_le (entry_name_offset bytes + 2 * entry_name_units bytes) (list_entry_length bytes)))

-- the bytes of the entry at the front
abbrev pub first_raw : List ℕ → List ℕ
first_raw bytes = take (list_entry_length bytes) bytes

-- the entries of the bytes behind so many that belong to the entry before, and the fault where one stands; place is the
-- place of the bytes in the list
unfoldable pub list_items_from : ℕ → ℕ → List ℕ → List (Result Listed BadEntry)
list_items_from skip place [] = []
list_items_from (suc skip) place (byte ∷ bytes) = list_items_from skip (suc place) bytes
list_items_from zero place (byte ∷ bytes) =
    if has_entry (byte ∷ bytes)
    then Ok (listed_of (first_raw (byte ∷ bytes))) ∷ list_items_from (list_entry_length (byte ∷ bytes) - 1)
    (suc place) bytes
    else Err (record { place = place }) ∷ []

-- the entries of an attribute list, and the fault where one stands
unfoldable pub list_items : List ℕ → List (Result Listed BadEntry)
list_items bytes = list_items_from 0 0 bytes

-- all values, or the first error
abbrev pub all_or_first : {T E : Type 0} → List (Result T E) → Result (List T) E
all_or_first [] = Ok []
all_or_first (Ok x ∷ items) = result_map_both (λ xs. x ∷ xs) (λ e. e) (all_or_first items)
all_or_first (Err e ∷ items) = Err e

-- all entries of an attribute list, or its first fault
unfoldable pub list_entries : List ℕ → Result (List Listed) BadEntry
list_entries bytes = all_or_first (list_items bytes)

-- entries, and then a fault at this place
abbrev pub entries_and_fault : List Listed → ℕ → List (Result Listed BadEntry)
entries_and_fault entries place = map Ok entries ++ Err (record { place = place }) ∷ []

-- an entry fits its fields, and the place of a fault lies in the list, of so many bytes
abbrev pub HasItemBounds : ℕ → Result Listed BadEntry → Type 0
HasItemBounds size item = MatchResult item (HasEntryBounds size) (λ fault. fault.place < size)
