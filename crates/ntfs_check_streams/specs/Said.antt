-- What a base record and its list say of its streams, as the code asks it. The words are ours.
use Rattle.std.specs.Prelude.{◌&&◌, ℕ, Bool, List, [], ◌∷◌, map, filter, find, Option, Result, Ok, Err, if◌then◌else◌}
use Rattle.std.specs.List.{list_all}
use Rattle.ntfs_attrlist.specs.Entry.{Listed}
use Rattle.ntfs_attrlist.specs.declared.fault.BadEntry.{BadEntry}
use Rattle.ntfs_check_streams.specs.Join.{are_joined, is_stream, join_lead, join_shown}
use Rattle.ntfs_check_streams.specs.declared.join.Joined.TheVariants as joined
use Rattle.ntfs_record.specs.FileRecord.{FileRecord, Laid, attributes_of}
use Rattle.ntfs_record.specs.Slots.{Slot}
use Rattle.ntfs_record.specs.Views.{Shown, placed_of, shown_placed}
use Rattle.ntfs_volume.specs.Gather.{all_found, lists}
use Rattle.ntfs_volume.specs.Listing.{RecordListing}
use Rattle.ntfs_volume.specs.Located.{Located}
use Rattle.ntfs_volume.specs.Views.{is_wanted, told}
use Rattle.ntfs_volume.specs.declared.wanted.Wanted.TheVariants as wanted

-- the first list among a record's attributes
abbrev pub lead_in : FileRecord → Option Shown
lead_in file = find (is_wanted wanted.List) (map told (attributes_of file))

-- the attributes of a record
abbrev pub shown_in : FileRecord → List Shown
shown_in file = map shown_placed (placed_of file)

-- without a list: the record's attributes of a type and name are a stream
abbrev pub are_own : ℕ → List Shown → Shown → Bool
are_own c shown s = is_stream c (join_shown s.kind s.name joined.Nothing shown)

-- with one: it, where it has this type and name, and the attributes that its entries name are a stream
unfoldable pub is_listed_stream : ℕ → ℕ → ℕ → List (Slot (Located (Laid (List ℕ)))) → List Listed → Option Shown → ℕ
    → List ℕ → Bool
is_listed_stream c r sequence slots entries lead kind name =
    are_joined c kind (join_lead kind name lead) (all_found r sequence slots (filter (lists kind name) entries))

-- so are all that a list and the record that has it name
abbrev pub all_listed : ℕ → ℕ → ℕ → List (Slot (Located (Laid (List ℕ)))) → List Listed → Option Shown → List Shown
    → Bool
all_listed c r sequence slots entries lead shown =
    list_all (λ (s : Shown). is_listed_stream c r sequence slots entries lead s.kind s.name) shown
    && list_all (λ (entry : Listed). is_listed_stream c r sequence slots entries lead entry.kind entry.name) entries

-- by what a record says of its list
abbrev pub good_listed : ℕ → ℕ → ℕ → List (Slot (Located (Laid (List ℕ)))) → RecordListing → Option Shown → List Shown
    → Bool
good_listed c r sequence slots listing lead shown =
    listing.is_good && all_listed c r sequence slots listing.entries lead shown

-- all that base record r, which says this, has are streams
unfoldable pub are_streams : ℕ → ℕ → FileRecord → RecordListing → List (Slot (Located (Laid (List ℕ)))) → Bool
are_streams c r file listing slots =
    if listing.is_there then good_listed c r file.head.sequence slots listing (lead_in file) (shown_in file)
    else list_all (are_own c (shown_in file)) (shown_in file)
