-- The attributes of a file as the code keeps them, beside the entries of its list. The words are ours.
use Rattle.std.specs.Prelude.{◌==◌, ◌&&◌, ℕ, Bool, true, false, List, [], ◌∷◌, ◌++◌, length, map, Result, Ok, Err, if◌then◌else◌}
use Rattle.std.specs.List.{flat_map, list_all, list_any}
use Rattle.ntfs_attrlist.specs.Entry.{Listed}
use Rattle.ntfs_attrlist.specs.declared.fault.BadEntry.{BadEntry}
use Rattle.ntfs_check_records.specs.Reading.{is_readable}
use Rattle.ntfs_check_files.specs.declared.members.Attribute.{Attribute as Kept}
use Rattle.ntfs_record.specs.FileRecord.{FileRecord, Laid}
use Rattle.ntfs_record.specs.Slots.{Slot}
use Rattle.ntfs_record.specs.Views.{Shown, placed_of, shown_placed}
use Rattle.ntfs_rules.specs.Files.{Member, are_listed, count_of, is_same_member, member_at, names_member}
use Rattle.ntfs_volume.specs.Gathering.{shown_id}
use Rattle.ntfs_volume.specs.Listing.{RecordListing}
use Rattle.ntfs_volume.specs.Located.{Located, slot_at}

-- an attribute that is kept
abbrev pub told_member : Kept → Member
told_member m = record {
  number = m.number;
  sequence = m.sequence;
  id = record { kind = m.kind; name = m.name.items; lowest = m.lowest; instance = m.instance };
}

-- an attribute of record n, as its view shows it
abbrev pub shown_member : ℕ → ℕ → Shown → Member
shown_member n sequence s = record { number = n; sequence = sequence; id = shown_id s }

-- views, where it skips without the first that is a list
unfoldable pub shown_but : Bool → List Shown → List Shown
shown_but skips [] = []
shown_but skips (s ∷ ss) = if skips && (s.kind == 0x20) then shown_but false ss else s ∷ shown_but skips ss

-- the attributes of record n, which says this
abbrev pub members_said : Bool → ℕ → FileRecord → List Member
members_said skips n said =
    map (shown_member n said.head.sequence) (shown_but skips (map shown_placed (placed_of said)))

-- the attributes of record n, where it can be read
abbrev pub members_read : ℕ → Slot (Located (Laid (List ℕ))) → List Member
members_read n s = if is_readable s then map (member_at n s) s.attributes else []

-- those of all these records
abbrev pub members_in : List (Slot (Located (Laid (List ℕ)))) → List ℕ → List Member
members_in slots numbers = flat_map (λ n. members_read n (slot_at slots n)) numbers

-- an attribute that is kept is one that an entry names
abbrev pub names_kept : Listed → Kept → Bool
names_kept entry m = names_member (told_member m) entry

-- two that are kept are the same
abbrev pub is_same : Kept → Kept → Bool
is_same m other = is_same_member (told_member m) (told_member other)

-- each entry names one that is kept
abbrev pub all_name : List Listed → List Kept → Bool
all_name entries kept = list_all (λ (entry : Listed). list_any (names_kept entry) kept) entries

-- each that is kept is named once, and is the only such one
abbrev pub all_named : List Listed → List Kept → Bool
all_named entries kept =
    list_all (λ (m : Kept). (count_of (names_member (told_member m)) entries == 1)
    && (count_of (is_same m) kept == 1)) kept

-- a list of base record n, which says this, has as its entries the attributes of the file, those of these records among
-- them; without one there are no such records
unfoldable pub matches_listing : List (Slot (Located (Laid (List ℕ)))) → ℕ → FileRecord → List ℕ → RecordListing → Bool
matches_listing slots n said numbers listing =
    if listing.is_there then
    listing.is_good && are_listed listing.entries (members_said true n said ++ members_in slots numbers)
    else length numbers == 0
