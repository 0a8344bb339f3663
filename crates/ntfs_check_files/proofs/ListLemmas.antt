-- The attribute list of a base record.
use Rattle.std.proofs.Common.{◌≡◌, ◌==◌, ◌&&◌, ◌||◌, ◌++◌, ℕ, Bool, true, false, List, [], ◌∷◌, length, map, Option, Some, None, Result, Ok, Err, refl, sym, ap, ◌∙◌, arith}
use Rattle.ntfs_check_records.proofs.EntryLemmas.{good-all}
use Rattle.ntfs_check_records.specs.Entries.{good_entries}
use Rattle.std.specs.Prelude.{is_ok, not}
use Rattle.std.proofs.lemmas.Bool.Decides.{nat_tests}
use Rattle.std.specs.Result.{result_map_both}
use Rattle.ntfs_attrlist.specs.Entry.{Listed}
use Rattle.ntfs_attrlist.specs.Reading.{all_or_first, list_entries, list_items}
use Rattle.ntfs_attrlist.specs.declared.fault.BadEntry.{BadEntry}
use Rattle.ntfs_check_files.proofs.ListedLemmas.{listed-kept}
use Rattle.ntfs_check_files.specs.Members.{all_name, all_named, matches_listing, members_in, members_said, told_member}
use Rattle.ntfs_check_files.specs.declared.members.Attribute.{Attribute as Kept}
use Rattle.ntfs_record.specs.FileRecord.{FileRecord, Laid}
use Rattle.ntfs_record.specs.Slots.{Slot}
use Rattle.ntfs_rules.specs.Files.{are_listed}
use Rattle.ntfs_volume.specs.Listing.{RecordListing, listing_of_bytes, listing_of_entries, no_listing}
use Rattle.ntfs_volume.specs.Located.{Located}

abbrev Slots : Type 0
Slots = List (Slot (Located (Laid (List ℕ))))

good-matches : (slots : Slots) (n : ℕ) (said : FileRecord) (numbers : List ℕ) (entries : List Listed) → matches_listing slots n said numbers (listing_of_entries (Ok entries)) ≡ are_listed entries (members_said true n said ++ members_in slots numbers)
unfolding matches_listing
good-matches slots n said numbers entries = refl

bad-matches : (slots : Slots) (n : ℕ) (said : FileRecord) (numbers : List ℕ) (fault : BadEntry) → matches_listing slots n said numbers (listing_of_entries (Err fault)) ≡ false
unfolding matches_listing
bad-matches slots n said numbers fault = refl

-- not all bytes are entries
pub bytes-bad : (slots : Slots) (n : ℕ) (said : FileRecord) (numbers : List ℕ) (list : List ℕ) → is_ok (list_entries list) ≡ false → false ≡ matches_listing slots n said numbers (listing_of_bytes (Some list))
bytes-bad slots n said numbers list is = go (list_entries list) is
  where
    go : (entries : Result (List Listed) BadEntry) → is_ok entries ≡ false → false ≡ matches_listing slots n said numbers (listing_of_entries entries)
    go (Ok entries) is = absurd cc
    go (Err fault) is = sym (bad-matches slots n said numbers fault)

-- they are
pub bytes-good : (slots : Slots) (n : ℕ) (said : FileRecord) (numbers list : List ℕ) (kept : List Kept) (answer : Bool) → is_ok (list_entries list) ≡ true → all_or_first (list_items list) ≡ list_entries list
    → map told_member kept ≡ members_said true n said ++ members_in slots numbers → answer ≡ (all_name (good_entries (list_items list)) kept && all_named (good_entries (list_items list)) kept)
    → answer ≡ matches_listing slots n said numbers (listing_of_bytes (Some list))
bytes-good slots n said numbers list kept answer is whole members same = go (list_entries list) is whole
  where
    go : (entries : Result (List Listed) BadEntry) → is_ok entries ≡ true → all_or_first (list_items list) ≡ entries → answer ≡ matches_listing slots n said numbers (listing_of_entries entries)
    go (Ok entries) is whole =
        same ∙ sym (listed-kept (good_entries (list_items list)) kept)
        ∙ ap (λ (them : List Listed). are_listed them (map told_member kept)) (good-all (list_items list) entries whole)
        ∙ ap (are_listed entries) members ∙ sym (good-matches slots n said numbers entries)
    go (Err fault) is whole = absurd cc

pub none-matches : (slots : Slots) (n : ℕ) (said : FileRecord) (numbers : List ℕ) (listing : RecordListing) → listing ≡ no_listing → matches_listing slots n said numbers listing ≡ (length numbers == 0)
unfolding matches_listing
none-matches slots n said numbers listing is = ap (matches_listing slots n said numbers) is

pub unread-matches : (slots : Slots) (n : ℕ) (said : FileRecord) (numbers : List ℕ) (bytes : Option (List ℕ)) → bytes ≡ None → false ≡ matches_listing slots n said numbers (listing_of_bytes bytes)
unfolding matches_listing
unread-matches slots n said numbers bytes is = sym (ap (λ b. matches_listing slots n said numbers (listing_of_bytes b)) is)

pub whole-list : (list : List ℕ) → all_or_first (list_items list) ≡ list_entries list
unfolding list_entries
whole-list list = refl

is-zero : (n : ℕ) → n ≡ 0 → (n == 0) ≡ true
is-zero n is = grind (arith, nat_tests)

-- of a base record the list decides
pub base-matches : (base : ℕ) (test : Bool) → base ≡ 0 → test ≡ (not (base == 0) || test)
base-matches base test is = sym (ap (λ b. not b || test) (is-zero base is))
