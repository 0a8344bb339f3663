-- What it means that bytes are an attribute list, as a relation for readers (the Linux-NTFS documentation,
-- "$ATTRIBUTE_LIST": a list is its entries one after another). Where no source is named, the word is ours.
use Rattle.std.specs.Prelude.{◌≡◌, ◌≢◌, ◌<◌, ◌+◌, ◌*◌, ◌⊎◌, ℕ, List, [], ◌∷◌, ◌++◌, length, map}
use Rattle.std.specs.List.{concat}
use Rattle.ntfs_attrlist.specs.Layout.{list_entry_length, entry_name_units, entry_name_offset}
use Rattle.ntfs_attrlist.specs.Entry.{Listed, listed_of, IsRawEntry}

-- each of these is the bytes of one entry
abbrev pub AreRawEntries : List (List ℕ) → Type 0
AreRawEntries [] = Unit {0}
AreRawEntries (raw ∷ raws) = IsRawEntry raw × AreRawEntries raws

-- the list is its entries' bytes joined, and this is what they say
pub record AreEntries (bytes : List ℕ) (entries : List Listed) : Type 0 where
  pub raws : List (List ℕ)
  pub each : AreRawEntries raws
  pub joined : bytes ≡ concat raws
  pub say : entries ≡ map listed_of raws

-- an entry stands at the front of the bytes
abbrev pub BeginsWithEntry : List ℕ → Type 0
BeginsWithEntry bytes = (raw : List ℕ) × (more : List ℕ) × (bytes ≡ raw ++ more) × IsRawEntry raw

-- the list is these entries' bytes joined, up to a place at which bytes are left but no entry stands
pub record BreaksAt (bytes : List ℕ) (entries : List Listed) (place : ℕ) : Type 0 where
  pub front : List ℕ
  pub rest : List ℕ
  pub joined : bytes ≡ front ++ rest
  pub length_of_front : length front ≡ place
  pub before : AreEntries front entries
  pub more : rest ≢ []
  pub no_entry : ¬ BeginsWithEntry rest

-- why no entry stands at the front of the bytes: there are fewer than the 26 of an entry's fields, or the entry's
-- length is below 26 or passes their end, or its name passes its length
abbrev pub IsBadEntry : List ℕ → Type 0
IsBadEntry bytes =
    (length bytes < 26) ⊎ ((list_entry_length bytes < 26) ⊎ ((length bytes < list_entry_length bytes)
    ⊎ (list_entry_length bytes < entry_name_offset bytes + 2 * entry_name_units bytes)))
