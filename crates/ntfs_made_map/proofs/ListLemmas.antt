-- The attribute list of record 0, as it is read.
use Rattle.std.proofs.Common.{◌≡◌, ◌*◌, ℕ, List, [], ◌∷◌, ◌++◌, length, take, drop, map, refl, ap, sym, ◌∙◌, subst, arith}
use Rattle.std.specs.Prelude.{Ok}
use Rattle.std.specs.List.{concat}
use Rattle.std.proofs.lemmas.List.{append-nil}
use Rattle.ntfs_attrlist.specs.Entry.{IsRawEntry, Listed, listed_of}
use Rattle.ntfs_attrlist.specs.AttributeList.{AreRawEntries}
use Rattle.ntfs_attrlist.specs.Layout.{entry_name, entry_name_offset}
use Rattle.ntfs_attrlist.specs.Reading.{list_entries}
use Rattle.ntfs_attrlist.proofs.LawLemmas.{raws-read}
use Rattle.ntfs_make.specs.declared.shape.Shape.{Shape}
use Rattle.ntfs_make.specs.declared.table.ListEntry.{ListEntry}
use Rattle.ntfs_make.specs.Attributes.{list_bytes, list_entry_bytes, listed_lowest}
use Rattle.ntfs_make.specs.Fields.{fields_bytes, zero_bytes}
use Rattle.ntfs_make.specs.Index.{reference}
use Rattle.ntfs_make.specs.ReadBack.{FitsListEntry, IsListEntryOf}
use Rattle.ntfs_make.proofs.ReadBackLemmas.{list-entry-read}

-- what an entry of the table says
abbrev pub made_entry : Shape → ListEntry → Listed
made_entry shape entry = record {
  kind = entry.kind;
  name = [];
  lowest = listed_lowest shape entry.lowest;
  reference = reference entry.number;
  instance = entry.instance;
}

length-entry : (shape : Shape) (entry : ListEntry) → length (list_entry_bytes shape entry) ≡ 32
unfolding list_entry_bytes fields_bytes zero_bytes
length-entry shape entry = refl

entry-fields : (shape : Shape) (entry : ListEntry) → FitsListEntry shape entry
    → IsListEntryOf shape entry (list_entry_bytes shape entry)
entry-fields shape entry fits =
    subst (IsListEntryOf shape entry) (append-nil (list_entry_bytes shape entry)) (list-entry-read shape entry [] fits)

raw-entry : (shape : Shape) (entry : ListEntry) → FitsListEntry shape entry → IsRawEntry (list_entry_bytes shape entry)
raw-entry shape entry fits =
    let said = entry-fields shape entry fits in
    let long = length-entry shape entry in record {
      fields = omega arith;
      whole = said.size ∙ sym long;
      name = omega (arith, said.name_offset, said.name_units);
    }

entry-said : (shape : Shape) (entry : ListEntry) → FitsListEntry shape entry
    → listed_of (list_entry_bytes shape entry) ≡ made_entry shape entry
unfolding listed_of
entry-said shape entry fits =
    let said = entry-fields shape entry fits in
    let bytes = list_entry_bytes shape entry in
    let name : entry_name bytes ≡ [] = ap (λ n. take (2 * n) (drop (entry_name_offset bytes) bytes)) said.name_units in
    λ i. record {
      kind = said.kind i;
      name = name i;
      lowest = said.lowest i;
      reference = said.number i;
      instance = said.instance i;
    }

-- ---- entries in a row

abbrev pub AllFit : Shape → List ListEntry → Type 0
AllFit shape [] = Unit {0}
AllFit shape (entry ∷ entries) = FitsListEntry shape entry × AllFit shape entries

raws_of_list : Shape → List ListEntry → List (List ℕ)
raws_of_list shape [] = []
raws_of_list shape (entry ∷ entries) = list_entry_bytes shape entry ∷ raws_of_list shape entries

list-concat : (shape : Shape) (entries : List ListEntry)
    → list_bytes shape entries ≡ concat (raws_of_list shape entries)
unfolding list_bytes raws_of_list
list-concat shape [] = refl
list-concat shape (entry ∷ entries) = ap (λ bytes. list_entry_bytes shape entry ++ bytes) (list-concat shape entries)

all-raw : (shape : Shape) (entries : List ListEntry) → AllFit shape entries → AreRawEntries (raws_of_list shape entries)
unfolding raws_of_list
all-raw shape [] fit = tt
all-raw shape (entry ∷ entries) fit = (raw-entry shape entry fit.0, all-raw shape entries fit.1)

all-said : (shape : Shape) (entries : List ListEntry) → AllFit shape entries
    → map listed_of (raws_of_list shape entries) ≡ map (made_entry shape) entries
unfolding raws_of_list
all-said shape [] fit = refl
all-said shape (entry ∷ entries) fit = rw (entry-said shape entry fit.0, all-said shape entries fit.1) refl

pub list-read : (shape : Shape) (entries : List ListEntry) → AllFit shape entries
    → list_entries (list_bytes shape entries) ≡ Ok (map (made_entry shape) entries)
list-read shape entries fit =
    ap list_entries (list-concat shape entries) ∙ raws-read (raws_of_list shape entries) (all-raw shape entries fit)
    ∙ ap Ok (all-said shape entries fit)
