-- What is read of an attribute that the generator spells.
use Rattle.std.proofs.Common.{◌≡◌, ◌≤◌, ◌<◌, ◌+◌, ◌*◌, ◌^◌, ℕ, List, [], ◌∷◌, ◌++◌, length, refl, sym, ap, ◌∙◌, subst, append_assoc, arith}
use Rattle.std.proofs.lemmas.List.{length-append, append-nil}
use Rattle.ntfs_record.specs.FileRecord.{Attribute, Laid}
use Rattle.ntfs_record.specs.Layout.{non_resident_at}
use Rattle.ntfs_record.specs.Attribute.{IsRaw, attribute_of, name_at, resident_at, value_at}
use Rattle.ntfs_make.specs.declared.field.Field.TheVariants.{U8, U16, U32}
use Rattle.ntfs_make.specs.Attributes.{resident_bytes}
use Rattle.ntfs_make.specs.Fields.{fields_bytes, utf16_bytes, with_padding}
use Rattle.ntfs_make.specs.ReadBack.{FitsResident, IsResidentOf}
use Rattle.ntfs_make.proofs.ReadBackLemmas.{resident-read}
use Rattle.ntfs_made_records.specs.Made.{resident_face, resident_laid}
use Rattle.ntfs_made_records.proofs.PaddingLemmas.{length-units, padded, padding-of, piece-between}

-- an attribute that is spelled: nothing is wrong with its bytes, and they say what was put into them
pub record IsSpelt (raw : List ℕ) (said : Attribute (Laid (List ℕ))) : Type 0 where
  pub is : IsRaw raw
  pub says : attribute_of raw ≡ said

-- ---- resident attributes

-- the numbers of a resident attribute are small
pub record HasSmallValue (kind : ℕ) (name : List ℕ) (instance : ℕ) (value : List ℕ) : Type 0 where
  pub kind_fits : kind < 0xFFFFFFFF
  pub name_fits : length name < 256
  pub instance_fits : instance < 2 ^ 16
  pub value_fits : length value < 2 ^ 16

resident-fits : (kind : ℕ) (name : List ℕ) (instance : ℕ) (value : List ℕ) → HasSmallValue kind name instance value
    → FitsResident kind name instance value
resident-fits kind name instance value small =
    let units = length-units name in
    let named = padded (utf16_bytes name) in
    let whole = padded (with_padding (utf16_bytes name) ++ value) in
    let both = length-append (with_padding (utf16_bytes name)) value in
    record {
      kind_fits = omega (arith, small.kind_fits);
      name_fits = small.name_fits;
      instance_fits = small.instance_fits;
      length_fits = omega (arith, small.name_fits, small.value_fits, named.most, whole.most);
      value_fits = omega (arith, small.value_fits);
      offset_fits = omega (arith, small.name_fits, named.most);
    }

-- the fields before the name
value_fields : ℕ → List ℕ → ℕ → List ℕ → List ℕ
value_fields kind name instance value =
    fields_bytes (
    U32 kind ∷ U32 (24 + length (with_padding (with_padding (utf16_bytes name) ++ value))) ∷ U8 0 ∷ U8 (length name)
    ∷ U16 24 ∷ U16 0 ∷ U16 instance ∷ U32 (length value) ∷ U16 (24 + length (with_padding (utf16_bytes name)))
    ∷ U16 0 ∷ [])

length-value_fields : (kind : ℕ) (name : List ℕ) (instance : ℕ) (value : List ℕ)
    → length (value_fields kind name instance value) ≡ 24
unfolding value_fields fields_bytes
length-value_fields kind name instance value = refl

-- the bytes by their parts
pub record ResidentParts (kind : ℕ) (name : List ℕ) (instance : ℕ) (value : List ℕ) : Type 0 where
  behind_name : List ℕ
  behind_value : List ℕ
  named : resident_bytes kind name instance value
      ≡ value_fields kind name instance value ++ (utf16_bytes name ++ behind_name)
  valued : resident_bytes kind name instance value
      ≡ (value_fields kind name instance value ++ with_padding (utf16_bytes name)) ++ (value ++ behind_value)

resident-parts : (kind : ℕ) (name : List ℕ) (instance : ℕ) (value : List ℕ) → ResidentParts kind name instance value
unfolding resident_bytes value_fields
resident-parts kind name instance value =
    let fields = value_fields kind name instance value in
    let units = with_padding (utf16_bytes name) in
    let first = padding-of (utf16_bytes name) in
    let last = padding-of (with_padding (utf16_bytes name) ++ value) in
    let whole : with_padding (with_padding (utf16_bytes name) ++ value) ≡ units ++ (value ++ last.0) =
    last.1 ∙ append_assoc units value last.0 in
    record {
      behind_name = first.0 ++ (value ++ last.0);
      behind_value = last.0;
      named = ap (λ bytes. fields ++ bytes) (whole ∙ ap (λ bytes. bytes ++ (value ++ last.0)) first.1
          ∙ append_assoc (utf16_bytes name) first.0 (value ++ last.0));
      valued = ap (λ bytes. fields ++ bytes) whole ∙ sym (append_assoc fields units (value ++ last.0));
    }

-- the bytes are as long as they tell
length-resident : (kind : ℕ) (name : List ℕ) (instance : ℕ) (value : List ℕ)
    → length (resident_bytes kind name instance value)
    ≡ 24 + length (with_padding (with_padding (utf16_bytes name) ++ value))
unfolding resident_bytes fields_bytes
length-resident kind name instance value = omega arith

-- what is read of the fields
pub reads-resident : (kind : ℕ) (name : List ℕ) (instance : ℕ) (value : List ℕ) → HasSmallValue kind name instance value
    → IsResidentOf kind name instance value (resident_bytes kind name instance value)
reads-resident kind name instance value small =
    subst (IsResidentOf kind name instance value) (append-nil (resident_bytes kind name instance value))
    (resident-read kind name instance value [] (resident-fits kind name instance value small))

resident-is : (raw : List ℕ) → non_resident_at 0 raw ≡ 0 → attribute_of raw ≡ resident_at 0 raw
resident-is raw is = rw is refl

resident-raw : (kind : ℕ) (name : List ℕ) (instance : ℕ) (value : List ℕ) → HasSmallValue kind name instance value
    → IsRaw (resident_bytes kind name instance value)
resident-raw kind name instance value small =
    let r = reads-resident kind name instance value small in
    let long = length-resident kind name instance value in
    let units = length-units name in
    let named = padded (utf16_bytes name) in
    let whole = padded (with_padding (utf16_bytes name) ++ value) in
    let both = length-append (with_padding (utf16_bytes name)) value in
    record {
      long = r.length_is ∙ sym long;
      sound = record {
        aligned = omega (arith, r.length_is, whole.aligned);
        more = omega (arith, r.length_is);
        ends = omega (arith, r.length_is);
        residence = omega (arith, r.residence);
        name = λ some. omega (arith, r.name_units, r.name_offset, r.length_is, named.least, whole.least);
        resident = λ is. record {
          fields = omega (arith, r.length_is);
          begins = omega (arith, r.value_offset);
          ends = omega (arith, r.value_offset, r.value_length, r.length_is, whole.least);
        };
        runs = λ is. absurd (omega (arith, r.residence));
      };
      kind = λ is. absurd (omega (arith, r.kind_is, small.kind_fits));
    }

resident-says : (kind : ℕ) (name : List ℕ) (instance : ℕ) (value : List ℕ) → HasSmallValue kind name instance value
    → attribute_of (resident_bytes kind name instance value)
    ≡ record { face = resident_face kind name instance value; payload = resident_laid name }
unfolding resident_at
resident-says kind name instance value small =
    let raw = resident_bytes kind name instance value in
    let fields = value_fields kind name instance value in
    let r = reads-resident kind name instance value small in
    let parts = resident-parts kind name instance value in
    let long = length-value_fields kind name instance value in
    let front : 24 + length (with_padding (utf16_bytes name)) ≡ length (fields ++ with_padding (utf16_bytes name))
    = omega (arith, length-append fields (with_padding (utf16_bytes name)), long) in
    let name_is : name_at 0 raw ≡ utf16_bytes name
    = rw (r.name_offset, r.name_units, parts.named)
    (piece-between (0 + 24) (2 * length name) fields (utf16_bytes name) parts.behind_name (sym long)
    (sym (length-units name))) in
    let value_is : value_at 0 raw ≡ value
    = rw (r.value_offset, r.value_length, parts.valued)
    (piece-between (0 + (24 + length (with_padding (utf16_bytes name)))) (length value)
    (fields ++ with_padding (utf16_bytes name)) value parts.behind_value (omega (arith, front)) refl) in
    resident-is raw r.residence
    ∙ rw (name_is, value_is, r.kind_is, r.flags, r.instance_is, r.name_offset, r.value_offset) refl

pub resident-spelt : (kind : ℕ) (name : List ℕ) (instance : ℕ) (value : List ℕ) → HasSmallValue kind name instance value
    → IsSpelt (resident_bytes kind name instance value)
    (record { face = resident_face kind name instance value; payload = resident_laid name })
resident-spelt kind name instance value small =
    record { is = resident-raw kind name instance value small; says = resident-says kind name instance value small }

-- how long it is at most
pub resident-short : (kind : ℕ) (name : List ℕ) (instance : ℕ) (value : List ℕ)
    → length (resident_bytes kind name instance value) ≤ 38 + 2 * length name + length value
resident-short kind name instance value =
    let long = length-resident kind name instance value in
    let units = length-units name in
    let named = padded (utf16_bytes name) in
    let whole = padded (with_padding (utf16_bytes name) ++ value) in
    let both = length-append (with_padding (utf16_bytes name)) value in
    omega (arith, named.most, whole.most)
