-- What edits make of an attribute's own bytes, and of a record in which one attribute is edited (the Linux-NTFS
-- documentation, "Attribute Header": lengths are multiples of 8; the words are ours).
use Rattle.std.specs.Prelude.{ℕ, ◌≡◌, ◌⊎◌, ◌≤◌, ◌<◌, ◌+◌, ◌-◌, ◌*◌, ◌/◌, ◌%◌, ◌^◌, ◌==◌, max, Bool, true, false, List, [], ◌∷◌, ◌++◌, length, take, replicate, if◌then◌else◌}
use Rattle.ntfs_record.specs.FileRecord.{Attribute, Laid}
use Rattle.ntfs_record.specs.Attribute.{attribute_of, IsRaw}
use Rattle.ntfs_record.specs.Layout.{first_attribute_of, non_resident_at, name_units_at, name_offset_at, lowest_at, pairs_offset_at, value_offset_at, with_length_at, with_highest_at, with_value_length_at, with_allocated_at, with_size_at, with_valid_at}
use Rattle.ntfs_record.specs.Parsing.{raws_of}
use Rattle.ntfs_record.specs.Views.{Shown}

-- the least multiple of 8 from a number on
unfoldable pub up8 : ℕ → ℕ
up8 n = (n + 7) / 8 * 8

-- the number before another, modulo 2^64, so that 0 gives -1 as a signed number
unfoldable pub less_one : ℕ → ℕ
less_one next = (next + (2 ^ 64 - 1)) % 2 ^ 64

-- a text, and zeros behind it up to a length
abbrev pub padded : ℕ → List ℕ → List ℕ
padded size text = text ++ replicate (size - length text) 0

-- ---- one attribute

-- the length of an attribute with so many bytes of mapping pairs: the old one where they fit, else the least that has
-- room for them
abbrev pub pairs_size : ℕ → List ℕ → ℕ
pairs_size count raw = max (length raw) (up8 (pairs_offset_at 0 raw + count))

-- the attribute with other mapping pairs, and with the VCN after its highest
unfoldable pub with_pairs : List ℕ → ℕ → List ℕ → List ℕ
with_pairs pairs next raw =
    let size = pairs_size (length pairs) raw in
    let offset = pairs_offset_at 0 raw in
    with_highest_at 0 (less_one next) (with_length_at 0 size (take offset raw)) ++ padded (size - offset) pairs

-- the length of an attribute with a value of so many bytes
abbrev pub value_size : ℕ → List ℕ → ℕ
value_size count raw = up8 (value_offset_at 0 raw + count)

-- the attribute with another value
unfoldable pub with_value : List ℕ → List ℕ → List ℕ
with_value value raw =
    let size = value_size (length value) raw in
    let offset = value_offset_at 0 raw in
    with_value_length_at 0 (length value) (with_length_at 0 size (take offset raw)) ++ padded (size - offset) value

-- the attribute with other sizes: that of its clusters, that of its stream, and the initialised one
unfoldable pub with_sizes : ℕ → ℕ → ℕ → List ℕ → List ℕ
with_sizes allocated size valid raw = with_valid_at 0 valid (with_size_at 0 size (with_allocated_at 0 allocated raw))

-- ---- what the attribute then says

-- a name of at least one unit stands between the fields, of so many bytes, and an offset
abbrev pub HasNameBefore : ℕ → ℕ → List ℕ → Type 0
HasNameBefore least offset raw =
    0 < name_units_at 0 raw
    → (least ≤ name_offset_at 0 raw) × (name_offset_at 0 raw + 2 * name_units_at 0 raw ≤ offset)

-- the attribute can take these mapping pairs, and the VCN after its highest
pub record TakesPairs (pairs : List ℕ) (next : ℕ) (raw : List ℕ) : Type 0 where
  pub is : IsRaw raw
  pub residence : non_resident_at 0 raw ≡ 1
  pub name : HasNameBefore 64 (pairs_offset_at 0 raw) raw
  pub lowest : lowest_at 0 raw ≤ next
  pub highest : next ≤ 2 ^ 48 + 1
  pub fits : pairs_size (length pairs) raw < 2 ^ 32

-- the attribute can take this value
pub record TakesValue (value raw : List ℕ) : Type 0 where
  pub is : IsRaw raw
  pub residence : non_resident_at 0 raw ≡ 0
  pub name : HasNameBefore 24 (value_offset_at 0 raw) raw
  pub fits : value_size (length value) raw < 2 ^ 32

-- the attribute can take these sizes
pub record TakesSizes (allocated size valid : ℕ) (raw : List ℕ) : Type 0 where
  pub is : IsRaw raw
  pub residence : non_resident_at 0 raw ≡ 1
  pub name : HasNameBefore 64 (length raw) raw
  pub allocated_fits : allocated < 2 ^ 64
  pub size_fits : size < 2 ^ 64
  pub valid_fits : valid < 2 ^ 64

-- what an attribute says with these mapping pairs, behind which zeros stand up to its end
abbrev pub pairs_said : List ℕ → ℕ → List ℕ → Attribute (Laid (List ℕ))
pairs_said pairs next raw = record {
  face = record ((attribute_of raw).face) { next = next };
  payload = record {
    spot = (attribute_of raw).payload.spot;
    runs = padded (pairs_size (length pairs) raw - pairs_offset_at 0 raw) pairs;
  };
}

-- what it says with this value
abbrev pub value_said : List ℕ → Attribute (Laid (List ℕ)) → Attribute (Laid (List ℕ))
value_said value a = record { face = record (a.face) { value = value }; payload = a.payload }

-- what it says with these sizes
abbrev pub sizes_said : ℕ → ℕ → ℕ → Attribute (Laid (List ℕ)) → Attribute (Laid (List ℕ))
sizes_said allocated size valid a =
    record { face = record (a.face) { allocated = allocated; size = size; valid = valid }; payload = a.payload }

-- ---- one attribute of a record

-- attributes in a row from a place on, of which the one at a place is edited
abbrev pub changed_from : ℕ → (List ℕ → List ℕ) → ℕ → List (List ℕ) → List (List ℕ)
changed_from place f here [] = []
changed_from place f here (raw ∷ raws) =
    if here == place then f raw ∷ raws else raw ∷ changed_from place f (here + length raw) raws

-- the attributes of a record, of which the one at a place is edited
unfoldable pub changed : ℕ → (List ℕ → List ℕ) → List ℕ → List (List ℕ)
changed place f bytes =
    changed_from place f (first_attribute_of bytes) (raws_of bytes (first_attribute_of bytes))

-- of attributes in a row from a place on, one begins at a place, and is resident or not: 0 or 1 as its field says
abbrev pub BeginsFrom : ℕ → ℕ → ℕ → List (List ℕ) → Type 0
BeginsFrom residence place here [] = ⊥
BeginsFrom residence place here (raw ∷ raws) =
    ((here ≡ place) × (non_resident_at 0 raw ≡ residence)) ⊎ BeginsFrom residence place (here + length raw) raws

-- a resident attribute of the record begins at the place
abbrev pub HasResidentAt : ℕ → List ℕ → Type 0
HasResidentAt place bytes =
    BeginsFrom 0 place (first_attribute_of bytes) (raws_of bytes (first_attribute_of bytes))

-- a non-resident attribute of the record begins at the place
abbrev pub HasRunsAt : ℕ → List ℕ → Type 0
HasRunsAt place bytes = BeginsFrom 1 place (first_attribute_of bytes) (raws_of bytes (first_attribute_of bytes))

-- the field that tells whether an attribute is resident
abbrev pub residence_of : Bool → ℕ
residence_of true = 0
residence_of false = 1

-- an attribute of the record begins at the place that is shown of it, and is resident where that is shown
abbrev pub BeginsAsShown : List ℕ → Shown → Type 0
BeginsAsShown bytes shown =
    BeginsFrom (residence_of shown.body.is_resident) shown.place (first_attribute_of bytes)
    (raws_of bytes (first_attribute_of bytes))
