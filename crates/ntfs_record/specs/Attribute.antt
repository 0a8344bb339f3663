-- An attribute at a place of a file record: its tests, what it says, and what holds where nothing is wrong with it (the
-- Linux-NTFS documentation, "Attribute Header").
use Rattle.std.specs.Prelude.{ℕ, ◌≡◌, ◌≢◌, ◌≤◌, ◌<◌, ◌+◌, ◌*◌, ◌-◌, ◌%◌, ◌^◌, ◌==◌, ◌&&◌, ◌||◌, Bool, true, false, List, [], length, nat_le, if◌then◌else◌}
use Rattle.ntfs_base.specs.Bytes.{piece_at}
use Rattle.ntfs_record.specs.Layout.{kind_at, length_at, non_resident_at, name_units_at, name_offset_at, attribute_flags_at, instance_at, value_length_at, value_offset_at, lowest_at, highest_at, pairs_offset_at, allocated_at, size_at, valid_at}
use Rattle.ntfs_record.specs.Face.{Attribute, Laid}

-- the type that ends the list of attributes
abbrev pub end_kind : ℕ
end_kind = 0xFFFFFFFF

-- the attribute is resident
abbrev pub is_resident_at : ℕ → List ℕ → Bool
is_resident_at place bytes = non_resident_at place bytes == 0

-- the length of the fields before the name: 24 bytes in a resident attribute, 64 in a non-resident one
abbrev pub least_length_at : ℕ → List ℕ → ℕ
least_length_at place bytes = if is_resident_at place bytes then 24 else 64

-- the VCN after the highest, which is a signed number of eight bytes, so that -1 gives 0
abbrev pub next_of : ℕ → ℕ
next_of highest = (highest + 1) % 2 ^ 64

-- the VCN after the highest
abbrev pub next_at : ℕ → List ℕ → ℕ
next_at place bytes = next_of (highest_at place bytes)

-- the length is a multiple of 8, has room for the fields, and leaves the last 4 bytes in use
unfoldable pub has_length : ℕ → ℕ → List ℕ → Bool
has_length used place bytes =
    (length_at place bytes % 8 == 0)
    && (nat_le (least_length_at place bytes) (length_at place bytes) && nat_le (place + length_at place bytes + 4) used)

-- a name of at least one unit ends within the length
unfoldable pub has_name_inside : ℕ → List ℕ → Bool
has_name_inside place bytes =
    (name_units_at place bytes == 0)
    || nat_le (name_offset_at place bytes + 2 * name_units_at place bytes) (length_at place bytes)

-- the value stands behind the fields and ends within the length
unfoldable pub has_value : ℕ → List ℕ → Bool
has_value place bytes =
    nat_le 24 (value_offset_at place bytes)
    && nat_le (value_offset_at place bytes + value_length_at place bytes) (length_at place bytes)

-- the mapping pairs stand behind the fields and within the length, the lowest VCN is at most 2^48, and the highest,
-- as a signed number, at least the lowest less one and at most 2^48
unfoldable pub has_runs : ℕ → List ℕ → Bool
has_runs place bytes =
    nat_le 64 (pairs_offset_at place bytes) && (nat_le (pairs_offset_at place bytes) (length_at place bytes)
    && (nat_le (lowest_at place bytes) (2 ^ 48)
    && (nat_le (lowest_at place bytes) (next_at place bytes) && nat_le (next_at place bytes) (2 ^ 48 + 1))))

-- the value of a resident attribute, or the runs of another
abbrev pub has_body : ℕ → List ℕ → Bool
has_body place bytes = if is_resident_at place bytes then has_value place bytes else has_runs place bytes

-- nothing is wrong with the attribute at a place, of a record with so many bytes in use
unfoldable pub is_sound : ℕ → ℕ → List ℕ → Bool
is_sound used place bytes =
    has_length used place bytes
    && (nat_le (non_resident_at place bytes) 1 && (has_name_inside place bytes && has_body place bytes))

-- the list of attributes ends at the place
unfoldable pub is_end : ℕ → ℕ → List ℕ → Bool
is_end used place bytes = nat_le (place + 4) used && (kind_at place bytes == end_kind)

-- the name, in units of two bytes
abbrev pub name_at : ℕ → List ℕ → List ℕ
name_at place bytes = piece_at (place + name_offset_at place bytes) (2 * name_units_at place bytes) bytes

-- the value of a resident attribute
abbrev pub value_at : ℕ → List ℕ → List ℕ
value_at place bytes = piece_at (place + value_offset_at place bytes) (value_length_at place bytes) bytes

-- the bytes of the mapping pairs, from their offset to the attribute's end
abbrev pub pairs_at : ℕ → List ℕ → List ℕ
pairs_at place bytes =
    piece_at (place + pairs_offset_at place bytes) (length_at place bytes - pairs_offset_at place bytes) bytes

-- what a resident attribute says
unfoldable pub resident_at : ℕ → List ℕ → Attribute (Laid (List ℕ))
resident_at place bytes = record {
  face = record {
    kind = kind_at place bytes;
    name = name_at place bytes;
    flags = attribute_flags_at place bytes;
    instance = instance_at place bytes;
    is_resident = true;
    value = value_at place bytes;
    lowest = 0;
    next = 0;
    allocated = 0;
    size = 0;
    valid = 0;
    unit = [];
    packed = [];
  };
  payload = record {
    spot = record { name_offset = name_offset_at place bytes; body_offset = value_offset_at place bytes };
    runs = [];
  };
}

-- what a non-resident attribute says; the six bytes at 0x22 begin with the compression unit, and where the pairs
-- begin at 72 or later eight bytes at 0x40 may tell the size of the clusters that a compressed or sparse stream has
unfoldable pub runs_at : ℕ → List ℕ → Attribute (Laid (List ℕ))
runs_at place bytes = record {
  face = record {
    kind = kind_at place bytes;
    name = name_at place bytes;
    flags = attribute_flags_at place bytes;
    instance = instance_at place bytes;
    is_resident = false;
    value = [];
    lowest = lowest_at place bytes;
    next = next_at place bytes;
    allocated = allocated_at place bytes;
    size = size_at place bytes;
    valid = valid_at place bytes;
    unit = piece_at (place + 0x22) 6 bytes;
    packed = if nat_le 72 (pairs_offset_at place bytes) then piece_at (place + 0x40) 8 bytes else [];
  };
  payload = record {
    spot = record { name_offset = name_offset_at place bytes; body_offset = pairs_offset_at place bytes };
    runs = pairs_at place bytes;
  };
}

-- what the attribute at a place says
abbrev pub attribute_at : ℕ → List ℕ → Attribute (Laid (List ℕ))
attribute_at place bytes = if is_resident_at place bytes then resident_at place bytes else runs_at place bytes

-- ---- an attribute by its own bytes

-- the attribute's own bytes, as many as its length says
unfoldable pub raw_at : List ℕ → ℕ → List ℕ
raw_at bytes place = piece_at place (length_at place bytes) bytes

-- what an attribute's own bytes say
abbrev pub attribute_of : List ℕ → Attribute (Laid (List ℕ))
attribute_of raw = attribute_at 0 raw

-- ---- what an attribute with nothing wrong keeps, in plain facts

-- a resident attribute has its value behind its fields and within its length
pub record HasValue (place : ℕ) (bytes : List ℕ) : Type 0 where
  pub fields : 24 ≤ length_at place bytes
  pub begins : 24 ≤ value_offset_at place bytes
  pub ends : value_offset_at place bytes + value_length_at place bytes ≤ length_at place bytes

-- a non-resident attribute has its pairs behind its fields and within its length, and VCNs up to 2^48
pub record HasRuns (place : ℕ) (bytes : List ℕ) : Type 0 where
  pub fields : 64 ≤ length_at place bytes
  pub begins : 64 ≤ pairs_offset_at place bytes
  pub ends : pairs_offset_at place bytes ≤ length_at place bytes
  pub lowest : lowest_at place bytes ≤ 2 ^ 48
  pub next : lowest_at place bytes ≤ next_at place bytes
  pub highest : next_at place bytes ≤ 2 ^ 48 + 1

-- nothing is wrong with the attribute at a place, of a record with so many bytes in use
pub record IsSoundAt (used place : ℕ) (bytes : List ℕ) : Type 0 where
  pub aligned : length_at place bytes % 8 ≡ 0
  pub more : 24 ≤ length_at place bytes
  pub ends : place + length_at place bytes + 4 ≤ used
  pub residence : non_resident_at place bytes ≤ 1
  pub name : 0 < name_units_at place bytes
      → name_offset_at place bytes + 2 * name_units_at place bytes ≤ length_at place bytes
  pub resident : non_resident_at place bytes ≡ 0 → HasValue place bytes
  pub runs : non_resident_at place bytes ≡ 1 → HasRuns place bytes

-- these bytes are an attribute of their own with nothing wrong, and none that ends the list
pub record IsRaw (raw : List ℕ) : Type 0 where
  pub long : length_at 0 raw ≡ length raw
  pub sound : IsSoundAt (length raw + 4) 0 raw
  pub kind : kind_at 0 raw ≢ end_kind
