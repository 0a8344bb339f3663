-- What it means that bytes are a file record: a relation between the bytes and what they say, for readers (the
-- Linux-NTFS documentation, "File Record" and "Attribute Header"). It goes along the attributes, and knows no order
-- of faults.
use Rattle.std.specs.Prelude.{◌≡◌, ◌≢◌, ◌≤◌, ◌<◌, ◌^◌, ◌+◌, ◌*◌, ◌%◌, ℕ, codes, List, [], ◌∷◌, length, take, Some, true, false, All}
use Rattle.ntfs_record.specs.declared.fault.RecordFault.{RecordFault}
use Rattle.ntfs_record.specs.declared.fault.RecordFault.TheVariants.{BadHeader, BadAttribute}
use Rattle.ntfs_base.specs.Bytes.{piece_at}
use Rattle.ntfs_base.specs.Checks.{first_wrong}
use Rattle.ntfs_record.specs.Layout.{array_offset, array_count, first_attribute_of, in_use_of, allocated_of, kind_at, length_at}
use Rattle.ntfs_record.specs.FileRecord.{Attribute, Laid, FileRecord}
use Rattle.ntfs_record.specs.Views.{Placed, placed_of}
use Rattle.ntfs_record.specs.Header.{header_checks, head_of, layout_of}
use Rattle.ntfs_record.specs.Attribute.{end_kind, raw_at, attribute_of, IsSoundAt, IsRaw}

-- nothing is wrong with the header
pub record IsSoundHeader (bytes : List ℕ) : Type 0 where
  pub magic : take 4 bytes ≡ codes "FILE"
  pub fields : 32 ≤ length bytes
  pub allocated : allocated_of bytes ≡ length bytes
  pub in_use : in_use_of bytes ≤ allocated_of bytes
  pub aligned : first_attribute_of bytes % 8 ≡ 0
  pub behind_array : array_offset bytes + 2 * array_count bytes ≤ first_attribute_of bytes
  pub behind_header : 0x28 ≤ first_attribute_of bytes
  pub before_end : first_attribute_of bytes + 4 ≤ in_use_of bytes

-- the list of attributes ends at the place
pub record EndsAt (used place : ℕ) (bytes : List ℕ) : Type 0 where
  pub room : place + 4 ≤ used
  pub kind : kind_at place bytes ≡ end_kind

-- attributes with these bytes stand in the record one after the other, each where the one before it ends, from a
-- place up to a last one
abbrev pub Follow : ℕ → List ℕ → ℕ → List (List ℕ) → ℕ → Type 0
Follow used bytes place [] last = place ≡ last
Follow used bytes place (raw ∷ raws) last =
    IsSoundAt used place bytes × (kind_at place bytes ≢ end_kind) × (raw ≡ raw_at bytes place)
    × Follow used bytes (place + length_at place bytes) raws last

-- attributes with these bytes stand in the record from a place on, and the list ends behind them
pub record AreRaws (bytes : List ℕ) (place : ℕ) (raws : List (List ℕ)) : Type 0 where
  pub last : ℕ
  pub follow : Follow (in_use_of bytes) bytes place raws last
  pub ends : EndsAt (in_use_of bytes) last bytes

-- the bytes are a file record, and this is what they say
pub record IsRecord (bytes : List ℕ) (r : FileRecord) : Type 0 where
  pub header : IsSoundHeader bytes
  pub head : r.head ≡ head_of bytes
  pub layout : r.layout ≡ layout_of bytes
  pub attributes : AreRaws bytes (first_attribute_of bytes) r.raws

-- the attributes before a place are as they should be, and there the list doesn't end, and the attribute isn't sound
pub record AttributeBreaksAt (bytes : List ℕ) (place bad : ℕ) : Type 0 where
  pub raws : List (List ℕ)
  pub follow : Follow (in_use_of bytes) bytes place raws bad
  pub goes_on : ¬ EndsAt (in_use_of bytes) bad bytes
  pub unsound : ¬ IsSoundAt (in_use_of bytes) bad bytes

-- a fault of the header is that of its first failing test, and of an attribute that of the first one that isn't sound
abbrev pub HasRecordCause : List ℕ → RecordFault → Type 0
HasRecordCause bytes (BadHeader field) = first_wrong (header_checks bytes) ≡ Some field
HasRecordCause bytes (BadAttribute place) =
    IsSoundHeader bytes × AttributeBreaksAt bytes (first_attribute_of bytes) place

-- an attribute lies in the record's bytes, before the last 4 in use
pub record LiesIn (bytes : List ℕ) (p : Placed) : Type 0 where
  pub small : p.place < 2 ^ 32
  pub more : 24 ≤ length p.raw
  pub aligned : length p.raw % 8 ≡ 0
  pub ends : p.place + length p.raw + 4 ≤ in_use_of bytes
  pub is : p.raw ≡ piece_at p.place (length p.raw) bytes

-- what an attribute says lies in its own bytes: its name, its value and its pairs, which go to its end
pub record LiesInside (raw : List ℕ) (a : Attribute (Laid (List ℕ))) : Type 0 where
  pub name : 0 < length a.face.name → a.payload.spot.name_offset + length a.face.name ≤ length raw
  pub name_is : a.face.name ≡ piece_at a.payload.spot.name_offset (length a.face.name) raw
  pub value : a.face.is_resident ≡ true → a.payload.spot.body_offset + length a.face.value ≤ length raw
  pub value_is : a.face.is_resident ≡ true
      → a.face.value ≡ piece_at a.payload.spot.body_offset (length a.face.value) raw
  pub pairs : a.face.is_resident ≡ false → a.payload.spot.body_offset + length a.payload.runs ≡ length raw
  pub pairs_is : a.face.is_resident ≡ false
      → a.payload.runs ≡ piece_at a.payload.spot.body_offset (length a.payload.runs) raw
  pub no_value : a.face.is_resident ≡ false → a.face.value ≡ []
  pub no_pairs : a.face.is_resident ≡ true → a.payload.runs ≡ []
  pub lowest : a.face.lowest ≤ 2 ^ 48
  pub next : a.face.lowest ≤ a.face.next
  pub highest : a.face.next ≤ 2 ^ 48 + 1

-- an attribute's numbers fit the fields that hold them
pub record IsBounded (raw : List ℕ) (a : Attribute (Laid (List ℕ))) : Type 0 where
  pub long : length raw < 2 ^ 32
  pub kind : a.face.kind < 2 ^ 32
  pub name_offset : a.payload.spot.name_offset < 2 ^ 16
  pub flags : a.face.flags < 2 ^ 16
  pub instance : a.face.instance < 2 ^ 16
  pub body_offset : a.payload.spot.body_offset < 2 ^ 16
  pub allocated : a.face.allocated < 2 ^ 64
  pub size : a.face.size < 2 ^ 64
  pub valid : a.face.valid < 2 ^ 64

-- what one attribute of a record keeps, by its own bytes
pub record IsKeptRaw (raw : List ℕ) : Type 0 where
  pub is : IsRaw raw
  pub inside : LiesInside raw (attribute_of raw)
  pub bounded : IsBounded raw (attribute_of raw)

-- what a record that was found keeps for those who read it
pub record IsKept (bytes : List ℕ) (r : FileRecord) : Type 0 where
  pub small : length bytes < 2 ^ 32
  pub in_use : r.layout.in_use ≤ length bytes
  pub few : 24 * length r.raws < r.layout.in_use
  pub lie : All (LiesIn bytes) (placed_of r)
  pub kept : All IsKeptRaw r.raws
