-- What the bytes of an unfixed file record say: the record, or the first thing that is wrong with them (the Linux-NTFS
-- documentation, "File Record" and "Attribute Header"; the order of the faults is ours).
use Rattle.std.specs.Prelude.{ℕ, zero, suc, ◌≡◌, ◌≤◌, ◌<◌, ◌+◌, ◌^◌, not, List, [], ◌∷◌, length, map, find, Option, Some, None, Result, Ok, Err, if◌then◌else◌}
use Rattle.ntfs_base.specs.Frames.{◌>>=◌}
use Rattle.ntfs_record.specs.declared.fault.RecordFault.{RecordFault}
use Rattle.ntfs_record.specs.declared.fault.RecordFault.TheVariants.{BadHeader, BadAttribute}
use Rattle.ntfs_record.specs.Layout.{first_attribute_of, in_use_of, length_at}
use Rattle.ntfs_record.specs.FileRecord.{FileRecord}
use Rattle.ntfs_record.specs.Header.{header_fault_of, head_of, layout_of}
use Rattle.ntfs_record.specs.Attribute.{is_sound, is_end, raw_at}

-- ---- the list of attributes

-- the places at which attributes begin, from a place on up to the end of the list or the first one that isn't sound;
-- each has at least 24 bytes, so that there are no more than bytes in use
unfoldable pub places_from : ℕ → ℕ → List ℕ → ℕ → List ℕ
places_from zero used bytes place = place ∷ []
places_from (suc most) used bytes place =
    if is_end used place bytes then []
    else (if is_sound used place bytes then place ∷ places_from most used bytes (place + length_at place bytes)
    else place ∷ [])

-- the places at which the record's attributes begin, from a place on
unfoldable pub places_of : List ℕ → ℕ → List ℕ
places_of bytes place = places_from (in_use_of bytes) (in_use_of bytes) bytes place

-- the first of the places at which the attribute isn't sound
unfoldable pub unsound_of : List ℕ → ℕ → Option ℕ
unsound_of bytes place = find (λ p. not (is_sound (in_use_of bytes) p bytes)) (places_of bytes place)

-- the own bytes of the attributes from a place on
unfoldable pub raws_of : List ℕ → ℕ → List (List ℕ)
raws_of bytes place = map (raw_at bytes) (places_of bytes place)

-- ---- the record

-- what the record says
unfoldable pub record_of : List ℕ → FileRecord
record_of bytes = record {
  head = head_of bytes;
  layout = layout_of bytes;
  raws = raws_of bytes (first_attribute_of bytes);
}

-- a refusal that names what was found wrong, where something was
abbrev pub unless_found : {X E : Type 0} → Option X → (X → E) → Result (Unit {0}) E
unless_found (Some x) fault = Err (fault x)
unless_found None fault = Ok tt

-- the record that the bytes say, or what is first wrong with them: the header, then an attribute
unfoldable pub parse_of : List ℕ → Result FileRecord RecordFault
parse_of bytes = do
  _ ← unless_found (header_fault_of bytes) BadHeader
  _ ← unless_found (unsound_of bytes (first_attribute_of bytes)) BadAttribute
  Ok (record_of bytes)

-- ---- what the views keep

-- nothing is wrong with the bytes of a record
pub record IsAccepted (bytes : List ℕ) : Type 0 where
  pub small : length bytes < 2 ^ 32
  pub header : header_fault_of bytes ≡ None
  pub attributes : unsound_of bytes (first_attribute_of bytes) ≡ None

-- nothing is wrong with a record's attributes from a place on
pub record IsSoundFrom (bytes : List ℕ) (place : ℕ) : Type 0 where
  pub header : header_fault_of bytes ≡ None
  pub within : place ≤ in_use_of bytes
  pub attributes : unsound_of bytes place ≡ None
