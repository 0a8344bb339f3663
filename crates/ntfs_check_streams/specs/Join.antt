-- Attributes of one type and name, joined one after the other. The words are ours.
use Rattle.std.specs.Prelude.{◌==◌, ◌&&◌, not, ℕ, Bool, true, false, List, [], ◌∷◌, map, Option, Some, None, Result, Ok, Err, if◌then◌else◌}
use Rattle.ntfs_check_streams.specs.declared.join.Joined.{Joined}
use Rattle.ntfs_check_streams.specs.declared.join.Joined.TheVariants as joined
use Rattle.ntfs_check_streams.specs.declared.join.Span.{Span}
use Rattle.ntfs_record.specs.Face.{Face}
use Rattle.ntfs_record.specs.Views.{Shown, ShownBody}
use Rattle.ntfs_volume.specs.Gather.{Extent, is_of}
use Rattle.ntfs_volume.specs.Gathering.{shown_id}
use Rattle.ntfs_volume.specs.StreamBytes.{have_room}
use Rattle.ntfs_volume.specs.declared.fault.VolumeFault.{VolumeFault}

-- what an attribute tells of its part of a stream
abbrev pub face_span : Face → Span
face_span face = record {
  is_resident = face.is_resident;
  lowest = face.lowest;
  next = face.next;
  size = face.size;
  valid = face.valid;
}

-- the same as it is shown
abbrev pub span_shown : ShownBody → Span
span_shown body = record {
  is_resident = body.is_resident;
  lowest = body.lowest;
  next = body.next;
  size = body.size;
  valid = body.valid;
}

-- an attribute that stands first
abbrev pub start : Span → Joined
start s =
    if s.is_resident then joined.Values
    else (if s.lowest == 0 then joined.Runs s.next s.size s.valid else joined.Apart)

-- those so far, and one more
unfoldable pub join : ℕ → Joined → Span → Joined
join kind joined.Nothing s = start s
join kind joined.Values s = if (kind == 0x30) && s.is_resident then joined.Values else joined.Apart
join kind (joined.Runs next size valid) s =
    if not s.is_resident && (s.lowest == next) then joined.Runs s.next size valid else joined.Apart
join kind joined.Apart s = joined.Apart

-- those so far, and more
unfoldable pub join_all : ℕ → Joined → List Span → Joined
join_all kind before [] = before
join_all kind before (s ∷ ss) = join_all kind (join kind before s) ss

-- they are a stream, where a cluster has c bytes
unfoldable pub is_stream : ℕ → Joined → Bool
is_stream c joined.Nothing = true
is_stream c joined.Values = true
is_stream c (joined.Runs next size valid) = have_room c next size valid
is_stream c joined.Apart = false

-- those so far, and the ones of a type and name of attributes that are shown
unfoldable pub join_shown : ℕ → List ℕ → Joined → List Shown → Joined
join_shown kind name before [] = before
join_shown kind name before (s ∷ ss) =
    join_shown kind name (if is_of kind name (shown_id s) then join kind before (span_shown s.body) else before) ss

-- an attribute that comes in front of the others, where it has this type and name
abbrev pub join_lead : ℕ → List ℕ → Option Shown → Joined
join_lead kind name None = joined.Nothing
join_lead kind name (Some s) =
    if is_of kind name (shown_id s) then join kind joined.Nothing (span_shown s.body) else joined.Nothing

-- the parts of extents
abbrev pub spans_of : {P : Type 0} → List (Extent P) → List Span
spans_of es = map (λ (e : Extent _). face_span e.attribute.face) es

-- those so far and the extents are a stream; they aren't where the extents can't be found
abbrev pub are_joined : {P : Type 0} → ℕ → ℕ → Joined → Result (List (Extent P)) VolumeFault → Bool
are_joined c kind before (Ok found) = is_stream c (join_all kind before (spans_of found))
are_joined c kind before (Err fault) = false

-- what an extent tells, where it is found
abbrev pub span_found : {P : Type 0} → Result (Extent P) VolumeFault → Option Span
span_found (Ok e) = Some (face_span e.attribute.face)
span_found (Err fault) = None
