-- Attributes with the place at which each stands in its record, and the records of a volume by their number (the
-- Linux-NTFS documentation, "File Record" and "Attribute Header"; the form is ours).
use Rattle.std.specs.Prelude.{◌/◌, ℕ, zero, suc, Bool, true, false, List, [], ◌∷◌, map, Option, Some, None, if◌then◌else◌}
use Rattle.ntfs_boot.specs.declared.geometry.Geometry.{Geometry}
use Rattle.ntfs_record.specs.FileRecord.{Attribute, FileRecord, Laid}
use Rattle.ntfs_record.specs.Attribute.{attribute_of}
use Rattle.ntfs_record.specs.Slots.{Slot, begins_baad, blank_head, is_in_use, map_laid, map_slots, on_payload, record_in, tells_own}
use Rattle.ntfs_record.specs.Views.{Placed, placed_of}
use Rattle.ntfs_runs.specs.Cells.{Cells, cells_below}
use Rattle.ntfs_volume.specs.MftMap.{Map}
use Rattle.ntfs_volume.specs.Records.{raw_record}

-- the place of an attribute in its record, and what else stands for its clusters; the word is ours
pub record Located (P : Type 0) : Type 0 where
  pub place : ℕ
  pub payload : P

-- an attribute at its place
abbrev pub located_of : Placed → Attribute (Located (Laid (List ℕ)))
located_of p = record {
  face = (attribute_of p.raw).face;
  payload = record { place = p.place; payload = (attribute_of p.raw).payload };
}

-- the attributes of a record, each at its place
abbrev pub located_attributes : FileRecord → List (Attribute (Located (Laid (List ℕ))))
located_attributes file = map located_of (placed_of file)

-- something else in place of what stands for the clusters
abbrev pub map_located : {P Q : Type 0} → (P → Q) → Located P → Located Q
map_located f l = record { place = l.place; payload = f l.payload }

-- the attribute without its place
abbrev pub unlocated : {P : Type 0} → Attribute (Located P) → Attribute P
unlocated a = record { face = a.face; payload = a.payload.payload }

-- ---- records by their number

-- a record that isn't in use, with nothing known of it
abbrev pub idle : {P : Type 0} → Bool → Slot P
idle baad = record { is_live = false; is_sound = false; is_baad = baad; head = blank_head; attributes = [] }

-- a record in use with which something is wrong
abbrev pub unsound_located : {P : Type 0} → Slot P
unsound_located = record { is_live = true; is_sound = false; is_baad = false; head = blank_head; attributes = [] }

-- a record in use that says this
abbrev pub sound_located : FileRecord → Slot (Located (Laid (List ℕ)))
sound_located file =
    record { is_live = true; is_sound = true; is_baad = false; head = file.head; attributes = located_attributes file }

-- a record in use, which says this or can't be read; one that tells another number isn't sound
abbrev pub live_located : ℕ → Option FileRecord → Slot (Located (Laid (List ℕ)))
live_located n None = unsound_located
live_located n (Some file) = if tells_own n file.layout.number then sound_located file else unsound_located

-- the record of this number, where its bytes lie wholly in the initialised part of $MFT
unfoldable pub located_slot : ℕ → Option (List ℕ) → Slot (Located (Laid (List ℕ)))
located_slot n None = idle false
located_slot n (Some raw) = if is_in_use raw then live_located n (record_in raw) else idle (begins_baad raw)

-- so many records from a number on, of which a function gives each
unfoldable pub slots_from : {P : Type 0} → (ℕ → Slot P) → ℕ → ℕ → List (Slot P)
slots_from slot n zero = []
slots_from slot n (suc count) = slot n ∷ slots_from slot (suc n) count

-- the record of a number, of those from 0 on; past their end none is in use
unfoldable pub slot_at : {P : Type 0} → List (Slot P) → ℕ → Slot P
slot_at [] r = idle false
slot_at (s ∷ ss) zero = s
slot_at (s ∷ ss) (suc r) = slot_at ss r

-- the records that lie wholly in the initialised part of $MFT, with the bytes of their mapping pairs
unfoldable pub slots_of : Geometry → Map → (ℕ → List ℕ) → List (Slot (Located (Laid (List ℕ))))
slots_of g map f = slots_from (λ n. located_slot n (raw_record g map f n)) 0 (map.valid / g.record_size)

-- the records with the cells that their mapping pairs spell on a volume of n clusters
unfoldable pub with_cells : ℕ → List (Slot (Located (Laid (List ℕ)))) → List (Slot (Located (Laid (Cells ℕ))))
with_cells n slots = map_slots (on_payload (map_located (map_laid (cells_below n)))) 0 slots
