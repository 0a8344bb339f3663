-- File records by their number: which are in use, and what they say (the Linux-NTFS documentation, "File Record"). A
-- record that isn't in use is an element like the others, so that each number below the count has one. The form is
-- ours.
use Rattle.std.specs.Prelude.{◌%◌, ◌==◌, ◌&&◌, codes, nat_eq, ℕ, suc, Bool, true, false, List, [], ◌∷◌, map, Option, Some, None, Result, Ok, Err, if◌then◌else◌}
use Rattle.std.specs.List.{starts_with}
use Rattle.ntfs_fixup.specs.Fixups.{unfix_of}
use Rattle.ntfs_fixup.specs.declared.header.Magic.TheVariants.{File}
use Rattle.ntfs_fixup.specs.declared.unfixing.FixFault.{FixFault}
use Rattle.ntfs_record.specs.declared.fault.RecordFault.{RecordFault}
use Rattle.ntfs_record.specs.declared.slot.SlotView.{SlotView}
use Rattle.ntfs_record.specs.declared.slot.SlotView.TheVariants as view
use Rattle.ntfs_record.specs.FileRecord.{Attribute, Laid, Head, FileRecord, attributes_of}
use Rattle.ntfs_record.specs.Header.{begins_file}
use Rattle.ntfs_record.specs.Layout.{flags_of}
use Rattle.ntfs_record.specs.Parsing.{parse_of}

-- the bytes begin with BAAD, which marks a record that a write left torn
unfoldable pub begins_baad : List ℕ → Bool
begins_baad raw = starts_with nat_eq raw (codes "BAAD")

-- the bytes begin with FILE and have the flag of a record in use
unfoldable pub is_in_use : List ℕ → Bool
is_in_use raw = begins_file raw && (flags_of raw % 2 == 1)

-- the record, where the bytes parse
abbrev pub if_parsed : Result FileRecord RecordFault → Option FileRecord
if_parsed (Err fault) = None
if_parsed (Ok r) = Some r

-- the record, where the fixups agree and the bytes under them parse
abbrev pub if_unfixed : Result (List ℕ) FixFault → Option FileRecord
if_unfixed (Err fault) = None
if_unfixed (Ok block) = if_parsed (parse_of block)

-- what the bytes of a record as they stand on disk say, where its fixups agree and nothing is wrong with it
unfoldable pub record_in : List ℕ → Option FileRecord
record_in raw = if_unfixed (unfix_of File raw)

-- the record tells no other number than its own
abbrev pub tells_own : ℕ → Option ℕ → Bool
tells_own r None = true
tells_own r (Some n) = n == r

-- the head of a record that says nothing
abbrev pub blank_head : Head
blank_head = record { log_number = 0; sequence = 0; links = 0; flags = 0; base = 0; next_instance = 0 }

-- a record of this number: whether it is in use, whether nothing is wrong with it, whether its bytes begin with BAAD,
-- and what it says; one that isn't in use, or with which something is wrong, has the blank head and no attributes, so
-- that nothing of what its bytes seem to say counts
pub record Slot (P : Type 0) : Type 0 where
  pub is_live : Bool
  pub is_sound : Bool
  pub is_baad : Bool
  pub head : Head
  pub attributes : List (Attribute P)

-- a record that isn't in use
abbrev pub idle_slot : Bool → Slot (Laid (List ℕ))
idle_slot baad = record { is_live = false; is_sound = false; is_baad = baad; head = blank_head; attributes = [] }

-- a record in use with which something is wrong
abbrev pub unsound_slot : Slot (Laid (List ℕ))
unsound_slot = record { is_live = true; is_sound = false; is_baad = false; head = blank_head; attributes = [] }

-- a record in use that says this
abbrev pub sound_slot : FileRecord → Slot (Laid (List ℕ))
sound_slot r =
    record { is_live = true; is_sound = true; is_baad = false; head = r.head; attributes = attributes_of r }

-- a record that says this, where it has this number; one that tells another number isn't sound
abbrev pub own_slot : ℕ → FileRecord → Slot (Laid (List ℕ))
own_slot n r = if tells_own n r.layout.number then sound_slot r else unsound_slot

-- a record in use, which says this or has something wrong
abbrev pub live_slot : ℕ → Option FileRecord → Slot (Laid (List ℕ))
live_slot n None = unsound_slot
live_slot n (Some r) = own_slot n r

-- the record of this number, where its bytes lie wholly in the initialised part of $MFT
unfoldable pub slot_of : ℕ → Option (List ℕ) → Slot (Laid (List ℕ))
slot_of n None = idle_slot false
slot_of n (Some raw) = if is_in_use raw then live_slot n (record_in raw) else idle_slot (begins_baad raw)

-- what a view of a record shows
abbrev pub shown_slot : SlotView → Slot (Laid (List ℕ))
shown_slot (view.Idle baad) = idle_slot baad
shown_slot view.Unsound = unsound_slot
shown_slot (view.Sound r) = sound_slot r

-- ---- maps

-- the payload alone, whatever the record's number and head
abbrev pub on_payload : {P Q : Type 0} → (P → Q) → ℕ → Head → Attribute P → Attribute Q
on_payload f n h a = record { face = a.face; payload = f a.payload }

-- what stands for the runs alone
abbrev pub map_laid : {P Q : Type 0} → (P → Q) → Laid P → Laid Q
map_laid f l = record { spot = l.spot; runs = f l.runs }

-- the record with other attributes, which the function gives from the record's head and the attribute
abbrev pub map_slot : {P Q : Type 0} → (Head → Attribute P → Attribute Q) → Slot P → Slot Q
map_slot f s = record {
  is_live = s.is_live;
  is_sound = s.is_sound;
  is_baad = s.is_baad;
  head = s.head;
  attributes = map (f s.head) s.attributes;
}

-- the records from a number on with other attributes
abbrev pub map_slots : {P Q : Type 0} → (ℕ → Head → Attribute P → Attribute Q) → ℕ → List (Slot P) → List (Slot Q)
map_slots f n [] = []
map_slots f n (s ∷ ss) = map_slot (f n) s ∷ map_slots f (suc n) ss

-- the number of the first record that a test refuses, from a number on
abbrev pub first_not : {P : Type 0} → (ℕ → Slot P → Bool) → ℕ → List (Slot P) → Option ℕ
first_not test n [] = None
first_not test n (s ∷ ss) = if test n s then first_not test (suc n) ss else Some n
