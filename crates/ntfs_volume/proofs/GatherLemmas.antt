-- Records by their number, as slots with the cells of their mapping pairs, and what code reads of them.
use Rattle.std.proofs.Common.{◌≡◌, ◌⊎◌, ◌+◌, ◌/◌, ◌<◌, ◌≤◌, ◌==◌, ℕ, zero, suc, Bool, true, false, List, [], ◌∷◌, length, map, Option, Some, None, Result, Ok, Err, refl, sym, ap, ◌∙◌, subst, arith, inl, inr, if◌then◌else◌}
use Rattle.std.specs.Prelude.{find}
use Rattle.std.specs.List.{filter}
use Rattle.std.specs.Option.{ok_or, option_map}
use Rattle.std.proofs.lemmas.Bool.{cases_lt}
use Rattle.std.proofs.lemmas.List.{length-map}
use Rattle.ntfs_attrlist.specs.Entry.{Listed}
use Rattle.ntfs_attrlist.specs.Reading.{list_entries}
use Rattle.ntfs_attrlist.specs.declared.fault.BadEntry.{BadEntry}
use Rattle.ntfs_base.specs.Bytes.{stream}
use Rattle.ntfs_base.specs.Frames.{must, refused_as, ◌>>=◌}
use Rattle.ntfs_boot.specs.declared.geometry.Geometry.{Geometry}
use Rattle.ntfs_fixup.specs.Fixups.{unfix_of}
use Rattle.ntfs_fixup.specs.declared.header.Magic.TheVariants.{File}
use Rattle.ntfs_fixup.specs.declared.unfixing.FixFault.{FixFault}
use Rattle.ntfs_record.specs.FileRecord.{Attribute, FileRecord, Head, Laid, attributes_of}
use Rattle.ntfs_record.specs.Parsing.{parse_of}
use Rattle.ntfs_record.specs.Slots.{Slot, begins_baad, if_parsed, if_unfixed, is_in_use, map_laid, map_slot, map_slots, on_payload, record_in, tells_own}
use Rattle.ntfs_record.specs.Views.{Placed, Shown, placed_of, shown_placed}
use Rattle.ntfs_record.specs.declared.fault.RecordFault.{RecordFault}
use Rattle.ntfs_runs.specs.Cells.{Cells, cells_below}
use Rattle.ntfs_volume.specs.Gather.{Extent, all_found, bad_list, bad_record, extent_at, extents_in, found_in, id_of, is_member, is_of, listed_extents, lists, means, own_extents}
use Rattle.ntfs_volume.specs.Gathering.{Progress, added, all_taken, apart, cell_slot, entry_fault, entry_parts, file_lists, finished, found_part, is_meant, is_settled, joined, list_fault, listed_parts, met, no_parts, shown_id, shown_part, shown_parts_of, stream_in_file, taken, wrong_in}
use Rattle.ntfs_volume.specs.Listing.{RecordListing, filled_attribute, filled_attributes, is_list, bytes_of_list, listing_in, listing_of, listing_of_bytes, listing_of_entries, no_listing}
use Rattle.ntfs_volume.specs.Fault.{volume_origin}
use Rattle.ntfs_volume.specs.ListViews.{list_bytes_of}
use Rattle.ntfs_volume.specs.Views.{is_wanted, told}
use Rattle.ntfs_volume.specs.declared.wanted.Wanted.TheVariants as wanted
use Rattle.ntfs_volume.specs.Located.{Located, idle, live_located, located_of, located_slot, map_located, slot_at, slots_from, slots_of, sound_located, unsound_located, with_cells}
use Rattle.ntfs_volume.specs.MftMap.{Map, no_map}
use Rattle.ntfs_volume.specs.Records.{raw_record, read_of, unfixed_record}
use Rattle.ntfs_volume.specs.References.{target}
use Rattle.ntfs_volume.specs.Streams.{Part, is_right, part_of, stream_of}
use Rattle.ntfs_volume.specs.declared.fault.VolumeFault.{VolumeFault}
use Rattle.ntfs_volume.specs.declared.fault.VolumeFault.TheVariants as volume
use Rattle.ntfs_volume.proofs.GatherSteps.{entries-all, finish-all}
use Rattle.ntfs_volume.proofs.TableLemmas.{raw-past}

-- ---- records by their number

slot-mapped : {P Q : Type 0} (h : P → Q) (k : ℕ) (slots : List (Slot P)) (n : ℕ)
    → slot_at (map_slots (on_payload h) k slots) n ≡ map_slot (on_payload h 0) (slot_at slots n)
unfolding slot_at
slot-mapped h k [] n = refl
slot-mapped h k (s ∷ ss) zero = refl
slot-mapped h k (s ∷ ss) (suc n) = slot-mapped h (suc k) ss n

slot-from : {P : Type 0} (slot : ℕ → Slot P) (k count n : ℕ) → n < count → slot_at (slots_from slot k count) n ≡ slot (k + n)
unfolding slot_at slots_from
slot-from slot k zero n below = absurd (omega (arith, below))
slot-from slot k (suc count) zero below = let same : k ≡ k + 0 = omega arith in ap slot same
slot-from slot k (suc count) (suc n) below =
    let same : suc k + n ≡ k + suc n = omega arith in
    slot-from slot (suc k) count n (omega (arith, below)) ∙ ap slot same

slot-past : {P : Type 0} (slot : ℕ → Slot P) (k count n : ℕ) → count ≤ n → slot_at (slots_from slot k count) n ≡ idle false
unfolding slot_at slots_from
slot-past slot k zero n past = refl
slot-past slot k (suc count) zero past = absurd (omega (arith, past))
slot-past slot k (suc count) (suc n) past = slot-past slot (suc k) count n (omega (arith, past))

raw-none : (g : Geometry) (m : Map) (f : ℕ → List ℕ) (n : ℕ) → 0 < g.record_size → m.valid / g.record_size ≤ n → raw_record g m f n ≡ None
unfolding raw_record
raw-none g m f n some past = raw-past (stream f m.clusters) m.valid g.record_size n g.record_size some refl past

located-none : (n : ℕ) → located_slot n None ≡ idle false
unfolding located_slot
located-none n = refl

slot-located : (g : Geometry) (m : Map) (f : ℕ → List ℕ) (n : ℕ) → 0 < g.record_size → slot_at (slots_of g m f) n ≡ located_slot n (raw_record g m f n)
unfolding slots_of
slot-located g m f n some =
    elim (cases_lt n (m.valid / g.record_size)) [
      | inl below ↦ slot-from (λ k. located_slot k (raw_record g m f k)) 0 (m.valid / g.record_size) n below
          ∙ (let same : 0 + n ≡ n = omega arith in ap (λ k. located_slot k (raw_record g m f k)) same)
      | inr past ↦ slot-past (λ k. located_slot k (raw_record g m f k)) 0 (m.valid / g.record_size) n past
          ∙ sym (ap (located_slot n) (raw-none g m f n some past) ∙ located-none n)
    ]

-- with the cells of mapping pairs
abbrev celled : ℕ → Slot (Located (Laid (List ℕ))) → Slot (Located (Laid (Cells ℕ)))
celled n slot = map_slot (on_payload (map_located (map_laid (cells_below n))) 0) slot

slot-cells : (g : Geometry) (m : Map) (f : ℕ → List ℕ) (n : ℕ) → 0 < g.record_size
    → slot_at (with_cells g.clusters (slots_of g m f)) n ≡ celled g.clusters (located_slot n (raw_record g m f n))
unfolding with_cells
slot-cells g m f n some =
    slot-mapped (map_located (map_laid (cells_below g.clusters))) 0 (slots_of g m f) n
    ∙ ap (celled g.clusters) (slot-located g m f n some)

-- ---- what is read of a record

abbrev ok_bytes : List ℕ → Result (List ℕ) VolumeFault
ok_bytes block = Ok block

told-step : (n : ℕ) (block b : List ℕ) (said file : FileRecord) (own : Bool) → parse_of block ≡ Ok said → parse_of b ≡ Ok file
    → (must own (bad_record n) >>= (λ _. ok_bytes block)) ≡ Ok b → (if own then sound_located said else unsound_located) ≡ sound_located file
told-step n block b said file true parsed is read =
    let same : block ≡ b = cc in
    let one : ◌≡◌ {A = Result FileRecord RecordFault} (Ok said) (Ok file) = sym parsed ∙ ap parse_of same ∙ is in
    let whole : said ≡ file = cc in ap sound_located whole
told-step n block b said file false parsed is read = absurd cc

parse-step : (n : ℕ) (block b : List ℕ) (file : FileRecord) (p : Result FileRecord RecordFault) → parse_of block ≡ p → parse_of b ≡ Ok file
    → (refused_as (λ _. bad_record n) p >>= (λ said. must (tells_own n said.layout.number) (bad_record n) >>= (λ _. ok_bytes block))) ≡ Ok b
    → live_located n (if_parsed p) ≡ sound_located file
parse-step n block b file (Ok said) parsed is read = told-step n block b said file (tells_own n said.layout.number) parsed is read
parse-step n block b file (Err fault) parsed is read = absurd cc

unfix-step : (n : ℕ) (b : List ℕ) (file : FileRecord) (u : Result (List ℕ) FixFault) → parse_of b ≡ Ok file
    → (refused_as (λ _. bad_record n) u >>= (λ block. refused_as (λ _. bad_record n) (parse_of block) >>= (λ said. must (tells_own n said.layout.number) (bad_record n) >>= (λ _. ok_bytes block)))) ≡ Ok b
    → live_located n (if_unfixed u) ≡ sound_located file
unfix-step n b file (Ok block) is read = parse-step n block b file (parse_of block) refl is read
unfix-step n b file (Err fault) is read = absurd cc

live-step : (n : ℕ) (raw b : List ℕ) (file : FileRecord) (live : Bool) → parse_of b ≡ Ok file
    → (must live volume.Absent >>= (λ _. refused_as (λ _. bad_record n) (unfix_of File raw) >>= (λ block. refused_as (λ _. bad_record n) (parse_of block) >>= (λ said. must (tells_own n said.layout.number) (bad_record n) >>= (λ _. ok_bytes block))))) ≡ Ok b
    → (if live then live_located n (record_in raw) else idle (begins_baad raw)) ≡ sound_located file
unfolding record_in
live-step n raw b file true is read = unfix-step n b file (unfix_of File raw) is read
live-step n raw b file false is read = absurd cc

raw-step : (n : ℕ) (b : List ℕ) (file : FileRecord) (o : Option (List ℕ)) → parse_of b ≡ Ok file
    → (ok_or o volume.Absent >>= unfixed_record n) ≡ Ok b → located_slot n o ≡ sound_located file
unfolding located_slot unfixed_record
raw-step n b file (Some raw) is read = live-step n raw b file (is_in_use raw) is read
raw-step n b file None is read = absurd cc

pub slot-read : (g : Geometry) (m : Map) (f : ℕ → List ℕ) (n : ℕ) (b : List ℕ) (file : FileRecord) → 0 < g.record_size → read_of g m f n ≡ Ok b → parse_of b ≡ Ok file
    → slot_at (with_cells g.clusters (slots_of g m f)) n ≡ cell_slot g.clusters file
unfolding read_of
slot-read g m f n b file some read is =
    slot-cells g m f n some ∙ ap (celled g.clusters) (raw-step n b file (raw_record g m f n) is read)

-- the same before the cells
pub slot-said : (g : Geometry) (m : Map) (f : ℕ → List ℕ) (n : ℕ) (b : List ℕ) (file : FileRecord) → 0 < g.record_size → read_of g m f n ≡ Ok b → parse_of b ≡ Ok file
    → slot_at (slots_of g m f) n ≡ sound_located file
unfolding read_of
slot-said g m f n b file some read is = slot-located g m f n some ∙ raw-step n b file (raw_record g m f n) is read

-- a record that was read parses
parsed-told : (n : ℕ) (block b : List ℕ) (p : Result FileRecord RecordFault) (own : FileRecord → Bool) (fault : RecordFault) → parse_of block ≡ p → parse_of b ≡ Err fault
    → (refused_as (λ _. bad_record n) p >>= (λ said. must (own said) (bad_record n) >>= (λ _. ok_bytes block))) ≡ Ok b → ⊥
parsed-told n block b (Err other) own fault parsed is read = absurd cc
parsed-told n block b (Ok said) own fault parsed is read = by_own (own said) read
  where
    by_own : (o : Bool) → (must o (bad_record n) >>= (λ _. ok_bytes block)) ≡ Ok b → ⊥
    by_own true read = let same : block ≡ b = cc in let both : ◌≡◌ {A = Result FileRecord RecordFault} (Ok said) (Err fault) = sym parsed ∙ ap parse_of same ∙ is in absurd cc
    by_own false read = absurd cc

parsed-unfixed : (n : ℕ) (b : List ℕ) (u : Result (List ℕ) FixFault) (fault : RecordFault) → parse_of b ≡ Err fault
    → (refused_as (λ _. bad_record n) u >>= (λ block. refused_as (λ _. bad_record n) (parse_of block) >>= (λ said. must (tells_own n said.layout.number) (bad_record n) >>= (λ _. ok_bytes block)))) ≡ Ok b → ⊥
parsed-unfixed n b (Ok block) fault is read = parsed-told n block b (parse_of block) (λ said. tells_own n said.layout.number) fault refl is read
parsed-unfixed n b (Err other) fault is read = absurd cc

parsed-raw : (n : ℕ) (b : List ℕ) (o : Option (List ℕ)) (fault : RecordFault) → parse_of b ≡ Err fault → (ok_or o volume.Absent >>= unfixed_record n) ≡ Ok b → ⊥
unfolding unfixed_record
parsed-raw n b None fault is read = absurd cc
parsed-raw n b (Some raw) fault is read = by_live (is_in_use raw) read
  where
    by_live : (live : Bool) → (must live volume.Absent >>= (λ _. refused_as (λ _. bad_record n) (unfix_of File raw) >>= (λ block. refused_as (λ _. bad_record n) (parse_of block) >>= (λ said. must (tells_own n said.layout.number) (bad_record n) >>= (λ _. ok_bytes block))))) ≡ Ok b → ⊥
    by_live true read = parsed-unfixed n b (unfix_of File raw) fault is read
    by_live false read = absurd cc

pub read-parses : (g : Geometry) (m : Map) (f : ℕ → List ℕ) (n : ℕ) (b : List ℕ) (fault : RecordFault) → read_of g m f n ≡ Ok b → parse_of b ≡ Err fault → ⊥
unfolding read_of
read-parses g m f n b fault read is = parsed-raw n b (raw_record g m f n) fault is read

-- ---- why a record isn't read

-- the record isn't in use, or is and isn't sound; and which fault tells it
abbrev pub IsFaulty : {P : Type 0} → ℕ → Slot P → VolumeFault → Type 0
IsFaulty n slot fault = ((fault ≡ volume.Absent) × (slot.is_live ≡ false)) ⊎ ((fault ≡ bad_record n) × ((slot.is_live ≡ true) × (slot.is_sound ≡ false)))

same-fault : (a b : VolumeFault) → ◌≡◌ {A = Result (List ℕ) VolumeFault} (Err a) (Err b) → b ≡ a
same-fault a b is = cc

fault-own : (n : ℕ) (block : List ℕ) (said : FileRecord) (own : Bool) (fault : VolumeFault)
    → (must own (bad_record n) >>= (λ _. ok_bytes block)) ≡ Err fault → IsFaulty n (if own then sound_located said else unsound_located) fault
fault-own n block said true fault read = absurd cc
fault-own n block said false fault read = inr (same-fault (bad_record n) fault read, (refl, refl))

fault-parse : (n : ℕ) (block : List ℕ) (p : Result FileRecord RecordFault) (fault : VolumeFault)
    → (refused_as (λ _. bad_record n) p >>= (λ said. must (tells_own n said.layout.number) (bad_record n) >>= (λ _. ok_bytes block))) ≡ Err fault → IsFaulty n (live_located n (if_parsed p)) fault
fault-parse n block (Ok said) fault read = fault-own n block said (tells_own n said.layout.number) fault read
fault-parse n block (Err other) fault read = inr (same-fault (bad_record n) fault read, (refl, refl))

fault-unfix : (n : ℕ) (u : Result (List ℕ) FixFault) (fault : VolumeFault)
    → (refused_as (λ _. bad_record n) u >>= (λ block. refused_as (λ _. bad_record n) (parse_of block) >>= (λ said. must (tells_own n said.layout.number) (bad_record n) >>= (λ _. ok_bytes block)))) ≡ Err fault
    → IsFaulty n (live_located n (if_unfixed u)) fault
fault-unfix n (Ok block) fault read = fault-parse n block (parse_of block) fault read
fault-unfix n (Err other) fault read = inr (same-fault (bad_record n) fault read, (refl, refl))

fault-live : (n : ℕ) (raw : List ℕ) (live : Bool) (fault : VolumeFault)
    → (must live volume.Absent >>= (λ _. refused_as (λ _. bad_record n) (unfix_of File raw) >>= (λ block. refused_as (λ _. bad_record n) (parse_of block) >>= (λ said. must (tells_own n said.layout.number) (bad_record n) >>= (λ _. ok_bytes block))))) ≡ Err fault
    → IsFaulty n (if live then live_located n (record_in raw) else idle (begins_baad raw)) fault
unfolding record_in
fault-live n raw true fault read = fault-unfix n (unfix_of File raw) fault read
fault-live n raw false fault read = inl (same-fault volume.Absent fault read, refl)

fault-raw : (n : ℕ) (o : Option (List ℕ)) (fault : VolumeFault) → (ok_or o volume.Absent >>= unfixed_record n) ≡ Err fault → IsFaulty n (located_slot n o) fault
unfolding located_slot unfixed_record
fault-raw n (Some raw) fault read = fault-live n raw (is_in_use raw) fault read
fault-raw n None fault read = inl (same-fault volume.Absent fault read, refl)

pub slot-faulty : (g : Geometry) (m : Map) (f : ℕ → List ℕ) (n : ℕ) (fault : VolumeFault) → 0 < g.record_size → read_of g m f n ≡ Err fault
    → IsFaulty n (slot_at (with_cells g.clusters (slots_of g m f)) n) fault
unfolding read_of
slot-faulty g m f n fault some read =
    subst (λ (slot : Slot (Located (Laid (Cells ℕ)))). IsFaulty n slot fault) (sym (slot-cells g m f n some)) (fault-raw n (raw_record g m f n) fault read)

-- so an entry that names it is refused
pub faulty-part : (r : ℕ) (sequence : ℕ) (entry : Listed) (slot : Slot (Located (Laid (Cells ℕ)))) (p : Progress) (fault : VolumeFault) → IsFaulty (target entry.reference) slot fault
    → found_part r sequence entry slot p ≡ Err (entry_fault r fault)
unfolding found_part found_in
faulty-part r sequence entry slot p fault (inl absent) = rw (absent.1) (ap (λ e. Err (entry_fault r e)) (sym absent.0))
faulty-part r sequence entry slot p fault (inr wrong) = rw (wrong.1.0, wrong.1.1) (ap (λ e. Err (entry_fault r e)) (sym wrong.0))

-- ---- attributes by their views

abbrev ok_progress : Progress → Result Progress VolumeFault
ok_progress p = Ok p

abbrev ok_extent : Extent (Located (Laid (Cells ℕ))) → Result (Extent (Located (Laid (Cells ℕ)))) VolumeFault
ok_extent x = Ok x

abbrev celled_attribute : ℕ → Attribute (Located (Laid (List ℕ))) → Attribute (Located (Laid (Cells ℕ)))
celled_attribute n a = record { face = a.face; payload = map_located (map_laid (cells_below n)) a.payload }

find-step : (t : ℕ) (h : Head) (p : Progress) (fault : VolumeFault) (b : Bool) (a : Attribute (Located (Laid (Cells ℕ)))) (part : Part ℕ) (n : ℕ) (s : Shown) (xs : Option (Attribute (Located (Laid (Cells ℕ))))) (ys : Option Shown)
    → part_of (extent_at t h a) ≡ shown_part n t s
    → ((ok_or xs fault >>= (λ a. ok_extent (extent_at t h a))) >>= (λ x. ok_progress (taken p (part_of x)))) ≡ (ok_or ys fault >>= (λ s. ok_progress (taken p (shown_part n t s))))
    → ((ok_or (if b then Some a else xs) fault >>= (λ a. ok_extent (extent_at t h a))) >>= (λ x. ok_progress (taken p (part_of x)))) ≡ (ok_or (if b then Some s else ys) fault >>= (λ s. ok_progress (taken p (shown_part n t s))))
find-step t h p fault true a part n s xs ys is rest = ap (λ part. ok_progress (taken p part)) is
find-step t h p fault false a part n s xs ys is rest = rest

find-shown : (n t : ℕ) (h : Head) (entry : Listed) (p : Progress) (fault : VolumeFault) (ps : List Placed)
    → ((ok_or (find (λ (a : Attribute (Located (Laid (Cells ℕ)))). means entry (id_of a.face)) (map (celled_attribute n) (map located_of ps))) fault >>= (λ a. ok_extent (extent_at t h a))) >>= (λ x. ok_progress (taken p (part_of x))))
    ≡ (ok_or (find (is_meant entry) (map shown_placed ps)) fault >>= (λ s. ok_progress (taken p (shown_part n t s))))
find-shown n t h entry p fault [] = refl
find-shown n t h entry p fault (q ∷ ps) =
    find-step t h p fault (is_meant entry (shown_placed q)) (celled_attribute n (located_of q)) (shown_part n t (shown_placed q)) n (shown_placed q)
    (find (λ (a : Attribute (Located (Laid (Cells ℕ)))). means entry (id_of a.face)) (map (celled_attribute n) (map located_of ps))) (find (is_meant entry) (map shown_placed ps)) refl
    (find-shown n t h entry p fault ps)

member-step : (m : Bool) (fault : VolumeFault) (x : Result (Extent (Located (Laid (Cells ℕ)))) VolumeFault) (y : Result Progress VolumeFault) (p : Progress)
    → (x >>= (λ x. ok_progress (taken p (part_of x)))) ≡ y
    → ((must m fault >>= (λ _. x)) >>= (λ x. ok_progress (taken p (part_of x)))) ≡ (must m fault >>= (λ _. y))
member-step true fault x y p is = is
member-step false fault x y p is = refl

-- the extent that an entry names of a record, by what views show of it
pub part-shown : (n r : ℕ) (sequence : ℕ) (entry : Listed) (file : FileRecord) (p : Progress)
    → found_part r sequence entry (cell_slot n file) p
    ≡ (must (is_member r sequence entry.reference file.head) (bad_list r) >>= (λ _. ok_or (find (is_meant entry) (map shown_placed (placed_of file))) (bad_list r) >>= (λ s. ok_progress (taken p (shown_part n (target entry.reference) s)))))
unfolding found_part found_in
part-shown n r sequence entry file p =
    member-step (is_member r sequence entry.reference file.head) (bad_list r)
    (ok_or (find (λ (a : Attribute (Located (Laid (Cells ℕ)))). means entry (id_of a.face)) (map (celled_attribute n) (map located_of (placed_of file)))) (bad_list r) >>= (λ a. ok_extent (extent_at (target entry.reference) file.head a)))
    (ok_or (find (is_meant entry) (map shown_placed (placed_of file))) (bad_list r) >>= (λ s. ok_progress (taken p (shown_part n (target entry.reference) s)))) p
    (find-shown n (target entry.reference) file.head entry p (bad_list r) (placed_of file))

pub part-stranger : (n r : ℕ) (sequence : ℕ) (entry : Listed) (file : FileRecord) (p : Progress) (member : Bool) → member ≡ is_member r sequence entry.reference file.head → member ≡ false
    → found_part r sequence entry (cell_slot n file) p ≡ Err (bad_list r)
part-stranger n r sequence entry file p member is other = part-shown n r sequence entry file p ∙ (let no : is_member r sequence entry.reference file.head ≡ false = sym is ∙ other in rw no refl)

pub part-missing : (n r : ℕ) (sequence : ℕ) (entry : Listed) (file : FileRecord) (p : Progress) (member : Bool) → member ≡ is_member r sequence entry.reference file.head → member ≡ true
    → find (is_meant entry) (map shown_placed (placed_of file)) ≡ None → found_part r sequence entry (cell_slot n file) p ≡ Err (bad_list r)
part-missing n r sequence entry file p member is holds none = part-shown n r sequence entry file p ∙ (let yes : is_member r sequence entry.reference file.head ≡ true = sym is ∙ holds in rw (yes, none) refl)

pub part-found : (n r t : ℕ) (sequence : ℕ) (entry : Listed) (file : FileRecord) (p q : Progress) (s : Shown) (member : Bool) → member ≡ is_member r sequence entry.reference file.head → member ≡ true
    → find (is_meant entry) (map shown_placed (placed_of file)) ≡ Some s → t ≡ target entry.reference → q ≡ taken p (shown_part n t s)
    → found_part r sequence entry (cell_slot n file) p ≡ Ok q
part-found n r t sequence entry file p q s member is holds found at same =
    part-shown n r sequence entry file p
    ∙ (let yes : is_member r sequence entry.reference file.head ≡ true = sym is ∙ holds in rw (yes, found) refl)
    ∙ ap (λ t. ok_progress (taken p (shown_part n t s))) (sym at) ∙ ap ok_progress (sym same)

-- ---- the record's own attributes

abbrev own_of : ℕ → List ℕ → ℕ → List Placed → List (Attribute (Located (Laid (Cells ℕ))))
own_of kind name n ps =
    filter (λ (a : Attribute (Located (Laid (Cells ℕ)))). is_of kind name (id_of a.face)) (map (celled_attribute n) (map located_of ps))

own-step : (b : Bool) (n r : ℕ) (h : Head) (kind : ℕ) (name : List ℕ) (a : Attribute (Located (Laid (Cells ℕ)))) (s : Shown) (ps : List Placed) (p : Progress)
    → part_of (extent_at r h a) ≡ shown_part n r s
    → ((p : Progress) → shown_parts_of n r kind name (map shown_placed ps) p ≡ all_taken p (map part_of (map (extent_at r h) (own_of kind name n ps))))
    → shown_parts_of n r kind name (map shown_placed ps) (if b then taken p (shown_part n r s) else p) ≡ all_taken p (map part_of (map (extent_at r h) (if b then a ∷ own_of kind name n ps else own_of kind name n ps)))
unfolding all_taken
own-step true n r h kind name a s ps p is rest =
    rest (taken p (shown_part n r s)) ∙ ap (λ part. all_taken (taken p part) (map part_of (map (extent_at r h) (own_of kind name n ps)))) (sym is)
own-step false n r h kind name a s ps p is rest = rest p

own-shown : (n r : ℕ) (h : Head) (kind : ℕ) (name : List ℕ) (ps : List Placed) (p : Progress)
    → shown_parts_of n r kind name (map shown_placed ps) p ≡ all_taken p (map part_of (map (extent_at r h) (own_of kind name n ps)))
unfolding shown_parts_of all_taken
own-shown n r h kind name [] p = refl
own-shown n r h kind name (q ∷ ps) p =
    own-step (is_of kind name (shown_id (shown_placed q))) n r h kind name (celled_attribute n (located_of q)) (shown_placed q) ps p refl (λ p. own-shown n r h kind name ps p)

-- ---- the stream of a base record

pub stream-own : (c n r kind : ℕ) (name : List ℕ) (listing : RecordListing) (file : FileRecord) (slots : List (Slot (Located (Laid (Cells ℕ))))) → listing.is_there ≡ false
    → stream_in_file c r kind name listing (cell_slot n file) slots ≡ finished c r (shown_parts_of n r kind name (map shown_placed (placed_of file)) no_parts)
unfolding stream_in_file extents_in own_extents
stream-own c n r kind name listing file slots none =
    rw none refl
    ∙ sym (ap (finished c r) (own-shown n r file.head kind name (placed_of file) no_parts) ∙ finish-all c r (map part_of (map (extent_at r file.head) (own_of kind name n (placed_of file)))))

all-step : (c r : ℕ) (found : Result (List (Extent (Located (Laid (Cells ℕ))))) VolumeFault)
    → (found >>= (λ found. stream_of c r (map part_of found))) ≡ ((found >>= (λ found. ok_progress (all_taken no_parts (map part_of found)))) >>= (λ p. finished c r p))
all-step c r (Err fault) = refl
all-step c r (Ok found) = sym (finish-all c r (map part_of found))

good-step : (c r : ℕ) (good : Bool) (found : Result (List (Extent (Located (Laid (Cells ℕ))))) VolumeFault) (parts : Result Progress VolumeFault)
    → parts ≡ (found >>= (λ found. ok_progress (all_taken no_parts (map part_of found))))
    → ((must good (bad_list r) >>= (λ _. found)) >>= (λ found. stream_of c r (map part_of found))) ≡ ((must good (bad_list r) >>= (λ _. parts)) >>= (λ p. finished c r p))
good-step c r true found parts is = all-step c r found ∙ ap (λ parts. parts >>= (λ p. finished c r p)) (sym is)
good-step c r false found parts is = refl

pub stream-listed : (c n r kind : ℕ) (name : List ℕ) (listing : RecordListing) (file : FileRecord) (slots : List (Slot (Located (Laid (Cells ℕ))))) → listing.is_there ≡ true
    → stream_in_file c r kind name listing (cell_slot n file) slots ≡ (listed_parts r file.head.sequence kind name slots listing no_parts >>= (λ p. finished c r p))
unfolding stream_in_file extents_in listed_extents listed_parts
stream-listed c n r kind name listing file slots there =
    rw there refl
    ∙ good-step c r listing.is_good (all_found r file.head.sequence slots (filter (lists kind name) listing.entries)) (entry_parts r file.head.sequence kind name slots listing.entries no_parts)
    (entries-all r file.head.sequence kind name slots listing.entries no_parts)

pub is-there : (o : Option (List ℕ)) → (listing_of_bytes o).is_there ≡ true
is-there None = refl
is-there (Some bytes) = by_entries (list_entries bytes)
  where
    by_entries : (r : Result (List Listed) BadEntry) → (listing_of_entries r).is_there ≡ true
    by_entries (Ok entries) = refl
    by_entries (Err fault) = refl

-- ---- what a base record says of its list, by its views

list-step : (n : ℕ) (f : ℕ → List ℕ) (a : Attribute (Laid (List ℕ))) (b : Bool) (xs : Option Shown) (ys : Option (Attribute (Laid (Cells (List ℕ)))))
    → (o : Option (Attribute (Laid (List ℕ)))) × (xs ≡ option_map told o) × (ys ≡ option_map (filled_attribute n f) o)
    → (o : Option (Attribute (Laid (List ℕ)))) × ((if b then Some (told a) else xs) ≡ option_map told o) × ((if b then Some (filled_attribute n f a) else ys) ≡ option_map (filled_attribute n f) o)
list-step n f a true xs ys rest = (Some a, refl, refl)
list-step n f a false xs ys rest = rest

list-found : (n : ℕ) (f : ℕ → List ℕ) (all : List (Attribute (Laid (List ℕ))))
    → (o : Option (Attribute (Laid (List ℕ)))) × (find (is_wanted wanted.List) (map told all) ≡ option_map told o)
    × (find (λ (a : Attribute (Laid (Cells (List ℕ)))). is_list a.face) (filled_attributes n f all) ≡ option_map (filled_attribute n f) o)
list-found n f [] = (None, refl, refl)
list-found n f (a ∷ all) =
    list-step n f a (a.face.kind == 0x20) (find (is_wanted wanted.List) (map told all)) (find (λ (a : Attribute (Laid (Cells (List ℕ)))). is_list a.face) (filled_attributes n f all)) (list-found n f all)

-- what is told by the first list that is found
abbrev pub ListingTold : Geometry → (ℕ → List ℕ) → FileRecord → Option Shown → Type 0
ListingTold g f file None = file_lists g f file ≡ no_listing
ListingTold g f file (Some s) =
    (a : Attribute (Laid (List ℕ))) × (told a ≡ s) × (file_lists g f file ≡ listing_of_bytes (list_bytes_of g f a file))

listing-found : (g : Geometry) (f : ℕ → List ℕ) (file : FileRecord) (found : Option Shown) (o : Option (Attribute (Laid (List ℕ)))) → found ≡ option_map told o
    → find (λ (a : Attribute (Laid (Cells (List ℕ)))). is_list a.face) (filled_attributes g.clusters f (attributes_of file)) ≡ option_map (filled_attribute g.clusters f) o
    → ListingTold g f file found
unfolding listing_in
listing-found g f file None None is same =
    ap (λ o. listing_of g.cluster o (filled_attributes g.clusters f (attributes_of file))) same
listing-found g f file (Some s) (Some a) is same =
    (a, sym (let e : s ≡ told a = cc in e), ap (λ o. listing_of g.cluster o (filled_attributes g.clusters f (attributes_of file))) same)
listing-found g f file None (Some a) is same = absurd cc
listing-found g f file (Some s) None is same = absurd cc

pub listing-told : (g : Geometry) (f : ℕ → List ℕ) (file : FileRecord) (found : Option Shown) → found ≡ find (is_wanted wanted.List) (map told (attributes_of file)) → ListingTold g f file found
listing-told g f file found is =
    let all = list-found g.clusters f (attributes_of file) in
    listing-found g f file found all.0 (is ∙ all.1) all.2

-- a resident list is its value
pub list-value : (g : Geometry) (f : ℕ → List ℕ) (a : Attribute (Laid (List ℕ))) (file : FileRecord) → a.face.is_resident ≡ true → list_bytes_of g f a file ≡ Some a.face.value
unfolding bytes_of_list
list-value g f a file is = rw is refl

-- ---- faults in other words

abbrev err_of : {T : Type 0} → VolumeFault → Result T VolumeFault
err_of fault = Err fault

pub list-origin : (r : ℕ) (fault : VolumeFault) → volume_origin (list_fault r fault) ≡ volume_origin fault
list-origin r volume.NotNtfs = refl
list-origin r (volume.BadGeometry field value) = refl
list-origin r (volume.ImageShort len need) = refl
list-origin r (volume.Damaged rule number) = refl
list-origin r volume.Absent = refl
list-origin r volume.NoAttribute = refl
list-origin r volume.ReadFault = refl
list-origin r volume.WriteFault = refl
list-origin r volume.NoMemory = refl

pub entry-origin : (r : ℕ) (fault : VolumeFault) → volume_origin (entry_fault r fault) ≡ volume_origin fault
entry-origin r volume.NotNtfs = refl
entry-origin r (volume.BadGeometry field value) = refl
entry-origin r (volume.ImageShort len need) = refl
entry-origin r (volume.Damaged rule number) = refl
entry-origin r volume.Absent = refl
entry-origin r volume.NoAttribute = refl
entry-origin r volume.ReadFault = refl
entry-origin r volume.WriteFault = refl
entry-origin r volume.NoMemory = refl

-- the bytes of a list that aren't there
pub list-none : (o : Option (List ℕ)) (fault : VolumeFault) → ok_or o (no_map 0) ≡ Err fault → (o ≡ None) × (fault ≡ no_map 0)
list-none None fault is = (refl, let same : fault ≡ no_map 0 = cc in same)
list-none (Some bytes) fault is = absurd cc

pub list-some : (o : Option (List ℕ)) (bytes : List ℕ) → ok_or o (no_map 0) ≡ Ok bytes → o ≡ Some bytes
list-some None bytes is = absurd cc
list-some (Some other) bytes is = let same : other ≡ bytes = cc in ap Some same

-- ---- one of the record's own attributes

pub own-less : (ps rest : List Placed) (s : Shown) → map shown_placed ps ≡ s ∷ map shown_placed rest → length ps ≡ length rest + 1
own-less [] rest s is = absurd cc
own-less (p ∷ ps) rest s is =
    let same : map shown_placed ps ≡ map shown_placed rest = cc in
    let long = sym (length-map ps shown_placed) ∙ ap length same ∙ length-map rest shown_placed in
    omega (arith, long)

pub taken-count : (p : Progress) (part : Part ℕ) → (taken p part).count ≡ p.count + 1
unfolding taken added
taken-count p part = settled (is_settled (met p part))
  where
    resident : (a b : Bool) → (if a then apart (met p part) else (if b then joined (met p part) part.lowest part.next part.runs.cells else wrong_in (met p part) part.number)).count ≡ p.count + 1
    resident true b = refl
    resident false true = refl
    resident false false = refl

    settled : (b : Bool) → (if b then met p part else added (met p part) part).count ≡ p.count + 1
    settled true = refl
    settled false = resident part.is_resident (is_right part)

pub own-taken : (n r kind : ℕ) (name : List ℕ) (ss rest : List Shown) (s : Shown) (p q : Progress) → ss ≡ s ∷ rest → is_of kind name (shown_id s) ≡ true → q ≡ taken p (shown_part n r s)
    → (shown_parts_of n r kind name ss p ≡ shown_parts_of n r kind name rest q) × (q.count ≡ p.count + 1)
unfolding shown_parts_of
own-taken n r kind name ss rest s p q is test same = (
  ap (λ ss. shown_parts_of n r kind name ss p) is ∙ ap (λ b. shown_parts_of n r kind name rest (if b then taken p (shown_part n r s) else p)) test
      ∙ ap (λ q. shown_parts_of n r kind name rest q) (sym same),
  ap (λ (q : Progress). q.count) same ∙ taken-count p (shown_part n r s),
)

pub own-other : (n r kind : ℕ) (name : List ℕ) (ss rest : List Shown) (s : Shown) (p : Progress) → ss ≡ s ∷ rest → is_of kind name (shown_id s) ≡ false
    → shown_parts_of n r kind name ss p ≡ shown_parts_of n r kind name rest p
unfolding shown_parts_of
own-other n r kind name ss rest s p is test =
    ap (λ ss. shown_parts_of n r kind name ss p) is ∙ ap (λ b. shown_parts_of n r kind name rest (if b then taken p (shown_part n r s) else p)) test

pub own-end : (n r kind : ℕ) (name : List ℕ) (ss : List Shown) (p : Progress) → ss ≡ [] → shown_parts_of n r kind name ss p ≡ p
unfolding shown_parts_of
own-end n r kind name ss p is = ap (λ ss. shown_parts_of n r kind name ss p) is

-- the count of a part that an entry names
pub part-count : (r sequence : ℕ) (entry : Listed) (slot : Slot (Located (Laid (Cells ℕ)))) (p q : Progress) → found_part r sequence entry slot p ≡ Ok q → q.count ≡ p.count + 1
unfolding found_part
part-count r sequence entry slot p q is = by_found (found_in r sequence entry slot) is
  where
    by_found : (x : Result (Extent (Located (Laid (Cells ℕ)))) VolumeFault) → (x >>= (λ x. ok_progress (taken p (part_of x)))) ≡ Ok q → q.count ≡ p.count + 1
    by_found (Ok x) is = let same : q ≡ taken p (part_of x) = cc in ap (λ (q : Progress). q.count) same ∙ taken-count p (part_of x)
    by_found (Err e) is = absurd cc
