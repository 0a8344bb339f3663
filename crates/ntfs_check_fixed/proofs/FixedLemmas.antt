-- The records with fixed numbers, as they were read.
use Rattle.std.proofs.Common.{◌≡◌, ◌<◌, ◌/◌, ◌%◌, ◌==◌, ◌&&◌, ◌∙◌, inl, inr, ap, sym, refl, subst, ℕ, zero, suc, Bool, true, false, List, [], ◌∷◌, length, map, Option, Some, None, Result, Ok, Err, if◌then◌else◌}
use Rattle.ntfs_base.specs.Bytes.{Cluster, fill_cluster}
use Rattle.ntfs_base.specs.Checks.{first_wrong}
use Rattle.ntfs_base.specs.Frames.{Gives, must, ◌>>=◌}
use Rattle.ntfs_base.specs.declared.refusal.Rule.TheVariants as rule
use Rattle.ntfs_boot.specs.declared.geometry.Geometry.{Geometry}
use Rattle.ntfs_check_fixed.specs.Facts.{HasNoValue}
use Rattle.ntfs_check_fixed.specs.Rows.{HasNoClusters, found_by, row_kind, row_name, row_record, row_check, stream_holds_in, stream_row}
use Rattle.ntfs_check_fixed.specs.declared.rows.Row.{Row}
use Rattle.ntfs_check_fixed.specs.declared.rows.Row.TheVariants as row
use Rattle.ntfs_record.specs.FileRecord.{FileRecord, Laid}
use Rattle.ntfs_record.specs.Slots.{Slot, begins_baad, is_in_use, map_laid, map_slots, on_payload, record_in, tells_own}
use Rattle.ntfs_rules.proofs.DataLemmas.{listings-are, numbers-are}
use Rattle.ntfs_rules.specs.Directories.{has_directory_flag}
use Rattle.ntfs_rules.specs.FixedRecords.{c15, row_0, row_1, row_2, row_3, row_5, row_6, row_7, row_8}
use Rattle.ntfs_rules.specs.Outcome.{check_origin, unless_number}
use Rattle.ntfs_rules.specs.VolumeData.{Records, listings, numbers, volume_data}
use Rattle.ntfs_rules.specs.declared.fault.CheckFault.{CheckFault}
use Rattle.ntfs_runs.specs.Cells.{Cells, cells_below}
use Rattle.ntfs_volume.proofs.GatherLemmas.{IsFaulty, slot-faulty, slot-read}
use Rattle.ntfs_volume.specs.Gather.{Extent, Lists, extents}
use Rattle.ntfs_volume.specs.Gathering.{cell_slot}
use Rattle.ntfs_volume.specs.Located.{Located, idle, live_located, located_slot, map_located, slot_at, slots_from, slots_of, sound_located, unsound_located, with_cells}
use Rattle.ntfs_volume.specs.MftMap.{Map}
use Rattle.ntfs_volume.specs.Opened.{Opened}
use Rattle.ntfs_volume.specs.Records.{raw_record, read_of}
use Rattle.ntfs_volume.specs.StreamBytes.{have_room}
use Rattle.ntfs_volume.specs.Streams.{Gathered, Part, all_right, cells_in, gather, gather_of, gathered_at, join_from, lists_of, part_of, runs_stream, stream_of, stream_of_runs, value_stream}
use Rattle.ntfs_volume.specs.declared.fault.VolumeFault.{VolumeFault}
use Rattle.ntfs_volume.specs.declared.fault.VolumeFault.TheVariants as volume
use Rattle.ntfs_record.specs.Parsing.{parse_of}
use Rattle.std.specs.Prelude.{not}

and-false : (a : Bool) → (a && false) ≡ false
and-false true = refl
and-false false = refl

-- ---- a value has no clusters

abbrev IfFound : Result (Gathered ℕ) VolumeFault → Type 0
IfFound (Ok found) = HasNoClusters found.stream × HasNoValue found.stream
IfFound (Err fault) = Unit {0}

runs-found : (c r : ℕ) (first : Part ℕ) (ps : List (Part ℕ)) → IfFound (stream_of_runs c r first ps)
unfolding stream_of_runs
runs-found c r first ps = by_right (all_right ps)
  where
    by_room : (b : Bool) → IfFound (must b (volume.Damaged rule.C12 r) >>= (λ _. Ok (gathered_at first (length ps) (runs_stream first.flags first.size first.valid (cells_in ps)))))
    by_room true = (λ e. absurd cc, λ e. refl)
    by_room false = tt

    by_right : (o : Result (Unit {0}) VolumeFault) → IfFound (o >>= (λ _. must (join_from 0 ps && have_room c (length (cells_in ps)) first.size first.valid) (volume.Damaged rule.C12 r)
        >>= (λ _. Ok (gathered_at first (length ps) (runs_stream first.flags first.size first.valid (cells_in ps))))))
    by_right (Ok done) = by_room (join_from 0 ps && have_room c (length (cells_in ps)) first.size first.valid)
    by_right (Err fault) = tt

parts-found : (c r : ℕ) (ps : List (Part ℕ)) → IfFound (stream_of c r ps)
unfolding stream_of
parts-found c r [] = tt
parts-found c r (first ∷ ps) = go first.is_resident
  where
    go : (b : Bool) → IfFound (if b then Ok (gathered_at first (length (first ∷ ps)) (value_stream first.flags first.value)) else stream_of_runs c r first (first ∷ ps))
    go true = (λ e. refl, λ e. absurd cc)
    go false = runs-found c r first (first ∷ ps)

extents-found : (c r : ℕ) (o : Result (List (Extent (Located (Laid (Cells ℕ))))) VolumeFault) → IfFound (o >>= (λ found. stream_of c r (map part_of found)))
extents-found c r (Ok found) = parts-found c r (map part_of found)
extents-found c r (Err fault) = tt

gather-found : (g : Geometry) (m : Map) (f : ℕ → List ℕ) (r kind : ℕ) (name : List ℕ) → IfFound (gather_of g m f r kind name)
unfolding gather_of gather
gather-found g m f r kind name = extents-found g.cluster r (extents (lists_of g f (slots_of g m f)) (with_cells g.clusters (slots_of g m f)) r kind name)

pub is-plain : (g : Geometry) (m : Map) (f : ℕ → List ℕ) (r kind : ℕ) (name : List ℕ) (found : Gathered ℕ) → gather_of g m f r kind name ≡ Ok found → HasNoClusters found.stream × HasNoValue found.stream
is-plain g m f r kind name found is = subst IfFound is (gather-found g m f r kind name)

pub value-has-none : (g : Geometry) (m : Map) (f : ℕ → List ℕ) (r kind : ℕ) (name : List ℕ) (found : Gathered ℕ) → gather_of g m f r kind name ≡ Ok found → HasNoClusters found.stream
value-has-none g m f r kind name found is = (is-plain g m f r kind name found is).0

-- ---- the root directory

-- a record in use with which something is wrong says nothing
abbrev IsBlank : {P : Type 0} → Slot P → Type 0
IsBlank s = s.is_sound ≡ false → s.head.flags ≡ 0

blank-own : (own : Bool) (file : FileRecord) → IsBlank (if own then sound_located file else unsound_located)
blank-own true file = λ e. absurd cc
blank-own false file = λ e. refl

blank-live : (n : ℕ) (said : Option FileRecord) → IsBlank (live_located n said)
blank-live n None = λ e. refl
blank-live n (Some file) = blank-own (tells_own n file.layout.number) file

blank-used : (n : ℕ) (raw : List ℕ) (used : Bool) → IsBlank (if used then live_located n (record_in raw) else idle (begins_baad raw))
blank-used n raw true = blank-live n (record_in raw)
blank-used n raw false = λ e. refl

blank-located : (n : ℕ) (raw : Option (List ℕ)) → IsBlank (located_slot n raw)
unfolding located_slot
blank-located n None = λ e. refl
blank-located n (Some raw) = blank-used n raw (is_in_use raw)

blank-from : {P : Type 0} (slot : ℕ → Slot P) (n count r : ℕ) → ((k : ℕ) → IsBlank (slot k)) → IsBlank (slot_at (slots_from slot n count) r)
unfolding slot_at slots_from
blank-from slot n zero r each = λ e. refl
blank-from slot n (suc count) zero each = each n
blank-from slot n (suc count) (suc r) each = blank-from slot (suc n) count r each

blank-mapped : {P Q : Type 0} (f : P → Q) (n r : ℕ) (slots : List (Slot P)) → IsBlank (slot_at slots r) → IsBlank (slot_at (map_slots (on_payload f) n slots) r)
unfolding slot_at
blank-mapped f n r [] is = λ e. refl
blank-mapped f n zero (s ∷ slots) is = is
blank-mapped f n (suc r) (s ∷ slots) is = blank-mapped f (suc n) r slots is

blank-at : (g : Geometry) (m : Map) (f : ℕ → List ℕ) (r : ℕ) → IsBlank (slot_at (with_cells g.clusters (slots_of g m f)) r)
unfolding with_cells slots_of
blank-at g m f r = blank-mapped (map_located (map_laid (cells_below g.clusters))) 0 r (slots_from (λ n. located_slot n (raw_record g m f n)) 0 (m.valid / g.record_size))
    (blank-from (λ n. located_slot n (raw_record g m f n)) 0 (m.valid / g.record_size) r (λ k. blank-located k (raw_record g m f k)))

unflagged : (s : Slot (Located (Laid (Cells ℕ)))) → s.head.flags ≡ 0 → row_5 s ≡ false
unfolding row_5 has_directory_flag
unflagged s none = ap (λ n. s.is_live && (n / 2 % 2 == 1)) none ∙ and-false s.is_live

unlive : (s : Slot (Located (Laid (Cells ℕ)))) → s.is_live ≡ false → row_5 s ≡ false
unfolding row_5
unlive s idle = ap (λ b. b && has_directory_flag s) idle

faulty-root : (s : Slot (Located (Laid (Cells ℕ)))) (fault : VolumeFault) → IsBlank s → IsFaulty 5 s fault → false ≡ row_5 s
faulty-root s fault blank (inl absent) = sym (unlive s absent.1)
faulty-root s fault blank (inr wrong) = sym (unflagged s (blank wrong.1.1))

pub no-root : (g : Geometry) (m : Map) (f : ℕ → List ℕ) (fault : VolumeFault) → 0 < g.record_size → read_of g m f 5 ≡ Err fault → false ≡ row_5 (slot_at (with_cells g.clusters (slots_of g m f)) 5)
no-root g m f fault some is = faulty-root (slot_at (with_cells g.clusters (slots_of g m f)) 5) fault (blank-at g m f 5) (slot-faulty g m f 5 fault some is)

flagged : (n : ℕ) (file : FileRecord) → row_5 (cell_slot n file) ≡ (file.head.flags / 2 % 2 == 1)
unfolding row_5 has_directory_flag
flagged n file = refl

pub root-is : (g : Geometry) (m : Map) (f : ℕ → List ℕ) (block : List ℕ) (file : FileRecord) (flags : ℕ) → 0 < g.record_size → read_of g m f 5 ≡ Ok block → parse_of block ≡ Ok file → flags ≡ file.head.flags
    → (flags / 2 % 2 == 1) ≡ row_5 (slot_at (with_cells g.clusters (slots_of g m f)) 5)
root-is g m f block file flags some is parsed same =
    ap (λ n. n / 2 % 2 == 1) same ∙ sym (ap (λ (s : Slot (Located (Laid (Cells ℕ)))). row_5 s) (slot-read g m f 5 block file some is parsed) ∙ flagged g.clusters file)

-- ---- a stream

row-refused : (g : Geometry) (table : List ℕ) (listings : Lists) (which : Row) (fault : VolumeFault) → stream_row g table listings which (Err fault) ≡ false
unfolding row_0 row_1 row_2 row_3 row_6 row_7 row_8
row-refused g table listings row.Mft fault = refl
row-refused g table listings row.Mirror fault = and-false (not (listings 1).is_there)
row-refused g table listings row.Log fault = refl
row-refused g table listings row.Volume fault = and-false (not (listings 3).is_there)
row-refused g table listings row.Root fault = refl
row-refused g table listings row.Bitmap fault = and-false (not (listings 6).is_there)
row-refused g table listings row.Boot fault = and-false (not (listings 7).is_there)
row-refused g table listings row.Bad fault = and-false (not (listings 8).is_there)

row-unfound : (g : Geometry) (table : List ℕ) (listings : Lists) (which : Row) (o : Result (Gathered ℕ) VolumeFault) → None ≡ found_by o → false ≡ stream_row g table listings which o
row-unfound g table listings which (Ok found) is = absurd cc
row-unfound g table listings which (Err fault) is = sym (row-refused g table listings which fault)

pub found-is : (o : Result (Gathered ℕ) VolumeFault) (found : Gathered ℕ) → Some found ≡ found_by o → o ≡ Ok found
found-is (Ok other) found is = cc
found-is (Err fault) found is = absurd cc

asked-for : (o : Opened) (f : ℕ → List ℕ) (which : Row) (n kind : ℕ) (name : List ℕ) → n ≡ row_record which → kind ≡ row_kind which → name ≡ row_name which
    → gather_of o.geometry o.map f n kind name ≡ gather_of o.geometry o.map f (row_record which) (row_kind which) (row_name which)
asked-for o f which n kind name same_n same_kind same_name =
    ap (λ k. gather_of o.geometry o.map f k kind name) same_n
    ∙ ap (λ k. gather_of o.geometry o.map f (row_record which) k name) same_kind
    ∙ ap (gather_of o.geometry o.map f (row_record which) (row_kind which)) same_name

pub stream-none : (o : Opened) (f : ℕ → List ℕ) (which : Row) (n kind : ℕ) (name : List ℕ) (found : Option (Gathered ℕ)) → n ≡ row_record which → kind ≡ row_kind which → name ≡ row_name which
    → found ≡ found_by (gather_of o.geometry o.map f n kind name) → found ≡ None → false ≡ stream_holds_in o f which
stream-none o f which n kind name found same_n same_kind same_name is none =
    row-unfound o.geometry o.map.clusters (lists_of o.geometry f (slots_of o.geometry o.map f)) which (gather_of o.geometry o.map f (row_record which) (row_kind which) (row_name which))
    (sym none ∙ is ∙ ap found_by (asked-for o f which n kind name same_n same_kind same_name))

-- ---- all rows

abbrev pub all_rows : List Row
all_rows = row.Mft ∷ row.Mirror ∷ row.Log ∷ row.Volume ∷ row.Root ∷ row.Bitmap ∷ row.Boot ∷ row.Bad ∷ []

numbers-kept : (f : ℕ → List ℕ) (ks : List ℕ) → map (λ (k : Cluster). k.number) (map (fill_cluster f) ks) ≡ ks
numbers-kept f [] = refl
numbers-kept f (k ∷ ks) = ap (λ (rest : List ℕ). k ∷ rest) (numbers-kept f ks)

rows-are : (o : Opened) (f : ℕ → List ℕ) → c15 o.geometry o.map.clusters (lists_of o.geometry f (slots_of o.geometry o.map f)) (with_cells o.geometry.clusters (slots_of o.geometry o.map f))
    ≡ first_wrong (map (row_check o f) all_rows)
unfolding c15 gather_of
rows-are o f = refl

pub fixed-is : (o : Opened) (f : ℕ → List ℕ) → c15 (volume_data o f).geometry (map (λ (k : Cluster). k.number) (volume_data o f).table) (listings (volume_data o f)) (numbers (volume_data o f))
    ≡ first_wrong (map (row_check o f) all_rows)
unfolding volume_data
fixed-is o f =
    ap (λ (ks : List ℕ). c15 o.geometry ks (listings (volume_data o f)) (numbers (volume_data o f))) (numbers-kept f o.map.clusters)
    ∙ ap (λ (lists : Lists). c15 o.geometry o.map.clusters lists (numbers (volume_data o f))) (listings-are o f)
    ∙ ap (λ (slots : Records ℕ). c15 o.geometry o.map.clusters (lists_of o.geometry f (slots_of o.geometry o.map f)) slots) (numbers-are o f)
    ∙ rows-are o f

pub fixed-given : (o : Opened) (f : ℕ → List ℕ) (result : Result (Unit {0}) CheckFault) → Gives check_origin (λ done. done) (unless_number rule.C15 (first_wrong (map (row_check o f) all_rows)) tt) result
    → Gives check_origin (λ done. done) (unless_number rule.C15 (c15 (volume_data o f).geometry (map (λ (k : Cluster). k.number) (volume_data o f).table) (listings (volume_data o f)) (numbers (volume_data o f))) tt) result
fixed-given o f result = subst (λ (found : Option ℕ). Gives check_origin (λ done. done) (unless_number rule.C15 found tt) result) (sym (fixed-is o f))
