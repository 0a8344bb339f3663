-- A stream gathered part by part, as the code does it. The words are ours; lemmas tie them to the stream of all parts.
use Rattle.std.specs.Prelude.{◌≡◌, ◌+◌, ◌==◌, ◌&&◌, ◌||◌, ℕ, Bool, true, false, List, [], ◌∷◌, ◌++◌, length, map, Option, Some, None, option_map, Result, Ok, Err, is_some, if◌then◌else◌}
use Rattle.ntfs_attrlist.specs.Entry.{Listed}
use Rattle.ntfs_base.specs.Bytes.{cluster_at}
use Rattle.ntfs_base.specs.Frames.{must, refused_as, ◌>>=◌}
use Rattle.ntfs_base.specs.declared.refusal.Rule.TheVariants as rule
use Rattle.ntfs_boot.specs.declared.geometry.Geometry.{Geometry}
use Rattle.ntfs_record.specs.FileRecord.{FileRecord, Laid, attributes_of}
use Rattle.ntfs_record.specs.Parsing.{parse_of}
use Rattle.ntfs_record.specs.Slots.{Slot, map_laid, map_slot, on_payload}
use Rattle.ntfs_record.specs.Views.{Shown}
use Rattle.ntfs_runs.specs.Cells.{Cells, are_cells, cells_below}
use Rattle.ntfs_runs.specs.Clusters.{AreWithin, vcns}
use Rattle.ntfs_runs.specs.declared.run.Run.{Run}
use Rattle.ntfs_volume.specs.Gather.{Id, bad_list, bad_record, extents_in, found_in, is_of, lists, means}
use Rattle.ntfs_volume.specs.Listing.{RecordListing, filled_attributes, listing_in}
use Rattle.ntfs_volume.specs.Located.{Located, map_located, slot_at, slots_of, sound_located, with_cells}
use Rattle.ntfs_volume.specs.MftMap.{Map}
use Rattle.ntfs_volume.specs.Opened.{Opened}
use Rattle.ntfs_volume.specs.Records.{read_of}
use Rattle.ntfs_volume.specs.References.{target}
use Rattle.ntfs_volume.specs.StreamBytes.{have_room}
use Rattle.ntfs_volume.specs.Streams.{Gathered, Part, Stream, is_right, part_of, runs_stream, stream_of, value_stream}
use Rattle.ntfs_volume.specs.declared.fault.VolumeFault.{VolumeFault}
use Rattle.ntfs_volume.specs.declared.fault.VolumeFault.TheVariants as volume
use Rattle.ntfs_volume.specs.declared.gather.Held.{Held}
use Rattle.ntfs_volume.specs.declared.parts.First.{First as FirstExtent}
use Rattle.ntfs_volume.specs.declared.parts.Parts.{Parts}

-- ---- the parts so far

-- what the first part gives the stream
pub record First : Type 0 where
  pub number : ℕ
  pub place : ℕ
  pub flags : ℕ
  pub value : Option (List ℕ)
  pub size : ℕ
  pub valid : ℕ

-- what the parts so far give
pub record Progress : Type 0 where
  pub first : Option First
  pub cells : List (Option ℕ)
  pub next : ℕ
  pub joins : Bool
  pub wrong : Option ℕ
  pub count : ℕ

-- no part yet
abbrev pub no_parts : Progress
no_parts = record { first = None; cells = []; next = 0; joins = true; wrong = None; count = 0 }

-- the value of a resident part
abbrev pub resident_value : Part ℕ → Option (List ℕ)
resident_value p = if p.is_resident then Some p.value else None

abbrev pub first_of : Part ℕ → First
first_of p = record {
  number = p.number;
  place = p.place;
  flags = p.flags;
  value = resident_value p;
  size = p.size;
  valid = p.valid;
}

-- the first of two
abbrev pub or_first : Option First → First → Option First
or_first None first = Some first
or_first (Some first) other = Some first

-- the stream is a value
abbrev pub is_value : Option First → Bool
is_value None = false
is_value (Some first) = is_some first.value

-- the cells of further parts play no part: the stream is a value, or pairs were wrong
abbrev pub is_settled : Progress → Bool
is_settled p = is_value p.first || is_some p.wrong

-- one part more was met
abbrev pub met : Progress → Part ℕ → Progress
met p part = record {
  first = or_first p.first (first_of part);
  cells = p.cells;
  next = p.next;
  joins = p.joins;
  wrong = p.wrong;
  count = p.count + 1;
}

-- the parts don't join
abbrev pub apart : Progress → Progress
apart p = record {
  first = p.first;
  cells = p.cells;
  next = p.next;
  joins = false;
  wrong = p.wrong;
  count = p.count;
}

-- the pairs of a part in this record are wrong
abbrev pub wrong_in : Progress → ℕ → Progress
wrong_in p r = record {
  first = p.first;
  cells = p.cells;
  next = p.next;
  joins = p.joins;
  wrong = Some r;
  count = p.count;
}

-- a part from this VCN up to another one, with these cells
abbrev pub joined : Progress → ℕ → ℕ → List (Option ℕ) → Progress
joined p lowest next cells = record {
  first = p.first;
  cells = if p.joins && (lowest == p.next) then p.cells ++ cells else p.cells;
  next = next;
  joins = p.joins && (lowest == p.next);
  wrong = p.wrong;
  count = p.count;
}

-- the cells of a part
unfoldable pub added : Progress → Part ℕ → Progress
added p part =
    if part.is_resident then apart p
    else (if is_right part then joined p part.lowest part.next part.runs.cells else wrong_in p part.number)

-- one part more
unfoldable pub taken : Progress → Part ℕ → Progress
taken p part = if is_settled (met p part) then met p part else added (met p part) part

-- all parts, one after the other
unfoldable pub all_taken : Progress → List (Part ℕ) → Progress
all_taken p [] = p
all_taken p (part ∷ parts) = all_taken (taken p part) parts

-- ---- the stream of the parts so far

-- what was gathered, by what its first part gives
abbrev pub gathered_first : First → ℕ → Stream ℕ → Gathered ℕ
gathered_first first count stream =
    record { stream = stream; number = first.number; place = first.place; extents = count }

-- the stream of parts that aren't resident
unfoldable pub runs_finished : ℕ → ℕ → Progress → First → Option ℕ → Result (Gathered ℕ) VolumeFault
runs_finished c r p first (Some wrong) = Err (volume.Damaged rule.C7 wrong)
runs_finished c r p first None = do
  _ ← must (p.joins && have_room c (length p.cells) first.size first.valid) (volume.Damaged rule.C12 r)
  Ok (gathered_first first p.count (runs_stream first.flags first.size first.valid p.cells))

-- the stream of these parts, of which the first gives this value, or none
unfoldable pub first_finished : ℕ → ℕ → Progress → First → Option (List ℕ) → Result (Gathered ℕ) VolumeFault
first_finished c r p first (Some value) = Ok (gathered_first first p.count (value_stream first.flags value))
first_finished c r p first None = runs_finished c r p first p.wrong

-- the stream of the parts of base record r, where a cluster has c bytes
unfoldable pub finished_from : ℕ → ℕ → Progress → Option First → Result (Gathered ℕ) VolumeFault
finished_from c r p None = Err volume.NoAttribute
finished_from c r p (Some first) = first_finished c r p first first.value

abbrev pub finished : ℕ → ℕ → Progress → Result (Gathered ℕ) VolumeFault
finished c r p = finished_from c r p p.first

-- ---- what views show of it

-- the part of a stream that an attribute of record r is, on a volume of n clusters
abbrev pub shown_part : ℕ → ℕ → Shown → Part ℕ
shown_part n r shown = record {
  number = r;
  place = shown.place;
  flags = shown.flags;
  is_resident = shown.body.is_resident;
  value = shown.body.value;
  lowest = shown.body.lowest;
  next = shown.body.next;
  size = shown.body.size;
  valid = shown.body.valid;
  runs = cells_below n shown.body.pairs;
}

-- what tells it from others of its record
abbrev pub shown_id : Shown → Id
shown_id shown = record {
  kind = shown.kind;
  name = shown.name;
  lowest = shown.body.lowest;
  instance = shown.instance;
}

-- the same where it is met first
abbrev pub shown_first : FirstExtent → First
shown_first first = record {
  number = first.number;
  place = first.place;
  flags = first.flags;
  value = option_map (λ value. value.items) first.value;
  size = first.size;
  valid = first.valid;
}

-- what the parts that were taken give
abbrev pub shown_parts : Parts → Progress
shown_parts parts = record {
  first = option_map shown_first parts.first;
  cells = vcns parts.runs;
  next = parts.next;
  joins = parts.joins;
  wrong = parts.wrong;
  count = parts.count;
}

-- their clusters are below n, and counted where they join
pub record AreParts (n : ℕ) (parts : Parts) : Type 0 where
  pub cells : are_cells true n (vcns parts.runs) ≡ true
  pub within : AreWithin parts.runs
  pub counted : parts.joins ≡ true → length (vcns parts.runs) ≡ parts.next

-- the runs of right pairs, which spell so many cells below n; or none, of pairs that aren't right or spell others
abbrev pub AreRuns : ℕ → ℕ → List ℕ → Option (List Run) → Type 0
AreRuns n count pairs None = ((cells_below n pairs).is_right && (length (cells_below n pairs).cells == count)) ≡ false
AreRuns n count pairs (Some runs) =
    ((cells_below n pairs).is_right ≡ true) × ((cells_below n pairs).cells ≡ vcns runs)
    × (length (vcns runs) ≡ count) × (are_cells true n (vcns runs) ≡ true) × AreWithin runs

-- ---- the entries of a list

-- what a file record says, as a slot with the cells of its mapping pairs
abbrev pub cell_slot : ℕ → FileRecord → Slot (Located (Laid (Cells ℕ)))
cell_slot n file = map_slot (on_payload (map_located (map_laid (cells_below n))) 0) (sound_located file)

-- the extent that an entry names of a slot, as one part more
unfoldable pub found_part : ℕ → ℕ → Listed → Slot (Located (Laid (Cells ℕ))) → Progress → Result Progress VolumeFault
found_part r sequence entry slot p = do
  extent ← found_in r sequence entry slot
  Ok (taken p (part_of extent))

-- the extent of an entry, where it has this type and name
unfoldable pub entry_part : ℕ → ℕ → ℕ → List ℕ → List (Slot (Located (Laid (Cells ℕ)))) → Listed → Progress
    → Result Progress VolumeFault
entry_part r sequence kind name slots entry p =
    if lists kind name entry then found_part r sequence entry (slot_at slots (target entry.reference)) p else Ok p

-- the extents of entries, one after the other
unfoldable pub entry_parts : ℕ → ℕ → ℕ → List ℕ → List (Slot (Located (Laid (Cells ℕ)))) → List Listed → Progress
    → Result Progress VolumeFault
entry_parts r sequence kind name slots [] p = Ok p
entry_parts r sequence kind name slots (entry ∷ entries) p = do
  q ← entry_part r sequence kind name slots entry p
  entry_parts r sequence kind name slots entries q

-- the extents that a list tells
unfoldable pub listed_parts : ℕ → ℕ → ℕ → List ℕ → List (Slot (Located (Laid (Cells ℕ)))) → RecordListing → Progress
    → Result Progress VolumeFault
listed_parts r sequence kind name slots listing p = do
  _ ← must listing.is_good (bad_list r)
  entry_parts r sequence kind name slots listing.entries p

-- the attributes of record r of this type and name, as their views show them, as parts
unfoldable pub shown_parts_of : ℕ → ℕ → ℕ → List ℕ → List Shown → Progress → Progress
shown_parts_of n r kind name [] p = p
shown_parts_of n r kind name (shown ∷ rest) p =
    shown_parts_of n r kind name rest
    (if is_of kind name (shown_id shown) then taken p (shown_part n r shown) else p)

-- the attribute is the one that an entry names
abbrev pub is_meant : Listed → Shown → Bool
is_meant entry shown = means entry (shown_id shown)

-- ---- refusals of the callee in the words of gathering

-- of a list that can't be read
abbrev pub list_fault : ℕ → VolumeFault → VolumeFault
list_fault r (volume.Damaged rule number) = bad_list r
list_fault r other = other

-- of an entry whose record can't be read
abbrev pub entry_fault : ℕ → VolumeFault → VolumeFault
entry_fault r volume.Absent = bad_list r
entry_fault r other = other

-- the stream of parts that may not be there
abbrev pub finished_of : ℕ → ℕ → Result Progress VolumeFault → Result (Gathered ℕ) VolumeFault
finished_of c r parts = do
  p ← parts
  finished c r p

-- ---- records read

-- the records of an opened volume of this content, with the cells of their mapping pairs
abbrev pub volume_slots : Opened → List ℕ → List (Slot (Located (Laid (Cells ℕ))))
volume_slots o content =
    with_cells o.geometry.clusters (slots_of o.geometry o.map (cluster_at content o.geometry.cluster))

-- what a base record says of its attribute list, where f gives the bytes of each cluster
abbrev pub file_lists : Geometry → (ℕ → List ℕ) → FileRecord → RecordListing
file_lists g f file = listing_in g.cluster (filled_attributes g.clusters f (attributes_of file))

-- what was read last is the record of this number
abbrev pub HoldsRecord : Opened → List ℕ → Held → Type 0
HoldsRecord o content held = (n : ℕ) → held.number ≡ Some n
    → read_of o.geometry o.map (cluster_at content o.geometry.cluster) n ≡ Ok held.block.items

-- the stream of a base record that says this
unfoldable pub stream_in_file : ℕ → ℕ → ℕ → List ℕ → RecordListing → Slot (Located (Laid (Cells ℕ)))
    → List (Slot (Located (Laid (Cells ℕ)))) → Result (Gathered ℕ) VolumeFault
stream_in_file c r kind name listing base slots = do
  found ← extents_in r kind name listing base slots
  stream_of c r (map part_of found)

-- the record of a number of a volume
abbrev pub file_at : Geometry → Map → (ℕ → List ℕ) → ℕ → Result FileRecord VolumeFault
file_at g map f r = do
  block ← read_of g map f r
  refused_as (λ _. bad_record r) (parse_of block)
