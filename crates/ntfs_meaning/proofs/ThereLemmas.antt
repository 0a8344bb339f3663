-- Streams that are there on a volume that breaks no rule.
use Rattle.std.proofs.Common.{◌≡◌, ◌+◌, ◌&&◌, ◌||◌, ◌++◌, ℕ, zero, suc, Bool, true, false, List, [], ◌∷◌, map, Option, Some, None, Result, Ok, Err, refl, sym, ap, ◌∙◌, arith, if◌then◌else◌}
use Rattle.std.specs.Prelude.{is_some, not}
use Rattle.std.specs.List.{AllByRecursion}
use Rattle.std.specs.Result.{result_map_both}
use Rattle.ntfs_base.specs.Bytes.{Cluster}
use Rattle.ntfs_base.specs.Checks.{Check}
use Rattle.ntfs_base.specs.Frames.{◌>>=◌}
use Rattle.ntfs_boot.specs.declared.geometry.Geometry.{Geometry}
use Rattle.ntfs_directory.specs.Directory.{DirectoryWalk, allocation_found, allocation_kind, index_name, index_root_value, root_kind}
use Rattle.ntfs_directory.specs.UpCase.{data_kind, up_case_record}
use Rattle.ntfs_meaning.specs.Laws.{IsThere, IsValueThere}
use Rattle.ntfs_record.specs.FileRecord.{Attribute, Head}
use Rattle.ntfs_record.specs.Slots.{Slot, first_not, map_slot, map_slots, on_payload}
use Rattle.ntfs_rules.proofs.ClearLemmas.{all-hold, passed}
use Rattle.ntfs_rules.specs.Accepts.{Broken, Line, fault_of, first_broken, first_rules, further_rules, or_broken}
use Rattle.ntfs_rules.specs.Directories.{c13, first_disordered, has_directory_flag, is_directory, is_ordered, names_in, are_ascending, are_distinct_names, root_of, up_case_units, walk_by, gathered_walk, walk_of}
use Rattle.ntfs_rules.specs.FixedRecords.{bad_name, c15, has_no_list, is_bitmap, passes, row_0, row_1, row_2, row_3, row_6, row_7, row_8, fixed_rows, volume_information_kind}
use Rattle.ntfs_rules.specs.Records.{c4}
use Rattle.ntfs_rules.specs.VolumeData.{Records, VolumeData, bytes_found, contents, listings, numbers, stream_in, without_clusters}
use Rattle.ntfs_volume.proofs.AnswerLemmas.{and-right, bind-ok}
use Rattle.ntfs_volume.proofs.MappedLemmas.{gather-mapped}
use Rattle.ntfs_volume.specs.Gather.{Lists}
use Rattle.ntfs_volume.specs.Laws.{in_located}
use Rattle.ntfs_volume.specs.Located.{slot_at}
use Rattle.ntfs_volume.specs.Streams.{Gathered, gather, map_gathered}
use Rattle.ntfs_volume.specs.declared.fault.VolumeFault.{VolumeFault}
use Rattle.ntfs_volume.specs.declared.fault.VolumeFault.TheVariants as volume

-- ---- rules

or-parts : (l : Line) (rest : Option Broken) → or_broken l.rule l.broken rest ≡ None → (l.broken ≡ None) × (rest ≡ None)
or-parts l rest is = step l.broken is
  where
    step : (o : Option ℕ) → or_broken l.rule o rest ≡ None → (o ≡ None) × (rest ≡ None)
    step None is = (refl, is)
    step (Some number) is = absurd cc

all-clear : (lines : List Line) → first_broken lines ≡ None → AllByRecursion (λ (l : Line). l.broken ≡ None) lines
all-clear [] is = tt
all-clear (l ∷ lines) is = let parts = or-parts l (first_broken lines) is in (parts.0, all-clear lines parts.1)

lines-clear : (v : VolumeData) → fault_of v ≡ None → AllByRecursion (λ (l : Line). l.broken ≡ None) (first_rules v ++ further_rules v)
unfolding fault_of
lines-clear v is = all-clear (first_rules v ++ further_rules v) is

pub c4-clear : (v : VolumeData) → fault_of v ≡ None → c4 v.slots ≡ None
c4-clear v is = (lines-clear v is).0

c13-clear : (v : VolumeData) → fault_of v ≡ None → c13 v.geometry (listings v) (contents v) ≡ None
c13-clear v is = (lines-clear v is).1.1.1.1.1.1.1.1.1.0

c15-clear : (v : VolumeData) → fault_of v ≡ None → c15 v.geometry (map (λ (k : Cluster). k.number) v.table) (listings v) (numbers v) ≡ None
c15-clear v is = (lines-clear v is).1.1.1.1.1.1.1.1.1.1.1.0

-- ---- records with fixed numbers

rows-hold : (v : VolumeData) → fault_of v ≡ None → AllByRecursion (λ (c : Check ℕ). c.holds ≡ true) (fixed_rows v.geometry (map (λ (k : Cluster). k.number) v.table) (listings v) (numbers v))
unfolding c15
rows-hold v is = all-hold (fixed_rows v.geometry (map (λ (k : Cluster). k.number) v.table) (listings v) (numbers v)) (c15-clear v is)

-- what passes a test is there
there : {X : Type 0} (test : Gathered X → Bool) (found : Result (Gathered X) VolumeFault) → passes test found ≡ true → (s : Gathered X) × (found ≡ Ok s)
there test found is = let parts = passed test found is in (parts.0, parts.1)

-- so does what passes it behind another test
behind : {X : Type 0} (first : Bool) (test : Gathered X → Bool) (found : Result (Gathered X) VolumeFault) → (first && passes test found) ≡ true → (s : Gathered X) × (found ≡ Ok s)
behind first test found is = there test found (and-right first (passes test found) is)

by-row_0 : (g : Geometry) (table : List ℕ) (found : Result (Gathered ℕ) VolumeFault) → row_0 g table found ≡ true → (s : Gathered ℕ) × (found ≡ Ok s)
unfolding row_0
by-row_0 g table found is = there _ found is

by-row_1 : (g : Geometry) (lists : Lists) (found : Result (Gathered ℕ) VolumeFault) → row_1 g lists found ≡ true → (s : Gathered ℕ) × (found ≡ Ok s)
unfolding row_1
by-row_1 g lists found is = behind (has_no_list lists 1) _ found is

by-row_2 : (g : Geometry) (found : Result (Gathered ℕ) VolumeFault) → row_2 g found ≡ true → (s : Gathered ℕ) × (found ≡ Ok s)
unfolding row_2
by-row_2 g found is = there _ found is

by-row_3 : (lists : Lists) (found : Result (Gathered ℕ) VolumeFault) → row_3 lists found ≡ true → (s : Gathered ℕ) × (found ≡ Ok s)
unfolding row_3
by-row_3 lists found is = behind (has_no_list lists 3) _ found is

by-row_6 : (g : Geometry) (lists : Lists) (found : Result (Gathered ℕ) VolumeFault) → row_6 g lists found ≡ true → (s : Gathered ℕ) × (found ≡ Ok s)
unfolding row_6
by-row_6 g lists found is = behind (has_no_list lists 6) (is_bitmap g.clusters) found is

by-row_7 : (g : Geometry) (lists : Lists) (found : Result (Gathered ℕ) VolumeFault) → row_7 g lists found ≡ true → (s : Gathered ℕ) × (found ≡ Ok s)
unfolding row_7
by-row_7 g lists found is = behind (has_no_list lists 7) _ found is

by-row_8 : (lists : Lists) (found : Result (Gathered ℕ) VolumeFault) → row_8 lists found ≡ true → (s : Gathered ℕ) × (found ≡ Ok s)
unfolding row_8
by-row_8 lists found is = behind (has_no_list lists 8) _ found is

pub data-there : (v : VolumeData) → fault_of v ≡ None → AllByRecursion (λ r. IsThere v r data_kind []) (0 ∷ 1 ∷ 2 ∷ 6 ∷ 7 ∷ [])
data-there v is =
    let all = rows-hold v is in
    let table = map (λ (k : Cluster). k.number) v.table in
    let found = λ (r : ℕ). stream_in v r data_kind [] in (
      by-row_0 v.geometry table (found 0) all.0,
      (
        by-row_1 v.geometry (listings v) (found 1) all.1.0,
        (
          by-row_2 v.geometry (found 2) all.1.1.0,
          (
            by-row_6 v.geometry (listings v) (found 6) all.1.1.1.1.1.0,
            (by-row_7 v.geometry (listings v) (found 7) all.1.1.1.1.1.1.0, tt),
          ),
        ),
      ),
    )

pub bad-there : (v : VolumeData) → fault_of v ≡ None → IsThere v 8 data_kind bad_name
bad-there v is = by-row_8 (listings v) (stream_in v 8 data_kind bad_name) (rows-hold v is).1.1.1.1.1.1.1.0

pub information-there : (v : VolumeData) → fault_of v ≡ None → IsThere v 3 volume_information_kind []
information-there v is = by-row_3 (listings v) (stream_in v 3 volume_information_kind []) (rows-hold v is).1.1.1.0

-- ---- directories

pub passed-step : (b : Bool) (rest : Option ℕ) (n : ℕ) → (if b then rest else Some n) ≡ None → (b ≡ true) × (rest ≡ None)
passed-step true rest n is = (refl, is)
passed-step false rest n is = absurd cc

-- where no record fails a test, a record in use passes it
passed-at : {P : Type 0} (test : ℕ → Slot P → Bool) (n i : ℕ) (slots : List (Slot P)) → first_not test n slots ≡ None → (slot_at slots i).is_live ≡ true → test (n + i) (slot_at slots i) ≡ true
unfolding slot_at
passed-at test n i [] is live = absurd cc
passed-at test n zero (s ∷ slots) is live =
    let here : n + 0 ≡ n = omega arith in
    ap (λ k. test k s) here ∙ (passed-step (test n s) (first_not test (suc n) slots) n is).0
passed-at test n (suc i) (s ∷ slots) is live =
    let later : n + suc i ≡ suc n + i = omega arith in
    ap (λ k. test k (slot_at slots i)) later ∙ passed-at test (suc n) i slots (passed-step (test n s) (first_not test (suc n) slots) n is).1 live

slot-from : {P Q : Type 0} (f : ℕ → Head → Attribute P → Attribute Q) (n r : ℕ) (slots : List (Slot P)) → slot_at (map_slots f n slots) r ≡ map_slot (f (n + r)) (slot_at slots r)
unfolding slot_at
slot-from f n r [] = refl
slot-from f n zero (s ∷ slots) = let here : n ≡ n + 0 = omega arith in ap (λ k. map_slot (f k) s) here
slot-from f n (suc r) (s ∷ slots) =
    let later : suc n + r ≡ n + suc r = omega arith in
    slot-from f (suc n) r slots ∙ ap (λ k. map_slot (f k) (slot_at slots r)) later

-- the record of a number
pub slot-mapped : {P Q : Type 0} (f : ℕ → Head → Attribute P → Attribute Q) (slots : List (Slot P)) (r : ℕ) → slot_at (map_slots f 0 slots) r ≡ map_slot (f r) (slot_at slots r)
slot-mapped f slots r = let here : 0 + r ≡ r = omega arith in slot-from f 0 r slots ∙ ap (λ k. map_slot (f k) (slot_at slots r)) here

directory-tested : (live directory holds : Bool) → live ≡ true → directory ≡ true → (not live || (not directory || holds)) ≡ true → holds ≡ true
directory-tested true true holds is too tested = tested
directory-tested true false holds is too tested = absurd cc
directory-tested false directory holds is too tested = absurd cc

-- a directory is ordered by some table
ordered-by : (units : Result (List ℕ) VolumeFault) (walks : ℕ → DirectoryWalk) (slots : Records (List ℕ)) (d : ℕ) → first_disordered units walks slots ≡ None → (slot_at slots d).is_live ≡ true → is_directory (slot_at slots d) ≡ true
    → (table : List ℕ) × (is_ordered table (walks d) ≡ true)
ordered-by (Err fault) walks slots d is live directory = absurd cc
ordered-by (Ok table) walks slots d is live directory =
    let s = slot_at slots d in
    let here : 0 + d ≡ d = omega arith in (
      table,
      directory-tested s.is_live (is_directory s) (is_ordered table (walks d)) live directory
          (sym (ap (λ n. not s.is_live || (not (is_directory s) || is_ordered table (walks n))) here)
          ∙ passed-at (λ n (t : Slot _). not t.is_live || (not (is_directory t) || is_ordered table (walks n))) 0 d slots is live),
    )

no-fault : (fault : Option VolumeFault) (rest : Bool) → (not (is_some fault) && rest) ≡ true → fault ≡ None
no-fault None rest is = refl
no-fault (Some fault) rest is = absurd cc

walk-whole : (table : List ℕ) (walk : DirectoryWalk) → is_ordered table walk ≡ true → walk.fault ≡ None
unfolding is_ordered
walk-whole table walk is = no-fault walk.fault (are_ascending table (names_in walk.entries) && are_distinct_names (names_in walk.entries)) is

-- a whole walk has a root
root-there : (g : Geometry) (d : ℕ) (root : Result (List ℕ) VolumeFault) (blocks : List ℕ) → (walk_by g d root blocks).fault ≡ None → (value : List ℕ) × (root ≡ Ok value)
root-there g d (Ok value) blocks is = (value, refl)
root-there g d (Err fault) blocks is = absurd cc

-- which is a value that was gathered
value-by : (resident : Bool) (value : List ℕ) (fault : VolumeFault) (x : List ℕ) → ◌≡◌ {A = Result (List ℕ) VolumeFault} (if resident then Ok value else Err fault) (Ok x) → resident ≡ true
value-by true value fault x is = refl
value-by false value fault x is = absurd cc

value-there : (d : ℕ) (found : Result (Gathered (List ℕ)) VolumeFault) (value : List ℕ) → index_root_value d (without_clusters found) ≡ Ok value → (s : Gathered (List ℕ)) × (found ≡ Ok s) × (s.stream.is_resident ≡ true)
value-there d (Ok s) value is = (s, refl, value-by s.stream.is_resident s.stream.value _ value is)
value-there d (Err fault) value is = absurd (refused fault is)
  where
    refused : (fault : VolumeFault) → index_root_value d (Err fault) ≡ Ok value → ⊥
    refused volume.NotNtfs is = cc
    refused (volume.BadGeometry field number) is = cc
    refused (volume.ImageShort len need) is = cc
    refused (volume.Damaged rule number) is = cc
    refused volume.Absent is = cc
    refused volume.NoAttribute is = cc
    refused volume.ReadFault is = cc
    refused volume.WriteFault is = cc
    refused volume.NoMemory is = cc

walked-there : (g : Geometry) (d : ℕ) (root blocks : Result (Gathered (List ℕ)) VolumeFault) → (gathered_walk g d root blocks).fault ≡ None → (s : Gathered (List ℕ)) × (root ≡ Ok s) × (s.stream.is_resident ≡ true)
unfolding gathered_walk root_of
walked-there g d root blocks is =
    let found = root-there g d (root_of d root blocks) (bytes_found g.cluster blocks) is in
    let value = bind-ok (index_root_value d (without_clusters root)) (λ value. allocation_found (without_clusters blocks) >>= (λ _. Ok value)) found.0 found.1 in
    value-there d root value.0 value.1

-- what is there by its clusters' bytes is there by their numbers
unmapped : {X Y : Type 0} (f : X → Y) (r : Result (Gathered X) VolumeFault) (s : Gathered Y) → result_map_both (map_gathered (λ place. 0) f) (λ fault. fault) r ≡ Ok s → s.stream.is_resident ≡ true
    → (t : Gathered X) × (r ≡ Ok t) × (t.stream.is_resident ≡ true)
unmapped {Y = Y} f (Ok t) s is value = let same : map_gathered (λ place. 0) f t ≡ s = cc in (t, refl, ap (λ (u : Gathered Y). u.stream.is_resident) same ∙ value)
unmapped f (Err fault) s is value = absurd cc

by-numbers : (v : VolumeData) (r kind : ℕ) (name : List ℕ) (s : Gathered (List ℕ)) → gather v.geometry.cluster (listings v) (contents v) r kind name ≡ Ok s → s.stream.is_resident ≡ true → IsValueThere v r kind name
by-numbers v r kind name s is value =
    let found = unmapped (λ (k : Cluster). k.bytes) (gather v.geometry.cluster (listings v) v.slots r kind name) s
    (sym (gather-mapped (λ place. 0) (λ (k : Cluster). k.bytes) v.geometry.cluster (listings v) v.slots r kind name) ∙ is) value in (
      map_gathered (λ place. place) (λ (k : Cluster). k.number) found.0,
      gather-mapped (λ place. place) (λ (k : Cluster). k.number) v.geometry.cluster (listings v) v.slots r kind name
          ∙ ap (λ (r : Result (Gathered Cluster) VolumeFault). result_map_both (map_gathered (λ place. place) (λ (k : Cluster). k.number)) (λ (fault : VolumeFault). fault) r) found.1,
      found.2,
    )

root-gathered : (v : VolumeData) (d : ℕ) → fault_of v ≡ None → (slot_at (contents v) d).is_live ≡ true → is_directory (slot_at (contents v) d) ≡ true → IsValueThere v d root_kind index_name
unfolding c13 walk_of
root-gathered v d is live directory =
    let c = v.geometry.cluster in
    let root = gather c (listings v) (contents v) d root_kind index_name in
    let blocks = gather c (listings v) (contents v) d allocation_kind index_name in
    let ordered = ordered-by (up_case_units c (gather c (listings v) (contents v) up_case_record data_kind [])) (walk_of v.geometry (listings v) (contents v)) (contents v) d (c13-clear v is) live directory in
    let found = walked-there v.geometry d root blocks (walk-whole ordered.0 (walk_of v.geometry (listings v) (contents v) d) ordered.1) in
    by-numbers v d root_kind index_name found.0 found.1 found.2

pub directory-there : (v : VolumeData) (d : ℕ) → fault_of v ≡ None → (slot_at v.slots d).is_live ≡ true → is_directory (slot_at v.slots d) ≡ true → IsValueThere v d root_kind index_name
unfolding has_directory_flag
directory-there v d is live directory =
    let same = slot-mapped (on_payload (in_located (λ place. 0) (λ (k : Cluster). k.bytes))) v.slots d in
    root-gathered v d is (ap (λ (s : Slot _). s.is_live) same ∙ live) (ap (λ (s : Slot _). is_directory s) same ∙ directory)
