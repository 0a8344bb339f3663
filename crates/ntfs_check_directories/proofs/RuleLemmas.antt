-- Rules C13 and C14 by what is asked of each directory.
use Rattle.std.proofs.Common.{◌≡◌, ◌==◌, ◌&&◌, ◌||◌, ◌∙◌, ℕ, Bool, false, List, [], ◌∷◌, map, Option, Some, Result, Ok, Err, ap, refl, subst, sym}
use Rattle.std.specs.List.{list_all, list_any}
use Rattle.std.specs.Prelude.{IfOk, not}
use Rattle.std.specs.Result.{result_map_both}
use Rattle.ntfs_base.specs.Bytes.{cluster_at}
use Rattle.ntfs_base.specs.Frames.{Gives}
use Rattle.ntfs_base.specs.declared.refusal.Rule.TheVariants as rule
use Rattle.ntfs_boot.specs.declared.geometry.Geometry.{Geometry}
use Rattle.ntfs_check_records.proofs.RecordLemmas.{slot-mapped}
use Rattle.ntfs_check_records.specs.Asked.{first_refused, passes_asked}
use Rattle.ntfs_check_directories.specs.Asked.{directory_answer, first_unordered}
use Rattle.ntfs_check_directories.specs.Names.{all_lead, records_in}
use Rattle.ntfs_check_directories.specs.declared.asked.Asked.TheVariants as asked
use Rattle.ntfs_directory.proofs.LawLemmas.{walk-begins, walk-refused}
use Rattle.ntfs_directory.specs.Directory.{DirectoryWalk, begun_walk, directory_walk}
use Rattle.ntfs_directory.specs.UpCase.{up_case_of, up_case_record}
use Rattle.ntfs_index.specs.Node.{IndexEntry}
use Rattle.ntfs_record.specs.FileRecord.{Laid}
use Rattle.ntfs_record.specs.Slots.{Slot, map_laid, map_slot, map_slots, on_payload}
use Rattle.ntfs_rules.proofs.DataLemmas.{contents-are, listings-are}
use Rattle.ntfs_rules.proofs.WalkLemmas.{contents-first, units-are, walk-is, with_content}
use Rattle.ntfs_rules.specs.Directories.{c13, c14, file_name_kind, first_disordered, has_directory_flag, have_name, is_directory, is_name_of, is_ordered, leads_to_name, walk_of}
use Rattle.ntfs_rules.specs.Files.{is_base_for}
use Rattle.ntfs_rules.specs.Outcome.{check_origin, unless_number}
use Rattle.ntfs_rules.specs.VolumeData.{Records, contents, listings, volume_data}
use Rattle.ntfs_rules.specs.declared.fault.CheckFault.{CheckFault}
use Rattle.ntfs_runs.specs.Cells.{Cells, cells_below}
use Rattle.ntfs_volume.proofs.MappedLemmas.{extents-mapped}
use Rattle.ntfs_volume.specs.Gather.{Extent, Lists, extents, mapped}
use Rattle.ntfs_volume.specs.Laws.{in_located}
use Rattle.ntfs_volume.specs.Located.{Located, map_located, slot_at, slots_of, with_cells}
use Rattle.ntfs_volume.specs.MftMap.{Map}
use Rattle.ntfs_volume.specs.Opened.{Opened}
use Rattle.ntfs_volume.specs.References.{matches, target}
use Rattle.ntfs_volume.specs.Streams.{lists_of}
use Rattle.ntfs_volume.specs.declared.fault.VolumeFault.{VolumeFault}

-- ---- one directory

module _ (g : Geometry) (map : Map) (content : List ℕ) (d : ℕ) (upper : List ℕ) where
  -- a walk that can't begin isn't in order
  pub ordered-refused : (fault : VolumeFault) → begun_walk g map content d ≡ Err fault → false ≡ is_ordered upper (directory_walk g map content d)
  unfolding is_ordered
  ordered-refused fault refused = sym (ap (is_ordered upper) (walk-refused g map content d fault refused))

  -- one that begins is what is left of it then
  pub ordered-begun : (walk : DirectoryWalk) (result : Result Bool CheckFault) → begun_walk g map content d ≡ Ok walk → IfOk result (λ is. is ≡ is_ordered upper walk) → IfOk result (λ is. is ≡ is_ordered upper (directory_walk g map content d))
  ordered-begun walk (Ok is) begun same = same ∙ ap (is_ordered upper) (sym (walk-begins g map content d walk begun))
  ordered-begun walk (Err fault) begun same = tt

-- ---- C13

ordered-as : (o : Opened) (content upper : List ℕ) (r : ℕ) (s : Slot (Located (Laid (List ℕ))))
    → (not s.is_live || (not (is_directory (with_content o.geometry.clusters (cluster_at content o.geometry.cluster) r s))
    || is_ordered upper (walk_of o.geometry (listings (volume_data o (cluster_at content o.geometry.cluster))) (contents (volume_data o (cluster_at content o.geometry.cluster))) r)))
    ≡ (not s.is_live || (not (is_directory s) || is_ordered upper (directory_walk o.geometry o.map content r)))
unfolding has_directory_flag
ordered-as o content upper r s = ap (λ (walk : DirectoryWalk). not s.is_live || (not (is_directory s) || is_ordered upper walk)) (walk-is o content r)

abbrev disordered_by : Opened → List ℕ → Result (List ℕ) VolumeFault → Option ℕ
disordered_by o content table =
    let v = volume_data o (cluster_at content o.geometry.cluster) in
    first_disordered table (walk_of o.geometry (listings v) (contents v)) (contents v)

c13-by : (o : Opened) (content : List ℕ) → (let v = volume_data o (cluster_at content o.geometry.cluster) in c13 v.geometry (listings v) (contents v)) ≡ disordered_by o content (up_case_of o.geometry o.map content)
unfolding c13 volume_data
c13-by o content = ap (disordered_by o content) (units-are o content)

orders-by : (o : Opened) (content upper : List ℕ) → up_case_of o.geometry o.map content ≡ Ok upper
    → (let v = volume_data o (cluster_at content o.geometry.cluster) in c13 v.geometry (listings v) (contents v)) ≡ first_unordered o content upper
orders-by o content upper given =
    c13-by o content ∙ ap (disordered_by o content) given
    ∙ contents-first o (cluster_at content o.geometry.cluster) _ (λ r s. not s.is_live || (not (is_directory s) || is_ordered upper (directory_walk o.geometry o.map content r))) (ordered-as o content upper)

pub orders-given : (o : Opened) (content upper : List ℕ) (result : Result (Unit {0}) CheckFault) → up_case_of o.geometry o.map content ≡ Ok upper
    → Gives check_origin (λ done. done) (unless_number rule.C13 (first_unordered o content upper) tt) result
    → (let v = volume_data o (cluster_at content o.geometry.cluster) in Gives check_origin (λ done. done) (unless_number rule.C13 (c13 v.geometry (listings v) (contents v)) tt) result)
orders-given o content upper result given =
    subst (λ (found : Option ℕ). Gives check_origin (λ done. done) (unless_number rule.C13 found tt) result) (sym (orders-by o content upper given))

pub no-table : (o : Opened) (content : List ℕ) (fault : VolumeFault) → up_case_of o.geometry o.map content ≡ Err fault
    → (let v = volume_data o (cluster_at content o.geometry.cluster) in c13 v.geometry (listings v) (contents v)) ≡ Some up_case_record
no-table o content fault refused = c13-by o content ∙ ap (disordered_by o content) refused

-- ---- C14

-- records by their contents, of which tests look at no cluster
slot-content : (o : Opened) (f : ℕ → List ℕ) (n : ℕ) → slot_at (contents (volume_data o f)) n ≡ with_content o.geometry.clusters f 0 (slot_at (slots_of o.geometry o.map f) n)
unfolding with_cells
slot-content o f n =
    ap (λ (slots : Records (List ℕ)). slot_at slots n) (contents-are o f)
    ∙ slot-mapped (in_located (λ place. 0) f) 0 n (map_slots (on_payload (map_located (map_laid (cells_below o.geometry.clusters)))) 0 (slots_of o.geometry o.map f))
    ∙ ap (map_slot (on_payload (in_located (λ place. 0) f) 0)) (slot-mapped (map_located (map_laid (cells_below o.geometry.clusters))) 0 n (slots_of o.geometry o.map f))

any-same : {P Q : Type 0} (sought : ℕ → ℕ → List ℕ → List ℕ → Bool) (d sequence : ℕ) (key : List ℕ) (f : P → Q) (found : List (Extent P))
    → list_any (λ (e : Extent Q). e.attribute.face.is_resident && sought d sequence key e.attribute.face.value) (map (mapped (on_payload f)) found)
    ≡ list_any (λ (e : Extent P). e.attribute.face.is_resident && sought d sequence key e.attribute.face.value) found
any-same sought d sequence key f [] = refl
any-same sought d sequence key f (e ∷ found) = ap (λ b. (e.attribute.face.is_resident && sought d sequence key e.attribute.face.value) || b) (any-same sought d sequence key f found)

have-mapped : {P Q : Type 0} (d sequence : ℕ) (key : List ℕ) (f : P → Q) (found : Result (List (Extent P)) VolumeFault)
    → have_name d sequence key (result_map_both (map (mapped (on_payload f))) (λ fault. fault) found) ≡ have_name d sequence key found
have-mapped d sequence key f (Ok found) = any-same is_name_of d sequence key f found
have-mapped d sequence key f (Err fault) = refl

abbrev lists : Opened → List ℕ → Lists
lists o content = lists_of o.geometry (cluster_at content o.geometry.cluster) (records_in o content)

have-content : (o : Opened) (content : List ℕ) (d sequence : ℕ) (key : List ℕ) (r : ℕ)
    → have_name d sequence key (extents (listings (volume_data o (cluster_at content o.geometry.cluster))) (contents (volume_data o (cluster_at content o.geometry.cluster))) r file_name_kind [])
    ≡ have_name d sequence key (extents (lists o content) (records_in o content) r file_name_kind [])
unfolding with_cells
have-content o content d sequence key r =
    let f = cluster_at content o.geometry.cluster in
    let celled = map_slots (on_payload (map_located (map_laid (cells_below o.geometry.clusters)))) 0 (records_in o content) in
    ap (λ (listing : Lists). have_name d sequence key (extents listing (contents (volume_data o f)) r file_name_kind [])) (listings-are o f)
    ∙ ap (λ (slots : Records (List ℕ)). have_name d sequence key (extents (lists o content) slots r file_name_kind [])) (contents-are o f)
    ∙ ap (have_name d sequence key) (extents-mapped (on_payload (in_located (λ place. 0) f)) (lists o content) celled r file_name_kind [] (λ n h a. refl))
    ∙ have-mapped d sequence key (in_located (λ place. 0) f) (extents (lists o content) celled r file_name_kind [])
    ∙ ap (have_name d sequence key) (extents-mapped (on_payload (map_located (map_laid (cells_below o.geometry.clusters)))) (lists o content) (records_in o content) r file_name_kind [] (λ n h a. refl))
    ∙ have-mapped d sequence key (map_located (map_laid (cells_below o.geometry.clusters))) (extents (lists o content) (records_in o content) r file_name_kind [])

abbrev base_by : {P : Type 0} → ℕ → Slot P → Bool
base_by reference s = s.is_live && ((s.head.base == 0) && matches reference (target reference) s.head.sequence)

leads-content : (o : Opened) (content : List ℕ) (d sequence : ℕ) (entry : IndexEntry)
    → leads_to_name (listings (volume_data o (cluster_at content o.geometry.cluster))) (contents (volume_data o (cluster_at content o.geometry.cluster))) d sequence entry
    ≡ leads_to_name (lists o content) (records_in o content) d sequence entry
unfolding leads_to_name is_base_for
leads-content o content d sequence entry =
    let v = volume_data o (cluster_at content o.geometry.cluster) in
    ap (λ (s : Slot (Located (Laid (Cells (List ℕ))))). base_by entry.reference s && have_name d sequence entry.key (extents (listings v) (contents v) (target entry.reference) file_name_kind []))
    (slot-content o (cluster_at content o.geometry.cluster) (target entry.reference))
    ∙ ap (λ b. base_by entry.reference (slot_at (records_in o content) (target entry.reference)) && b) (have-content o content d sequence entry.key (target entry.reference))

all-same : {A : Type 0} (test other : A → Bool) (xs : List A) → ((x : A) → test x ≡ other x) → list_all test xs ≡ list_all other xs
all-same test other [] same = refl
all-same test other (x ∷ xs) same = ap (λ b. b && list_all test xs) (same x) ∙ ap (λ b. other x && b) (all-same test other xs same)

led-as : (o : Opened) (content : List ℕ) (r : ℕ) (s : Slot (Located (Laid (List ℕ))))
    → (not s.is_live || (not (is_directory (with_content o.geometry.clusters (cluster_at content o.geometry.cluster) r s))
    || list_all (leads_to_name (listings (volume_data o (cluster_at content o.geometry.cluster))) (contents (volume_data o (cluster_at content o.geometry.cluster))) r s.head.sequence)
    (walk_of o.geometry (listings (volume_data o (cluster_at content o.geometry.cluster))) (contents (volume_data o (cluster_at content o.geometry.cluster))) r).entries))
    ≡ passes_asked (directory_answer asked.Names o content) r s
unfolding has_directory_flag all_lead
led-as o content r s =
    let v = volume_data o (cluster_at content o.geometry.cluster) in
    ap (λ (walk : DirectoryWalk). not s.is_live || (not (is_directory s) || list_all (leads_to_name (listings v) (contents v) r s.head.sequence) walk.entries)) (walk-is o content r)
    ∙ ap (λ b. not s.is_live || (not (is_directory s) || b))
    (all-same (leads_to_name (listings v) (contents v) r s.head.sequence) (leads_to_name (lists o content) (records_in o content) r s.head.sequence) (directory_walk o.geometry o.map content r).entries
    (leads-content o content r s.head.sequence))

c14-by : (o : Opened) (content : List ℕ) → (let v = volume_data o (cluster_at content o.geometry.cluster) in c14 v.geometry (listings v) (contents v)) ≡ first_refused (directory_answer asked.Names o content) o (cluster_at content o.geometry.cluster)
unfolding c14 volume_data
c14-by o content = contents-first o (cluster_at content o.geometry.cluster) _ (passes_asked (directory_answer asked.Names o content)) (led-as o content)

pub names-given : (o : Opened) (content : List ℕ) (result : Result (Unit {0}) CheckFault) → Gives check_origin (λ done. done) (unless_number rule.C14 (first_refused (directory_answer asked.Names o content) o (cluster_at content o.geometry.cluster)) tt) result
    → (let v = volume_data o (cluster_at content o.geometry.cluster) in Gives check_origin (λ done. done) (unless_number rule.C14 (c14 v.geometry (listings v) (contents v)) tt) result)
names-given o content result = subst (λ (found : Option ℕ). Gives check_origin (λ done. done) (unless_number rule.C14 found tt) result) (sym (c14-by o content))
