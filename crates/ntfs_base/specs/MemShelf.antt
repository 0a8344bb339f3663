-- A shelf in memory: places with a name each, of which the first of a name counts. The words are ours.
use Rattle.std.specs.Prelude.{◌≡◌, ◌&&◌, ◌+◌, String, ℕ, Bool, true, false, List, [], ◌∷◌, map, Option, Some, None, is_some, OnOk, OnErr, Result, Ok, Err, if◌then◌else◌}
use Rattle.std.specs.Option.{option_map}
use Rattle.std.specs.Str.{bytes_eq}
use Rattle.std.specs.String.{string_bytes}
use Rattle.std.specs.FinMap as files
use Rattle.std.specs.declared.alloc.Global.{Global}
use Rattle.ntfs_base.specs.Calls.{failing_at, one_more, plan_call}
use Rattle.ntfs_base.specs.Image.{ImageState}
use Rattle.ntfs_base.specs.Memory.{seen_of}
use Rattle.ntfs_base.specs.Shelf.{Files, ShelfState}
use Rattle.ntfs_base.specs.declared.calls.FailingCall.{FailingCall}
use Rattle.ntfs_base.specs.declared.calls.Leaves.{Leaves}
use Rattle.ntfs_base.specs.declared.fault.Faults.{Faults}
use Rattle.ntfs_base.specs.declared.fault.ShelfFault.{ShelfFault}
use Rattle.ntfs_base.specs.declared.fault.ShelfFault.TheVariants as fault
use Rattle.ntfs_base.specs.declared.memory.file.MemFile.{MemFile}
use Rattle.ntfs_base.specs.declared.memory.place.Place.{Place}

-- the first place of a name
abbrev pub place_of : List ℕ → List Place → Option Place
place_of name [] = None
place_of name (p ∷ ps) = if bytes_eq name (string_bytes p.name) then Some p else place_of name ps

-- and where it stands
abbrev pub index_of : List ℕ → List Place → Option ℕ
index_of name [] = None
index_of name (p ∷ ps) =
    if bytes_eq name (string_bytes p.name) then Some 0 else option_map (λ i. i + 1) (index_of name ps)

-- the bytes of a place, where it has a file
abbrev pub place_bytes : Place → Option (List ℕ)
place_bytes p = option_map (λ v. v.items) p.content

-- the files with one place more, in front
abbrev pub files_with : Option (List ℕ) → List ℕ → Files → Files
files_with None name rest = files.remove rest name
files_with (Some bytes) name rest = files.insert rest name bytes

-- the files that the places have
unfoldable pub files_of : List Place → Files
files_of [] = files.empty
files_of (p ∷ ps) = files_with (place_bytes p) (string_bytes p.name) (files_of ps)

-- each of these names has a place
abbrev pub all_placed : List Place → List (List ℕ) → Bool
all_placed places [] = true
all_placed places (name ∷ names) = is_some (place_of name places) && all_placed places names

-- how many calls under a name were made
abbrev pub made_by : Option Place → ℕ
made_by None = 0
made_by (Some p) = p.calls.made

-- which calls under a name are to fail
abbrev pub failing_by : Option Place → List FailingCall
failing_by None = []
failing_by (Some p) = p.calls.failing.items

-- what the next call under a name leaves, where it is to fail
abbrev pub next_failing_by : Option Place → Option Leaves
next_failing_by p = failing_at (one_more (made_by p)) (failing_by p)

-- an attach fails exactly where the list says so, unless memory is wanting; it is a call under its name, and the file
-- that it hands out gets that name's count and list
abbrev pub AttachesAsPlanned : Option Place → Result MemFile ShelfFault → Option Place → Type 0
AttachesAsPlanned old (Ok file) new =
    (next_failing_by old ≡ None) × (file.inside.calls.made ≡ one_more (made_by old))
    × (file.inside.calls.failing.items ≡ failing_by old)
AttachesAsPlanned old (Err fault.Absent) new =
    (next_failing_by old ≡ None) × (made_by new ≡ one_more (made_by old)) × (failing_by new ≡ failing_by old)
AttachesAsPlanned old (Err fault.Failed) new =
    (is_some (next_failing_by old) ≡ true) × (made_by new ≡ one_more (made_by old)) × (failing_by new ≡ failing_by old)
AttachesAsPlanned old (Err fault.Present) new = ⊥
AttachesAsPlanned old (Err fault.NoMemory) new = failing_by new ≡ failing_by old

-- a create fails exactly where the list says so, unless memory is wanting; it is a call under its name, and the file
-- that it hands out gets that name's count and list
abbrev pub CreatesAsPlanned : Option Place → Result MemFile ShelfFault → Option Place → Type 0
CreatesAsPlanned old (Ok file) new =
    (next_failing_by old ≡ None) × (file.inside.calls.made ≡ one_more (made_by old))
    × (file.inside.calls.failing.items ≡ failing_by old)
CreatesAsPlanned old (Err fault.Absent) new = ⊥
CreatesAsPlanned old (Err fault.Present) new =
    (next_failing_by old ≡ None) × (made_by new ≡ one_more (made_by old)) × (failing_by new ≡ failing_by old)
CreatesAsPlanned old (Err fault.Failed) new =
    (is_some (next_failing_by old) ≡ true) × (made_by new ≡ one_more (made_by old)) × (failing_by new ≡ failing_by old)
CreatesAsPlanned old (Err fault.NoMemory) new = failing_by new ≡ failing_by old

-- the shelf's faults after an attach: one more read where it failed
abbrev pub after_attach_fault : {T : Type 0} → Result T ShelfFault → Faults → Faults
after_attach_fault (Ok file) old = old
after_attach_fault (Err fault.Absent) old = old
after_attach_fault (Err fault.Present) old = old
after_attach_fault (Err fault.Failed) old = record old { reads = one_more old.reads }
after_attach_fault (Err fault.NoMemory) old = old

-- the shelf's faults after a create: one more write where it failed
abbrev pub after_create_fault : {T : Type 0} → Result T ShelfFault → Faults → Faults
after_create_fault (Ok file) old = old
after_create_fault (Err fault.Absent) old = old
after_create_fault (Err fault.Present) old = old
after_create_fault (Err fault.Failed) old = record old { writes = one_more old.writes }
after_create_fault (Err fault.NoMemory) old = old

-- a file as it is made under a name: empty, and with no fault yet
pub record IsEmptyFile (name : List ℕ) (file : MemFile) : Type 0 where
  pub bears : string_bytes file.name ≡ name
  pub empty : file.inside.bytes.items ≡ []
  pub reads : file.inside.faults.reads ≡ 0
  pub writes : file.inside.faults.writes ≡ 0

-- a place of this name as it is made: without a file and without a call
pub record IsFresh (name : List ℕ) (p : Place) : Type 0 where
  pub named : string_bytes p.name ≡ name
  pub empty : p.content ≡ None
  pub made : p.calls.made ≡ 0
  pub failing : p.calls.failing.items ≡ []

-- a shelf in memory as contracts see it: its files are told
abbrev pub seen_mem_shelf : List Place → List (String Global) → ShelfState
seen_mem_shelf places attached = record {
  is_told = true;
  files = files_of places;
  attached = map string_bytes
      attached;
}

-- a file of a shelf in memory as contracts see it
abbrev pub seen_mem_file : MemFile → ImageState
seen_mem_file file = seen_of (string_bytes file.name) file.inside

-- the places of all other names stay as they were
abbrev pub KeepsOthers : List ℕ → List Place → List Place → Type 0
KeepsOthers name old new = (other : List ℕ) → bytes_eq other name ≡ false → place_of other new ≡ place_of other old

-- no name loses its place
abbrev pub KeepsPlaces : List Place → List Place → Type 0
KeepsPlaces old new = (name : List ℕ) → is_some (place_of name old) ≡ true → is_some (place_of name new) ≡ true

-- no file is another, the places of all other names stay, and none goes
pub record KeepsFiles (name : List ℕ) (old new : List Place) : Type 0 where
  pub files : files_of new ≡ files_of old
  pub others : KeepsOthers name old new
  pub places : KeepsPlaces old new

-- a file of this name is made, which is empty; after a refusal no file is another. The places of all other names stay,
-- and none goes
pub record CreatesFile {T E : Type 0} (name : List ℕ) (old : List Place) (result : Result T E) (new : List Place)
    : Type 0 where
  pub created : OnOk result (files_of new ≡ files.insert (files_of old) name [])
  pub refused : OnErr result (files_of new ≡ files_of old)
  pub others : KeepsOthers name old new
  pub places : KeepsPlaces old new

-- and the count and the list of this name stay too
pub record KeepsCalls (name : List ℕ) (old new : List Place) : Type 0 where
  pub made : made_by (place_of name new) ≡ made_by (place_of name old)
  pub failing : failing_by (place_of name new) ≡ failing_by (place_of name old)

-- no name has another file, count or list
pub record KeepsAll (old new : List Place) : Type 0 where
  pub files : files_of new ≡ files_of old
  pub made : (name : List ℕ) → made_by (place_of name new) ≡ made_by (place_of name old)
  pub failing : (name : List ℕ) → failing_by (place_of name new) ≡ failing_by (place_of name old)

-- a file of this name stands on the shelf, with no call under it and none that is to fail; the places of all other
-- names stay
pub record AddsFile (name bytes : List ℕ) (old new : List Place) : Type 0 where
  pub files : files_of new ≡ files.insert (files_of old) name bytes
  pub made : made_by (place_of name new) ≡ 0
  pub failing : failing_by (place_of name new) ≡ []
  pub others : KeepsOthers name old new

-- a further call under this name is to fail, and no file, no count and no place of another name is another
pub record PlansCall (name : List ℕ) (number : ℕ) (leaves : Leaves) (old new : List Place) : Type 0 where
  pub files : files_of new ≡ files_of old
  pub made : made_by (place_of name new) ≡ made_by (place_of name old)
  pub failing : failing_by (place_of name new) ≡ plan_call number leaves (failing_by (place_of name old))
  pub others : KeepsOthers name old new
