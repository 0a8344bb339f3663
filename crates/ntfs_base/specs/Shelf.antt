-- What contracts see of a shelf of files: which files it has, and which are attached now. The words are ours.
use Rattle.std.specs.Prelude.{◌≡◌, ◌||◌, false, ℕ, Bool, List, [], ◌∷◌, IsTrue, Option, Some, None, IsSome, if◌then◌else◌, min, ◌+◌}
use Rattle.std.specs.Ordering.{nat_cmp}
use Rattle.std.specs.Cmp.Lexicographic.{slice_cmp}
use Rattle.std.specs.Str.{bytes_eq}
use Rattle.std.specs.FinMap as map
use Rattle.ntfs_base.specs.Causes.{last_count, Rose}
use Rattle.ntfs_base.specs.Image.{ImageState}
use Rattle.ntfs_base.specs.declared.fault.Faults.{Faults}
use Rattle.ntfs_base.specs.declared.fault.ShelfFault.{ShelfFault}
use Rattle.ntfs_base.specs.declared.fault.ShelfFault.TheVariants as fault

-- files by their names: the bytes of each
abbrev pub Files : Type 0
Files = map.FinMap (slice_cmp nat_cmp) (List ℕ)

-- the bytes of the file of a name, where there is one
abbrev pub file_of : Files → List ℕ → Option (List ℕ)
file_of files name = map.get files name

pub record ShelfState : Type 0 where
  -- whether the files are told
  pub is_told : Bool
  -- the files, where they are told
  pub files : Files
  -- the names that are attached now, the last one first
  pub attached : List (List ℕ)

-- one of these names
abbrev pub has_name : List ℕ → List (List ℕ) → Bool
has_name name [] = false
has_name name (x ∷ xs) = bytes_eq name x || has_name name xs

-- the names without this one
abbrev pub without : List ℕ → List (List ℕ) → List (List ℕ)
without name [] = []
without name (x ∷ xs) = if bytes_eq name x then xs else x ∷ without name xs

-- the shelf after it has handed out the file of a name
unfoldable pub after_attach : List ℕ → ShelfState → ShelfState
after_attach name shelf = record shelf { attached = name ∷ shelf.attached }

-- the shelf after it has made an empty file under a name and handed it out
unfoldable pub after_create : List ℕ → ShelfState → ShelfState
after_create name shelf = record shelf {
  files = if shelf.is_told then map.insert shelf.files name [] else shelf.files;
  attached = name ∷ shelf.attached;
}

-- the shelf after it has taken a file back
unfoldable pub after_release : ImageState → ShelfState → ShelfState
after_release file shelf = record shelf {
  files = if shelf.is_told then map.insert shelf.files file.name file.content else shelf.files;
  attached = without file.name shelf.attached;
}

-- the sum of two counts, which stops at the last value
abbrev pub added_count : ℕ → ℕ → ℕ
added_count old more = min last_count (old + more)

-- a file as it is handed out: under the name that was asked, over no other image, told as the shelf is, with the bytes
-- of the shelf's file where they are told, and with no fault yet
pub record IsHandedOut (shelf : ShelfState) (asked : List ℕ) (file : ImageState) (faults : Faults) : Type 0 where
  pub bears : file.name ≡ asked
  pub alone : file.lower ≡ []
  pub told : file.is_told ≡ shelf.is_told
  pub bytes : IsTrue shelf.is_told → file_of shelf.files asked ≡ Some file.content
  pub reads : faults.reads ≡ 0
  pub writes : faults.writes ≡ 0

-- why a file wasn't handed out: there is none of that name, or the count of reads rose; want of memory is free
abbrev pub AttachCause : ShelfFault → ShelfState → List ℕ → Faults → Faults → Type 0
AttachCause fault.Absent shelf asked old new = IsTrue shelf.is_told → file_of shelf.files asked ≡ None
AttachCause fault.Present shelf asked old new = ⊥
AttachCause fault.Failed shelf asked old new = Rose old.reads new.reads
AttachCause fault.NoMemory shelf asked old new = Unit {0}

-- a file as it is made: under the name that was asked, over no other image, told as the shelf is, empty, and with no
-- fault yet; where it had to be new, there was none of that name
pub record IsCreated (shelf : ShelfState) (asked : List ℕ) (must_be_new : Bool) (file : ImageState) (faults : Faults)
    : Type 0 where
  pub bears : file.name ≡ asked
  pub alone : file.lower ≡ []
  pub told : file.is_told ≡ shelf.is_told
  pub empty : IsTrue shelf.is_told → file.content ≡ []
  pub size : file.size ≡ 0
  pub fresh : IsTrue must_be_new → IsTrue shelf.is_told → file_of shelf.files asked ≡ None
  pub reads : faults.reads ≡ 0
  pub writes : faults.writes ≡ 0

-- why a file wasn't made: it had to be new and there is one of that name, or the count of writes rose; want of memory
-- is free
abbrev pub CreateCause : ShelfFault → ShelfState → List ℕ → Bool → Faults → Faults → Type 0
CreateCause fault.Absent shelf asked must_be_new old new = ⊥
CreateCause fault.Present shelf asked must_be_new old new =
    IsTrue must_be_new × (IsTrue shelf.is_told → IsSome (file_of shelf.files asked))
CreateCause fault.Failed shelf asked must_be_new old new = Rose old.writes new.writes
CreateCause fault.NoMemory shelf asked must_be_new old new = Unit {0}
