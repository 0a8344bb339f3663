-- `ntfsmake`: a generated volume in a new file.
use Rattle.std.specs.Prelude.{◌≡◌, ◌⊎◌, ℕ, List, [], None, Result, Ok}
use Rattle.std.specs.FinMap.{insert}
use Rattle.std.specs.Option.{is_none}
use Rattle.ntfs_base.specs.Frames.{must, ◌>>=◌}
use Rattle.ntfs_base.specs.Shelf.{Files, file_of}
use Rattle.ntfs_base.specs.declared.refusal.Named.TheVariants as named
use Rattle.ntfs_make.specs.declared.fault.MakeFault.{MakeFault}
use Rattle.ntfs_make.specs.declared.fault.MakeFault.TheVariants as fault
use Rattle.ntfs_make.specs.Left.{IsZeroOrMade}
use Rattle.ntfs_make.specs.Volume.{volume_bytes_of}
use Rattle.ntfs_run.specs.Outcome.{Work}
use Rattle.ntfs_run.specs.declared.status.Status.{Status}
use Rattle.ntfs_run.specs.declared.status.Status.TheVariants as status

-- a refusal of the generator as a status
abbrev pub make_status : MakeFault → Status
make_status fault.WriteFault = status.WriteFault
make_status fault.NoMemory = status.NoMemory

-- the volume of these numbers in a new file of a name, which must not be there; nothing is put
unfoldable pub make_work : List ℕ → ℕ → ℕ → ℕ → Files → Result Work Status
make_work name seed clusters cluster files = do
  free ← must (is_none (file_of files name)) (status.Present named.Output)
  Ok (record { output = []; files = insert files name (volume_bytes_of seed clusters cluster) })

-- what any exit leaves of a file that is made: nothing yet, or the volume's length and bytes of which each is zero or
-- the volume's
abbrev pub IsPart : ℕ → ℕ → ℕ → List ℕ → Type 0
IsPart seed clusters cluster bytes = (bytes ≡ []) ⊎ IsZeroOrMade seed clusters cluster bytes

-- the files as they were, or with a new file of the name, which is a part of the volume
abbrev pub LeavesFile : List ℕ → ℕ → ℕ → ℕ → Files → Files → Type 0
LeavesFile name seed clusters cluster old new = (new ≡ old)
    ⊎ ((bytes : List ℕ) × (file_of old name ≡ None) × (new ≡ insert old name bytes)
    × IsPart seed clusters cluster bytes)

-- the refusals of the tool, once its words are taken
abbrev pub MakeRefuses : Status → Type 0
MakeRefuses (status.Present named.Output) = Unit {0}
MakeRefuses status.WriteFault = Unit {0}
MakeRefuses status.NoMemory = Unit {0}
MakeRefuses other = ⊥

-- those of a volume that is made in an empty file
abbrev pub FillRefuses : Status → Type 0
FillRefuses status.WriteFault = Unit {0}
FillRefuses status.NoMemory = Unit {0}
FillRefuses other = ⊥
