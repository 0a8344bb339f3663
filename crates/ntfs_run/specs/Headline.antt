-- What ntfsclone promises of images that are accepted: whose clone image is saved, what that restores, and what a raw
-- copy has; and ntfstrial of its three files. The words are ours.
use Rattle.std.specs.Prelude.{◌≡◌, true, false, List, ℕ, Option, Some, None, Result, Ok}
use Rattle.ntfs_base.specs.Shelf.{Files, file_of}
use Rattle.ntfs_base.specs.Sink.{SinkState, after_put}
use Rattle.ntfs_clone.specs.CloneOf.{clone_of}
use Rattle.ntfs_clone.specs.Same.{IsSameVolume, owned_volume}
use Rattle.ntfs_rules.specs.Laws.{IsWhole}
use Rattle.ntfs_volume.specs.Opened.{Opened}
use Rattle.ntfs_words.specs.declared.request.Request.{Request}
use Rattle.ntfs_words.specs.declared.request.Request.TheVariants as request
use Rattle.ntfs_words.specs.declared.request.WordsFault.{WordsFault}
use Rattle.ntfs_run.specs.Clone.{clone_bytes}
use Rattle.ntfs_run.specs.Trial.{back_name, clone_name, trial_image}
use Rattle.ntfs_run.specs.declared.status.Status.{Status}
use Rattle.ntfs_run.specs.declared.status.Status.TheVariants as status

-- the image opens as a volume that breaks no rule, and these bytes are its clone image, with the clusters that its
-- records own
pub record IsCloneOf (image clone : List ℕ) : Type 0 where
  pub opened : Opened
  pub whole : IsWhole image opened
  pub saved : clone ≡ clone_of (owned_volume image opened)

-- the image opens as a volume that breaks no rule, and another one is what its clone restores: the same volume, as long
-- as the device, with zeros in the clusters that nobody owns
pub record IsCopyOf (image copy : List ℕ) : Type 0 where
  pub opened : Opened
  pub whole : IsWhole image opened
  pub same : IsSameVolume image copy opened

-- the file of a name has the clone image of another one
pub record SavesFile (source output : List ℕ) (old new : Files) : Type 0 where
  pub image : List ℕ
  pub clone : List ℕ
  pub held : file_of old source ≡ Some image
  pub made : file_of new output ≡ Some clone
  pub saved : IsCloneOf image clone

-- the output got the clone image of a file
pub record SavesOutput (source : List ℕ) (old : Files) (before after : SinkState) : Type 0 where
  pub image : List ℕ
  pub clone : List ℕ
  pub held : file_of old source ≡ Some image
  pub put : after ≡ after_put clone before
  pub saved : IsCloneOf image clone

-- the file of a name is a raw copy of another one
pub record CopiesFile (source output : List ℕ) (old new : Files) : Type 0 where
  pub image : List ℕ
  pub copy : List ℕ
  pub held : file_of old source ≡ Some image
  pub made : file_of new output ≡ Some copy
  pub copied : IsCopyOf image copy

-- the file of a name has what a clone image restores: where that was saved of an image, it is the same volume
pub record RestoresFile (source : Option (List ℕ)) (output : List ℕ) (old : Files) (input : List ℕ) (new : Files)
    : Type 0 where
  pub clone : List ℕ
  pub copy : List ℕ
  pub given : clone_bytes source old input ≡ Ok clone
  pub made : file_of new output ≡ Some copy
  pub restored : (image : List ℕ) → IsCloneOf image clone → IsCopyOf image copy

-- the files of a trial: the volume of its seed, which breaks no rule, its clone image, and the same volume restored
pub record TriesVolume (seed : ℕ) (name : List ℕ) (new : Files) : Type 0 where
  pub clone : List ℕ
  pub back : List ℕ
  pub made : file_of new name ≡ Some (trial_image seed)
  pub saved : file_of new (clone_name name) ≡ Some clone
  pub restored : file_of new (back_name name) ≡ Some back
  pub is_clone : IsCloneOf (trial_image seed) clone
  pub is_copy : IsCopyOf (trial_image seed) back

-- what a tool promises beyond its outcome, where it has done its work
abbrev pub Promises : Result Request WordsFault → Status → Files → List ℕ → SinkState → Files → SinkState → Type 0
Promises (Ok (request.Clone true false no_action force (Some output) overwrite (Some source)))
    status.Done old input before new after =
    SavesFile source output old new
Promises (Ok (request.Clone true false no_action force None overwrite (Some source)))
    status.Done old input before new after =
    SavesOutput source old before after
Promises (Ok (request.Clone false false no_action force (Some output) overwrite (Some source)))
    status.Done old input before new after =
    CopiesFile source output old new
Promises (Ok (request.Clone save true no_action force (Some output) overwrite source))
    status.Done old input before new after =
    RestoresFile source output old input new
Promises (Ok (request.Trial seed name)) status.Done old input before new after = TriesVolume seed name new
Promises reading other old input before new after = Unit {0}
