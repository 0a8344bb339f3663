-- A file that is attached, read and released, while another one may be made.
use Rattle.std.proofs.Common.{◌≡◌, ◌≤◌, ◌||◌, ℕ, Bool, true, false, List, [], ◌∷◌, refl, sym, ap, ◌∙◌, inl, inr, arith, Option, Some, None}
use Rattle.std.proofs.Common.{Result, IsTrue, if◌then◌else◌}
use Rattle.std.proofs.lemmas.Result.{IfErr-weaker}
use Rattle.std.specs.FinMap.{insert}
use Rattle.std.specs.Str.{bytes_eq}
use Rattle.ntfs_base.specs.Causes.{HaveNotFallen, Rose}
use Rattle.ntfs_base.specs.Image.{ImageState}
use Rattle.ntfs_base.specs.Shelf.{Files, IsHandedOut, ShelfState, added_count, after_attach, after_release, file_of, has_name, without}
use Rattle.ntfs_base.specs.declared.image.Image as image
use Rattle.ntfs_base.specs.declared.shelf.Shelf as shelf
use Rattle.ntfs_base.proofs.AttachLemmas.{after_release-attached, has_name-attached, insert-same}
use Rattle.ntfs_base.proofs.ShelfLemmas.{name_same, same_name}
use Rattle.ntfs_words.specs.Clone.{are_same}
use Rattle.ntfs_run.specs.Clone.{IsDetached}
use Rattle.ntfs_run.specs.Outcome.{IfNone, KeepsOtherFiles, MakesFiles, status_origin}
use Rattle.ntfs_run.specs.declared.status.Status.{Status}
use Rattle.ntfs_run.proofs.ToolLemmas.{because_map, rose_released}

-- ---- the shelf

files_attached : (name : List ℕ) (shelf : ShelfState) → (after_attach name shelf).files ≡ shelf.files
unfolding after_attach
files_attached name shelf = refl

told_attached : (name : List ℕ) (shelf : ShelfState) → (after_attach name shelf).is_told ≡ shelf.is_told
unfolding after_attach
told_attached name shelf = refl

names_attached : (name : List ℕ) (shelf : ShelfState) → (after_attach name shelf).attached ≡ name ∷ shelf.attached
unfolding after_attach
names_attached name shelf = refl

told_released : (file : ImageState) (shelf : ShelfState) → (after_release file shelf).is_told ≡ shelf.is_told
unfolding after_release
told_released file shelf = refl

names_released : (file : ImageState) (shelf : ShelfState) → (after_release file shelf).attached ≡ without file.name shelf.attached
unfolding after_release
names_released file shelf = refl

without_first : (name other : List ℕ) (names : List (List ℕ)) → other ≡ name → without other (name ∷ names) ≡ names
without_first name other names is = ap (λ b. if b then names else name ∷ without other names) (name_same other name is)

files_returned : (file : ImageState) (shelf : ShelfState) → (IsTrue shelf.is_told → file_of shelf.files file.name ≡ Some file.content) → (after_release file shelf).files ≡ shelf.files
unfolding after_release
files_returned file shelf is = of shelf.is_told is
  where
    of : (told : Bool) → (IsTrue told → file_of shelf.files file.name ≡ Some file.content) → (if told then insert shelf.files file.name file.content else shelf.files) ≡ shelf.files
    of true here = insert-same shelf.files file.name file.content (here refl)
    of false here = refl

-- a name that isn't the attached one
apart_back : (a b : List ℕ) (t : Bool) → bytes_eq b a ≡ t → bytes_eq a b ≡ false → bytes_eq b a ≡ false
apart_back a b false is apart = is
apart_back a b true is apart = absurd (let same : bytes_eq a b ≡ true = name_same a b (sym (same_name b a is)) in cc)

one_name : (name other : List ℕ) (names : List (List ℕ)) → names ≡ other ∷ [] → bytes_eq other name ≡ false → has_name name names ≡ false
one_name name other names is apart = ap (has_name name) is ∙ ap (λ b. b || false) (apart_back other name (bytes_eq name other) refl apart)

pub is_free : (source output : List ℕ) (old held : ShelfState) → old.attached ≡ [] → held ≡ after_attach source old → bytes_eq source output ≡ false
    → has_name output held.attached ≡ false
is_free source output old held none attached apart =
    one_name output source held.attached (ap (λ shelf. shelf.attached) attached ∙ names_attached source old ∙ ap (λ names. source ∷ names) none) apart

pub are_free : (source : List ℕ) (output : Option (List ℕ)) (old held : ShelfState) → old.attached ≡ [] → held ≡ after_attach source old
    → are_same (Some source) output ≡ false → IsDetached output held.attached
unfolding are_same
are_free source None old held none attached apart = tt
are_free source (Some output) old held none attached apart = is_free source output old held none attached apart

-- a file that isn't the one that is made has its bytes
pub others_at : (output : Option (List ℕ)) (name : List ℕ) (old new : Files) → are_same (Some name) output ≡ false → KeepsOtherFiles output old new
    → file_of new name ≡ file_of old name
unfolding are_same
others_at None name old new apart is = ap (λ files. file_of files name) is
others_at (Some output) name old new apart is = is name apart

pub rose_within : (first from to last : ℕ) → first ≤ from → from ≤ to → to ≤ last → Rose from to → Rose first last
rose_within first from to last kept more end rose = λ below. grind arith

-- ---- the file that was read

module _ {S F : Type 0} (s : shelf.Ghosts S F) (f : image.Ghosts F) (old held mid new : S) (file read : F) (name : List ℕ)
    (out : IsHandedOut (s.seen old) name (f.seen file) (f.faults file)) (attached : s.seen held ≡ after_attach name (s.seen old))
    (bears : (f.seen read).name ≡ (f.seen file).name) (holds : (f.seen read).content ≡ (f.seen file).content) where
  -- its name is attached until it is released
  pub read_is_attached : (s.seen mid).attached ≡ (s.seen held).attached → has_name (f.seen read).name (s.seen mid).attached ≡ true
  read_is_attached same =
      ap (has_name (f.seen read).name) (same ∙ ap (λ shelf. shelf.attached) attached)
      ∙ has_name-attached name (s.seen old) (f.seen read) (bears ∙ out.bears)

  pub held_files : (s.seen held).files ≡ (s.seen old).files
  held_files = ap (λ shelf. shelf.files) attached ∙ files_attached name (s.seen old)

  pub held_told : (s.seen held).is_told ≡ (s.seen old).is_told
  held_told = ap (λ shelf. shelf.is_told) attached ∙ told_attached name (s.seen old)

  -- the files are those that stood when it was released
  pub read_files : (IsTrue (s.seen old).is_told → file_of (s.seen mid).files name ≡ file_of (s.seen held).files name) → (s.seen mid).is_told ≡ (s.seen held).is_told
      → s.seen new ≡ after_release (f.seen read) (s.seen mid) → (s.seen new).files ≡ (s.seen mid).files
  read_files kept told released =
      ap (λ shelf. shelf.files) released
      ∙ files_returned (f.seen read) (s.seen mid) (λ is.
      let was : IsTrue (s.seen old).is_told = sym held_told ∙ sym told ∙ is in
      ap (file_of (s.seen mid).files) (bears ∙ out.bears) ∙ kept was ∙ ap (λ files. file_of files name) held_files ∙ out.bytes was ∙ ap Some (sym holds))

  -- the whole shelf is as before, where no other file was made
  pub read_shelf : s.seen mid ≡ s.seen held → s.seen new ≡ after_release (f.seen read) (s.seen mid) → s.seen new ≡ s.seen old
  read_shelf same released =
      released ∙ ap (after_release (f.seen read)) (same ∙ attached)
      ∙ after_release-attached name (s.seen old) (f.seen read) (bears ∙ out.bears) (λ told. out.bytes told ∙ ap Some (sym holds))

  pub shelf_kept : (output : Option (List ℕ)) → IfNone output (s.seen mid ≡ s.seen held) → s.seen new ≡ after_release (f.seen read) (s.seen mid)
      → IfNone output (s.seen new ≡ s.seen old)
  shelf_kept None same released = read_shelf same released
  shelf_kept (Some output) same released = tt

  -- and what was made in between was made
  pub read_makes : (has may : Status → Type 0) (result : Result (Unit {0}) Status) → ((fault : Status) → has fault → may fault)
      → HaveNotFallen (s.faults old) (s.faults held) → MakesFiles s has held mid (Rose (f.faults file).reads (f.faults read).reads) result
      → s.seen new ≡ after_release (f.seen read) (s.seen mid) → (s.faults new).reads ≡ added_count (s.faults mid).reads (f.faults read).reads
      → HaveNotFallen (s.faults mid) (s.faults new) → MakesFiles s may old new ⊥ result
  read_makes has may result more kept makes released reads counts = record {
    told = ap (λ shelf. shelf.is_told) released ∙ told_released (f.seen read) (s.seen mid) ∙ makes.told ∙ held_told;
    attached = ap (λ shelf. shelf.attached) released ∙ names_released (f.seen read) (s.seen mid)
        ∙ ap (without (f.seen read).name) (makes.attached ∙ ap (λ shelf. shelf.attached) attached ∙ names_attached name (s.seen old))
        ∙ without_first name (f.seen read).name (s.seen old).attached (bears ∙ out.bears);
    counts = record { reads = omega (arith, kept.reads, makes.counts.reads, counts.reads); writes = omega (arith, kept.writes, makes.counts.writes, counts.writes) };
    cause = IfErr-weaker result _ _ (λ fault. because_map (status_origin fault)
        (λ rose. inl (elim rose [
          | inl here ↦ rose_within _ _ _ _ kept.reads makes.counts.reads counts.reads here
          | inr inside ↦ rose_released _ (s.faults mid).reads _ (f.faults file).reads (f.faults read).reads (omega (arith, kept.reads, makes.counts.reads)) reads out.reads inside
        ]))
        (rose_within _ _ _ _ kept.writes makes.counts.writes counts.writes)
        (λ want. want)) makes.cause;
    refusal = IfErr-weaker result _ _ more makes.refusal;
  }
