-- A file that is handed out, only read, and released leaves the shelf as it was; and its faults are the shelf's.
use Rattle.std.proofs.Common.{◌≡◌, ◌≤◌, ℕ, List, ◌∷◌, refl, sym, ap, ◌∙◌, arith, Bool, true, false, Option, Some, IsTrue, if◌then◌else◌, cond, ◌||◌}
use Rattle.std.proofs.lemmas.Cmp.{nat_list_cmp_total}
use Rattle.std.specs.Cmp.Lexicographic.{texts_ties}
use Rattle.std.specs.FinMap.{get, insert, get-insert, same_map, slice_cmp-IsAntisymmetric, nat_cmp-IsAntisymmetric}
use Rattle.std.specs.Str.{bytes_eq}
use Rattle.ntfs_base.specs.Causes.{Rose}
use Rattle.ntfs_base.specs.Image.{ImageState}
use Rattle.ntfs_base.specs.Shelf.{Files, ShelfState, file_of, has_name, without, after_attach, after_create, after_release, added_count}
use Rattle.ntfs_base.proofs.ShelfLemmas.{same_name, name_same}

kept_by_test : (b : Bool) (o here : Option (List ℕ)) → (b ≡ true → here ≡ o) → cond b o here ≡ here
kept_by_test true o here same = sym (same refl)
kept_by_test false o here same = refl

-- to put back what is there changes nothing
pub insert-same : (files : Files) (name bytes : List ℕ) → file_of files name ≡ Some bytes
    → insert files name bytes ≡ files
insert-same files name bytes is =
    same_map nat_list_cmp_total (slice_cmp-IsAntisymmetric nat_cmp-IsAntisymmetric) (insert files name bytes) files
    (λ q. get-insert nat_list_cmp_total files name bytes q ∙ ap (λ b. cond b (Some bytes) (get files q)) (sym (texts_ties q name))
    ∙ kept_by_test (bytes_eq q name) (Some bytes) (get files q) (λ here. ap (get files) (same_name q name here) ∙ is))

files_kept : (told : Bool) (files : Files) (name bytes : List ℕ) → (IsTrue told → file_of files name ≡ Some bytes)
    → (if told then insert files name bytes else files) ≡ files
files_kept true files name bytes is = insert-same files name bytes (is refl)
files_kept false files name bytes is = refl

-- a file that was handed out and comes back as it was
pub after_release-attached : (name : List ℕ) (shelf : ShelfState) (file : ImageState) → file.name ≡ name
    → (IsTrue shelf.is_told → file_of shelf.files name ≡ Some file.content)
    → after_release file (after_attach name shelf) ≡ shelf
unfolding after_release after_attach
after_release-attached name shelf file named is =
    let files = ap (λ n. if shelf.is_told then insert shelf.files n file.content else shelf.files) named
    ∙ files_kept shelf.is_told shelf.files name file.content is in
    let attached : without file.name (name ∷ shelf.attached) ≡ shelf.attached =
    ap (λ b. if b then shelf.attached else name ∷ without file.name shelf.attached) (name_same file.name name named) in
    λ i. record shelf { files = files i; attached = attached i }

-- its name is attached while it is out
pub has_name-attached : (name : List ℕ) (shelf : ShelfState) (file : ImageState) → file.name ≡ name
    → has_name file.name (after_attach name shelf).attached ≡ true
unfolding after_attach
has_name-attached name shelf file named =
    ap (λ b. b || has_name file.name shelf.attached) (name_same file.name name named)

-- and so is that of a file that was made
pub has_name-created : (name : List ℕ) (shelf : ShelfState) (file : ImageState) → file.name ≡ name
    → has_name file.name (after_create name shelf).attached ≡ true
unfolding after_create
has_name-created name shelf file named =
    ap (λ b. b || has_name file.name shelf.attached) (name_same file.name name named)

-- a fault of the file is one of the shelf
pub Rose-added : (before old new more : ℕ) → before ≤ old → new ≡ added_count old more → Rose 0 more → Rose before new
Rose-added before old new more kept is rose below = let some = rose (omega arith) in omega arith
