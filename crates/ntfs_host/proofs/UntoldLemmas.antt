-- What is seen of the untold after a write, a put, another length, and an attach, a create or a release.
use Rattle.std.proofs.Common.{◌≡◌, ◌≤◌, ◌+◌, ◌-◌, ◌∷◌, [], ℕ, List, length, refl, ap, inl, false}
use Rattle.std.proofs.Common.{arith, Result, Ok, Err}
use Rattle.std.proofs.lemmas.List.{length-take-le}
use Rattle.std.specs.FinMap.{empty}
use Rattle.ntfs_base.specs.Growth.{SetLength, Appended, after_set_len, after_append}
use Rattle.ntfs_base.specs.Image.{ImageState}
use Rattle.ntfs_base.specs.Shelf.{ShelfState, after_attach, after_create, after_release, without}
use Rattle.ntfs_base.specs.Sink.{Put, after_put}
use Rattle.ntfs_base.specs.Writes.{Write, Wrote, after_writes}
use Rattle.ntfs_host.specs.Seen.{seen_output}

-- a file of this name and length
abbrev pub untold_file : List ℕ → ℕ → ImageState
untold_file name size = record { is_told = false; content = []; size = size; name = name; lower = [] }

-- a shelf with these names attached
abbrev pub untold_shelf : List (List ℕ) → ShelfState
untold_shelf names = record { is_told = false; files = empty; attached = names }

pub wrote_untold : {T E : Type 0} (name : List ℕ) (size : ℕ) (w : Write) (result : Result T E)
    → Wrote (w ∷ []) (untold_file name size) result (untold_file name size)
unfolding after_writes
wrote_untold name size w (Ok x) = record { whole = refl; part = tt }
wrote_untold name size w (Err e) = record { whole = tt; part = (0, omega arith, refl) }

pub set_untold : {T E : Type 0} (name : List ℕ) (size len : ℕ) (x : T)
    → SetLength {E = E} len (untold_file name size) (Ok x) (untold_file name len)
unfolding after_set_len
set_untold name size len x = record { whole = refl; part = tt }

pub unset_untold : {T E : Type 0} (name : List ℕ) (size len : ℕ) (e : E)
    → SetLength {T = T} len (untold_file name size) (Err e) (untold_file name size)
unset_untold name size len e = record { whole = tt; part = inl refl }

pub appended_untold : {T E : Type 0} (name : List ℕ) (size end : ℕ) (bytes : List ℕ) (x : T)
    → end ≡ size + length bytes → Appended {E = E} bytes (untold_file name size) (Ok x) (untold_file name end)
unfolding after_append
appended_untold name size end bytes x same = record { whole = ap (untold_file name) same; part = tt }

pub front_untold : {T E : Type 0} (name : List ℕ) (size end : ℕ) (bytes : List ℕ) (e : E) → size ≤ end
    → end ≤ size + length bytes → Appended {T = T} bytes (untold_file name size) (Err e) (untold_file name end)
unfolding after_append
front_untold name size end bytes e least most =
    let within : end - size ≤ length bytes = omega arith in
    let count = length-take-le (end - size) bytes within in
    record { whole = tt; part = (end - size, within, ap (untold_file name) (omega arith)) }

pub put_untold : {T E : Type 0} (bytes : List ℕ) (result : Result T E) → Put bytes seen_output result seen_output
unfolding after_put
put_untold bytes (Ok x) = record { whole = refl; part = tt }
put_untold bytes (Err e) = record { whole = tt; part = (0, omega arith, refl) }

pub attached_untold : (name : List ℕ) (names names' : List (List ℕ)) → names' ≡ name ∷ names
    → untold_shelf names' ≡ after_attach name (untold_shelf names)
unfolding after_attach
attached_untold name names names' same = rw same refl

pub created_untold : (name : List ℕ) (names names' : List (List ℕ)) → names' ≡ name ∷ names
    → untold_shelf names' ≡ after_create name (untold_shelf names)
unfolding after_create
created_untold name names names' same = rw same refl

pub released_untold : (file : ImageState) (names names' : List (List ℕ)) → names' ≡ without file.name names
    → untold_shelf names' ≡ after_release file (untold_shelf names)
unfolding after_release
released_untold file names names' same = rw same refl
