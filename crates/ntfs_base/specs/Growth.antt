-- A file that is cut or grows: what it is after its length was set, and after bytes were appended. The words are ours.
use Rattle.std.specs.Prelude.{◌≡◌, ◌≤◌, ◌+◌, ◌-◌, ◌⊎◌, ℕ, List, ◌++◌, length, take, replicate, OnOk, OnErr, Result, if◌then◌else◌}
use Rattle.ntfs_base.specs.Image.{ImageState}
use Rattle.ntfs_base.specs.declared.fault.PutFault.{PutFault}
use Rattle.ntfs_base.specs.declared.fault.PutFault.TheVariants as put

-- a content at another length: its front, or all of it with zeros behind
unfoldable pub resize_of : ℕ → List ℕ → List ℕ
resize_of len content = take len content ++ replicate (len - length content) 0

-- the file at another length: all but its content and its length as before
unfoldable pub after_set_len : ℕ → ImageState → ImageState
after_set_len len file =
    record file { content = if file.is_told then resize_of len file.content else file.content; size = len }

-- the file with these bytes at its end: all but its content and its length as before
unfoldable pub after_append : List ℕ → ImageState → ImageState
after_append bytes file =
    record file {
      content = if file.is_told then file.content ++ bytes else file.content;
      size = file.size + length bytes;
    }

-- a call that had to set this length did so, or, where it failed, did so or left all as before
pub record SetLength {T E : Type 0} (len : ℕ) (old : ImageState) (result : Result T E) (new : ImageState) : Type 0 where
  pub whole : OnOk result (new ≡ after_set_len len old)
  pub part : OnErr result ((new ≡ old) ⊎ (new ≡ after_set_len len old))

-- a call that had to append these bytes appended all of them, or, where it failed, a front
pub record Appended {T E : Type 0} (bytes : List ℕ) (old : ImageState) (result : Result T E) (new : ImageState)
    : Type 0 where
  pub whole : OnOk result (new ≡ after_append bytes old)
  pub part : OnErr result ((k : ℕ) × (k ≤ length bytes) × (new ≡ after_append (take k bytes) old))

-- where memory was wanting, the file is as before
abbrev pub KeepsFile : PutFault → ImageState → ImageState → Type 0
KeepsFile put.Failed old new = Unit {0}
KeepsFile put.NoMemory old new = new ≡ old
