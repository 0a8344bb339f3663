-- What the calls on bytes in memory promise as calls on an image.
use Rattle.std.proofs.Common.{◌≡◌, ◌≤◌, ◌⊎◌, ℕ, List, [], ◌∷◌, ◌++◌, length, take, refl, ap, ◌∙◌, inl, inr, arith, length-append, Result, Ok, Err, Option, Some, None}
use Rattle.std.proofs.lemmas.List.{append-nil}
use Rattle.ntfs_base.specs.Bytes.{overwrite}
use Rattle.ntfs_base.specs.Calls.{left_by, next_failing}
use Rattle.ntfs_base.specs.Growth.{resize_of, after_set_len, after_append, SetLength, Appended}
use Rattle.ntfs_base.specs.Writes.{Write, after_writes, Wrote}
use Rattle.ntfs_base.specs.Memory.{WritesMemory, SetsMemory, AppendsMemory, seen_of}
use Rattle.ntfs_base.specs.declared.fault.PutFault.{PutFault}
use Rattle.ntfs_base.specs.declared.fault.PutFault.TheVariants as put
use Rattle.ntfs_base.specs.declared.memory.content.MemContent.{MemContent}
use Rattle.ntfs_base.proofs.GrowthLemmas.{length-resized}
use Rattle.ntfs_base.proofs.SinkLemmas.{front_by-take}
use Rattle.ntfs_base.specs.declared.calls.Leaves.{Leaves}
use Rattle.ntfs_base.specs.declared.calls.Leaves.TheVariants as leaves

same_memory : (name : List ℕ) (old new : MemContent) → new.bytes.items ≡ old.bytes.items
    → seen_of name new ≡ seen_of name old
same_memory name old new same = rw same refl

asked_memory : (name : List ℕ) (w : Write) (old new : MemContent)
    → new.bytes.items ≡ overwrite w.place w.bytes old.bytes.items → length new.bytes.items ≡ length old.bytes.items
    → seen_of name new ≡ after_writes (w ∷ []) (seen_of name old)
unfolding after_writes
asked_memory name w old new same len = rw (len, same) refl

pub wrote_memory : {T E : Type 0} (name : List ℕ) (w : Write) (old new : MemContent) (result : Result T E)
    → WritesMemory w old result new
    → Wrote (w ∷ []) (seen_of name old) result (seen_of name new)
unfolding after_writes
wrote_memory name w old new (Ok x) is = record { whole = asked_memory name w old new is.whole is.len; part = tt }
wrote_memory name w old new (Err e) is = record { whole = tt; part = left (next_failing old.calls) is.part }
  where
    left : (plan : Option Leaves)
        → new.bytes.items ≡ left_by plan old.bytes.items (overwrite w.place w.bytes old.bytes.items)
        → (k : ℕ) × (k ≤ 1) × (seen_of name new ≡ after_writes (take k (w ∷ [])) (seen_of name old))
    left None same = (0, omega arith, same_memory name old new same)
    left (Some leaves.Before) same = (0, omega arith, same_memory name old new same)
    left (Some leaves.Asked) same = (1, omega arith, asked_memory name w old new same is.len)
    left (Some (leaves.Front n)) same = (0, omega arith, same_memory name old new same)

resized_memory : (name : List ℕ) (len : ℕ) (old new : MemContent) → new.bytes.items ≡ resize_of len old.bytes.items
    → seen_of name new ≡ after_set_len len (seen_of name old)
unfolding after_set_len
resized_memory name len old new same = rw (same, length-resized len old.bytes.items) refl

pub set_memory : (name : List ℕ) (len : ℕ) (old new : MemContent) (result : Result (Unit {0}) PutFault)
    → SetsMemory len old result new → SetLength len (seen_of name old) result (seen_of name new)
set_memory name len old new (Ok x) is = record { whole = resized_memory name len old new is.1; part = tt }
set_memory name len old new (Err put.Failed) is = record { whole = tt; part = left (next_failing old.calls) is.1 }
  where
    left : (plan : Option Leaves) → new.bytes.items ≡ left_by plan old.bytes.items (resize_of len old.bytes.items)
        → (seen_of name new ≡ seen_of name old) ⊎ (seen_of name new ≡ after_set_len len (seen_of name old))
    left None same = inl (same_memory name old new same)
    left (Some leaves.Before) same = inl (same_memory name old new same)
    left (Some leaves.Asked) same = inr (resized_memory name len old new same)
    left (Some (leaves.Front n)) same = inl (same_memory name old new same)
set_memory name len old new (Err put.NoMemory) is = record { whole = tt; part = inl (same_memory name old new is.1) }

longer_memory : (name bytes : List ℕ) (old new : MemContent) → new.bytes.items ≡ old.bytes.items ++ bytes
    → seen_of name new ≡ after_append bytes (seen_of name old)
unfolding after_append
longer_memory name bytes old new same = rw (same, length-append) refl

pub appended_memory : (name bytes : List ℕ) (old new : MemContent) (result : Result (Unit {0}) PutFault)
    → AppendsMemory bytes old result new → Appended bytes (seen_of name old) result (seen_of name new)
appended_memory name bytes old new (Ok x) is = record { whole = longer_memory name bytes old new is.1; part = tt }
appended_memory name bytes old new (Err put.Failed) is =
    let front = front_by-take (next_failing old.calls) bytes in
    record {
      whole = tt;
      part =
          (front.0, front.1, longer_memory name (take front.0 bytes) old new (is.1 ∙ ap (λ b. old.bytes.items ++ b) front.2));
    }
appended_memory name bytes old new (Err put.NoMemory) is =
    record { whole = tt; part = (0, omega arith, longer_memory name [] old new (is.0 ∙ simp append-nil)) }
