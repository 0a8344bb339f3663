-- What stands on the target, command by command.
use Rattle.std.proofs.Common.{◌≡◌, ◌≤◌, ◌+◌, ◌-◌, ◌*◌, ◌⊎◌, inl, inr, ℕ, zero, suc, Bool, true, false, List, [], ◌∷◌, ◌++◌, length, take, replicate, refl, sym, ap, ◌∙◌, subst, arith, min, nat_eq, nat_le, if◌then◌else◌, Result, Ok, Err, IsTrue, length-append, append_assoc}
use Rattle.std.specs.Prelude.{IfErr}
use Rattle.std.proofs.lemmas.Bool.{leb-false, leb-true}
use Rattle.std.proofs.lemmas.List.{length-replicate, take-append-le, take_all, append-nil}
use Rattle.ntfs_base.specs.Bytes.{overwrite}
use Rattle.ntfs_base.specs.Frames.{IsSameDevice, IsSettled}
use Rattle.ntfs_base.specs.Image.{ImageState}
use Rattle.ntfs_base.specs.Growth.{SetLength, after_set_len, resize_of}
use Rattle.ntfs_base.specs.Writes.{Write, Wrote, after_writes, content_after}
use Rattle.ntfs_base.proofs.ContentLemmas.{told-content_after}
use Rattle.ntfs_clone.specs.declared.fault.CloneFault.{CloneFault}
use Rattle.ntfs_clone.specs.declared.fault.CloneFault.TheVariants as clone
use Rattle.ntfs_clone.specs.Fault.{IsFileFault, IsWriteFault, clone_origin}
use Rattle.ntfs_clone.specs.declared.header.CloneHeader.{CloneHeader}
use Rattle.ntfs_clone.specs.declared.row.Row.{Row}
use Rattle.ntfs_clone.specs.Commands.{Command, gap, cluster, command_content, commands_content, covered, right_commands}
use Rattle.ntfs_clone.specs.Restored.{IsPartOf, nothing, front, whole, backed_up, laid_out, restored, restored_before}
use Rattle.ntfs_clone.specs.Writing.{IsFront, IsHeld, IsRestored, IsSameFile, IsWritten, Makes}
use Rattle.ntfs_clone.proofs.LayoutLemmas.{resize-behind, resize-zeros}

same-after : (ws : List Write) (old : ImageState) → IsSameFile old (after_writes ws old)
unfolding after_writes
same-after ws old = record { same = record { told = refl; bears = refl; over = refl }; size = refl }

-- writes keep all but the content
pub same-wrote : {T E : Type 0} (ws : List Write) (old new : ImageState) (result : Result T E) → Wrote ws old result new → IsSameFile old new
same-wrote ws old new (Ok x) is = subst (IsSameFile old) (sym is.whole) (same-after ws old)
same-wrote ws old new (Err e) is = subst (IsSameFile old) (sym is.part.2) (same-after (take is.part.0 ws) old)

pub same-file : (old : ImageState) → IsSameFile old old
same-file old = record { same = record { told = refl; bears = refl; over = refl }; size = refl }

pub same-then : (a b c : ImageState) → IsSameFile a b → IsSameFile b c → IsSameFile a c
same-then a b c one other = record {
  same = record { told = other.same.told ∙ one.same.told; bears = other.same.bears ∙ one.same.bears; over = other.same.over ∙ one.same.over };
  size = other.size ∙ one.size;
}

-- the same file stays the same device
pub same-device : (a b c : ImageState) → IsSameDevice a b → IsSameFile b c → IsSameDevice a c
same-device a b c one other = record { told = other.same.told ∙ one.told; bears = other.same.bears ∙ one.bears; over = other.same.over ∙ one.over }

-- one write was made, or it wasn't
pub wrote-one : {T E : Type 0} (w : Write) (old new : ImageState) (fault : E) → Wrote {T = T} (w ∷ []) old (Err fault) new → IsTrue old.is_told
    → (new.content ≡ old.content) ⊎ (new.content ≡ overwrite w.place w.bytes old.content)
wrote-one w old new fault is told = which is.part.0 (told-content_after (take is.part.0 (w ∷ [])) old new is.part.2 told)
  where
    which : (k : ℕ) → new.content ≡ content_after (take k (w ∷ [])) old.content → (new.content ≡ old.content) ⊎ (new.content ≡ overwrite w.place w.bytes old.content)
    which zero made = inl made
    which (suc k) made = inr (made ∙ ap (λ ws. content_after (w ∷ ws) old.content) (none k))
      where
        none : (k : ℕ) → take {A = Write} k [] ≡ []
        none zero = refl
        none (suc k) = refl

-- the row is written
pub row-laid : (h : CloneHeader) (read : List Command) (row : Row) (old new : List ℕ) → IsHeld h read row old → row.place ≤ h.device
    → new ≡ overwrite row.place (take (h.device - row.place) row.bytes.items) old → new ≡ laid_out h (take (length read) read)
unfolding laid_out
row-laid h read row old new is within made =
    made ∙ resize-behind h.device row.place (commands_content h.cluster (take is.written read)) row.bytes.items old is.place within is.laid
    ∙ ap (resize_of h.device) (is.parts ∙ ap (commands_content h.cluster) (sym (take_all (length read) read (omega arith))))

pub row-written : (h : CloneHeader) (read : List Command) (row next : Row) (old new : List ℕ) → IsHeld h read row old → row.place ≤ h.device
    → new ≡ overwrite row.place (take (h.device - row.place) row.bytes.items) old → next.bytes.items ≡ [] → next.place ≡ row.place + length row.bytes.items
    → IsHeld h read next new
row-written h read row next old new is within made empty place =
    let all : take (length read) read ≡ read = take_all (length read) read (omega arith) in
    let long = ap length is.parts in
    let sum = length-append (commands_content h.cluster (take is.written read)) row.bytes.items in
    record {
      written = length read;
      within = omega arith;
      place = ap (λ xs. length (commands_content h.cluster xs)) all ∙ omega (arith, long, sum, is.place, place);
      parts = rw (all, empty) (append-nil _);
      laid = row-laid h read row old new is within made;
    }

pub row-failed : (h : CloneHeader) (read : List Command) (row : Row) (old new : List ℕ) → IsHeld h read row old → row.place ≤ h.device
    → (new ≡ old) ⊎ (new ≡ overwrite row.place (take (h.device - row.place) row.bytes.items) old) → IsFront h read new
row-failed h read row old new is within (inl same) = record { written = is.written; laid = same ∙ is.laid }
row-failed h read row old new is within (inr made) = record { written = length read; laid = row-laid h read row old new is within made }

-- ---- commands

pub content-more : (c : ℕ) (read : List Command) (command : Command) → commands_content c (read ++ command ∷ []) ≡ commands_content c read ++ command_content c command
content-more c [] command = append-nil (command_content c command)
content-more c (x ∷ xs) command = ap (λ ys. command_content c x ++ ys) (content-more c xs command) ∙ sym (append_assoc (command_content c x) (commands_content c xs) (command_content c command))

-- a cluster waits behind the others
pub held-cluster : (h : CloneHeader) (read : List Command) (row next : Row) (content bytes : List ℕ) → IsHeld h read row content
    → next.bytes.items ≡ row.bytes.items ++ bytes → next.place ≡ row.place → IsHeld h (read ++ cluster bytes ∷ []) next content
held-cluster h read row next content bytes is items place =
    let same : take is.written (read ++ cluster bytes ∷ []) ≡ take is.written read = take-append-le is.written read (cluster bytes ∷ []) is.within in
    let long = length-append read (cluster bytes ∷ []) in
    record {
      written = is.written;
      within = omega (arith, long, is.within);
      place = ap (λ xs. length (commands_content h.cluster xs)) same ∙ is.place ∙ sym place;
      parts = ap (λ xs. commands_content h.cluster xs ++ next.bytes.items) same ∙ ap (λ xs. commands_content h.cluster (take is.written read) ++ xs) items
          ∙ sym (append_assoc (commands_content h.cluster (take is.written read)) row.bytes.items bytes) ∙ ap (λ xs. xs ++ bytes) is.parts
          ∙ sym (content-more h.cluster read (cluster bytes));
      laid = is.laid ∙ ap (laid_out h) (sym same);
    }

-- what was read is written, where nothing waits
pub held-laid : (h : CloneHeader) (read : List Command) (row : Row) (content : List ℕ) → IsHeld h read row content → row.bytes.items ≡ [] → content ≡ laid_out h read
unfolding laid_out
held-laid h read row content is empty =
    is.laid ∙ ap (resize_of h.device) (sym (append-nil _) ∙ ap (λ xs. commands_content h.cluster (take is.written read) ++ xs) (sym empty) ∙ is.parts)

-- behind a gap
pub held-gap : (h : CloneHeader) (read : List Command) (row next : Row) (content : List ℕ) (count : ℕ) → IsHeld h read row content
    → row.bytes.items ≡ [] → next.bytes.items ≡ [] → next.place ≡ row.place + count * h.cluster → IsHeld h (read ++ gap count ∷ []) next content
unfolding laid_out
held-gap h read row next content count is empty none place =
    let all : take (length (read ++ gap count ∷ [])) (read ++ gap count ∷ []) ≡ read ++ gap count ∷ [] = take_all (length (read ++ gap count ∷ [])) (read ++ gap count ∷ []) (omega arith) in
    let zeros = content-more h.cluster read (gap count) in
    let same : commands_content h.cluster (take is.written read) ≡ commands_content h.cluster read =
    sym (append-nil _) ∙ ap (λ xs. commands_content h.cluster (take is.written read) ++ xs) (sym empty) ∙ is.parts in
    let before : length (commands_content h.cluster read) ≡ row.place = ap length (sym same) ∙ is.place in
    let longer : length (commands_content h.cluster read ++ replicate (count * h.cluster) 0) ≡ length (commands_content h.cluster read) + count * h.cluster = simp (length-append, length-replicate) refl in
    record {
      written = length (read ++ gap count ∷ []);
      within = omega arith;
      place = ap (λ xs. length (commands_content h.cluster xs)) all ∙ ap length zeros ∙ longer ∙ ap (λ n. n + count * h.cluster) before ∙ sym place;
      parts = ap (λ xs. commands_content h.cluster xs ++ next.bytes.items) all ∙ ap (λ xs. commands_content h.cluster (read ++ gap count ∷ []) ++ xs) none ∙ append-nil _;
      laid = held-laid h read row content is empty ∙ sym (resize-zeros h.device (count * h.cluster) (commands_content h.cluster read))
          ∙ ap (resize_of h.device) (sym zeros) ∙ ap (λ xs. resize_of h.device (commands_content h.cluster xs)) (sym all);
    }

pub held-front : (h : CloneHeader) (read : List Command) (row : Row) (content : List ℕ) → IsHeld h read row content → IsFront h read content
held-front h read row content is = record { written = is.written; laid = is.laid }

-- ---- what stands in the end

take-min : {X : Type 0} (k : ℕ) (xs ys : List X) → take (min k (length xs)) (xs ++ ys) ≡ take k xs
take-min k xs ys =
    take-append-le (min k (length xs)) xs ys (omega arith) ∙ two (nat_le k (length xs)) refl
  where
    two : (b : Bool) → nat_le k (length xs) ≡ b → take (min k (length xs)) xs ≡ take k xs
    two true is = let less = leb-true k (length xs) is in let e : min k (length xs) ≡ k = omega arith in ap (λ n. take n xs) e
    two false is = let more = leb-false k (length xs) is in take_all (min k (length xs)) xs (omega arith) ∙ sym (take_all k xs (omega arith))

-- a front of those that were read is one of all that are right
pub front-of : (h : CloneHeader) (all read more : List Command) (content : List ℕ) → all ≡ read ++ more → IsFront h read content → IsFront h all content
front-of h all read more content are is = record {
  written = min is.written (length read);
  laid = is.laid ∙ ap (laid_out h) (sym (ap (take (min is.written (length read))) are ∙ take-min is.written read more));
}

pub front-none : (h : CloneHeader) (read : List Command) (content : List ℕ) → content ≡ laid_out h [] → IsFront h read content
front-none h read content is = record { written = 0; laid = is }

-- the work was cut off
pub written-cut : (h : CloneHeader) (bytes content : List ℕ) (fault : CloneFault) → (IsSettled (clone_origin fault) → ⊥)
    → IsFront h (right_commands h bytes) content → IsWritten h bytes (Err fault) content
written-cut h bytes content (clone.BadClone place) cut is = absurd (cut tt)
written-cut h bytes content (clone.Damaged rule number) cut is = absurd (cut tt)
written-cut h bytes content clone.ReadFault cut is = is
written-cut h bytes content clone.WriteFault cut is = is
written-cut h bytes content clone.NoMemory cut is = is

-- all right commands were written
pub written-whole : (h : CloneHeader) (bytes content : List ℕ) (fault : CloneFault) → content ≡ laid_out h (right_commands h bytes) → IsWritten h bytes (Err fault) content
written-whole h bytes content (clone.BadClone place) is = is
written-whole h bytes content (clone.Damaged rule number) is = all_front h bytes content is
  where
    all_front : (h : CloneHeader) (bytes content : List ℕ) → content ≡ laid_out h (right_commands h bytes) → IsFront h (right_commands h bytes) content
    all_front h bytes content is = record { written = length (right_commands h bytes); laid = is ∙ ap (laid_out h) (sym (take_all _ (right_commands h bytes) (omega arith))) }
written-whole h bytes content clone.ReadFault is = record { written = length (right_commands h bytes); laid = is ∙ ap (laid_out h) (sym (take_all _ (right_commands h bytes) (omega arith))) }
written-whole h bytes content clone.WriteFault is = record { written = length (right_commands h bytes); laid = is ∙ ap (laid_out h) (sym (take_all _ (right_commands h bytes) (omega arith))) }
written-whole h bytes content clone.NoMemory is = record { written = length (right_commands h bytes); laid = is ∙ ap (laid_out h) (sym (take_all _ (right_commands h bytes) (omega arith))) }

pub write-unsettled : (fault : CloneFault) → IsWriteFault fault → IsSettled (clone_origin fault) → ⊥
write-unsettled (clone.BadClone place) is settled = is
write-unsettled (clone.Damaged rule number) is settled = is
write-unsettled clone.ReadFault is settled = settled
write-unsettled clone.WriteFault is settled = settled
write-unsettled clone.NoMemory is settled = settled

-- before the first command
pub held-start : (h : CloneHeader) (row : Row) (content : List ℕ) → row.bytes.items ≡ [] → row.place ≡ 0 → content ≡ laid_out h [] → IsHeld h [] row content
held-start h row content empty place is = record { written = 0; within = omega arith; place = sym place; parts = empty; laid = is }

-- one write makes the content that was asked, or leaves it
pub makes-wrote : {T E : Type 0} (w : Write) (text : List ℕ) (old new : ImageState) (result : Result T E) → Wrote (w ∷ []) old result new → IsTrue old.is_told
    → w.bytes ≡ text → Makes (overwrite w.place text old.content) old.content result new.content
makes-wrote w text old new (Ok x) is told same = record {
  whole = told-content_after (w ∷ []) old new is.whole told ∙ ap (λ xs. overwrite w.place xs old.content) same;
  part = tt;
}
makes-wrote {T = T} w text old new (Err e) is told same = record {
  whole = tt;
  part = elim (wrote-one {T = T} w old new e is told) [ inl left ↦ inl left | inr made ↦ inr (made ∙ ap (λ xs. overwrite w.place xs old.content) same) ];
}

-- ---- a whole restore

same-length : (len : ℕ) (old : ImageState) → IsSameDevice old (after_set_len len old)
unfolding after_set_len
same-length len old = record { told = refl; bears = refl; over = refl }

pub length-device : {T E : Type 0} (len : ℕ) (old new : ImageState) (result : Result T E) → SetLength len old result new → IsSameDevice old new
length-device len old new (Ok x) is = subst (IsSameDevice old) (sym is.whole) (same-length len old)
length-device len old new (Err e) is =
    elim is.part [ inl same ↦ subst (IsSameDevice old) (sym same) (record { told = refl; bears = refl; over = refl }) | inr asked ↦ subst (IsSameDevice old) (sym asked) (same-length len old) ]

pub told-length : (len : ℕ) (old : ImageState) → IsTrue old.is_told → (after_set_len len old).content ≡ resize_of len old.content
unfolding after_set_len
told-length len old told = both old.is_told told
  where
    both : (b : Bool) → IsTrue b → (if b then resize_of len old.content else old.content) ≡ resize_of len old.content
    both true is = refl
    both false is = absurd cc

-- an empty file that gets the device's length
pub makes-length : {T E : Type 0} (h : CloneHeader) (old new : ImageState) (result : Result T E) → SetLength h.device old result new → IsTrue old.is_told → old.content ≡ []
    → Makes (laid_out h []) [] result new.content
unfolding laid_out
makes-length h old new (Ok x) is told empty = record { whole = ap (λ (s : ImageState). s.content) is.whole ∙ told-length h.device old told ∙ ap (resize_of h.device) empty; part = tt }
makes-length h old new (Err e) is told empty = record {
  whole = tt;
  part = elim is.part [
    | inl same ↦ inl (ap (λ (s : ImageState). s.content) same ∙ empty)
    | inr asked ↦ inr (ap (λ (s : ImageState). s.content) asked ∙ told-length h.device old told ∙ ap (resize_of h.device) empty)
  ];
}

-- a fault before the first command
pub part-laid : (h : CloneHeader) (bytes content : List ℕ) → (content ≡ []) ⊎ (content ≡ laid_out h []) → IsPartOf h bytes content
part-laid h bytes content (inl none) = nothing none
part-laid h bytes content (inr laid) = front 0 laid

-- a fault that isn't settled
pub restored-cut : (h : CloneHeader) (bytes content : List ℕ) (fault : CloneFault) → (IsSettled (clone_origin fault) → ⊥) → IsPartOf h bytes content → IsRestored h bytes (Err fault) content
restored-cut h bytes content (clone.BadClone place) cut is = absurd (cut tt)
restored-cut h bytes content (clone.Damaged rule number) cut is = is
restored-cut h bytes content clone.ReadFault cut is = is
restored-cut h bytes content clone.WriteFault cut is = is
restored-cut h bytes content clone.NoMemory cut is = is

part-front : (h : CloneHeader) (bytes content : List ℕ) → IsFront h (right_commands h bytes) content → IsPartOf h bytes content
part-front h bytes content is = front is.written is.laid

-- the commands were not all written
pub restored-written : (h : CloneHeader) (bytes content : List ℕ) (fault : CloneFault) → IsWritten h bytes (Err fault) content → IsRestored h bytes (Err fault) content
unfolding restored_before
restored-written h bytes content (clone.BadClone place) is = is
restored-written h bytes content (clone.Damaged rule number) is = part-front h bytes content is
restored-written h bytes content clone.ReadFault is = part-front h bytes content is
restored-written h bytes content clone.WriteFault is = part-front h bytes content is
restored-written h bytes content clone.NoMemory is = part-front h bytes content is

-- they were, and end behind the tail
pub restored-tail : (h : CloneHeader) (bytes content : List ℕ) → content ≡ laid_out h (right_commands h bytes) → false ≡ nat_eq (covered (right_commands h bytes)) h.clusters
    → content ≡ restored h (right_commands h bytes)
unfolding restored
restored-tail h bytes content is tail = is ∙ sym (rw (sym tail) refl)

-- they were, and end before it
pub restored-backup : (h : CloneHeader) (bytes old new : List ℕ) → old ≡ laid_out h (right_commands h bytes) → true ≡ nat_eq (covered (right_commands h bytes)) h.clusters
    → new ≡ backed_up h old → new ≡ restored h (right_commands h bytes)
unfolding restored
restored-backup h bytes old new is tail made = made ∙ ap (backed_up h) is ∙ sym (rw (sym tail) refl)

pub part-backup : (h : CloneHeader) (bytes old new : List ℕ) → old ≡ laid_out h (right_commands h bytes) → true ≡ nat_eq (covered (right_commands h bytes)) h.clusters
    → (new ≡ old) ⊎ (new ≡ backed_up h old) → IsPartOf h bytes new
part-backup h bytes old new is tail (inl left) = front (length (right_commands h bytes)) (left ∙ is ∙ ap (laid_out h) (sym (take_all _ (right_commands h bytes) (omega arith))))
part-backup h bytes old new is tail (inr made) = whole (restored-backup h bytes old new is tail made)

pub file-unsettled : (fault : CloneFault) → IsFileFault fault → IsSettled (clone_origin fault) → ⊥
file-unsettled (clone.BadClone place) is settled = is
file-unsettled (clone.Damaged rule number) is settled = is
file-unsettled clone.ReadFault is settled = settled
file-unsettled clone.WriteFault is settled = settled
file-unsettled clone.NoMemory is settled = is

-- the answer with the backup
pub restored-last : (h : CloneHeader) (bytes old new : List ℕ) (result : Result (Unit {0}) CloneFault) → old ≡ laid_out h (right_commands h bytes) → true ≡ nat_eq (covered (right_commands h bytes)) h.clusters
    → Makes (backed_up h old) old result new → IfErr result IsFileFault → IsRestored h bytes result new
restored-last h bytes old new (Ok x) is tail makes fails = restored-backup h bytes old new is tail makes.whole
restored-last h bytes old new (Err fault) is tail makes fails = restored-cut h bytes new fault (file-unsettled fault fails) (part-backup h bytes old new is tail makes.part)

size-after : (len : ℕ) (old : ImageState) → (after_set_len len old).size ≡ len
unfolding after_set_len
size-after len old = refl

-- how long a file is after its length was to be set
pub length-size : {E : Type 0} (len : ℕ) (old new : ImageState) (done : Unit {0}) → SetLength {E = E} len old (Ok done) new → new.size ≡ len
length-size len old new done is = ap (λ (s : ImageState). s.size) is.whole ∙ size-after len old

pub length-sizes : {T E : Type 0} (len : ℕ) (old new : ImageState) (result : Result T E) → SetLength len old result new → old.size ≡ 0 → (new.size ≡ 0) ⊎ (new.size ≡ len)
length-sizes len old new (Ok x) is empty = inr (ap (λ (s : ImageState). s.size) is.whole ∙ size-after len old)
length-sizes len old new (Err e) is empty =
    elim is.part [ inl same ↦ inl (ap (λ (s : ImageState). s.size) same ∙ empty) | inr asked ↦ inr (ap (λ (s : ImageState). s.size) asked ∙ size-after len old) ]
