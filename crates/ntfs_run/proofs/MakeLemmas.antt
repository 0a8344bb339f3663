-- A volume that is made in a new file: its length, what is left of it, and the shelf afterwards.
use Rattle.std.proofs.Common.{◌≡◌, ◌<◌, ◌+◌, ◌-◌, ◌*◌, ℕ, Bool, true, false, cond, IsTrue, List, [], ◌∷◌, ◌++◌}
use Rattle.std.proofs.Common.{length, take, replicate, refl, sym, ap, subst, ◌∙◌, inl, inr, arith, Result, Ok, Err, Option, Some, IfErr, OnOk, is_none, if◌then◌else◌}
use Rattle.std.proofs.Math.Seq.{take-nil}
use Rattle.std.proofs.lemmas.Cmp.{nat_list_cmp_total}
use Rattle.std.proofs.lemmas.List.{get_or-replicate, length-replicate}
use Rattle.std.proofs.lemmas.List.FromFn.{length-map-range_with_len}
use Rattle.std.specs.FinMap.{get, insert, get-insert, same_map, slice_cmp-IsAntisymmetric, nat_cmp-IsAntisymmetric}
use Rattle.ntfs_base.specs.Growth.{SetLength, after_set_len, resize_of}
use Rattle.ntfs_base.specs.Image.{ImageState}
use Rattle.ntfs_base.specs.Shelf.{Files, ShelfState, after_create, after_release, file_of, without}
use Rattle.ntfs_base.specs.Writes.{byte_from}
use Rattle.ntfs_base.proofs.ShelfLemmas.{name_same}
use Rattle.ntfs_make.specs.Left.{IsZeroOrMade}
use Rattle.ntfs_make.specs.Volume.{volume_bytes_of, volume_writes}
use Rattle.std.proofs.lemmas.Result.{IfErr-weaker}
use Rattle.ntfs_base.specs.Causes.{HaveNotFallen}
use Rattle.ntfs_base.specs.Frames.{IsSettled, OnlyWrites, SinkHasNotFallen, must, ◌>>=◌}
use Rattle.ntfs_base.specs.Shelf.{IsCreated, added_count, has_name}
use Rattle.ntfs_base.specs.Sink.{SinkState, after_put}
use Rattle.ntfs_base.specs.declared.image.Image as image
use Rattle.ntfs_base.specs.declared.refusal.Named.TheVariants as named
use Rattle.ntfs_base.specs.declared.shelf.Shelf as shelf
use Rattle.ntfs_base.specs.declared.sink.Sink as sink
use Rattle.ntfs_base.proofs.AttachLemmas.{has_name-created}
use Rattle.ntfs_base.proofs.SinkLemmas.{after_put-nil}
use Rattle.ntfs_run.specs.Make.{FillRefuses, IsPart, MakeRefuses, make_work}
use Rattle.ntfs_run.specs.Outcome.{Does, MayWriteFiles, outcome_of, refused_with, status_of, status_origin}
use Rattle.ntfs_run.specs.declared.status.Status.{Status}
use Rattle.ntfs_run.specs.declared.status.Status.TheVariants as status
use Rattle.ntfs_run.proofs.ToolLemmas.{because_map, rose_released}

-- ---- an empty file at the volume's length

sized : (told : Bool) (len : ℕ) (content : List ℕ) → IsTrue told → content ≡ [] → cond told (take len content ++ replicate (len - length content) 0) content ≡ replicate len 0
sized true len content is empty =
    let all : len - 0 ≡ len = omega arith in
    ap (λ (c : List ℕ). take len c ++ replicate (len - length c) 0) empty ∙ ap (λ (t : List ℕ). t ++ replicate (len - 0) 0) (take-nil len) ∙ ap (λ n. replicate n 0) all
sized false len content is empty = absurd cc

-- an empty file at another length has zeros
pub sized-content : (len : ℕ) (file : ImageState) → IsTrue file.is_told → file.content ≡ [] → (after_set_len len file).content ≡ replicate len 0
unfolding after_set_len resize_of
sized-content len file told empty = sized file.is_told len file.content told empty

pub sized-size : (len : ℕ) (file : ImageState) → (after_set_len len file).size ≡ len
unfolding after_set_len
sized-size len file = refl

pub zeros-left : (seed clusters cluster : ℕ) → IsZeroOrMade seed clusters cluster (replicate ((clusters + 1) * cluster) 0)
zeros-left seed clusters cluster =
    let size = (clusters + 1) * cluster in
    record {
      len = length-replicate size 0;
      bytes = λ i short. inl (get_or-replicate size i 0 0 (subst (λ n. i < n) (length-replicate size 0) short));
    }

pub made-left : (seed clusters cluster : ℕ) → IsZeroOrMade seed clusters cluster (volume_bytes_of seed clusters cluster)
unfolding volume_bytes_of
made-left seed clusters cluster = record {
  len = length-map-range_with_len (λ place. byte_from (volume_writes seed clusters cluster) place 0) 0 ((clusters + 1) * cluster);
  bytes = λ i short. inr refl;
}

-- ---- an empty file whose length was set, and a volume that was made in it

pub set-told : (len : ℕ) (old new : ImageState) → new ≡ after_set_len len old → new.is_told ≡ old.is_told
unfolding after_set_len
set-told len old new is = ap (λ file. file.is_told) is

pub set-zeros : (len : ℕ) (old new : ImageState) → new ≡ after_set_len len old → (IsTrue old.is_told → old.content ≡ []) → IsTrue old.is_told → new.content ≡ replicate len 0
set-zeros len old new is empty told = ap (λ file. file.content) is ∙ sized-content len old told (empty told)

-- a length that may not have been set
pub set-left : {T E : Type 0} (seed clusters cluster len : ℕ) (fault : E) (old new : ImageState) → len ≡ (clusters + 1) * cluster → SetLength {T = T} len old (Err fault) new
    → (IsTrue old.is_told → old.content ≡ []) → IsTrue old.is_told → IsPart seed clusters cluster new.content
set-left seed clusters cluster len fault old new size is empty told = elim is.part [
  | inl same ↦ inl (ap (λ file. file.content) same ∙ empty told)
  | inr asked ↦ inr (subst (IsZeroOrMade seed clusters cluster)
      (sym (set-zeros len old new asked empty told ∙ ap (λ n. replicate n 0) size)) (zeros-left seed clusters cluster))
]

pub made-part : (seed clusters cluster : ℕ) (content : List ℕ) → content ≡ volume_bytes_of seed clusters cluster → IsPart seed clusters cluster content
made-part seed clusters cluster content is = inr (subst (IsZeroOrMade seed clusters cluster) (sym is) (made-left seed clusters cluster))

-- ---- the shelf

put_twice : (b : Bool) (first second here : Option (List ℕ)) → cond b second (cond b first here) ≡ cond b second here
put_twice true first second here = refl
put_twice false first second here = refl

insert-twice : (files : Files) (name first second : List ℕ) → insert (insert files name first) name second ≡ insert files name second
insert-twice files name first second =
    same_map nat_list_cmp_total (slice_cmp-IsAntisymmetric nat_cmp-IsAntisymmetric) (insert (insert files name first) name second) (insert files name second)
    (λ q. get-insert nat_list_cmp_total (insert files name first) name second q ∙ ap (cond _ (Some second)) (get-insert nat_list_cmp_total files name first q)
    ∙ put_twice _ (Some first) (Some second) (get files q) ∙ sym (get-insert nat_list_cmp_total files name second q))

made-files : (told : Bool) (files : Files) (name bytes : List ℕ) → IsTrue told
    → cond told (insert (cond told (insert files name []) files) name bytes) (cond told (insert files name []) files) ≡ insert files name bytes
made-files true files name bytes is = insert-twice files name [] bytes
made-files false files name bytes is = absurd cc

-- a file that was made and comes back stands under its name
pub created-files : (name : List ℕ) (shelf : ShelfState) (file : ImageState) → file.name ≡ name → IsTrue shelf.is_told
    → (after_release file (after_create name shelf)).files ≡ insert shelf.files name file.content
unfolding after_release after_create
created-files name shelf file named told =
    ap (λ n. cond shelf.is_told (insert (cond shelf.is_told (insert shelf.files name []) shelf.files) n file.content) (cond shelf.is_told (insert shelf.files name []) shelf.files)) named
    ∙ made-files shelf.is_told shelf.files name file.content told

-- and no name of it is attached any more
pub created-attached : (name : List ℕ) (shelf : ShelfState) (file : ImageState) → file.name ≡ name → (after_release file (after_create name shelf)).attached ≡ shelf.attached
unfolding after_release after_create
created-attached name shelf file named = ap (λ b. if b then shelf.attached else name ∷ without file.name shelf.attached) (name_same file.name name named)

-- ---- the tool

-- the file's name is attached until it is released
pub filled_is_attached : {S F : Type 0} {fresh : Bool} (s : shelf.Ghosts S F) (f : image.Ghosts F) (old held : S) (file filled : F) (name : List ℕ)
    → IsCreated (s.seen old) name fresh (f.seen file) (f.faults file) → s.seen held ≡ after_create name (s.seen old)
    → (f.seen filled).name ≡ (f.seen file).name → has_name (f.seen filled).name (s.seen held).attached ≡ true
filled_is_attached s f old held file filled name out created named =
    ap (λ shelf. has_name (f.seen filled).name shelf.attached) created ∙ has_name-created name (s.seen old) (f.seen filled) (named ∙ out.bears)

-- what the shelf is then
pub released_files : {S F : Type 0} {fresh : Bool} (s : shelf.Ghosts S F) (f : image.Ghosts F) (old held new : S) (file filled : F) (name : List ℕ)
    → IsCreated (s.seen old) name fresh (f.seen file) (f.faults file) → s.seen held ≡ after_create name (s.seen old)
    → (f.seen filled).name ≡ (f.seen file).name → s.seen new ≡ after_release (f.seen filled) (s.seen held) → IsTrue (s.seen old).is_told
    → (s.seen new).files ≡ insert (s.seen old).files name (f.seen filled).content
released_files s f old held new file filled name out created named released told =
    ap (λ shelf. shelf.files) (released ∙ ap (after_release (f.seen filled)) created)
    ∙ created-files name (s.seen old) (f.seen filled) (named ∙ out.bears) told

pub released_attached : {S F : Type 0} {fresh : Bool} (s : shelf.Ghosts S F) (f : image.Ghosts F) (old held new : S) (file filled : F) (name : List ℕ)
    → IsCreated (s.seen old) name fresh (f.seen file) (f.faults file) → s.seen held ≡ after_create name (s.seen old)
    → (f.seen filled).name ≡ (f.seen file).name → s.seen new ≡ after_release (f.seen filled) (s.seen held) → (s.seen new).attached ≡ (s.seen old).attached
released_attached s f old held new file filled name out created named released =
    ap (λ shelf. shelf.attached) (released ∙ ap (after_release (f.seen filled)) created)
    ∙ created-attached name (s.seen old) (f.seen filled) (named ∙ out.bears)

pub created-told : (name : List ℕ) (file : ImageState) (shelf : ShelfState) → (after_release file (after_create name shelf)).is_told ≡ shelf.is_told
unfolding after_release after_create
created-told name file shelf = refl

made_refuses : (fault : Status) → FillRefuses fault → MakeRefuses fault
made_refuses status.WriteFault is = tt
made_refuses status.NoMemory is = tt
made_refuses other is = absurd is

not_settled : (fault : Status) → FillRefuses fault → IsSettled (status_origin fault) → ⊥
not_settled status.WriteFault is settled = settled
not_settled status.NoMemory is settled = settled
not_settled other is settled = is

pub on_ok : {T E P : Type 0} (result : Result T E) → P → OnOk result P
on_ok (Ok x) is = is
on_ok (Err fault) is = tt

pub runs_made : {S F K : Type 0} (s : shelf.Ghosts S F) (f : image.Ghosts F) (k : sink.Ghosts K) (old held new : S) (file filled : F)
    (before after : K) (name : List ℕ) (result : Result (Unit {0}) Status) → (s.seen old).attached ≡ []
    → IsCreated (s.seen old) name true (f.seen file) (f.faults file) → s.seen held ≡ after_create name (s.seen old)
    → HaveNotFallen (s.faults old) (s.faults held) → (f.seen filled).name ≡ (f.seen file).name
    → OnlyWrites f status_origin file filled result → IfErr result FillRefuses → SinkHasNotFallen (k.faults before) (k.faults after)
    → k.is_flushed after ≡ true → s.seen new ≡ after_release (f.seen filled) (s.seen held)
    → (s.faults new).writes ≡ added_count (s.faults held).writes (f.faults filled).writes → HaveNotFallen (s.faults held) (s.faults new)
    → MayWriteFiles s k MakeRefuses old new before after result
runs_made s f k old held new file filled before after name result none out created kept named fills refusal puts flushed released writes counts = record {
  told = ap (λ shelf. shelf.is_told) (released ∙ ap (after_release (f.seen filled)) created) ∙ created-told name (f.seen filled) (s.seen old);
  detached = released_attached s f old held new file filled name out created named released ∙ none;
  counts = record { reads = omega (arith, kept.reads, counts.reads); writes = omega (arith, kept.writes, counts.writes) };
  puts = puts;
  cause = IfErr-weaker result _ _ (λ fault. because_map (status_origin fault) (λ no. absurd no)
      (λ rose. inl (rose_released _ (s.faults held).writes _ (f.faults file).writes (f.faults filled).writes kept.writes writes out.writes rose))
      (λ want. want)) fills.cause;
  refusal = IfErr-weaker result _ _ made_refuses refusal;
  flushed = on_ok result flushed;
}

made_of : (name : List ℕ) (seed clusters cluster : ℕ) (files : Files) → must (is_none (file_of files name)) (status.Present named.Output) ≡ Ok tt
    → make_work name seed clusters cluster files ≡ Ok (record { output = []; files = insert files name (volume_bytes_of seed clusters cluster) })
unfolding make_work
made_of name seed clusters cluster files free =
    ap (λ r. r >>= (λ free. Ok (record { output = []; files = insert files name (volume_bytes_of seed clusters cluster) }))) free

-- the outcome where the file couldn't be made
pub work_refused : (name : List ℕ) (seed clusters cluster : ℕ) (files : Files) (fault : Status)
    → must (is_none (file_of files name)) (status.Present named.Output) ≡ Err fault
    → outcome_of files (make_work name seed clusters cluster files) ≡ refused_with fault files
unfolding make_work
work_refused name seed clusters cluster files fault is =
    ap (λ r. outcome_of files (r >>= (λ free. Ok (record { output = []; files = insert files name (volume_bytes_of seed clusters cluster) })))) is

-- and where it was
pub does_made : (name : List ℕ) (seed clusters cluster : ℕ) (old new : Files) (content : List ℕ) (before after : SinkState)
    (result : Result (Unit {0}) Status) → after ≡ before → must (is_none (file_of old name)) (status.Present named.Output) ≡ Ok tt → new ≡ insert old name content
    → OnOk result (content ≡ volume_bytes_of seed clusters cluster) → IfErr result FillRefuses
    → Does (outcome_of old (make_work name seed clusters cluster old)) (status_of result) before after new
does_made name seed clusters cluster old new content before after (Ok x) same free is done refusal =
    let work = made_of name seed clusters cluster old free in
    record {
      status = λ settled. sym (ap (λ w. (outcome_of old w).status) work);
      output = λ settled. same ∙ sym (ap (λ w. after_put (outcome_of old w).output before) work ∙ after_put-nil before);
      files = λ settled. is ∙ ap (insert old name) done ∙ sym (ap (λ w. (outcome_of old w).files) work);
      prefix = (0, omega arith, same ∙ sym (after_put-nil before));
    }
does_made name seed clusters cluster old new content before after (Err fault) same free is done refusal = record {
  status = λ settled. absurd (not_settled fault refusal settled);
  output = λ settled. absurd (not_settled fault refusal settled);
  files = λ settled. absurd (not_settled fault refusal settled);
  prefix = (0, omega arith, same ∙ sym (after_put-nil before));
}
