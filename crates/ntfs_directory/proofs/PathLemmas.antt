-- Paths: their parts, the refusals of a volume where a part is looked up, and the search of a walk for a name.
use Rattle.std.proofs.Common.{◌≡◌, ◌≢◌, ◌+◌, ◌<◌, ◌==◌, ℕ, suc, Bool, true, false, List, [], ◌∷◌, ◌++◌, length, get_or, Option, Some, None, Result, Ok, Err, if◌then◌else◌, refl, ap, ◌∙◌, arith, length-append}
use Rattle.std.specs.Prelude.{find}
use Rattle.std.specs.Option.{option_map}
use Rattle.std.proofs.lemmas.Bool.{ne_eqb}
use Rattle.ntfs_base.specs.Causes.{Rose}
use Rattle.ntfs_base.specs.Frames.{Because, IsSettled, OnlyReads, ◌>>=◌}
use Rattle.ntfs_base.specs.declared.image.Image as image
use Rattle.ntfs_boot.specs.declared.geometry.Geometry.{Geometry}
use Rattle.ntfs_directory.specs.Directory.{DirectoryWalk, begun_walk, only_refused}
use Rattle.ntfs_directory.specs.Entries.{entry_record}
use Rattle.ntfs_directory.specs.Paths.{IsPathRefusal, chosen, directory_at, entry_found, has_like_name, has_units, named_in, no_part, or_like, part_in, parts_from, path_fault, path_of, path_origin, path_parts, pieces_of, record_below_root, record_of_parts, reference_in, reference_of, root_number, root_record}
use Rattle.ntfs_directory.specs.State.{entry_before, whole}
use Rattle.ntfs_directory.specs.UpCase.{up_case_of}
use Rattle.ntfs_directory.specs.declared.entries.EntryRecord.{EntryRecord}
use Rattle.ntfs_directory.specs.declared.path_fault.PathFault.{PathFault}
use Rattle.ntfs_index.specs.Node.{IndexEntry}
use Rattle.ntfs_volume.specs.MftMap.{Map}
use Rattle.ntfs_volume.specs.Fault.{volume_origin}
use Rattle.ntfs_volume.specs.declared.fault.VolumeFault.{VolumeFault}
use Rattle.ntfs_volume.specs.declared.fault.VolumeFault.TheVariants as volume

-- ---- the pieces of a path

-- no slash stands among these bytes
abbrev pub HasNoSlash : List ℕ → Type 0
HasNoSlash bytes = (i : ℕ) → i < length bytes → get_or bytes i 0 ≢ 47

no_slash-rest : (byte : ℕ) (bytes : List ℕ) → HasNoSlash (byte ∷ bytes) → HasNoSlash bytes
no_slash-rest byte bytes none i within = none (suc i) (omega (arith, within))

no_slash-first : (byte : ℕ) (bytes : List ℕ) → HasNoSlash (byte ∷ bytes) → (byte == 47) ≡ false
no_slash-first byte bytes none = ne_eqb byte 47 (none 0 (omega arith))

-- bytes without a slash are one piece
pieces-whole : (bytes : List ℕ) → HasNoSlash bytes → pieces_of bytes ≡ bytes ∷ []
unfolding pieces_of
pieces-whole [] none = refl
pieces-whole (byte ∷ bytes) none =
    let first = no_slash-first byte bytes none in
    let rest = pieces-whole bytes (no_slash-rest byte bytes none) in
    rw (first, rest) refl

-- what stands before a slash is the first
pieces-split : (front rest : List ℕ) → HasNoSlash front → pieces_of (front ++ 47 ∷ rest) ≡ front ∷ pieces_of rest
unfolding pieces_of
pieces-split [] rest none = refl
pieces-split (byte ∷ front) rest none =
    let first = no_slash-first byte front none in
    let others = pieces-split front rest (no_slash-rest byte front none) in
    rw (first, others) refl

-- ---- the parts

-- nothing is no part
pub parts-empty : (path : List ℕ) → length path ≡ 0 → path_parts path ≡ []
unfolding path_parts pieces_of
parts-empty [] none = refl
parts-empty (byte ∷ bytes) none = absurd (omega (arith, none))

-- without a slash there is one part
pub parts-one : (path : List ℕ) → (length path == 0) ≡ false → HasNoSlash path
    → path_parts path ≡ path ∷ path_parts []
unfolding path_parts pieces_of
parts-one [] some none = cc
parts-one (byte ∷ bytes) some none = let pieces = pieces-whole (byte ∷ bytes) none in rw pieces refl

-- what stands before the first slash is a part, where it isn't empty
pub parts-first : (path front rest : List ℕ) → path ≡ front ++ 47 ∷ rest → HasNoSlash front
    → (length front == 0) ≡ false → path_parts path ≡ front ∷ path_parts rest
unfolding path_parts
parts-first path [] rest is none some = cc
parts-first path (byte ∷ front) rest is none some =
    let pieces = pieces-split (byte ∷ front) rest none in rw (is, pieces) refl

pub parts-behind : (path front rest : List ℕ) → path ≡ front ++ 47 ∷ rest → length front ≡ 0
    → path_parts path ≡ path_parts rest
unfolding path_parts pieces_of
parts-behind path [] rest is empty = rw is refl
parts-behind path (byte ∷ front) rest is empty = absurd (omega (arith, empty))

-- what stands behind a slash is shorter
pub shorter : (path front rest : List ℕ) → path ≡ front ++ 47 ∷ rest → length rest < length path
shorter path front rest is = let long = ap length is ∙ length-append front (47 ∷ rest) in omega (arith, long)

-- ---- refusals

module _ (k : ℕ) where
  pub settled-path : (fault : VolumeFault) → IsSettled (path_origin (path_fault k fault))
      → IsSettled (volume_origin fault)
  settled-path volume.NotNtfs settled = tt
  settled-path (volume.BadGeometry field value) settled = tt
  settled-path (volume.ImageShort len need) settled = tt
  settled-path (volume.Damaged rule number) settled = tt
  settled-path volume.Absent settled = tt
  settled-path volume.NoAttribute settled = tt
  settled-path volume.ReadFault settled = settled
  settled-path volume.WriteFault settled = settled
  settled-path volume.NoMemory settled = settled

  because-path : (fault : VolumeFault) (read : Type 0) → Because (volume_origin fault) read ⊥ (Unit {0})
      → Because (path_origin (path_fault k fault)) read ⊥ (Unit {0})
  because-path volume.NotNtfs read because = tt
  because-path (volume.BadGeometry field value) read because = tt
  because-path (volume.ImageShort len need) read because = tt
  because-path (volume.Damaged rule number) read because = tt
  because-path volume.Absent read because = tt
  because-path volume.NoAttribute read because = tt
  because-path volume.ReadFault read because = because
  because-path volume.WriteFault read because = absurd because
  because-path volume.NoMemory read because = because

  pub listed-path : (fault : VolumeFault) → IsPathRefusal (path_fault k fault)
  listed-path volume.NotNtfs = tt
  listed-path (volume.BadGeometry field value) = tt
  listed-path (volume.ImageShort len need) = tt
  listed-path (volume.Damaged rule number) = tt
  listed-path volume.Absent = tt
  listed-path volume.NoAttribute = tt
  listed-path volume.ReadFault = tt
  listed-path volume.WriteFault = tt
  listed-path volume.NoMemory = tt

  -- a refused call that only reads, as that of a path
  pub reads-path : {G T U : Type 0} (g : image.Ghosts G) (old new : G) (fault : VolumeFault)
      → OnlyReads {T = T} g volume_origin old new (Err fault)
      → OnlyReads {T = U} g path_origin old new (Err (path_fault k fault))
  reads-path g old new fault reads = record {
    seen = reads.seen;
    counts = reads.counts;
    cause = because-path fault (Rose (g.faults old).reads (g.faults new).reads) reads.cause;
  }

-- ---- the search of a walk

-- the reference that was alike first
abbrev pub first_like : Option ℕ → Option ℕ → Option ℕ
first_like None other = other
first_like (Some first) other = Some first

-- what a walk gives where this reference was alike before it
abbrev pub named_with : List ℕ → List ℕ → Option ℕ → DirectoryWalk → Result (Option ℕ) VolumeFault
named_with upper name like walk =
    chosen (option_map reference_of (find (has_units name) walk.entries)) walk.fault
    (first_like like (option_map reference_of (find (has_like_name upper name) walk.entries)))

like-none : (like : Option ℕ) → first_like like None ≡ like
like-none None = refl
like-none (Some first) = refl

like-more : (like : Option ℕ) (is_like : Bool) (entry : IndexEntry) (rest : Option IndexEntry)
    → first_like like (option_map reference_of (if is_like then Some entry else rest))
    ≡ first_like (or_like like is_like entry.reference) (option_map reference_of rest)
like-more (Some first) is_like entry rest = refl
like-more None true entry rest = refl
like-more None false entry rest = refl

module _ (upper name : List ℕ) where
  pub named-start : (walk : DirectoryWalk) → named_with upper name None walk ≡ named_in upper name walk
  unfolding named_in
  named-start walk = refl

  pub named-end : (like : Option ℕ) → named_with upper name like whole ≡ Ok like
  named-end like = ap Ok (like-none like)

  pub named-fault : (like : Option ℕ) (fault : VolumeFault)
      → named_with upper name like (only_refused fault) ≡ Err fault
  named-fault like fault = refl

  module _ (like : Option ℕ) (entry : IndexEntry) (rest : DirectoryWalk) where
    pub named-same : has_units name entry ≡ true
        → named_with upper name like (entry_before entry rest) ≡ Ok (Some entry.reference)
    named-same same = rw same refl

    pub named-other : has_units name entry ≡ false
        → named_with upper name like (entry_before entry rest)
        ≡ named_with upper name (or_like like (has_like_name upper name entry) entry.reference) rest
    named-other other =
        let more = like-more like (has_like_name upper name entry) entry (find (has_like_name upper name) rest.entries) in
        rw other (ap (chosen (option_map reference_of (find (has_units name) rest.entries)) rest.fault) more)

-- ---- directories and parts over an image

module _ (g : Geometry) (map : Map) (content upper : List ℕ) where
  -- the search of the walk that a directory begins with
  pub reference-walked : (d : ℕ) (name : List ℕ) (walk : DirectoryWalk) → begun_walk g map content d ≡ Ok walk
      → named_in upper name walk ≡ reference_in g map content upper d name
  unfolding reference_in
  reference-walked d name walk begun = rw begun refl

  pub reference-refused : (d : ℕ) (name : List ℕ) (fault : VolumeFault) → begun_walk g map content d ≡ Err fault
      → reference_in g map content upper d name ≡ Err fault
  unfolding reference_in
  reference-refused d name fault begun = rw begun refl

  module _ (d : ℕ) (name : List ℕ) where
    pub found-none : reference_in g map content upper d name ≡ Ok None → entry_found g map content upper d name ≡ Ok None
    unfolding entry_found
    found-none is = rw is refl

    pub found-refused : (fault : VolumeFault) → reference_in g map content upper d name ≡ Err fault
        → entry_found g map content upper d name ≡ Err fault
    unfolding entry_found
    found-refused fault is = rw is refl

    pub found-some : (reference : ℕ) (found : EntryRecord) → reference_in g map content upper d name ≡ Ok (Some reference)
        → entry_record g map content d reference ≡ Ok found → entry_found g map content upper d name ≡ Ok (Some found)
    unfolding entry_found
    found-some reference found is entry = rw (is, entry) refl

    pub found-bad : (reference : ℕ) (fault : VolumeFault) → reference_in g map content upper d name ≡ Ok (Some reference)
        → entry_record g map content d reference ≡ Err fault → entry_found g map content upper d name ≡ Err fault
    unfolding entry_found
    found-bad reference fault is entry = rw (is, entry) refl

  module _ (k : ℕ) (at : EntryRecord) (all : List (List ℕ)) where
    pub parts-end : all ≡ [] → parts_from g map content upper k at all ≡ Ok at
    unfolding parts_from
    parts-end none = rw none refl

    module _ (part : List ℕ) (parts : List (List ℕ)) (some : all ≡ part ∷ parts) where
      pub parts-next : (next : EntryRecord) → part_in g map content upper k at part ≡ Ok next
          → parts_from g map content upper k at all ≡ parts_from g map content upper (k + 1) next parts
      unfolding parts_from
      parts-next next is = rw (some, is) refl

      pub parts-refused : (fault : PathFault) → part_in g map content upper k at part ≡ Err fault
          → parts_from g map content upper k at all ≡ Err fault
      unfolding parts_from
      parts-refused fault is = rw (some, is) refl

module _ (g : Geometry) (map : Map) (content : List ℕ) (parts : List (List ℕ)) where
  pub below-refused : (fault : VolumeFault) → up_case_of g map content ≡ Err fault
      → record_below_root g map content parts ≡ Err (path_fault 0 fault)
  unfolding record_below_root
  below-refused fault is = rw is refl

  pub below-rootless : (upper : List ℕ) (fault : PathFault) → up_case_of g map content ≡ Ok upper
      → root_record g map content ≡ Err fault → record_below_root g map content parts ≡ Err fault
  unfolding record_below_root
  below-rootless upper fault is root = rw (is, root) refl

  pub below-walked : (upper : List ℕ) (root : EntryRecord) → up_case_of g map content ≡ Ok upper
      → root_record g map content ≡ Ok root
      → parts_from g map content upper 0 root parts ≡ record_below_root g map content parts
  unfolding record_below_root
  below-walked upper root is found = rw (is, found) refl

  pub record-none : parts ≡ [] → root_record g map content ≡ record_of_parts g map content parts
  record-none none = rw none refl

  pub record-some : (part : List ℕ) (rest : List (List ℕ)) → parts ≡ part ∷ rest
      → record_below_root g map content parts ≡ record_of_parts g map content parts
  record-some part rest some = rw some refl

-- the number of a record that was found
abbrev number_of_record : Result EntryRecord PathFault → Result ℕ PathFault
number_of_record (Ok found) = Ok found.number
number_of_record (Err fault) = Err fault

module _ (g : Geometry) (map : Map) (content path : List ℕ) where
  pub number-none : path_parts path ≡ [] → path_of g map content path ≡ Ok root_number
  unfolding path_of
  number-none none = rw none refl

  number-by : (part : List ℕ) (rest : List (List ℕ)) → path_parts path ≡ part ∷ rest
      → path_of g map content path ≡ number_of_record (record_below_root g map content (path_parts path))
  unfolding path_of
  number-by part rest some = rw some (by (record_below_root g map content (part ∷ rest)))
    where
      by : (found : Result EntryRecord PathFault) → (found >>= (λ f. Ok f.number)) ≡ number_of_record found
      by (Ok found) = refl
      by (Err fault) = refl

  pub number-some : (part : List ℕ) (rest : List (List ℕ)) (found : EntryRecord) → path_parts path ≡ part ∷ rest
      → record_below_root g map content (path_parts path) ≡ Ok found → path_of g map content path ≡ Ok found.number
  number-some part rest found some is = number-by part rest some ∙ ap number_of_record is

  pub number-refused : (part : List ℕ) (rest : List (List ℕ)) (fault : PathFault) → path_parts path ≡ part ∷ rest
      → record_below_root g map content (path_parts path) ≡ Err fault → path_of g map content path ≡ Err fault
  number-refused part rest fault some is = number-by part rest some ∙ ap number_of_record is

  pub directory-refused : (fault : PathFault) → record_of_parts g map content (path_parts path) ≡ Err fault
      → directory_at g map content path ≡ Err fault
  unfolding directory_at
  directory-refused fault is = rw is refl

  pub directory-found : (found : EntryRecord) → record_of_parts g map content (path_parts path) ≡ Ok found
      → found.is_directory ≡ true → directory_at g map content path ≡ Ok found.number
  unfolding directory_at
  directory-found found is directory = rw (is, directory) refl

  pub directory-other : (found : EntryRecord) → record_of_parts g map content (path_parts path) ≡ Ok found
      → found.is_directory ≡ false → directory_at g map content path ≡ Err (no_part (length (path_parts path)))
  unfolding directory_at
  directory-other found is file = rw (is, file) refl
