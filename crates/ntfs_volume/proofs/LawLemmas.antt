-- The laws of the map and of records.
use Rattle.std.proofs.Common.{◌≡◌, ◌++◌, ℕ, List, [], ◌∷◌, refl, sym, ap, ◌∙◌, subst, append_assoc, Bool, true, false, Option, Some, None, Result, Ok, Err}
use Rattle.std.specs.Option.{ok_or}
use Rattle.std.proofs.lemmas.List.{append-nil}
use Rattle.ntfs_attrlist.specs.Entry.{Listed}
use Rattle.ntfs_base.specs.Bytes.{stream}
use Rattle.ntfs_base.specs.Frames.{must, refused_as, ◌>>=◌}
use Rattle.ntfs_boot.specs.declared.geometry.Geometry.{Geometry}
use Rattle.ntfs_fixup.specs.Fixups.{unfix_of}
use Rattle.ntfs_fixup.specs.declared.header.Magic.TheVariants.{File}
use Rattle.ntfs_fixup.specs.declared.unfixing.FixFault.{FixFault}
use Rattle.ntfs_record.specs.FileRecord.{FileRecord}
use Rattle.ntfs_record.specs.Parsing.{parse_of}
use Rattle.ntfs_record.specs.Slots.{is_in_use, live_slot, record_in, slot_of, sound_slot, tells_own, unsound_slot}
use Rattle.ntfs_record.proofs.SlotLemmas.{slot-idle, slot-live, slot-other, slot-own}
use Rattle.ntfs_record.specs.declared.fault.RecordFault.{RecordFault}
use Rattle.ntfs_volume.proofs.AnswerLemmas.{bind-ok}
use Rattle.ntfs_volume.specs.Laws.{AgreeAt}
use Rattle.ntfs_volume.specs.MftMap.{Map, extension_of, extent_of_entry, further}
use Rattle.ntfs_volume.specs.Records.{raw_record, read_of, unfixed_record, unsound}
use Rattle.ntfs_volume.specs.declared.fault.VolumeFault.{VolumeFault}
use Rattle.ntfs_volume.specs.declared.fault.VolumeFault.TheVariants as volume

pub grows : (g : Geometry) (f : ℕ → List ℕ) (valid : ℕ) (first : FileRecord) (known : List ℕ) (entries : List Listed) (all : List ℕ)
    → further g f valid first known entries ≡ Ok all → (rest : List ℕ) × (all ≡ known ++ rest)
unfolding further
grows g f valid first known [] all is = ([], let same : known ≡ all = cc in sym same ∙ sym (append-nil known))
grows g f valid first known (entry ∷ entries) all is =
    let step = bind-ok (extent_of_entry g f valid first known entry) (λ more. further g f valid first (known ++ more) entries) all is in
    let rest = grows g f valid first (known ++ step.0) entries all step.2 in
    (step.0 ++ rest.0, rest.1 ∙ append_assoc known step.0 rest.0)

pub agree-front : (f h : ℕ → List ℕ) (front rest : List ℕ) → AgreeAt f h (front ++ rest) → AgreeAt f h front
agree-front f h [] rest are = tt
agree-front f h (k ∷ front) rest are = (are.0, agree-front f h front rest are.1)

pub agree-stream : (f h : ℕ → List ℕ) (ks : List ℕ) → AgreeAt f h ks → stream f ks ≡ stream h ks
agree-stream f h [] are = refl
agree-stream f h (k ∷ ks) are = ap (λ xs. xs ++ stream f ks) are.0 ∙ ap (λ xs. h k ++ xs) (agree-stream f h ks are.1)

same-extent : (g : Geometry) (f h : ℕ → List ℕ) (valid : ℕ) (first : FileRecord) (known : List ℕ) (entry : Listed) → AgreeAt f h known
    → extent_of_entry g f valid first known entry ≡ extent_of_entry g h valid first known entry
unfolding extent_of_entry extension_of
same-extent g f h valid first known entry are = rw (agree-stream f h known are) refl

pub agrees : (g : Geometry) (f h : ℕ → List ℕ) (valid : ℕ) (first : FileRecord) (known : List ℕ) (entries : List Listed) (all : List ℕ) → AgreeAt f h all
    → further g f valid first known entries ≡ Ok all → further g h valid first known entries ≡ Ok all
unfolding further
agrees g f h valid first known [] all are is = is
agrees g f h valid first known (entry ∷ entries) all are is =
    let whole = grows g f valid first known (entry ∷ entries) all is in
    let front = agree-front f h known whole.0 (subst (AgreeAt f h) whole.1 are) in
    let step = bind-ok (extent_of_entry g f valid first known entry) (λ more. further g f valid first (known ++ more) entries) all is in
    let same = sym (same-extent g f h valid first known entry front) ∙ step.1 in
    ap (λ (r : Result (List ℕ) VolumeFault). r >>= (λ more. further g h valid first (known ++ more) entries)) same
    ∙ agrees g f h valid first (known ++ step.0) entries all are step.2

pub same-records : (g : Geometry) (map : Map) (f h : ℕ → List ℕ) (r : ℕ) → AgreeAt f h map.clusters → read_of g map f r ≡ read_of g map h r
unfolding read_of raw_record
same-records g map f h r are = rw (agree-stream f h map.clusters are) refl

-- ---- the record of a number and its slot

said_of : (raw block : List ℕ) (said : FileRecord) → unfix_of File raw ≡ Ok block → parse_of block ≡ Ok said → record_in raw ≡ Some said
unfolding record_in
said_of raw block said whole is = rw (whole, is) refl

torn_of : (raw : List ℕ) (fault : FixFault) → unfix_of File raw ≡ Err fault → record_in raw ≡ None
unfolding record_in
torn_of raw fault torn = rw torn refl

wrong_of : (raw block : List ℕ) (fault : RecordFault) → unfix_of File raw ≡ Ok block → parse_of block ≡ Err fault → record_in raw ≡ None
unfolding record_in
wrong_of raw block fault whole is = rw (whole, is) refl

-- what is answered of a record, by all that it may be
record IsAnswer (r : ℕ) (raw : Option (List ℕ)) (result : Result (List ℕ) VolumeFault) : Type 0 where
  read : (block : List ℕ) → result ≡ Ok block → (said : FileRecord) × (parse_of block ≡ Ok said) × (slot_of r raw ≡ sound_slot said)
  absent : result ≡ Err volume.Absent → (slot_of r raw).is_live ≡ false
  wrong : result ≡ Err (unsound r) → slot_of r raw ≡ unsound_slot

last : (r : ℕ) (raw block : List ℕ) (said : FileRecord) (own : Bool) → is_in_use raw ≡ true → unfix_of File raw ≡ Ok block → parse_of block ≡ Ok said → tells_own r said.layout.number ≡ own
    → IsAnswer r (Some raw) (must own (unsound r) >>= (λ _. Ok block))
last r raw block said true live whole is own = record {
  read = λ other same. (said, subst (λ (b : List ℕ). parse_of b ≡ Ok said) (let e : block ≡ other = cc in e) is, slot-own r raw said live (said_of raw block said whole is) own);
  absent = λ no. absurd cc;
  wrong = λ no. absurd cc;
}
last r raw block said false live whole is own = record {
  read = λ other same. absurd cc;
  absent = λ no. absurd cc;
  wrong = λ same. slot-other r raw said live (said_of raw block said whole is) own;
}

parsed : (r : ℕ) (raw block : List ℕ) (p : Result FileRecord RecordFault) → is_in_use raw ≡ true → unfix_of File raw ≡ Ok block → parse_of block ≡ p
    → IsAnswer r (Some raw) (refused_as (λ _. unsound r) p >>= (λ said. must (tells_own r said.layout.number) (unsound r) >>= (λ _. Ok block)))
parsed r raw block (Ok said) live whole is = last r raw block said (tells_own r said.layout.number) live whole is refl
parsed r raw block (Err fault) live whole is = record {
  read = λ other same. absurd cc;
  absent = λ no. absurd cc;
  wrong = λ same. slot-live r raw live ∙ ap (live_slot r) (wrong_of raw block fault whole is);
}

fixed : (r : ℕ) (raw : List ℕ) (u : Result (List ℕ) FixFault) → is_in_use raw ≡ true → unfix_of File raw ≡ u
    → IsAnswer r (Some raw) (refused_as (λ _. unsound r) u >>= (λ block. refused_as (λ _. unsound r) (parse_of block) >>= (λ said. must (tells_own r said.layout.number) (unsound r) >>= (λ _. Ok block))))
fixed r raw (Ok block) live is = parsed r raw block (parse_of block) live is refl
fixed r raw (Err fault) live is = record {
  read = λ other same. absurd cc;
  absent = λ no. absurd cc;
  wrong = λ same. slot-live r raw live ∙ ap (live_slot r) (torn_of raw fault is);
}

used : (r : ℕ) (raw : List ℕ) (live : Bool) → is_in_use raw ≡ live
    → IsAnswer r (Some raw) (must live volume.Absent >>= (λ _. refused_as (λ _. unsound r) (unfix_of File raw) >>= (λ block. refused_as (λ _. unsound r) (parse_of block) >>= (λ said. must (tells_own r said.layout.number) (unsound r) >>= (λ _. Ok block)))))
used r raw true is = fixed r raw (unfix_of File raw) is refl
used r raw false is = record {
  read = λ other same. absurd cc;
  absent = λ same. ap (λ s. s.is_live) (slot-idle r raw is);
  wrong = λ no. absurd cc;
}

none : (r : ℕ) → IsAnswer r None (Err volume.Absent)
unfolding slot_of
none r = record {
  read = λ other same. absurd cc;
  absent = λ same. refl;
  wrong = λ no. absurd cc;
}

answer : (r : ℕ) (raw : Option (List ℕ)) → IsAnswer r raw (ok_or raw volume.Absent >>= unfixed_record r)
unfolding unfixed_record
answer r None = none r
answer r (Some raw) = used r raw (is_in_use raw) refl

all-answers : (g : Geometry) (map : Map) (f : ℕ → List ℕ) (r : ℕ) → IsAnswer r (raw_record g map f r) (read_of g map f r)
unfolding read_of
all-answers g map f r = answer r (raw_record g map f r)

pub slot-read : (g : Geometry) (map : Map) (f : ℕ → List ℕ) (r : ℕ) (block : List ℕ) → read_of g map f r ≡ Ok block
    → (said : FileRecord) × (parse_of block ≡ Ok said) × (slot_of r (raw_record g map f r) ≡ sound_slot said)
slot-read g map f r block is = (all-answers g map f r).read block is

pub slot-absent : (g : Geometry) (map : Map) (f : ℕ → List ℕ) (r : ℕ) → read_of g map f r ≡ Err volume.Absent → (slot_of r (raw_record g map f r)).is_live ≡ false
slot-absent g map f r is = (all-answers g map f r).absent is

pub slot-wrong : (g : Geometry) (map : Map) (f : ℕ → List ℕ) (r : ℕ) → read_of g map f r ≡ Err (unsound r) → slot_of r (raw_record g map f r) ≡ unsound_slot
slot-wrong g map f r is = (all-answers g map f r).wrong is
