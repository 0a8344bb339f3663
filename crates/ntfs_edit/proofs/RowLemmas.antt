-- Edits of the attributes of a record in a row.
use Rattle.std.proofs.Common.{◌≡◌, ◌≤◌, ◌<◌, ◌+◌, ◌^◌, ℕ, zero, suc, Option, List, get_or, [], ◌∷◌, ◌++◌, length, map, Ok, refl, sym, ap, ◌∙◌, subst, arith, inl, inr, replicate, ◌-◌}
use Rattle.std.specs.List.{Contains, AllByRecursion}
use Rattle.std.proofs.lemmas.List.{map-append}
use Rattle.ntfs_record.specs.FileRecord.{Attribute, Laid, HeadLayout, FileRecord}
use Rattle.ntfs_record.specs.Layout.{first_attribute_of, non_resident_at, pairs_offset_at}
use Rattle.ntfs_record.specs.Attribute.{resident_at, runs_at, attribute_of, IsRaw}
use Rattle.ntfs_record.specs.Parsing.{raws_of, parse_of, IsAccepted}
use Rattle.ntfs_record.specs.Spelling.{AllRaw}
use Rattle.ntfs_record.specs.Views.{Placed, Shown, placed_from, placed_of, shown_placed}
use Rattle.ntfs_record.specs.IsRecord.{IsRecord}
use Rattle.ntfs_record.proofs.RecordLemmas.{either, record_is, header_from, found_from}
use Rattle.ntfs_runs.specs.Cells.{Cells}
use Rattle.ntfs_runs.specs.Canon.{canon, AreCells}
use Rattle.ntfs_runs.proofs.LawLemmas.{canon-read}
use Rattle.ntfs_record.proofs.SpellingLemmas.{parses-spelled}
use Rattle.ntfs_edit.specs.Edits.{BeginsFrom, BeginsAsShown, residence_of, changed, pairs_size, with_pairs, TakesPairs}
use Rattle.ntfs_edit.specs.Respelt.{need_of, respelt, respelt_record, IsChange}
use Rattle.ntfs_edit.specs.Rows.{ChangesOne, EditsRead, AllEditsRead, all_read, with_cells_read, cells_said}
use Rattle.ntfs_edit.proofs.RespeltLemmas.{respelt-long, respelt-parses}
use Rattle.ntfs_edit.proofs.CallLemmas.{call, changed-call}
use Rattle.ntfs_edit.proofs.ChangedLemmas.{all-accepted, all-replaced}
use Rattle.ntfs_edit.proofs.AttributeLemmas.{pairs-takes, pairs-says, resident-is, runs-are}

-- ---- one attribute

pub changes-one : (residence place : ℕ) (bytes : List ℕ) (f : List ℕ → List ℕ) → IsAccepted bytes
    → BeginsFrom residence place (first_attribute_of bytes) (raws_of bytes (first_attribute_of bytes))
    → ChangesOne place f bytes
changes-one residence place bytes f is begins =
    let c = call residence place bytes is begins in
    record {
      before = c.here.before;
      raw = c.here.raw;
      after = c.here.after;
      there = c.here.at;
      old = c.here.parts;
      new = changed-call residence place bytes f c;
    }

-- it leaves the record with sound attributes, where the edited one is sound
pub one-sound : (place : ℕ) (f : List ℕ → List ℕ) (bytes : List ℕ) (one : ChangesOne place f bytes) → IsAccepted bytes
    → IsRaw (f one.raw) → AllRaw (changed place f bytes)
one-sound place f bytes one is sound =
    subst AllRaw (sym one.new)
    (all-replaced one.before one.raw (f one.raw) one.after (subst AllRaw one.old (all-accepted bytes is)) sound)

-- and the others say what they said
pub one-read : (place : ℕ) (f : List ℕ → List ℕ) (bytes : List ℕ) (said : Attribute (Laid (List ℕ)))
    (one : ChangesOne place f bytes) → attribute_of (f one.raw) ≡ said
    → map attribute_of (changed place f bytes) ≡ map attribute_of one.before ++ (said ∷ map attribute_of one.after)
one-read place f bytes said one is =
    ap (map attribute_of) one.new ∙ map-append attribute_of one.before (f one.raw ∷ one.after)
    ∙ ap (λ a. map attribute_of one.before ++ (a ∷ map attribute_of one.after)) is

-- an attribute of the row is one that begins at its place
begins-nth : (i residence here : ℕ) (raws : List (List ℕ)) (p : Placed) → i < length (placed_from here raws)
    → p ≡ get_or (placed_from here raws) i p → non_resident_at 0 p.raw ≡ residence
    → BeginsFrom residence p.place here raws
begins-nth i residence here [] p within held is = absurd (omega arith)
begins-nth zero residence here (raw ∷ raws) p within held is =
    inl (sym (ap (λ (q : Placed). q.place) held), sym (ap (λ (q : Placed). non_resident_at 0 q.raw) held) ∙ is)
begins-nth (suc i) residence here (raw ∷ raws) p within held is =
    inr (begins-nth i residence (here + length raw) raws p (omega arith) held is)

pub begins-placed : (residence here : ℕ) (raws : List (List ℕ)) (p : Placed) → Contains (placed_from here raws) p
    → non_resident_at 0 p.raw ≡ residence → BeginsFrom residence p.place here raws
begins-placed residence here raws p held is = begins-nth held.0 residence here raws p held.1 (sym held.2) is

-- an attribute is resident where it says so
residence-said : (raw : List ℕ) → IsRaw raw → non_resident_at 0 raw ≡ residence_of (attribute_of raw).face.is_resident
unfolding resident_at runs_at
residence-said raw is =
    elim (either (non_resident_at 0 raw) is.sound.residence) [
      | inl resident ↦ resident
          ∙ ap (λ (a : Attribute (Laid (List ℕ))). residence_of a.face.is_resident) (sym (resident-is raw resident))
      | inr runs ↦ runs ∙ ap (λ (a : Attribute (Laid (List ℕ))). residence_of a.face.is_resident) (sym (runs-are raw runs))
    ]

-- what begins behind the first attribute begins in the row
shown-behind : (here place : ℕ) (raw : List ℕ) (raws : List (List ℕ)) (shown : List Shown)
    → AllByRecursion (λ s. BeginsFrom (residence_of s.body.is_resident) s.place (here + length raw) raws) shown
    → AllByRecursion (λ s. BeginsFrom (residence_of s.body.is_resident) s.place here (raw ∷ raws)) shown
shown-behind here place raw raws [] all = tt
shown-behind here place raw raws (s ∷ shown) all = (inr all.0, shown-behind here place raw raws shown all.1)

shown-row : (here : ℕ) (raws : List (List ℕ)) → AllRaw raws
    → AllByRecursion (λ s. BeginsFrom (residence_of s.body.is_resident) s.place here raws) (map shown_placed (placed_from here raws))
shown-row here [] all = tt
shown-row here (raw ∷ raws) all = (
  inl (refl, residence-said raw all.0),
  shown-behind here here raw raws (map shown_placed (placed_from (here + length raw) raws)) (shown-row (here + length raw) raws all.1),
)

-- each attribute of a record that is shown begins at the place that is shown
pub shown-begin : (bytes : List ℕ) (r : FileRecord) → IsRecord bytes r
    → AllByRecursion (BeginsAsShown bytes) (map shown_placed (placed_of r))
shown-begin bytes r is =
    let a = is.attributes in
    let given = (found_from bytes (first_attribute_of bytes) r.raws a.last a.follow a.ends).given in
    let first : r.layout.first_attribute ≡ first_attribute_of bytes = ap (λ (l : HeadLayout). l.first_attribute) is.layout in
    let all = (parses-spelled bytes r is).is.all in
    subst (λ n. AllByRecursion (BeginsAsShown bytes) (map shown_placed (placed_from n r.raws))) (sym first)
    (subst (λ rs. AllByRecursion (BeginsAsShown bytes) (map shown_placed (placed_from (first_attribute_of bytes) rs))) given
    (shown-row (first_attribute_of bytes) (raws_of bytes (first_attribute_of bytes)) all))

-- ---- all of them

-- attributes that were edited are sound
pub all-edited : {X : Type 0} (reads : Attribute (Laid (List ℕ)) → X) (f : List ℕ → List ℕ) (g : X → X) (raws : List (List ℕ))
    → AllEditsRead reads f g raws → AllRaw (map f raws)
all-edited reads f g [] all = tt
all-edited reads f g (raw ∷ raws) all = (all.0.is, all-edited reads f g raws all.1)

-- and what is read of them is changed
pub edits-read : {X : Type 0} (reads : Attribute (Laid (List ℕ)) → X) (f : List ℕ → List ℕ) (g : X → X) (raws : List (List ℕ))
    → AllEditsRead reads f g raws → all_read reads (map f raws) ≡ map g (all_read reads raws)
edits-read reads f g [] all = refl
edits-read reads f g (raw ∷ raws) all = let rest = edits-read reads f g raws all.1 in rw (all.0.says, rest) refl

-- so the record parses
pub edits-parse : {X : Type 0} (reads : Attribute (Laid (List ℕ)) → X) (f : List ℕ → List ℕ) (g : X → X) (bytes : List ℕ)
    → IsAccepted bytes → 0x30 ≤ first_attribute_of bytes
    → AllEditsRead reads f g (raws_of bytes (first_attribute_of bytes))
    → need_of bytes (map f (raws_of bytes (first_attribute_of bytes))) ≤ length bytes
    → parse_of (respelt bytes (map f (raws_of bytes (first_attribute_of bytes)))) ≡ Ok (respelt_record bytes (map f (raws_of bytes (first_attribute_of bytes))))
edits-parse reads f g bytes is first all room =
    let raws = raws_of bytes (first_attribute_of bytes) in
    respelt-parses bytes (map f raws)
    (record { accepted = is; first = first; all = all-edited reads f g raws all; room = room })

-- one edit after another is an edit
pub edits-twice : {X : Type 0} (reads : Attribute (Laid (List ℕ)) → X) (f h : List ℕ → List ℕ) (g k : X → X) (raw : List ℕ)
    → EditsRead reads f g raw → EditsRead reads h k (f raw) → EditsRead reads (λ r. h (f r)) (λ x. k (g x)) raw
edits-twice reads f h g k raw one other = record { is = other.is; says = other.says ∙ ap k one.says }

-- ---- mapping pairs by the encoder

pub recoded : (cells : List (Option ℕ)) (next : ℕ) (raw : List ℕ) → AreCells cells → TakesPairs (canon cells) next raw
    → EditsRead with_cells_read (with_pairs (canon cells) next)
    (cells_said next cells) raw
recoded cells next raw are takes =
    let zeros = replicate {A = ℕ} (pairs_size (length (canon cells)) raw - pairs_offset_at 0 raw - length (canon cells)) 0 in
    let read = canon-read cells zeros are in
    record {
      is = pairs-takes (canon cells) next raw takes;
      says = ap with_cells_read (pairs-says (canon cells) next raw takes)
          ∙ ap (λ (c : Cells ℕ). record { face = record ((attribute_of raw).face) { next = next }; payload = c }) read;
    }

-- ---- what parses can be edited

pub parsed-accepted : (bytes : List ℕ) (r : FileRecord) → parse_of bytes ≡ Ok r → length bytes < 2 ^ 32
    → IsAccepted bytes
parsed-accepted bytes r parses small =
    let is = record_is bytes r parses in
    let a = is.attributes in
    record {
      small = small;
      header = header_from bytes is.header;
      attributes = (found_from bytes (first_attribute_of bytes) r.raws a.last a.follow a.ends).none;
    }

-- so a record that was edited can be edited again
pub respelt-accepted : (bytes : List ℕ) (raws : List (List ℕ)) → IsChange bytes raws → IsAccepted (respelt bytes raws)
respelt-accepted bytes raws is =
    parsed-accepted (respelt bytes raws) (respelt_record bytes raws) (respelt-parses bytes raws is)
    (omega (arith, respelt-long bytes raws is.accepted is.room, is.accepted.small))
