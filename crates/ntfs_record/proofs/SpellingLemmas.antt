-- What is spelled from sound attributes parses to them, and what parses is spelled by its own parts.
use Rattle.std.proofs.Common.{◌≡◌, ◌≤◌, ◌+◌, ℕ, List, [], ◌∷◌, ◌++◌, length, take, drop, Ok, refl, sym, ap, ◌∙◌, subst, arith, length-append, append_assoc}
use Rattle.std.specs.List.{concat}
use Rattle.std.proofs.lemmas.List.{drop-drop, take-append-drop, length-take-le}
use Rattle.std.proofs.Math.Seq.{take-append_seam, drop-append_seam}
use Rattle.ntfs_base.specs.Bytes.{number_at, piece_at}
use Rattle.ntfs_base.proofs.BytesLemmas.{number_at-drop}
use Rattle.ntfs_record.specs.FileRecord.{FileRecord}
use Rattle.ntfs_record.specs.Layout.{first_attribute_of, in_use_of, kind_at, length_at}
use Rattle.ntfs_record.specs.Header.{head_of, layout_of}
use Rattle.ntfs_record.specs.Attribute.{end_kind, raw_at, IsRaw}
use Rattle.ntfs_record.specs.Parsing.{raws_of, parse_of}
use Rattle.ntfs_record.specs.IsRecord.{IsSoundHeader, Follow, AreRaws, IsRecord}
use Rattle.ntfs_record.specs.Spelling.{Stands, AllRaw, Spelling, spell, IsSpelling, record_of_spelling, attributes_end, spelling_of}
use Rattle.ntfs_record.proofs.RecordLemmas.{record_from, found_from}
use Rattle.ntfs_record.proofs.StandsLemmas.{same_fields, sound-stands, raw-long, raw-is}
use Rattle.ntfs_record.proofs.RawLemmas.{all_raws}

-- ---- bytes behind a place

-- an attribute at the front of the bytes from a place on stands there
stands-front : (place : ℕ) (raw more bytes : List ℕ) → drop place bytes ≡ raw ++ more → Stands place raw bytes
unfolding piece_at
stands-front place raw more bytes is = ap (take (length raw)) is ∙ take-append_seam raw more

-- and what is behind it stands behind
drop-front : (place : ℕ) (raw more bytes : List ℕ) → drop place bytes ≡ raw ++ more
    → drop (place + length raw) bytes ≡ more
drop-front place raw more bytes is =
    sym (drop-drop (length raw) place bytes) ∙ ap (drop (length raw)) is ∙ drop-append_seam raw more

-- what is behind all of them
drop-all : (place : ℕ) (raws : List (List ℕ)) (rest bytes : List ℕ) → drop place bytes ≡ concat raws ++ rest
    → drop (place + length (concat raws)) bytes ≡ rest
drop-all place raws rest bytes is = drop-front place (concat raws) rest bytes is

-- the type at a place is the one at the front of what is behind it
kind-drop : (place : ℕ) (rest bytes : List ℕ) → drop place bytes ≡ rest → kind_at place bytes ≡ kind_at 0 rest
kind-drop place rest bytes is =
    ap (λ p. number_at 4 p bytes) (omega arith) ∙ sym (number_at-drop 4 0 place bytes) ∙ ap (number_at 4 0) is

-- ---- sound attributes in a row follow one another

-- the attribute's own bytes are those that its length tells
raw-there : (place : ℕ) (raw bytes : List ℕ) → Stands place raw bytes → IsRaw raw → length_at place bytes ≡ length raw
    → raw ≡ raw_at bytes place
unfolding raw_at
raw-there place raw bytes at is long = sym at ∙ ap (λ n. piece_at place n bytes) (sym long)

follow-spelled : (used place : ℕ) (bytes : List ℕ) (raws : List (List ℕ)) (rest : List ℕ)
    → drop place bytes ≡ concat raws ++ rest → AllRaw raws → place + length (concat raws) + 4 ≤ used
    → Follow used bytes place raws (place + length (concat raws))
follow-spelled used place bytes [] rest is all room = omega arith
follow-spelled used place bytes (raw ∷ raws) rest is all room =
    let front : drop place bytes ≡ raw ++ (concat raws ++ rest) = is ∙ append_assoc raw (concat raws) rest in
    let at = stands-front place raw (concat raws ++ rest) bytes front in
    let sum : length (raw ++ concat raws) ≡ length raw + length (concat raws) = length-append raw (concat raws) in
    let f = same_fields place raw bytes at (omega (arith, all.0.sound.more, all.0.long)) in
    let long : length_at place bytes ≡ length raw = f.long ∙ all.0.long in
    let last : place + length (raw ++ concat raws) ≡ place + length raw + length (concat raws) = omega arith in
    let rest_is = drop-front place raw (concat raws ++ rest) bytes front in
    let behind = follow-spelled used (place + length raw) bytes raws rest rest_is all.1 (omega arith) in (
      sound-stands used place raw bytes at all.0 (omega arith),
      (λ (e : kind_at place bytes ≡ end_kind). all.0.kind (sym f.kind ∙ e)),
      raw-there place raw bytes at all.0 long,
      subst (λ (n : ℕ). Follow used bytes (place + n) raws (place + length (raw ++ concat raws))) (sym long)
          (subst (λ (n : ℕ). Follow used bytes (place + length raw) raws n) (sym last) behind),
    )

-- they are the attributes of the bytes
are-spelled : (s : Spelling) → IsSpelling s → AreRaws (spell s) (length s.front) s.raws
are-spelled s is =
    let at = drop-append_seam s.front (concat s.raws ++ s.rest) in
    let behind = drop-all (length s.front) s.raws s.rest (spell s) at in
    record {
      last = length s.front + length (concat s.raws);
      follow = follow-spelled (in_use_of (spell s)) (length s.front) (spell s) s.raws s.rest at is.all is.used;
      ends = record {
        room = is.used;
        kind = kind-drop (length s.front + length (concat s.raws)) s.rest (spell s) behind ∙ is.ends;
      };
    }

-- the attributes of what is spelled are those that it is spelled from
pub raws-spelled : (s : Spelling) → IsSpelling s → raws_of (spell s) (first_attribute_of (spell s)) ≡ s.raws
raws-spelled s is =
    let a = are-spelled s is in
    ap (raws_of (spell s)) is.begins ∙ (found_from (spell s) (length s.front) s.raws a.last a.follow a.ends).given

-- what is spelled is a record
pub spelled-is : (s : Spelling) → IsSpelling s → IsRecord (spell s) (record_of_spelling s)
spelled-is s is = record {
  header = is.header;
  head = refl;
  layout = refl;
  attributes = subst (λ (n : ℕ). AreRaws (spell s) n s.raws) (sym is.begins) (are-spelled s is);
}

-- and parses to its parts
pub spelled-parses : (s : Spelling) → IsSpelling s → parse_of (spell s) ≡ Ok (record_of_spelling s)
spelled-parses s is = record_from (spell s) (record_of_spelling s) (spelled-is s is)

-- ---- what parses is spelled

-- attributes that follow one another are the bytes from the first to the last
pub record Joined (bytes : List ℕ) (place : ℕ) (raws : List (List ℕ)) (last : ℕ) : Type 0 where
  pub long : place + length (concat raws) ≡ last
  pub bytes_are : drop place bytes ≡ concat raws ++ drop last bytes

raw-drop : (place : ℕ) (bytes : List ℕ)
    → drop place bytes ≡ raw_at bytes place ++ drop (place + length_at place bytes) bytes
unfolding raw_at piece_at
raw-drop place bytes =
    sym (take-append-drop (length_at place bytes) (drop place bytes))
    ∙ ap (λ xs. take (length_at place bytes) (drop place bytes) ++ xs) (drop-drop (length_at place bytes) place bytes)

follow-joined : (used place : ℕ) (bytes : List ℕ) (raws : List (List ℕ)) (last : ℕ) → used ≤ length bytes
    → Follow used bytes place raws last → Joined bytes place raws last
follow-joined used place bytes [] last within follow =
    record { long = omega (arith, follow); bytes_are = ap (λ p. drop p bytes) follow }
follow-joined used place bytes (raw ∷ raws) last within follow =
    let rest = follow-joined used (place + length_at place bytes) bytes raws last within follow.3 in
    let long : length raw ≡ length_at place bytes = ap length follow.2 ∙ raw-long used place bytes within follow.0 in
    let sum : length (raw ++ concat raws) ≡ length raw + length (concat raws) = length-append raw (concat raws) in
    record {
      long = omega (arith, rest.long, long, sum);
      bytes_are = raw-drop place bytes
          ∙ ap (λ xs. xs ++ drop (place + length_at place bytes) bytes) (sym follow.2)
          ∙ ap (λ xs. raw ++ xs) rest.bytes_are
          ∙ sym (append_assoc raw (concat raws) (drop last bytes));
    }

-- a record's bytes are spelled by their own parts, which are sound and say what the record says
pub record Spells (bytes : List ℕ) (r : FileRecord) (s : Spelling) : Type 0 where
  pub same : spell s ≡ bytes
  pub is : IsSpelling s
  pub says : r ≡ record_of_spelling s

says-spelled : (bytes : List ℕ) (r : FileRecord) (others : List ℕ) → IsRecord bytes r → others ≡ bytes
    → raws_of bytes (first_attribute_of bytes) ≡ r.raws
    → r ≡ record { head = head_of others; layout = layout_of others; raws = raws_of bytes (first_attribute_of bytes) }
says-spelled bytes r others is same given =
    sym (ap
    (λ bs. record { head = head_of bs; layout = layout_of bs; raws = raws_of bytes (first_attribute_of bytes) }) same
    ∙ rw (given, ← is.head, ← is.layout) refl)

pub parses-spelled : (bytes : List ℕ) (r : FileRecord) → IsRecord bytes r → Spells bytes r (spelling_of bytes)
parses-spelled bytes r is =
    let first = first_attribute_of bytes in
    let a = is.attributes in
    let within : in_use_of bytes ≤ length bytes = omega (arith, is.header.in_use, is.header.allocated) in
    let given = (found_from bytes first r.raws a.last a.follow a.ends).given in
    let joined = follow-joined (in_use_of bytes) first bytes r.raws a.last within a.follow in
    let last : attributes_end bytes ≡ a.last = ap (λ rs. first_attribute_of bytes + length (concat rs)) given ∙ joined.long in
    let behind : concat (raws_of bytes first) ++ drop (attributes_end bytes) bytes ≡ drop first bytes =
    ap (λ rs. concat rs ++ drop (attributes_end bytes) bytes) given
    ∙ ap (λ n. concat r.raws ++ drop n bytes) last ∙ sym joined.bytes_are in
    let same : spell (spelling_of bytes) ≡ bytes =
    ap (λ xs. take first bytes ++ xs) behind ∙ take-append-drop first bytes in
    let before : first ≤ length bytes = omega (arith, within, is.header.before_end) in
    let long : length (take first bytes) ≡ first = length-take-le first bytes before in
    let all : AllRaw r.raws =
    all_raws IsRaw (in_use_of bytes) bytes first r.raws a.last
    (λ p s other. raw-is (in_use_of bytes) p bytes within s other) a.follow in
    record {
      same = same;
      is = record {
        header = subst IsSoundHeader (sym same) is.header;
        begins = ap first_attribute_of same ∙ sym long;
        all = subst AllRaw (sym given) all;
        ends = sym (kind-drop (attributes_end bytes) (drop (attributes_end bytes) bytes) bytes refl) ∙ ap (λ p. kind_at p bytes) last
            ∙ a.ends.kind;
        used = subst
            (λ (bs : List ℕ). length (take first bytes) + length (concat (raws_of bytes first)) + 4 ≤ in_use_of bs)
            (sym same)
            (omega (arith, long, last, a.ends.room));
      };
      says = says-spelled bytes r (spell (spelling_of bytes)) is same given;
    }
