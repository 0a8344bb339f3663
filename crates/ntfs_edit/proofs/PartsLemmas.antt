-- The bytes of a record before, at and behind one of its attributes.
use Rattle.std.proofs.Common.{◌≡◌, ◌≤◌, ◌+◌, ◌-◌, ℕ, List, [], ◌∷◌, ◌++◌, length, take, drop, Ok, true, false, refl, sym, ap, ◌∙◌, subst, arith, inl, inr, length-append, append_assoc}
use Rattle.std.specs.List.{concat}
use Rattle.std.specs.Prelude.{◌==◌}
use Rattle.std.proofs.lemmas.List.{take-append-drop, length-take-le, length-drop, drop-drop}
use Rattle.std.proofs.Math.Seq.{take-length}
use Rattle.std.proofs.lemmas.List.Folds.{concat-append}
use Rattle.ntfs_base.specs.Bytes.{piece_at}
use Rattle.ntfs_base.proofs.PieceLemmas.{piece-front, piece-behind, length-piece}
use Rattle.ntfs_record.specs.Layout.{first_attribute_of, in_use_of, non_resident_at}
use Rattle.ntfs_record.specs.Attribute.{IsRaw}
use Rattle.ntfs_record.specs.Parsing.{raws_of, record_of, parse_of, IsAccepted}
use Rattle.ntfs_record.specs.IsRecord.{IsRecord}
use Rattle.ntfs_record.specs.Spelling.{Stands, AllRaw, attributes_end}
use Rattle.ntfs_record.proofs.RecordLemmas.{record_is}
use Rattle.ntfs_record.proofs.SpellingLemmas.{parses-spelled}
use Rattle.ntfs_edit.specs.Edits.{changed_from, BeginsFrom}
use Rattle.ntfs_edit.specs.Respelt.{tail_length, tail_of}

-- what nothing is wrong with is a record
pub accepted-record : (bytes : List ℕ) → IsAccepted bytes → IsRecord bytes (record_of bytes)
unfolding parse_of
accepted-record bytes is =
    let parses : parse_of bytes ≡ Ok (record_of bytes) = rw (is.header, is.attributes) refl in
    record_is bytes (record_of bytes) parses

-- ---- the attribute that begins at a place

-- the attributes of a row before and behind the one that begins at a place, and the row with that one changed
pub record Around (residence place here : ℕ) (raws : List (List ℕ)) : Type 0 where
  pub before : List (List ℕ)
  pub raw : List ℕ
  pub after : List (List ℕ)
  pub parts : raws ≡ before ++ (raw ∷ after)
  pub at : here + length (concat before) ≡ place
  pub is : IsRaw raw
  pub residence_is : non_resident_at 0 raw ≡ residence
  pub changed_is : (f : List ℕ → List ℕ) → changed_from place f here raws ≡ before ++ (f raw ∷ after)

-- a row holds no attribute that begins before it
begins-behind : (residence place here : ℕ) (raws : List (List ℕ)) → BeginsFrom residence place here raws → here ≤ place
begins-behind residence place here [] begins = absurd begins
begins-behind residence place here (raw ∷ raws) begins =
    elim begins [
      | inl is ↦ omega (arith, is.0)
      | inr later ↦ omega (arith, begins-behind residence place (here + length raw) raws later)
    ]

pub around : (residence place here : ℕ) (raws : List (List ℕ)) → AllRaw raws → BeginsFrom residence place here raws
    → Around residence place here raws
around residence place here [] all begins = absurd begins
around residence place here (raw ∷ raws) all begins =
    elim begins [
      | inl is ↦
          let here_is : here ≡ place = is.0 in
          let same : (here == place) ≡ true = grind arith in
          record {
            before = [];
            raw = raw;
            after = raws;
            parts = refl;
            at = omega (arith, is.0);
            is = all.0;
            residence_is = is.1;
            changed_is = λ f. rw same refl;
          }
      | inr later ↦
          let a = around residence place (here + length raw) raws all.1 later in
          let behind = begins-behind residence place (here + length raw) raws later in
          let other : (here == place) ≡ false = grind arith in
          record {
            before = raw ∷ a.before;
            raw = a.raw;
            after = a.after;
            parts = ap (λ rs. raw ∷ rs) a.parts;
            at = omega (arith, a.at, length-append raw (concat a.before));
            is = a.is;
            residence_is = a.residence_is;
            changed_is = λ f. rw other (ap (λ rs. raw ∷ rs) (a.changed_is f));
          }
    ]

-- ---- the bytes around an attribute

-- the bytes before an attribute, behind it in the bytes in use, and behind those
abbrev pub front_of : List ℕ → List (List ℕ) → List ℕ
front_of bytes before = take (first_attribute_of bytes) bytes ++ concat before

abbrev pub more_of : List ℕ → List (List ℕ) → List ℕ
more_of bytes after = concat after ++ tail_of bytes

abbrev pub rest_of : List ℕ → List ℕ
rest_of bytes = drop (in_use_of bytes) bytes

pub record Parts (bytes : List ℕ) (place : ℕ) (before : List (List ℕ)) (raw : List ℕ) (after : List (List ℕ)) : Type 0 where
  pub same : bytes ≡ front_of bytes before ++ (raw ++ (more_of bytes after ++ rest_of bytes))
  pub long : length (front_of bytes before) ≡ place
  pub used : in_use_of bytes ≡ place + length raw + length (more_of bytes after)
  pub within : in_use_of bytes ≤ length bytes
  pub whole : length bytes ≡ in_use_of bytes + length (rest_of bytes)
  pub header : 0x28 ≤ first_attribute_of bytes
  pub first : first_attribute_of bytes ≤ length bytes
  pub mark : 4 ≤ tail_length bytes
  pub more : length (more_of bytes after) ≡ length (concat after) + tail_length bytes

-- what is behind the attributes, in two parts
pub tail-rest : (bytes : List ℕ) → attributes_end bytes ≤ in_use_of bytes
    → drop (attributes_end bytes) bytes ≡ tail_of bytes ++ drop (in_use_of bytes) bytes
unfolding tail_of tail_length piece_at
tail-rest bytes ends =
    let last = attributes_end bytes in
    let sum : attributes_end bytes + (in_use_of bytes - attributes_end bytes) ≡ in_use_of bytes = omega arith in
    sym (take-append-drop (in_use_of bytes - last) (drop last bytes))
    ∙ ap (λ xs. take (in_use_of bytes - last) (drop last bytes) ++ xs)
    (drop-drop (in_use_of bytes - last) last bytes ∙ ap (λ n. drop n bytes) sum)

pub tail-long : (bytes : List ℕ) → attributes_end bytes ≤ in_use_of bytes → in_use_of bytes ≤ length bytes
    → length (tail_of bytes) ≡ tail_length bytes
unfolding tail_of tail_length
tail-long bytes ends within =
    length-piece (attributes_end bytes) (in_use_of bytes - attributes_end bytes) bytes (omega arith)

-- four parts in a row, put together otherwise
pub regroup : (front before raw after tail rest : List ℕ)
    → front ++ ((before ++ (raw ++ after)) ++ (tail ++ rest))
    ≡ (front ++ before) ++ (raw ++ ((after ++ tail) ++ rest))
regroup front before raw after tail rest = simp append_assoc

pub parts : (bytes : List ℕ) (place : ℕ) (before : List (List ℕ)) (raw : List ℕ) (after : List (List ℕ))
    → IsAccepted bytes → raws_of bytes (first_attribute_of bytes) ≡ before ++ (raw ∷ after)
    → first_attribute_of bytes + length (concat before) ≡ place → Parts bytes place before raw after
unfolding tail_length
parts bytes place before raw after is raws at =
    let r = accepted-record bytes is in
    let s = parses-spelled bytes (record_of bytes) r in
    let first = first_attribute_of bytes in
    let within : in_use_of bytes ≤ length bytes = omega (arith, r.header.in_use, r.header.allocated) in
    let first_within : first_attribute_of bytes ≤ length bytes = omega (arith, r.header.before_end) in
    let front_long : length (take (first_attribute_of bytes) bytes) ≡ first_attribute_of bytes =
    length-take-le first bytes first_within in
    let ends : attributes_end bytes + 4 ≤ in_use_of bytes =
    omega (arith, front_long, subst (λ bs. length (take first bytes) + length (concat (raws_of bytes first)) + 4 ≤ in_use_of bs) s.same s.is.used) in
    let joined : concat (raws_of bytes (first_attribute_of bytes)) ≡ concat before ++ (raw ++ concat after) =
    ap concat raws ∙ concat-append before (raw ∷ after) in
    let joined_long : length (concat (raws_of bytes (first_attribute_of bytes))) ≡ length (concat before) + (length raw + length (concat after)) =
    ap length joined ∙ length-append (concat before) (raw ++ concat after) ∙ ap (λ n. length (concat before) + n) (length-append raw (concat after)) in
    let tail = tail-long bytes (omega arith) within in
    let more : length (concat after ++ tail_of bytes) ≡ length (concat after) + (in_use_of bytes - attributes_end bytes) =
    length-append (concat after) (tail_of bytes) ∙ ap (λ n. length (concat after) + n) tail in
    record {
      same = sym s.same
          ∙ ap (λ xs. take first bytes ++ (concat (raws_of bytes first) ++ xs)) (tail-rest bytes (omega arith))
          ∙ ap (λ xs. take first bytes ++ (xs ++ (tail_of bytes ++ drop (in_use_of bytes) bytes))) joined
          ∙ regroup (take first bytes) (concat before) raw (concat after) (tail_of bytes) (drop (in_use_of bytes) bytes);
      long = length-append (take first bytes) (concat before) ∙ omega arith;
      used = omega arith;
      within = within;
      whole = omega (arith, length-drop (in_use_of bytes) bytes);
      header = r.header.behind_header;
      first = first_within;
      mark = omega arith;
      more = more;
    }

-- all of the bytes are a piece
pub whole-piece : (bytes : List ℕ) → piece_at 0 (length bytes) bytes ≡ bytes
unfolding piece_at
whole-piece bytes = take-length bytes

-- the attribute stands at its place
pub parts-stand : (bytes : List ℕ) (place : ℕ) (before : List (List ℕ)) (raw : List ℕ) (after : List (List ℕ))
    → Parts bytes place before raw after → Stands place raw bytes
parts-stand bytes place before raw after p =
    let front = front_of bytes before in
    let behind = more_of bytes after ++ rest_of bytes in
    let there : place ≡ length (front_of bytes before) + 0 = omega (arith, p.long) in
    ap (piece_at place (length raw)) p.same
    ∙ ap (λ k. piece_at k (length raw) (front ++ (raw ++ behind))) there
    ∙ piece-behind 0 (length raw) front (raw ++ behind)
    ∙ piece-front 0 (length raw) raw behind (omega arith)
    ∙ whole-piece raw

-- what follows it in the bytes in use
pub parts-follow : (bytes : List ℕ) (place : ℕ) (before : List (List ℕ)) (raw : List ℕ) (after : List (List ℕ))
    → Parts bytes place before raw after
    → piece_at (place + length raw) (in_use_of bytes - (place + length raw)) bytes ≡ more_of bytes after
parts-follow bytes place before raw after p =
    let front = front_of bytes before in
    let more = more_of bytes after in
    let rest = rest_of bytes in
    let many : in_use_of bytes - (place + length raw) ≡ length (more_of bytes after) = omega (arith, p.used) in
    let there : place + length raw ≡ length (front_of bytes before) + (length raw + 0) = omega (arith, p.long) in
    ap (λ n. piece_at (place + length raw) n bytes) many
    ∙ ap (piece_at (place + length raw) (length more)) p.same
    ∙ ap (λ k. piece_at k (length more) (front ++ (raw ++ (more ++ rest)))) there
    ∙ piece-behind (length raw + 0) (length more) front (raw ++ (more ++ rest))
    ∙ piece-behind 0 (length more) raw (more ++ rest)
    ∙ piece-front 0 (length more) more rest (omega arith)
    ∙ whole-piece more
