-- Two edits in a row are one.
use Rattle.std.proofs.Common.{◌≡◌, ◌≤◌, ◌<◌, ◌+◌, ◌-◌, ◌^◌, ℕ, List, [], ◌∷◌, ◌++◌, length, take, drop, true, false, refl, sym, ap, ◌∙◌, arith, length-append}
use Rattle.std.specs.Prelude.{◌==◌}
use Rattle.std.specs.List.{concat}
use Rattle.std.proofs.lemmas.List.{length-take-le, drop-drop}
use Rattle.std.proofs.Math.Seq.{take-append_seam, drop-append_seam, drop-append-add}
use Rattle.byteorder.specs.Endian.{little_bytes}
use Rattle.byteorder.specs.Numbers.{length-bytes_low_first}
use Rattle.ntfs_base.specs.Bytes.{piece_at, overwrite}
use Rattle.ntfs_base.proofs.PieceLemmas.{piece-front, piece-behind}
use Rattle.ntfs_base.proofs.OverwriteLemmas.{overwrite-twice}
use Rattle.ntfs_record.specs.Layout.{first_attribute_of, in_use_of, with_in_use}
use Rattle.ntfs_record.specs.Parsing.{raws_of, IsAccepted}
use Rattle.ntfs_record.specs.Spelling.{AllRaw, attributes_end}
use Rattle.ntfs_record.proofs.SpellingLemmas.{raws-spelled}
use Rattle.ntfs_edit.specs.Edits.{changed_from, changed}
use Rattle.ntfs_edit.specs.Respelt.{tail_length, tail_of, need_of, respelling, respelt, IsChange}
use Rattle.ntfs_edit.specs.Rows.{Turn}
use Rattle.ntfs_edit.proofs.PartsLemmas.{whole-piece, tail-long}
use Rattle.ntfs_edit.proofs.RespeltLemmas.{old, new_front, front-long, same-header, number-used, change-spells}

-- what a record with other attributes is made of
record Respelt (bytes : List ℕ) (raws : List (List ℕ)) (mid : List ℕ) : Type 0 where
  first : first_attribute_of mid ≡ first_attribute_of bytes
  used : in_use_of mid ≡ need_of bytes raws
  raws_are : raws_of mid (first_attribute_of mid) ≡ raws
  front : take (first_attribute_of bytes) mid ≡ new_front bytes raws
  tail_is : piece_at (first_attribute_of bytes + length (concat raws)) (tail_length bytes) mid ≡ tail_of bytes
  rest : drop (need_of bytes raws) mid ≡ drop (need_of bytes raws) bytes

respelt-made : (bytes : List ℕ) (raws : List (List ℕ)) → IsChange bytes raws → Respelt bytes raws (respelt bytes raws)
unfolding respelt with_in_use need_of
respelt-made bytes raws is =
    let o = old bytes is.accepted in
    let h = o.header in
    let first = first_attribute_of bytes in
    let small : need_of bytes raws < 2 ^ 32 = omega (arith, is.room, is.accepted.small) in
    let s = same-header bytes raws o.within h.behind_header in
    let long = front-long bytes raws o.within h.behind_header in
    let front = new_front bytes raws in
    let tail = tail_of bytes in
    let tail_is = tail-long bytes (omega (arith, o.last)) o.used in
    let rest = drop (need_of bytes raws) bytes in
    let behind = concat raws ++ (tail_of bytes ++ drop (need_of bytes raws) bytes) in
    let at : first_attribute_of bytes + length (concat raws) ≡ length front + (length (concat raws) + 0) = omega arith in
    let ends : need_of bytes raws ≡ length front + (length (concat raws) + length tail) = omega arith in
    record {
      first = s.first_is;
      used = number-used bytes raws o.within h.behind_header small;
      raws_are = raws-spelled (respelling bytes raws) (change-spells bytes raws is);
      front = ap (λ n. take n (front ++ behind)) (sym long) ∙ take-append_seam front behind;
      tail_is = ap (λ n. piece_at (first + length (concat raws)) n (front ++ behind)) (sym tail_is)
          ∙ ap (λ p. piece_at p (length tail) (front ++ behind)) at
          ∙ piece-behind (length (concat raws) + 0) (length tail) front behind
          ∙ piece-behind 0 (length tail) (concat raws) (tail ++ rest)
          ∙ piece-front 0 (length tail) tail rest (omega arith)
          ∙ whole-piece tail;
      rest = ap (λ n. drop n (front ++ behind)) ends
          ∙ drop-append-add front behind (length (concat raws) + length tail)
          ∙ drop-append-add (concat raws) (tail ++ rest) (length tail)
          ∙ drop-append_seam tail rest;
    }

-- the same behind the attributes, by the record's own words
record SameTail (bytes : List ℕ) (raws : List (List ℕ)) (mid : List ℕ) : Type 0 where
  end : attributes_end mid ≡ first_attribute_of bytes + length (concat raws)
  long : tail_length mid ≡ tail_length bytes
  is : tail_of mid ≡ tail_of bytes

same-tail : (bytes : List ℕ) (raws : List (List ℕ)) (mid : List ℕ) → Respelt bytes raws mid → SameTail bytes raws mid
unfolding tail_of tail_length need_of
same-tail bytes raws mid r =
    let end : attributes_end mid ≡ first_attribute_of bytes + length (concat raws) =
    ap (λ rs. first_attribute_of mid + length (concat rs)) r.raws_are ∙ ap (λ n. n + length (concat raws)) r.first in
    let long : in_use_of mid - attributes_end mid ≡ in_use_of bytes - attributes_end bytes = omega (arith, r.used) in
    record {
      end = end;
      long = long;
      is = ap (λ n. piece_at (attributes_end mid) n mid) long
          ∙ ap (λ p. piece_at p (in_use_of bytes - attributes_end bytes) mid) end ∙ r.tail_is;
    }

need-again : (bytes : List ℕ) (raws others : List (List ℕ)) (mid : List ℕ) → Respelt bytes raws mid
    → need_of mid others ≡ need_of bytes others
unfolding need_of
need-again bytes raws others mid r = let t = same-tail bytes raws mid r in omega (arith, r.first, t.long)

-- the need with other attributes is what it was
pub need-twice : (bytes : List ℕ) (raws others : List (List ℕ)) → IsChange bytes raws
    → need_of (respelt bytes raws) others ≡ need_of bytes others
need-twice bytes raws others is = need-again bytes raws others (respelt bytes raws) (respelt-made bytes raws is)

-- what is behind a place, and behind a later one
drop-behind : (n m : ℕ) (bytes others : List ℕ) → n ≤ m → drop n bytes ≡ drop n others → drop m bytes ≡ drop m others
drop-behind n m bytes others behind same =
    let sum : n + (m - n) ≡ m = omega arith in
    ap (λ k. drop k bytes) (sym sum) ∙ sym (drop-drop (m - n) n bytes) ∙ ap (drop (m - n)) same ∙ drop-drop (m - n) n others
    ∙ ap (λ k. drop k others) sum

twice-made : (bytes : List ℕ) (raws others : List (List ℕ)) (mid : List ℕ) → IsAccepted bytes → Respelt bytes raws mid
    → need_of bytes raws ≤ need_of bytes others → respelt mid others ≡ respelt bytes others
unfolding respelt with_in_use
twice-made bytes raws others mid is r more =
    let o = old bytes is in
    let first = first_attribute_of bytes in
    let t = same-tail bytes raws mid r in
    let need = need-again bytes raws others mid r in
    let head = take (first_attribute_of bytes) bytes in
    let head_long = length-take-le first bytes o.within in
    let one = little_bytes 4 (need_of bytes others) in
    let other = little_bytes 4 (need_of bytes raws) in
    let four : length (little_bytes 4 (need_of bytes others)) ≡ length (little_bytes 4 (need_of bytes raws)) =
    length-bytes_low_first 0 4 (need_of bytes others) ∙ sym (length-bytes_low_first 0 4 (need_of bytes raws)) in
    let front : take (first_attribute_of mid) mid ≡ new_front bytes raws = ap (λ n. take n mid) r.first ∙ r.front in
    let told : overwrite 0x18 one (new_front bytes raws) ≡ overwrite 0x18 one head =
    overwrite-twice 0x18 one other head (omega (arith, o.header.behind_header)) four in
    let behind : drop (need_of bytes others) mid ≡ drop (need_of bytes others) bytes =
    drop-behind (need_of bytes raws) (need_of bytes others) mid bytes more r.rest in
    ap (λ n. overwrite 0x18 (little_bytes 4 n) (take (first_attribute_of mid) mid) ++ (concat others ++ (tail_of mid ++ drop n mid))) need
    ∙ ap (λ xs. overwrite 0x18 one xs ++ (concat others ++ (tail_of mid ++ drop (need_of bytes others) mid))) front
    ∙ ap (λ xs. xs ++ (concat others ++ (tail_of mid ++ drop (need_of bytes others) mid))) told
    ∙ ap (λ xs. overwrite 0x18 one head ++ (concat others ++ (xs ++ drop (need_of bytes others) mid))) t.is
    ∙ ap (λ xs. overwrite 0x18 one head ++ (concat others ++ (tail_of bytes ++ xs))) behind

-- a record with other attributes, given others again, is the old record with these, where it didn't shrink
pub respelt-twice : (bytes : List ℕ) (raws others : List (List ℕ)) → IsChange bytes raws
    → need_of bytes raws ≤ need_of bytes others → respelt (respelt bytes raws) others ≡ respelt bytes others
respelt-twice bytes raws others is more =
    twice-made bytes raws others (respelt bytes raws) is.accepted (respelt-made bytes raws is) more

-- ---- one attribute after the other

-- the attribute that begins at a place, in a row
changed-row : (place here : ℕ) (f : List ℕ → List ℕ) (before : List (List ℕ)) (raw : List ℕ) (after : List (List ℕ))
    → AllRaw before → here + length (concat before) ≡ place
    → changed_from place f here (before ++ (raw ∷ after)) ≡ before ++ (f raw ∷ after)
changed-row place here f [] raw after all at =
    let same : (here == place) ≡ true = grind arith in
    rw same refl
changed-row place here f (first ∷ before) raw after all at =
    let sum = length-append first (concat before) in
    let some = all.0.sound.more in
    let long = all.0.long in
    let behind : here < place = omega arith in
    let other : (here == place) ≡ false = grind arith in
    rw other (ap (λ rs. first ∷ rs) (changed-row place (here + length first) f before raw after all.1 (omega arith)))

first-all : (before : List (List ℕ)) (others : List (List ℕ)) → AllRaw (before ++ others) → AllRaw before
first-all [] others all = tt
first-all (raw ∷ before) others all = (all.0, first-all before others all.1)

changed-mid : (bytes mid : List ℕ) (place : ℕ) (f : List ℕ → List ℕ) (before : List (List ℕ)) (raw : List ℕ) (after : List (List ℕ))
    → Respelt bytes (before ++ (raw ∷ after)) mid → AllRaw (before ++ (raw ∷ after))
    → first_attribute_of bytes + length (concat before) ≡ place
    → changed place f mid ≡ before ++ (f raw ∷ after)
unfolding changed
changed-mid bytes mid place f before raw after r all at =
    ap (changed_from place f (first_attribute_of mid)) r.raws_are
    ∙ ap (λ n. changed_from place f n (before ++ (raw ∷ after))) r.first
    ∙ changed-row place (first_attribute_of bytes) f before raw after (first-all before (raw ∷ after) all) at

pub turn : (bytes : List ℕ) (place : ℕ) (f : List ℕ → List ℕ) (before : List (List ℕ)) (raw : List ℕ) (after : List (List ℕ))
    → IsChange bytes (before ++ (raw ∷ after)) → first_attribute_of bytes + length (concat before) ≡ place
    → Turn bytes (respelt bytes (before ++ (raw ∷ after))) place f before raw after
turn bytes place f before raw after is at =
    let raws = before ++ (raw ∷ after) in
    let mid = respelt bytes (before ++ (raw ∷ after)) in
    let r = respelt-made bytes raws is in
    let c = changed-mid bytes mid place f before raw after r is.all at in
    record {
      attributes = c;
      needs = ap (need_of mid) c ∙ need-twice bytes raws (before ++ (f raw ∷ after)) is;
      is = λ more. ap (respelt mid) c ∙ respelt-twice bytes raws (before ++ (f raw ∷ after)) is more;
    }
