-- A record that is refixed with other attributes, and unfixed again, says them.
use Rattle.std.proofs.Common.{◌≡◌, ◌≤◌, ◌+◌, ◌-◌, ◌*◌, ◌/◌, ℕ, true, codes, cond, leb, List, ◌++◌, length, take, drop, Some, None, refl, sym, ap, ◌∙◌, subst, arith, inl, inr}
use Rattle.std.specs.List.{concat}
use Rattle.std.proofs.lemmas.List.{ext_get_or, get_or-drop, length-drop, length-take-le, take-append-drop, get_or-take}
use Rattle.std.proofs.lemmas.Bool.{leb-true}
use Rattle.std.proofs.Math.Seq.{drop-append_seam}
use Rattle.std.proofs.lemmas.Bool.Decides.{Decides-eqb}
use Rattle.std.proofs.lemmas.Slice.Eq.{slice_eq-Decides}
use Rattle.ntfs_base.specs.Bytes.{number_at}
use Rattle.ntfs_fixup.specs.declared.header.Magic.TheVariants.{File}
use Rattle.ntfs_fixup.specs.Fixups.{HasWholeStrides, HasFront, KeepsFront, SameOutsideArray, least_offset, has_magic, has_good_array, refix_of, unfix_block}
use Rattle.ntfs_fixup.proofs.FixupLemmas.{number_at-same, offset_number, count_number, good_array, number-kept}
use Rattle.ntfs_fixup.proofs.LawLemmas.{has_good_array-any, KeepsFront-refix_of, SameOutsideArray-refix_of, unfix_of-refix_of}
use Rattle.ntfs_record.specs.FileRecord.{FileRecord, Head}
use Rattle.ntfs_record.specs.Layout.{array_offset, array_count, first_attribute_of, in_use_of, allocated_of, with_in_use, flags_of}
use Rattle.ntfs_record.specs.Header.{head_of, layout_of, begins_file}
use Rattle.ntfs_record.specs.Parsing.{raws_of, IsAccepted}
use Rattle.ntfs_record.specs.IsRecord.{AreRaws, IsRecord, IsSoundHeader}
use Rattle.ntfs_record.specs.Slots.{if_parsed, if_unfixed, record_in, is_in_use, live_slot, own_slot, slot_of}
use Rattle.ntfs_record.specs.Spelling.{AllRaw, Spelling, IsSpelling, attributes_end}
use Rattle.ntfs_record.proofs.Sound.{whether}
use Rattle.ntfs_record.proofs.RecordLemmas.{record_from}
use Rattle.ntfs_record.proofs.SlotLemmas.{slot-live}
use Rattle.ntfs_record.proofs.SpellingLemmas.{parses-spelled, spelled-is}
use Rattle.ntfs_edit.specs.Respelt.{need_of, respelt, respelt_record, IsChange}
use Rattle.ntfs_edit.proofs.RespeltLemmas.{old, same-header, respelt-long, respelt-is, number-low}

-- ---- bytes that are the same outside the array

-- a number before the array, and one before its offset alone
number-outside : (n p : ℕ) (bytes others : List ℕ) → SameOutsideArray bytes others → p + n ≤ array_offset bytes
    → p + n ≤ length bytes → number_at n p others ≡ number_at n p bytes
number-outside n p bytes others same before within =
    number_at-same n p p others bytes (λ i l. same.bytes (p + i) (omega arith) (inl (omega arith)))

-- what stands from the first attribute on
drop-outside : (k : ℕ) (bytes others : List ℕ) → SameOutsideArray bytes others
    → array_offset bytes + 2 * array_count bytes ≤ k → drop k others ≡ drop k bytes
drop-outside k bytes others same behind =
    let long : length (drop k others) ≡ length (drop k bytes) =
    length-drop k others ∙ ap (λ n. n - k) same.long ∙ sym (length-drop k bytes) in
    ext_get_or 0 (drop k others) (drop k bytes) long
    (λ i within. get_or-drop k others i 0
    ∙ same.bytes (k + i) (omega (arith, length-drop k others, same.long)) (inr (omega arith))
    ∙ sym (get_or-drop k bytes i 0))

take-outside : (k : ℕ) (bytes others : List ℕ) → SameOutsideArray bytes others → k ≤ array_offset bytes
    → k ≤ length bytes → take k others ≡ take k bytes
take-outside k bytes others same before within =
    let long = length-take-le k bytes within in
    let other_long = length-take-le k others (omega (arith, same.long)) in
    ext_get_or 0 (take k others) (take k bytes) (other_long ∙ sym long)
    (λ i l. get_or-take k others i 0 (omega arith) ∙ same.bytes i (omega arith) (inl (omega arith))
    ∙ sym (get_or-take k bytes i 0 (omega arith)))

-- a record's header outside the array
record Outside (bytes others : List ℕ) : Type 0 where
  same : SameOutsideArray bytes others
  header : IsSoundHeader bytes
  behind : 0x2A ≤ array_offset bytes

numbers-outside : (n p : ℕ) (bytes others : List ℕ) → Outside bytes others → p + n ≤ 0x2A
    → number_at n p others ≡ number_at n p bytes
numbers-outside n p bytes others o low =
    number-outside n p bytes others o.same (omega (arith, o.behind))
    (omega (arith, o.header.behind_array, o.behind, o.header.before_end, o.header.in_use, o.header.allocated))

array-outside : (bytes others : List ℕ) → Outside bytes others → array_offset others ≡ array_offset bytes
array-outside bytes others o =
    offset_number others ∙ numbers-outside 2 0x04 bytes others o (omega arith) ∙ sym (offset_number bytes)

count-outside : (bytes others : List ℕ) → Outside bytes others → array_count others ≡ array_count bytes
count-outside bytes others o =
    count_number others ∙ numbers-outside 2 0x06 bytes others o (omega arith) ∙ sym (count_number bytes)

header-outside : (bytes others : List ℕ) → Outside bytes others → IsSoundHeader others
header-outside bytes others o =
    let h = o.header in
    let offset = array-outside bytes others o in
    let count = count-outside bytes others o in
    let first : first_attribute_of others ≡ first_attribute_of bytes = numbers-outside 2 0x14 bytes others o (omega arith) in
    let used : in_use_of others ≡ in_use_of bytes = numbers-outside 4 0x18 bytes others o (omega arith) in
    let all : allocated_of others ≡ allocated_of bytes = numbers-outside 4 0x1C bytes others o (omega arith) in
    record {
      magic = take-outside 4 bytes others o.same (omega (arith, o.behind)) (omega (arith, h.fields)) ∙ h.magic;
      fields = omega (arith, h.fields, o.same.long);
      allocated = all ∙ h.allocated ∙ sym o.same.long;
      in_use = omega (arith, used, all, h.in_use);
      aligned = rw first h.aligned;
      behind_array = omega (arith, offset, count, first, h.behind_array);
      behind_header = omega (arith, first, h.behind_header);
      before_end = omega (arith, first, used, h.before_end);
    }

head-outside : (bytes others : List ℕ) → Outside bytes others → head_of others ≡ head_of bytes
head-outside bytes others o =
    let a = numbers-outside 8 0x08 bytes others o (omega arith) in
    let b = numbers-outside 2 0x10 bytes others o (omega arith) in
    let c = numbers-outside 2 0x12 bytes others o (omega arith) in
    let d = numbers-outside 2 0x16 bytes others o (omega arith) in
    let e = numbers-outside 8 0x20 bytes others o (omega arith) in
    let f = numbers-outside 2 0x28 bytes others o (omega arith) in
    rw (a, b, c, d, e, f) refl

-- the number is told only behind an array that begins at 0x30 or later
told-outside : (bytes others : List ℕ) → Outside bytes others
    → cond (leb 0x30 (array_offset bytes)) (Some (number_at 4 0x2C others)) None ≡ cond (leb 0x30 (array_offset bytes)) (Some (number_at 4 0x2C bytes)) None
told-outside bytes others o =
    let h = o.header in
    elim (whether (leb 0x30 (array_offset bytes))) [
      | inl late ↦
          let room : 0x30 ≤ array_offset bytes = leb-true _ _ late in
          ap (λ n. cond (leb 0x30 (array_offset bytes)) (Some n) None)
          (number-outside 4 0x2C bytes others o.same (omega arith)
          (omega (arith, h.behind_array, h.before_end, h.in_use, h.allocated)))
      | inr early ↦ rw early refl
    ]

layout-outside : (bytes others : List ℕ) → Outside bytes others → layout_of others ≡ layout_of bytes
layout-outside bytes others o =
    let offset = array-outside bytes others o in
    let count = count-outside bytes others o in
    let first : first_attribute_of others ≡ first_attribute_of bytes = numbers-outside 2 0x14 bytes others o (omega arith) in
    let used : in_use_of others ≡ in_use_of bytes = numbers-outside 4 0x18 bytes others o (omega arith) in
    let all : allocated_of others ≡ allocated_of bytes = numbers-outside 4 0x1C bytes others o (omega arith) in
    let told = told-outside bytes others o in
    rw (offset, count, first, used, all, told) refl

-- bytes that are the same outside the array are the same record
outside-is : (bytes others : List ℕ) (r : FileRecord) → IsRecord bytes r → SameOutsideArray bytes others
    → 0x2A ≤ array_offset bytes → IsRecord others r
outside-is bytes others r is same behind =
    let o : Outside bytes others = record { same = same; header = is.header; behind = behind } in
    let s = parses-spelled bytes r is in
    let first = first_attribute_of bytes in
    let raws = raws_of bytes (first_attribute_of bytes) in
    let rest = drop (attributes_end bytes) bytes in
    let other_first : first_attribute_of others ≡ first_attribute_of bytes = numbers-outside 2 0x14 bytes others o (omega arith) in
    let used : in_use_of others ≡ in_use_of bytes = numbers-outside 4 0x18 bytes others o (omega arith) in
    let within : first_attribute_of bytes ≤ length bytes = omega (arith, is.header.before_end, is.header.in_use, is.header.allocated) in
    let long = length-take-le first bytes within in
    let other_long = length-take-le first others (omega (arith, same.long)) in
    let old_rest : drop (first_attribute_of bytes) bytes ≡ concat raws ++ rest =
    ap (drop first) (sym s.same) ∙ ap (λ n. drop n (take first bytes ++ (concat raws ++ rest))) (sym long)
    ∙ drop-append_seam (take first bytes) (concat raws ++ rest) in
    let whole : take first others ++ (concat raws ++ rest) ≡ others =
    ap (λ xs. take first others ++ xs) (sym old_rest ∙ sym (drop-outside first bytes others same is.header.behind_array))
    ∙ take-append-drop first others in
    let spelling : Spelling = record { front = take first others; raws = raws; rest = rest } in
    let header = header-outside bytes others o in
    let sound : IsSpelling (record { front = take first others; raws = raws; rest = rest }) = record {
      header = subst IsSoundHeader (sym whole) header;
      begins = ap first_attribute_of whole ∙ other_first ∙ sym other_long;
      all = s.is.all;
      ends = s.is.ends;
      used = subst (λ bs. length (take first others) + length (concat raws) + 4 ≤ in_use_of bs) (sym whole)
          (omega (
            arith,
            long,
            other_long,
            used,
            subst (λ bs. length (take first bytes) + length (concat raws) + 4 ≤ in_use_of bs) s.same s.is.used,
          ));
    } in
    let found = spelled-is spelling sound in
    let attributes = subst (λ bs. AreRaws bs (first_attribute_of bs) raws) whole found.attributes in
    let raws_are : raws ≡ r.raws = sym (ap (λ (t : FileRecord). t.raws) s.says) in
    record {
      header = header;
      head = is.head ∙ sym (head-outside bytes others o);
      layout = is.layout ∙ sym (layout-outside bytes others o);
      attributes = subst (AreRaws others (first_attribute_of others)) raws_are attributes;
    }

-- ---- refixed and unfixed again

-- a record that is unfixed as a file record has its first attribute behind the header's last field
pub first-behind : (bytes : List ℕ) → IsAccepted bytes → HasWholeStrides bytes → HasFront File bytes
    → (0x30 ≤ first_attribute_of bytes) × (0x2A ≤ array_offset bytes)
unfolding least_offset
first-behind bytes is whole front =
    let good = good_array File bytes front.array in
    let behind : 0x2A ≤ array_offset bytes = good.behind in
    let counts : array_count bytes ≡ 1 + length bytes / 512 = good.counts in
    let least : 1024 ≤ length bytes = whole.least in
    let h = (old bytes is).header in
    (omega (arith, h.behind_array), behind)

strides-kept : (bytes others : List ℕ) → length others ≡ length bytes → HasWholeStrides bytes → HasWholeStrides others
strides-kept bytes others long whole = record {
  whole = rw long whole.whole;
  least = rw long whole.least;
  most = rw long whole.most;
}

front-kept : (bytes others : List ℕ) → length others ≡ length bytes → number_at 4 0 others ≡ number_at 4 0 bytes
    → array_offset others ≡ array_offset bytes → array_count others ≡ array_count bytes → HasFront File bytes
    → HasFront File others
unfolding has_magic has_good_array
front-kept bytes others long magic offset count front = record {
  begins = rw magic front.begins;
  array = rw (offset, count, long) front.array;
}

-- the new record has whole strides, the magic and a good array
pub record Again (bytes : List ℕ) (raws : List (List ℕ)) (new : List ℕ) : Type 0 where
  pub whole : HasWholeStrides new
  pub front : HasFront File new
  pub offset : array_offset new ≡ array_offset bytes

again : (bytes : List ℕ) (raws : List (List ℕ)) → IsChange bytes raws → HasWholeStrides bytes → HasFront File bytes
    → Again bytes raws (respelt bytes raws)
unfolding respelt with_in_use
again bytes raws is whole front =
    let o = old bytes is.accepted in
    let long = respelt-long bytes raws is.accepted is.room in
    let s = same-header bytes raws o.within o.header.behind_header in
    let magic = number-low 4 0 bytes raws o.within o.header.behind_header (omega arith) in
    record {
      whole = strides-kept bytes (respelt bytes raws) long whole;
      front = front-kept bytes (respelt bytes raws) long magic s.array_offset_is s.array_count_is front;
      offset = s.array_offset_is;
    }

-- refixed, unfixed and parsed again, the record says the new attributes
pub read-again : (bytes : List ℕ) (raws : List (List ℕ)) → IsAccepted bytes → HasWholeStrides bytes → HasFront File bytes
    → AllRaw raws → need_of bytes raws ≤ length bytes
    → record_in (refix_of (respelt bytes raws)) ≡ Some (respelt_record bytes raws)
unfolding record_in
read-again bytes raws accepted whole front all room =
    let f = first-behind bytes accepted whole front in
    let is : IsChange bytes raws = record { accepted = accepted; first = f.0; all = all; room = room } in
    let a = again bytes raws is whole front in
    let new = respelt bytes raws in
    let array = has_good_array-any File (respelt bytes raws) a.front.array in
    let same = SameOutsideArray-refix_of (respelt bytes raws) a.whole array in
    let block = unfix_block (refix_of (respelt bytes raws)) in
    let kept = outside-is new block (respelt_record bytes raws) (respelt-is bytes raws is) same (omega (arith, f.1, a.offset)) in
    ap if_unfixed (unfix_of-refix_of File new a.whole a.front)
    ∙ ap if_parsed (record_from block (respelt_record bytes raws) kept)

-- ---- the record of a number

-- the first bytes stay
take-kept : (k : ℕ) (bytes others : List ℕ) → KeepsFront bytes others → k ≤ array_offset bytes → k ≤ length bytes
    → take k others ≡ take k bytes
take-kept k bytes others kept before within =
    let long = length-take-le k bytes within in
    let other_long = length-take-le k others (omega (arith, kept.long)) in
    ext_get_or 0 (take k others) (take k bytes) (other_long ∙ sym long)
    (λ i l. get_or-take k others i 0 (omega arith) ∙ kept.front i (omega arith) ∙ sym (get_or-take k bytes i 0 (omega arith)))

file-from : (bytes : List ℕ) → take 4 bytes ≡ codes "FILE" → begins_file bytes ≡ true
unfolding begins_file
file-from bytes is = (slice_eq-Decides Decides-eqb (codes "FILE") (take 4 bytes) (begins_file bytes) refl).1 (sym is)

in_use-same : (bytes others : List ℕ) → begins_file bytes ≡ true → begins_file others ≡ true
    → flags_of others ≡ flags_of bytes → is_in_use others ≡ is_in_use bytes
unfolding is_in_use
in_use-same bytes others one other flags = rw (one, other, flags) refl

-- refixed, the record is in use where it was
pub in_use-again : (bytes : List ℕ) (raws : List (List ℕ)) → IsChange bytes raws → HasWholeStrides bytes
    → HasFront File bytes → is_in_use (refix_of (respelt bytes raws)) ≡ is_in_use bytes
in_use-again bytes raws is whole front =
    let f = first-behind bytes is.accepted whole front in
    let a = again bytes raws is whole front in
    let new = respelt bytes raws in
    let array = has_good_array-any File (respelt bytes raws) a.front.array in
    let kept = KeepsFront-refix_of (respelt bytes raws) array in
    let r = respelt-is bytes raws is in
    let o = old bytes is.accepted in
    let behind : 0x2A ≤ array_offset (respelt bytes raws) = omega (arith, f.1, a.offset) in
    let magic = take-kept 4 new (refix_of new) kept (omega arith) (omega (arith, r.header.fields)) ∙ r.header.magic in
    let flags : flags_of (refix_of (respelt bytes raws)) ≡ flags_of (respelt bytes raws) =
    number-kept 2 0x16 new (refix_of new) kept (omega arith) in
    let same : flags_of (respelt bytes raws) ≡ flags_of bytes = ap (λ (h : Head). h.flags) (sym r.head) in
    in_use-same bytes (refix_of new) (file-from bytes o.header.magic) (file-from (refix_of new) magic) (flags ∙ same)

-- and says its new attributes by its number
pub slot-again : (n : ℕ) (bytes : List ℕ) (raws : List (List ℕ)) → IsAccepted bytes → HasWholeStrides bytes
    → HasFront File bytes → AllRaw raws → need_of bytes raws ≤ length bytes → is_in_use bytes ≡ true
    → slot_of n (Some (refix_of (respelt bytes raws))) ≡ own_slot n (respelt_record bytes raws)
slot-again n bytes raws accepted whole front all room live =
    let f = first-behind bytes accepted whole front in
    let is : IsChange bytes raws = record { accepted = accepted; first = f.0; all = all; room = room } in
    slot-live n (refix_of (respelt bytes raws)) (in_use-again bytes raws is whole front ∙ live)
    ∙ ap (live_slot n) (read-again bytes raws accepted whole front all room)
