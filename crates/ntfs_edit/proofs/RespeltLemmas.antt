-- A record with other sound attributes is a record, and says them.
use Rattle.std.proofs.Common.{◌≡◌, ◌≤◌, ◌<◌, ◌+◌, ◌-◌, ◌^◌, ℕ, List, ◌++◌, length, take, drop, Ok, refl, sym, ap, ◌∙◌, subst, arith, length-append}
use Rattle.std.specs.List.{concat}
use Rattle.std.proofs.lemmas.List.{length-take-le, length-drop, take-append-le}
use Rattle.byteorder.specs.Endian.{little_bytes}
use Rattle.byteorder.specs.Numbers.{length-bytes_low_first}
use Rattle.ntfs_base.specs.Bytes.{AreBytes, number_at, piece_at, overwrite}
use Rattle.ntfs_base.proofs.BytesLemmas.{take-take, number_at-take, number_at-append, number_at-drop}
use Rattle.ntfs_base.proofs.PieceLemmas.{number-piece, length-piece}
use Rattle.ntfs_base.proofs.OverwriteLemmas.{length-overwrite, take-overwrite, number-before, number-after, number-overwrite, overwrite-number}
use Rattle.ntfs_fixup.proofs.FixupLemmas.{offset_number, count_number}
use Rattle.ntfs_record.specs.Layout.{array_offset, array_count, first_attribute_of, in_use_of, allocated_of, kind_at, with_in_use}
use Rattle.ntfs_record.specs.Header.{head_of, layout_of}
use Rattle.ntfs_record.specs.Attribute.{end_kind}
use Rattle.ntfs_record.specs.Parsing.{raws_of, record_of, parse_of, IsAccepted}
use Rattle.ntfs_record.specs.IsRecord.{IsRecord, IsSoundHeader}
use Rattle.ntfs_record.specs.Spelling.{IsSpelling, attributes_end}
use Rattle.ntfs_record.proofs.RecordLemmas.{record_from}
use Rattle.ntfs_record.proofs.SpellingLemmas.{parses-spelled, spelled-is}
use Rattle.ntfs_edit.specs.Respelt.{tail_length, tail_of, need_of, respelling, respelt, respelt_record, IsChange}
use Rattle.ntfs_edit.proofs.PutLemmas.{take-inside}
use Rattle.ntfs_edit.proofs.PartsLemmas.{accepted-record, tail-long, tail-rest}

-- what the old record gives
pub record Old (bytes : List ℕ) : Type 0 where
  pub header : IsSoundHeader bytes
  pub within : first_attribute_of bytes ≤ length bytes
  pub used : in_use_of bytes ≤ length bytes
  pub last : attributes_end bytes + 4 ≤ in_use_of bytes
  pub ends : kind_at (attributes_end bytes) bytes ≡ end_kind

kind-behind : (n : ℕ) (bytes : List ℕ) → kind_at 0 (drop n bytes) ≡ kind_at n bytes
kind-behind n bytes = number_at-drop 4 0 n bytes ∙ ap (λ p. number_at 4 p bytes) (omega arith)

pub old : (bytes : List ℕ) → IsAccepted bytes → Old bytes
old bytes is =
    let r = accepted-record bytes is in
    let s = parses-spelled bytes (record_of bytes) r in
    let first = first_attribute_of bytes in
    let within : first_attribute_of bytes ≤ length bytes = omega (arith, r.header.before_end, r.header.in_use, r.header.allocated) in
    let long = length-take-le first bytes within in
    record {
      header = r.header;
      within = within;
      used = omega (arith, r.header.in_use, r.header.allocated);
      last = omega (arith, long, subst (λ bs. length (take first bytes) + length (concat (raws_of bytes first)) + 4 ≤ in_use_of bs) s.same s.is.used);
      ends = sym (kind-behind (attributes_end bytes) bytes) ∙ s.is.ends;
    }

enough : (bytes : List ℕ) → attributes_end bytes + 4 ≤ in_use_of bytes → 4 ≤ tail_length bytes
unfolding tail_length
enough bytes last = omega arith

-- ---- the new front

abbrev pub new_front : List ℕ → List (List ℕ) → List ℕ
new_front bytes raws = overwrite 0x18 (little_bytes 4 (need_of bytes raws)) (take (first_attribute_of bytes) bytes)

abbrev behind : List ℕ → List (List ℕ) → List ℕ
behind bytes raws = concat raws ++ (tail_of bytes ++ drop (need_of bytes raws) bytes)

pub front-long : (bytes : List ℕ) (raws : List (List ℕ)) → first_attribute_of bytes ≤ length bytes
    → 0x28 ≤ first_attribute_of bytes → length (new_front bytes raws) ≡ first_attribute_of bytes
front-long bytes raws within header =
    let four : length (little_bytes 4 (need_of bytes raws)) ≡ 4 = length-bytes_low_first 0 4 (need_of bytes raws) in
    let long = length-take-le (first_attribute_of bytes) bytes within in
    length-overwrite 0x18 (little_bytes 4 (need_of bytes raws)) (take (first_attribute_of bytes) bytes) (omega arith) ∙ long

-- a number before the bytes in use, or behind them, is the old one
pub number-low : (n k : ℕ) (bytes : List ℕ) (raws : List (List ℕ)) → first_attribute_of bytes ≤ length bytes
    → 0x28 ≤ first_attribute_of bytes → k + n ≤ 0x18
    → number_at n k (new_front bytes raws ++ behind bytes raws) ≡ number_at n k bytes
number-low n k bytes raws within header low =
    let long = front-long bytes raws within header in
    let head_long = length-take-le (first_attribute_of bytes) bytes within in
    number_at-append n k (new_front bytes raws) (behind bytes raws) (omega arith)
    ∙ number-before n k 0x18 (little_bytes 4 (need_of bytes raws)) (take (first_attribute_of bytes) bytes) (omega arith) low
    ∙ number_at-take n k (first_attribute_of bytes) bytes (omega arith)

number-high : (n k : ℕ) (bytes : List ℕ) (raws : List (List ℕ)) → first_attribute_of bytes ≤ length bytes
    → 0x28 ≤ first_attribute_of bytes → 0x1C ≤ k → k + n ≤ first_attribute_of bytes
    → number_at n k (new_front bytes raws ++ behind bytes raws) ≡ number_at n k bytes
number-high n k bytes raws within header high inside =
    let four : length (little_bytes 4 (need_of bytes raws)) ≡ 4 = length-bytes_low_first 0 4 (need_of bytes raws) in
    let long = front-long bytes raws within header in
    let head_long = length-take-le (first_attribute_of bytes) bytes within in
    number_at-append n k (new_front bytes raws) (behind bytes raws) (omega arith)
    ∙ number-after n k 0x18 (little_bytes 4 (need_of bytes raws)) (take (first_attribute_of bytes) bytes) (omega arith) (omega arith)
    ∙ number_at-take n k (first_attribute_of bytes) bytes inside

pub number-used : (bytes : List ℕ) (raws : List (List ℕ)) → first_attribute_of bytes ≤ length bytes
    → 0x28 ≤ first_attribute_of bytes → need_of bytes raws < 2 ^ 32
    → in_use_of (new_front bytes raws ++ behind bytes raws) ≡ need_of bytes raws
number-used bytes raws within header small =
    let long = front-long bytes raws within header in
    let head_long = length-take-le (first_attribute_of bytes) bytes within in
    number_at-append 4 0x18 (new_front bytes raws) (behind bytes raws) (omega arith)
    ∙ number-overwrite 4 0x18 (need_of bytes raws) (take (first_attribute_of bytes) bytes) (omega arith) small

-- ---- the parts make a record

-- the record is as long as it was
pub respelt-long : (bytes : List ℕ) (raws : List (List ℕ)) → IsAccepted bytes → need_of bytes raws ≤ length bytes
    → length (respelt bytes raws) ≡ length bytes
unfolding respelt with_in_use need_of
respelt-long bytes raws is room =
    let o = old bytes is in
    let front = front-long bytes raws o.within o.header.behind_header in
    let tail = tail-long bytes (omega (arith, o.last)) o.used in
    let rest = length-drop (need_of bytes raws) bytes in
    omega (
      arith,
      length-append (new_front bytes raws) (behind bytes raws),
      length-append (concat raws) (tail_of bytes ++ drop (need_of bytes raws) bytes),
      length-append (tail_of bytes) (drop (need_of bytes raws) bytes),
    )

-- the mark still ends the list
ends-still : (bytes : List ℕ) (more : List ℕ) → IsAccepted bytes → kind_at 0 (tail_of bytes ++ more) ≡ end_kind
unfolding tail_of tail_length
ends-still bytes more is =
    let o = old bytes is in
    let n = in_use_of bytes - attributes_end bytes in
    let long = length-piece (attributes_end bytes) n bytes (omega (arith, o.last, o.used)) in
    let four : 0 + 4 ≤ in_use_of bytes - attributes_end bytes = omega (arith, o.last) in
    number_at-append 4 0 (piece_at (attributes_end bytes) n bytes) more (omega arith)
    ∙ number-piece 4 0 (attributes_end bytes) n bytes four
    ∙ ap (λ p. number_at 4 p bytes) (omega arith) ∙ o.ends

magic-still : (bytes : List ℕ) (raws : List (List ℕ)) → first_attribute_of bytes ≤ length bytes
    → 0x28 ≤ first_attribute_of bytes → take 4 (new_front bytes raws ++ behind bytes raws) ≡ take 4 bytes
magic-still bytes raws within header =
    let long = front-long bytes raws within header in
    let head_long = length-take-le (first_attribute_of bytes) bytes within in
    take-append-le 4 (new_front bytes raws) (behind bytes raws) (omega arith)
    ∙ take-overwrite 4 0x18 (little_bytes 4 (need_of bytes raws)) (take (first_attribute_of bytes) bytes) (omega arith) (omega arith)
    ∙ take-take 4 (first_attribute_of bytes) bytes (omega arith)

-- what the header says but for the bytes in use
pub record SameHeader (bytes others : List ℕ) : Type 0 where
  pub array_offset_is : array_offset others ≡ array_offset bytes
  pub array_count_is : array_count others ≡ array_count bytes
  pub first_is : first_attribute_of others ≡ first_attribute_of bytes
  pub allocated_is : allocated_of others ≡ allocated_of bytes

pub same-header : (bytes : List ℕ) (raws : List (List ℕ)) → first_attribute_of bytes ≤ length bytes
    → 0x28 ≤ first_attribute_of bytes → SameHeader bytes (new_front bytes raws ++ behind bytes raws)
same-header bytes raws within header = record {
  array_offset_is = offset_number (new_front bytes raws ++ behind bytes raws)
      ∙ number-low 2 0x04 bytes raws within header (omega arith) ∙ sym (offset_number bytes);
  array_count_is = count_number (new_front bytes raws ++ behind bytes raws)
      ∙ number-low 2 0x06 bytes raws within header (omega arith) ∙ sym (count_number bytes);
  first_is = number-low 2 0x14 bytes raws within header (omega arith);
  allocated_is = number-high 4 0x1C bytes raws within header (omega arith) (omega arith);
}

pub change-spells : (bytes : List ℕ) (raws : List (List ℕ)) → IsChange bytes raws → IsSpelling (respelling bytes raws)
unfolding respelt with_in_use need_of
change-spells bytes raws is =
    let o = old bytes is.accepted in
    let h = o.header in
    let s = same-header bytes raws o.within h.behind_header in
    let small : need_of bytes raws < 2 ^ 32 = omega (arith, is.room, is.accepted.small) in
    let used = number-used bytes raws o.within h.behind_header small in
    let front = front-long bytes raws o.within h.behind_header in
    let long = respelt-long bytes raws is.accepted is.room in
    let tail : 4 ≤ tail_length bytes = enough bytes o.last in
    record {
      header = record {
        magic = magic-still bytes raws o.within h.behind_header ∙ h.magic;
        fields = omega (arith, h.fields);
        allocated = s.allocated_is ∙ h.allocated ∙ sym long;
        in_use = omega (arith, s.allocated_is, h.allocated, is.room);
        aligned = rw s.first_is h.aligned;
        behind_array = omega (arith, s.first_is, s.array_offset_is, s.array_count_is, h.behind_array);
        behind_header = omega (arith, s.first_is, h.behind_header);
        before_end = omega (arith, s.first_is);
      };
      begins = s.first_is ∙ sym front;
      all = is.all;
      ends = ends-still bytes (drop (need_of bytes raws) bytes) is.accepted;
      used = omega arith;
    }

head-same : (bytes : List ℕ) (raws : List (List ℕ)) → first_attribute_of bytes ≤ length bytes
    → 0x30 ≤ first_attribute_of bytes → head_of (new_front bytes raws ++ behind bytes raws) ≡ head_of bytes
head-same bytes raws within first =
    let header : 0x28 ≤ first_attribute_of bytes = omega arith in
    let a = number-low 8 0x08 bytes raws within header (omega arith) in
    let b = number-low 2 0x10 bytes raws within header (omega arith) in
    let c = number-low 2 0x12 bytes raws within header (omega arith) in
    let d = number-low 2 0x16 bytes raws within header (omega arith) in
    let e = number-high 8 0x20 bytes raws within header (omega arith) (omega arith) in
    let f = number-high 2 0x28 bytes raws within header (omega arith) (omega arith) in
    rw (a, b, c, d, e, f) refl

layout-same : (bytes : List ℕ) (raws : List (List ℕ)) → first_attribute_of bytes ≤ length bytes
    → 0x30 ≤ first_attribute_of bytes → need_of bytes raws < 2 ^ 32
    → layout_of (new_front bytes raws ++ behind bytes raws) ≡ record (layout_of bytes) { in_use = need_of bytes raws }
layout-same bytes raws within first small =
    let header : 0x28 ≤ first_attribute_of bytes = omega arith in
    let s = same-header bytes raws within header in
    let own = number-high 4 0x2C bytes raws within header (omega arith) (omega arith) in
    let used = number-used bytes raws within header small in
    rw (s.array_offset_is, s.array_count_is, s.first_is, s.allocated_is, own, used) refl

-- the record with these attributes is a record, and says them
pub respelt-is : (bytes : List ℕ) (raws : List (List ℕ)) → IsChange bytes raws
    → IsRecord (respelt bytes raws) (respelt_record bytes raws)
unfolding respelt with_in_use
respelt-is bytes raws is =
    let o = old bytes is.accepted in
    let small : need_of bytes raws < 2 ^ 32 = omega (arith, is.room, is.accepted.small) in
    let h = head-same bytes raws o.within is.first in
    let l = layout-same bytes raws o.within is.first small in
    let r = spelled-is (respelling bytes raws) (change-spells bytes raws is) in
    record {
      header = r.header;
      head = sym h;
      layout = sym l;
      attributes = r.attributes;
    }

pub respelt-parses : (bytes : List ℕ) (raws : List (List ℕ)) → IsChange bytes raws
    → parse_of (respelt bytes raws) ≡ Ok (respelt_record bytes raws)
respelt-parses bytes raws is = record_from (respelt bytes raws) (respelt_record bytes raws) (respelt-is bytes raws is)

-- ---- the record with its own attributes

pub need-own : (bytes : List ℕ) → IsAccepted bytes
    → need_of bytes (raws_of bytes (first_attribute_of bytes)) ≡ in_use_of bytes
unfolding need_of tail_length
need-own bytes is = omega (arith, (old bytes is).last)

-- is itself
pub respelt-own : (bytes : List ℕ) → AreBytes bytes → IsAccepted bytes
    → respelt bytes (raws_of bytes (first_attribute_of bytes)) ≡ bytes
unfolding respelt with_in_use
respelt-own bytes are is =
    let o = old bytes is in
    let first = first_attribute_of bytes in
    let raws = raws_of bytes (first_attribute_of bytes) in
    let used = little_bytes 4 (in_use_of bytes) in
    let four : length (little_bytes 4 (in_use_of bytes)) ≡ 4 = length-bytes_low_first 0 4 (in_use_of bytes) in
    let need = need-own bytes is in
    let front : overwrite 0x18 used (take first bytes) ≡ take first bytes =
    sym (take-inside first 0x18 used bytes (omega (arith, o.header.behind_header)) o.within)
    ∙ ap (take first) (overwrite-number 4 0x18 bytes are (omega (arith, o.header.behind_header, o.within))) in
    let rest = tail-rest bytes (omega (arith, o.last)) in
    let s = parses-spelled bytes (record_of bytes) (accepted-record bytes is) in
    ap (λ n. overwrite 0x18 (little_bytes 4 n) (take first bytes) ++ (concat raws ++ (tail_of bytes ++ drop n bytes))) need
    ∙ ap (λ xs. xs ++ (concat raws ++ (tail_of bytes ++ drop (in_use_of bytes) bytes))) front
    ∙ ap (λ xs. take first bytes ++ (concat raws ++ xs)) (sym rest) ∙ s.same
