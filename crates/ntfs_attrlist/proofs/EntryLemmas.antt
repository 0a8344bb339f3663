-- An entry at the front of bytes: the test, the entry's own bytes, and why there is none.
use Rattle.std.proofs.Common.{◌≡◌, ◌≤◌, ◌<◌, ◌+◌, ◌*◌, ℕ, Bool, true, false, List, ◌++◌, length, take, drop, refl, sym, ap, ◌∙◌, arith, inl, inr, length-append}
use Rattle.std.specs.Prelude.{◌↔◌, ◌⊎◌, ◌&&◌}
use Rattle.std.proofs.lemmas.Bool.{leb-true, leb-false, le-leb, and_parts}
use Rattle.std.proofs.lemmas.List.{length-take-le, length-drop, take-append-drop}
use Rattle.std.proofs.Math.Seq.{take-append_seam}
use Rattle.ntfs_base.specs.Bytes.{AreBytes}
use Rattle.ntfs_base.proofs.BytesLemmas.{number_at-take, number_at-append, number_at-lt}
use Rattle.ntfs_attrlist.specs.Layout.{list_entry_length, entry_name_units, entry_name_offset, entry_name}
use Rattle.ntfs_attrlist.specs.Entry.{listed_of, IsRawEntry, HasEntryBounds}
use Rattle.ntfs_attrlist.specs.AttributeList.{BeginsWithEntry, IsBadEntry}
use Rattle.ntfs_attrlist.specs.Reading.{has_entry, first_raw}

-- what the test says
pub record HasFirst (bytes : List ℕ) : Type 0 where
  pub fields : 26 ≤ length bytes
  pub least : 26 ≤ list_entry_length bytes
  pub within : list_entry_length bytes ≤ length bytes
  pub name : entry_name_offset bytes + 2 * entry_name_units bytes ≤ list_entry_length bytes

pub has_first : (bytes : List ℕ) → has_entry bytes ≡ true → HasFirst bytes
unfolding has_entry
has_first bytes e =
    let p = and_parts _ _ e in
    let q = and_parts _ _ p.1 in
    let r = and_parts _ _ q.1 in
    record { fields = leb-true _ _ p.0; least = leb-true _ _ q.0; within = leb-true _ _ r.0; name = leb-true _ _ r.1 }

first_has : (bytes : List ℕ) → HasFirst bytes → has_entry bytes ≡ true
unfolding has_entry
first_has bytes h =
    let fields = le-leb 26 (length bytes) h.fields in
    let least = le-leb 26 (list_entry_length bytes) h.least in
    let within = le-leb (list_entry_length bytes) (length bytes) h.within in
    let name = le-leb (entry_name_offset bytes + 2 * entry_name_units bytes) (list_entry_length bytes) h.name in
    rw (fields, least, within, name) refl

-- ---- the entry's own bytes

pub length-first_raw : (bytes : List ℕ) → HasFirst bytes → length (first_raw bytes) ≡ list_entry_length bytes
length-first_raw bytes h = length-take-le (list_entry_length bytes) bytes h.within

-- the bytes that the length counts are an entry
pub first_raw-is : (bytes : List ℕ) → HasFirst bytes → IsRawEntry (first_raw bytes)
first_raw-is bytes h =
    let size = length-first_raw bytes h in
    let whole : list_entry_length (first_raw bytes) ≡ list_entry_length bytes = number_at-take 2 4 (list_entry_length bytes) bytes (omega (arith, h.least)) in
    let offset : entry_name_offset (first_raw bytes) ≡ entry_name_offset bytes = number_at-take 1 7 (list_entry_length bytes) bytes (omega (arith, h.least)) in
    let units : entry_name_units (first_raw bytes) ≡ entry_name_units bytes = number_at-take 1 6 (list_entry_length bytes) bytes (omega (arith, h.least)) in
    record {
      fields = omega (arith, size, h.least);
      whole = whole ∙ sym size;
      name = omega (arith, size, offset, units, h.name);
    }

-- an entry in front passes the test, and is the bytes that its length counts
pub raw_has : (raw more : List ℕ) → IsRawEntry raw → HasFirst (raw ++ more)
raw_has raw more is =
    let size : list_entry_length (raw ++ more) ≡ list_entry_length raw = number_at-append 2 4 raw more (omega (arith, is.fields)) in
    let offset : entry_name_offset (raw ++ more) ≡ entry_name_offset raw = number_at-append 1 7 raw more (omega (arith, is.fields)) in
    let units : entry_name_units (raw ++ more) ≡ entry_name_units raw = number_at-append 1 6 raw more (omega (arith, is.fields)) in
    let all = length-append raw more in
    record {
      fields = omega (arith, all, is.fields);
      least = omega (arith, size, is.whole, is.fields);
      within = omega (arith, all, size, is.whole);
      name = omega (arith, size, offset, units, is.whole, is.name);
    }

pub has_entry-raw : (raw more : List ℕ) → IsRawEntry raw → has_entry (raw ++ more) ≡ true
has_entry-raw raw more is = first_has (raw ++ more) (raw_has raw more is)

pub list_entry_length-raw : (raw more : List ℕ) → IsRawEntry raw → list_entry_length (raw ++ more) ≡ length raw
list_entry_length-raw raw more is = number_at-append 2 4 raw more (omega (arith, is.fields)) ∙ is.whole

pub first_raw-raw : (raw more : List ℕ) → IsRawEntry raw → first_raw (raw ++ more) ≡ raw
first_raw-raw raw more is = ap (λ (n : ℕ). take n (raw ++ more)) (list_entry_length-raw raw more is) ∙ take-append_seam raw more

-- ---- whether there is one, and why there is none

pub whether : (b : Bool) → (b ≡ true) ⊎ (b ≡ false)
whether true = inl refl
whether false = inr refl

true_false : (b : Bool) → b ≡ true → b ≡ false → ⊥
true_false b yes_ no_ = cc

pub begins-has : (bytes : List ℕ) → BeginsWithEntry bytes → has_entry bytes ≡ true
begins-has bytes (raw, more, joined, is) = ap has_entry joined ∙ has_entry-raw raw more is

pub has-begins : (bytes : List ℕ) → has_entry bytes ≡ true → BeginsWithEntry bytes
has-begins bytes e = (first_raw bytes, drop (list_entry_length bytes) bytes, sym (take-append-drop (list_entry_length bytes) bytes), first_raw-is bytes (has_first bytes e))

pub none-has : (bytes : List ℕ) → has_entry bytes ≡ false → ¬ BeginsWithEntry bytes
none-has bytes e begins = true_false (has_entry bytes) (begins-has bytes begins) e

pub has-none : (bytes : List ℕ) → ¬ BeginsWithEntry bytes → has_entry bytes ≡ false
has-none bytes none = elim (whether (has_entry bytes)) [ inl e ↦ absurd (none (has-begins bytes e)) | inr e ↦ e ]

-- the first test of four that fails
failing : (a b c d : Bool) → (a && (b && (c && d))) ≡ false → (a ≡ false) ⊎ ((b ≡ false) ⊎ ((c ≡ false) ⊎ (d ≡ false)))
failing false b c d e = inl refl
failing true false c d e = inr (inl refl)
failing true true false d e = inr (inr (inl refl))
failing true true true false e = inr (inr (inr refl))
failing true true true true e = absurd cc

none-bad : (bytes : List ℕ) → has_entry bytes ≡ false → IsBadEntry bytes
unfolding has_entry
none-bad bytes e =
    elim (failing _ _ _ _ e) [
      | inl fields ↦ inl (leb-false _ _ fields)
      | inr (inl least) ↦ inr (inl (leb-false _ _ least))
      | inr (inr (inl within)) ↦ inr (inr (inl (leb-false _ _ within)))
      | inr (inr (inr name)) ↦ inr (inr (inr (leb-false _ _ name)))
    ]

bad-first : (bytes : List ℕ) → IsBadEntry bytes → HasFirst bytes → ⊥
bad-first bytes (inl few) h = omega (arith, h.fields)
bad-first bytes (inr (inl short)) h = omega (arith, h.least)
bad-first bytes (inr (inr (inl long))) h = omega (arith, h.within)
bad-first bytes (inr (inr (inr name))) h = omega (arith, h.name)

-- no entry stands in front exactly where one of the causes holds
pub bad-is : (bytes : List ℕ) → IsBadEntry bytes ↔ (¬ BeginsWithEntry bytes)
bad-is bytes = (
  (λ bad begins. bad-first bytes bad (has_first bytes (begins-has bytes begins))),
  (λ none. none-bad bytes (has-none bytes none)),
)

-- ---- what an entry says is bounded

pub listed_of-bounds : (size : ℕ) (raw : List ℕ) → length raw ≤ size → AreBytes raw → IsRawEntry raw → HasEntryBounds size (listed_of raw)
unfolding listed_of
listed_of-bounds size raw within are is =
    let long : length (entry_name raw) ≡ 2 * entry_name_units raw =
    length-take-le (2 * entry_name_units raw) (drop (entry_name_offset raw) raw) (omega (arith, is.name, length-drop (entry_name_offset raw) raw))
    in
    let few : entry_name_units raw < 256 = number_at-lt 1 6 raw are in
    record {
      kind = number_at-lt 4 0 raw are;
      name = omega (arith, long, few);
      within = omega (arith, long, is.name);
      units = omega (arith, long);
      lowest = number_at-lt 8 8 raw are;
      reference = number_at-lt 8 16 raw are;
      instance = number_at-lt 2 24 raw are;
    }
