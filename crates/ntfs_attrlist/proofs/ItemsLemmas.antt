-- Reading gives exactly what the relations say: the entries whose bytes are joined, or those before the first place at which
-- none stands.
use Rattle.std.proofs.Common.{◌≡◌, ◌≢◌, ◌≤◌, ◌+◌, ◌-◌, ℕ, zero, suc, true, false, List, [], ◌∷◌, ◌++◌, length, take, drop, map, refl, sym, ap, subst, ◌∙◌, arith, inl, inr, append_assoc, length-append}
use Rattle.std.specs.Prelude.{◌==◌, ◌⊎◌, Result, Ok, Err}
use Rattle.std.specs.List.{concat}
use Rattle.std.proofs.lemmas.Bool.{eqb-true}
use Rattle.std.proofs.lemmas.List.{append-nil, length-drop, take-append-drop, drop_at}
use Rattle.ntfs_attrlist.specs.declared.fault.BadEntry.{BadEntry}
use Rattle.ntfs_attrlist.specs.Layout.{list_entry_length}
use Rattle.ntfs_attrlist.specs.Entry.{Listed, listed_of, IsRawEntry}
use Rattle.ntfs_attrlist.specs.AttributeList.{AreRawEntries, AreEntries, BreaksAt}
use Rattle.ntfs_attrlist.specs.Reading.{has_entry, first_raw, list_items_from, list_items, entries_and_fault}
use Rattle.ntfs_attrlist.proofs.EntryLemmas.{has_first, length-first_raw, first_raw-is, has_entry-raw, list_entry_length-raw, first_raw-raw, whether, none-has, has-none}

abbrev pub fault_at : ℕ → Result Listed BadEntry
fault_at place = Err (record { place = place })

-- ---- one step

-- the bytes of the entry before are passed
list_items_from-skip : (skip place : ℕ) (bytes : List ℕ) → skip ≤ length bytes → list_items_from skip place bytes ≡ list_items_from 0 (place + skip) (drop skip bytes)
unfolding list_items_from
list_items_from-skip zero place bytes within = let same : place + 0 ≡ place = omega arith in rw same refl
list_items_from-skip (suc skip) place [] within = absurd (omega arith)
list_items_from-skip (suc skip) place (byte ∷ bytes) within =
    let same : suc place + skip ≡ place + suc skip = omega arith in
    rw (← same) (list_items_from-skip skip (suc place) bytes (omega arith))

pub list_items_from-nil : (place : ℕ) → list_items_from 0 place [] ≡ []
unfolding list_items_from
list_items_from-nil place = refl

-- an entry is in front of those behind its bytes
pub list_items_from-first : (place : ℕ) (bytes : List ℕ) → has_entry bytes ≡ true
    → list_items_from 0 place bytes ≡ Ok (listed_of (first_raw bytes)) ∷ list_items_from 0 (place + list_entry_length bytes) (drop (list_entry_length bytes) bytes)
unfolding list_items_from
list_items_from-first place [] has = let h = has_first [] has in absurd (omega (arith, h.fields))
list_items_from-first place (byte ∷ bytes) has =
    let h = has_first (byte ∷ bytes) has in
    let size = list_entry_length (byte ∷ bytes) in
    let next : size ≡ suc (size - 1) = omega (arith, h.least) in
    let step : list_items_from 0 place (byte ∷ bytes) ≡ Ok (listed_of (first_raw (byte ∷ bytes))) ∷ list_items_from (size - 1) (suc place) bytes = rw has refl in
    let moved = list_items_from-skip (size - 1) (suc place) bytes (omega (arith, h.within, h.least)) in
    let there : suc place + (size - 1) ≡ place + size = omega (arith, h.least) in
    let left : drop (size - 1) bytes ≡ drop size (byte ∷ bytes) = ap (λ (n : ℕ). drop n (byte ∷ bytes)) (sym next) in
    step ∙ ap (λ (items : List (Result Listed BadEntry)). Ok (listed_of (first_raw (byte ∷ bytes))) ∷ items)
    (moved ∙ ap (λ (p : ℕ). list_items_from 0 p (drop (size - 1) bytes)) there ∙ ap (λ (b : List ℕ). list_items_from 0 (place + size) b) left)

-- where no entry stands, there is the fault alone
pub list_items_from-bad : (place : ℕ) (bytes : List ℕ) → bytes ≢ [] → has_entry bytes ≡ false → list_items_from 0 place bytes ≡ fault_at place ∷ []
unfolding list_items_from
list_items_from-bad place [] some has = absurd (some refl)
list_items_from-bad place (byte ∷ bytes) some has = rw has refl

-- ---- entries in a row

-- entries joined are read as what they say
pub list_items_from-raws : (place : ℕ) (raws : List (List ℕ)) (rest : List ℕ) → AreRawEntries raws
    → list_items_from 0 place (concat raws ++ rest) ≡ map Ok (map listed_of raws) ++ list_items_from 0 (place + length (concat raws)) rest
list_items_from-raws place [] rest are = let same : place ≡ place + 0 = omega arith in ap (λ (p : ℕ). list_items_from 0 p rest) same
list_items_from-raws place (raw ∷ raws) rest (is, are) =
    let behind = concat raws ++ rest in
    let first = list_items_from-first place (raw ++ behind) (has_entry-raw raw behind is) in
    let size = list_entry_length-raw raw behind is in
    let head = ap listed_of (first_raw-raw raw behind is) in
    let left : drop (list_entry_length (raw ++ behind)) (raw ++ behind) ≡ behind = drop_at raw behind (list_entry_length (raw ++ behind)) (sym size) in
    let next = list_items_from-raws (place + length raw) raws rest are in
    let there : place + length raw + length (concat raws) ≡ place + length (raw ++ concat raws) = omega (arith, length-append raw (concat raws)) in
    ap (list_items_from 0 place) (append_assoc raw (concat raws) rest) ∙ first
    ∙ ap (λ (e : Listed). Ok e ∷ list_items_from 0 (place + list_entry_length (raw ++ behind)) (drop (list_entry_length (raw ++ behind)) (raw ++ behind))) head
    ∙ ap (λ (n : ℕ). Ok (listed_of raw) ∷ list_items_from 0 (place + n) (drop (list_entry_length (raw ++ behind)) (raw ++ behind))) size
    ∙ ap (λ (b : List ℕ). Ok (listed_of raw) ∷ list_items_from 0 (place + length raw) b) left
    ∙ ap (λ (items : List (Result Listed BadEntry)). Ok (listed_of raw) ∷ items)
    (next ∙ ap (λ (p : ℕ). map Ok (map listed_of raws) ++ list_items_from 0 p rest) there)

-- the list is its entries' bytes joined, and bytes that aren't any more or begin with no entry
pub record Cut (bytes : List ℕ) : Type 0 where
  pub raws : List (List ℕ)
  pub rest : List ℕ
  pub each : AreRawEntries raws
  pub joined : bytes ≡ concat raws ++ rest
  pub ends : (rest ≡ []) ⊎ ((rest ≢ []) × (has_entry rest ≡ false))

some : (byte : ℕ) (bytes : List ℕ) → byte ∷ bytes ≢ []
some byte bytes e = cc

pub cut : (n : ℕ) (bytes : List ℕ) → length bytes ≤ n → Cut bytes
cut n [] within = record { raws = []; rest = []; each = tt; joined = refl; ends = inl refl }
cut zero (byte ∷ bytes) within = absurd (omega arith)
cut (suc n) (byte ∷ bytes) within =
    elim (whether (has_entry (byte ∷ bytes))) [
      | inl has ↦
          let h = has_first (byte ∷ bytes) has in
          let size = list_entry_length (byte ∷ bytes) in
          let behind = cut n (drop size (byte ∷ bytes)) (omega (arith, within, h.least, length-drop size (byte ∷ bytes))) in
          record {
            raws = first_raw (byte ∷ bytes) ∷ behind.raws;
            rest = behind.rest;
            each = (first_raw-is (byte ∷ bytes) h, behind.each);
            joined =
                sym (take-append-drop size (byte ∷ bytes)) ∙ ap (λ (b : List ℕ). first_raw (byte ∷ bytes) ++ b) behind.joined
                ∙ sym (append_assoc (first_raw (byte ∷ bytes)) (concat behind.raws) behind.rest);
            ends = behind.ends;
          }
      | inr has ↦ record { raws = []; rest = byte ∷ bytes; each = tt; joined = refl; ends = inr (some byte bytes, has) }
    ]

-- ---- the relations

-- entries joined are read, all of them
pub entries-read : (bytes : List ℕ) (entries : List Listed) → AreEntries bytes entries → list_items bytes ≡ map Ok entries
unfolding list_items
entries-read bytes entries are =
    let whole : bytes ≡ concat are.raws ++ [] = are.joined ∙ sym (append-nil (concat are.raws)) in
    ap (list_items_from 0 0) whole ∙ list_items_from-raws 0 are.raws [] are.each
    ∙ ap (λ (items : List (Result Listed BadEntry)). map Ok (map listed_of are.raws) ++ items) (list_items_from-nil (0 + length (concat are.raws)))
    ∙ append-nil (map Ok (map listed_of are.raws)) ∙ ap (map Ok) (sym are.say)

-- a list that breaks is read up to there
pub breaks-read : (bytes : List ℕ) (entries : List Listed) (place : ℕ) → BreaksAt bytes entries place → list_items bytes ≡ entries_and_fault entries place
unfolding list_items
breaks-read bytes entries place breaks =
    let are = breaks.before in
    let whole : bytes ≡ concat are.raws ++ breaks.rest = breaks.joined ∙ ap (λ (b : List ℕ). b ++ breaks.rest) are.joined in
    let there : 0 + length (concat are.raws) ≡ place = omega (arith, ap length are.joined, breaks.length_of_front) in
    ap (list_items_from 0 0) whole ∙ list_items_from-raws 0 are.raws breaks.rest are.each
    ∙ ap (λ (items : List (Result Listed BadEntry)). map Ok (map listed_of are.raws) ++ items)
    (list_items_from-bad (0 + length (concat are.raws)) breaks.rest breaks.more (has-none breaks.rest breaks.no_entry) ∙ ap (λ (p : ℕ). fault_at p ∷ []) there)
    ∙ ap (λ (es : List Listed). entries_and_fault es place) (sym are.say)

-- each list of bytes is one or the other
pub record Whole (bytes : List ℕ) : Type 0 where
  pub entries : List Listed
  pub are : AreEntries bytes entries

pub record Broken (bytes : List ℕ) : Type 0 where
  pub entries : List Listed
  pub place : ℕ
  pub breaks : BreaksAt bytes entries place

pub whole_or_broken : (bytes : List ℕ) → Whole bytes ⊎ Broken bytes
whole_or_broken bytes = of (cut (length bytes) bytes (omega arith))
  where
    of : Cut bytes → Whole bytes ⊎ Broken bytes
    of c =
        elim c.ends [
          | inl none ↦
              inl (record {
                entries = map listed_of c.raws;
                are = record {
                  raws = c.raws;
                  each = c.each;
                  joined = c.joined ∙ ap (λ (b : List ℕ). concat c.raws ++ b) none ∙ append-nil (concat c.raws);
                  say = refl;
                };
              })
          | inr left ↦
              inr (record {
                entries = map listed_of c.raws;
                place = length (concat c.raws);
                breaks = record {
                  front = concat c.raws;
                  rest = c.rest;
                  joined = c.joined;
                  length_of_front = refl;
                  before = record { raws = c.raws; each = c.each; joined = refl; say = refl };
                  more = left.0;
                  no_entry = none-has c.rest left.1;
                };
              })
        ]

-- ---- one step of an iterator

pub step-end : (place : ℕ) (bytes : List ℕ) → (length bytes == 0) ≡ true → list_items_from 0 place bytes ≡ []
step-end place [] empty = list_items_from-nil place
step-end place (byte ∷ bytes) empty = let none : length (byte ∷ bytes) ≡ 0 = eqb-true _ _ empty in absurd (omega arith)

pub step-bad : (place : ℕ) (bytes : List ℕ) → (length bytes == 0) ≡ false → has_entry bytes ≡ false
    → list_items_from 0 place bytes ≡ fault_at place ∷ list_items_from 0 place []
step-bad place [] more has = absurd cc
step-bad place (byte ∷ bytes) more has =
    list_items_from-bad place (byte ∷ bytes) (some byte bytes) has ∙ ap (λ (items : List (Result Listed BadEntry)). fault_at place ∷ items) (sym (list_items_from-nil place))

-- the bytes that were split off are an entry
pub split-raw : (bytes raw : List ℕ) (size : ℕ) → has_entry bytes ≡ true → size ≡ list_entry_length bytes → raw ≡ take size bytes → IsRawEntry raw
split-raw bytes raw size has size-is raw-is =
    let raw-first : raw ≡ first_raw bytes = raw-is ∙ ap (λ (n : ℕ). take n bytes) size-is in
    subst IsRawEntry (sym raw-first) (first_raw-is bytes (has_first bytes has))

pub step-entry : (place : ℕ) (bytes raw rest : List ℕ) (listed : Listed) (size : ℕ) → has_entry bytes ≡ true → size ≡ list_entry_length bytes → raw ≡ take size bytes → rest ≡ drop size bytes
    → listed ≡ listed_of raw → list_items_from 0 place bytes ≡ Ok listed ∷ list_items_from 0 (place + length raw) rest
step-entry place bytes raw rest listed size has size-is raw-is rest-is says =
    let raw-first : raw ≡ first_raw bytes = raw-is ∙ ap (λ (n : ℕ). take n bytes) size-is in
    let behind : rest ≡ drop (list_entry_length bytes) bytes = rest-is ∙ ap (λ (n : ℕ). drop n bytes) size-is in
    let long : length raw ≡ list_entry_length bytes = ap length raw-first ∙ length-first_raw bytes (has_first bytes has) in
    let told : listed ≡ listed_of (first_raw bytes) = says ∙ ap listed_of raw-first in
    rw (long, behind, told) (list_items_from-first place bytes has)
