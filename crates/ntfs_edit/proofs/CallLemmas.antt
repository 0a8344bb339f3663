-- What the calls find at the place of an attribute, and what they answer.
use Rattle.std.proofs.Common.{◌≡◌, ◌≤◌, ◌<◌, ◌+◌, ◌^◌, ℕ, List, ◌∷◌, ◌++◌, length, Ok, Result, refl, sym, ap, ◌∙◌, subst, arith, inl, inr}
use Rattle.std.specs.Prelude.{OnOk, nat_le}
use Rattle.std.proofs.lemmas.Bool.{leb-true, le-leb}
use Rattle.ntfs_base.specs.Bytes.{AreBytes}
use Rattle.ntfs_record.specs.Layout.{first_attribute_of, in_use_of, length_at, non_resident_at, with_allocated_at, with_size_at, with_valid_at}
use Rattle.ntfs_record.specs.Attribute.{IsSoundAt, HasRuns, HasValue}
use Rattle.ntfs_record.specs.Parsing.{raws_of, parse_of, IsAccepted, record_of}
use Rattle.ntfs_record.specs.Spelling.{AllRaw}
use Rattle.ntfs_record.proofs.Sound.{whether}
use Rattle.ntfs_record.proofs.SpellingLemmas.{parses-spelled}
use Rattle.ntfs_record.proofs.StandsLemmas.{same_fields, same_runs, sound-stands}
use Rattle.ntfs_edit.specs.declared.room.NoRoom.{NoRoom}
use Rattle.ntfs_edit.specs.Edits.{BeginsFrom, changed, pairs_size, with_pairs, value_size, with_value, with_sizes}
use Rattle.ntfs_edit.specs.Respelt.{need_of, respelt, respelt_record, room_for, where_room}
use Rattle.ntfs_edit.specs.Steps.{resized_need, pairs_size_at, value_size_at, pairs_put, value_put}
use Rattle.ntfs_edit.proofs.PartsLemmas.{accepted-record, Around, around, more_of, Parts, parts, parts-stand}
use Rattle.ntfs_edit.proofs.PlaceLemmas.{need-parts, pairs-long, value-long, sizes-long, pairs-put, value-put, sizes-put}
use Rattle.ntfs_edit.proofs.RespeltLemmas.{respelt-parses}

-- ---- the attribute at the place

pub record Call (residence place : ℕ) (bytes : List ℕ) : Type 0 where
  pub here : Around residence place (first_attribute_of bytes) (raws_of bytes (first_attribute_of bytes))
  pub split : Parts bytes place here.before here.raw here.after
  pub small : length bytes < 2 ^ 32
  pub sound : IsSoundAt (in_use_of bytes) place bytes
  pub old_length : length_at place bytes ≡ length here.raw
  pub residence_there : non_resident_at place bytes ≡ residence

pub call : (residence place : ℕ) (bytes : List ℕ) → IsAccepted bytes
    → BeginsFrom residence place (first_attribute_of bytes) (raws_of bytes (first_attribute_of bytes))
    → Call residence place bytes
call residence place bytes is begins =
    let first = first_attribute_of bytes in
    let s = parses-spelled bytes (record_of bytes) (accepted-record bytes is) in
    let a = around residence place first (raws_of bytes first) s.is.all begins in
    let p = parts bytes place a.before a.raw a.after is a.parts a.at in
    let at = parts-stand bytes place a.before a.raw a.after p in
    let f = same_fields place a.raw bytes at (omega (arith, a.is.sound.more, a.is.long)) in
    record {
      here = a;
      split = p;
      small = is.small;
      sound = sound-stands (in_use_of bytes) place a.raw bytes at a.is (omega (arith, p.used, p.more, p.mark));
      old_length = f.long ∙ a.is.long;
      residence_there = f.residence ∙ a.residence_is;
    }

-- the record's attributes with that one changed
pub changed-call : (residence place : ℕ) (bytes : List ℕ) (f : List ℕ → List ℕ) (c : Call residence place bytes)
    → changed place f bytes ≡ c.here.before ++ (f c.here.raw ∷ c.here.after)
unfolding changed
changed-call residence place bytes f c = c.here.changed_is f

pub changed-need : (residence place : ℕ) (bytes : List ℕ) (f : List ℕ → List ℕ) (c : Call residence place bytes)
    → need_of bytes (changed place f bytes) ≡ place + length (f c.here.raw) + length (more_of bytes c.here.after)
changed-need residence place bytes f c =
    ap (need_of bytes) (changed-call residence place bytes f c)
    ∙ need-parts bytes place c.here.before c.here.raw (f c.here.raw) c.here.after c.split

resized-parts : (residence place size : ℕ) (bytes : List ℕ) (c : Call residence place bytes)
    → resized_need place size bytes ≡ place + size + length (more_of bytes c.here.after)
unfolding resized_need
resized-parts residence place size bytes c = omega (arith, c.split.used, c.old_length)

-- ---- with room and without

pub room-same : (n m : ℕ) (bytes a b : List ℕ) → n ≡ m → (m ≤ length bytes → a ≡ b)
    → where_room n bytes a ≡ where_room m bytes b
room-same n m bytes a b same new =
    ap (λ k. where_room k bytes a) same
    ∙ elim (whether (nat_le m (length bytes))) [
      | inl fits ↦ rw fits (new (leb-true m (length bytes) fits))
      | inr not ↦ rw not refl
    ]

pub where-fits : (n : ℕ) (bytes new : List ℕ) → n ≤ length bytes → where_room n bytes new ≡ new
where-fits n bytes new fits = rw (le-leb n (length bytes) fits) refl

pub on-room : (need : ℕ) (bytes : List ℕ) (result : Result (Unit {0}) NoRoom) (P : Type 0)
    → result ≡ room_for need bytes → (need ≤ length bytes → P) → OnOk result P
on-room need bytes result P is holds =
    subst (λ r. OnOk r P) (sym is)
    (elim (whether (nat_le need (length bytes))) [
      | inl fits ↦ rw fits (holds (leb-true need (length bytes) fits))
      | inr not ↦ rw not tt
    ])

-- an edit that had room parses, where the new attributes are sound
pub edit-parses : (bytes new : List ℕ) (raws : List (List ℕ)) (result : Result (Unit {0}) NoRoom) → IsAccepted bytes
    → result ≡ room_for (need_of bytes raws) bytes → new ≡ where_room (need_of bytes raws) bytes (respelt bytes raws)
    → OnOk result (AllRaw raws → 0x30 ≤ first_attribute_of bytes → parse_of new ≡ Ok (respelt_record bytes raws))
edit-parses bytes new raws result is answer same =
    on-room (need_of bytes raws) bytes result (AllRaw raws → 0x30 ≤ first_attribute_of bytes → parse_of new ≡ Ok (respelt_record bytes raws))
    answer (λ fits all first.
    ap parse_of (same ∙ where-fits (need_of bytes raws) bytes (respelt bytes raws) fits)
    ∙ respelt-parses bytes raws (record { accepted = is; first = first; all = all; room = fits }))

-- ---- mapping pairs

pub call-runs : (place : ℕ) (bytes : List ℕ) → Call 1 place bytes → HasRuns place bytes
call-runs place bytes c = c.sound.runs c.residence_there

pairs-size : (place count : ℕ) (bytes : List ℕ) (c : Call 1 place bytes)
    → pairs_size_at place count bytes ≡ pairs_size count c.here.raw
pairs-size place count bytes c =
    let raw = c.here.raw in
    let at = parts-stand bytes place c.here.before raw c.here.after c.split in
    let r = c.here.is.sound.runs c.here.residence_is in
    let g = same_runs place raw bytes at (omega (arith, r.fields, c.here.is.long)) in
    rw (c.old_length, g.pairs_offset) refl

pub pairs-need : (place next : ℕ) (bytes pairs : List ℕ) → Call 1 place bytes
    → resized_need place (pairs_size_at place (length pairs) bytes) bytes ≡ need_of bytes (changed place (with_pairs pairs next) bytes)
pairs-need place next bytes pairs c =
    let long = pairs-long pairs next c.here.raw c.here.is c.here.residence_is in
    resized-parts 1 place (pairs_size_at place (length pairs) bytes) bytes c
    ∙ ap (λ n. place + n + length (more_of bytes c.here.after)) (pairs-size place (length pairs) bytes c ∙ sym long)
    ∙ sym (changed-need 1 place bytes (with_pairs pairs next) c)

pub pairs-new : (place next : ℕ) (bytes pairs : List ℕ) → Call 1 place bytes
    → need_of bytes (changed place (with_pairs pairs next) bytes) ≤ length bytes
    → pairs_put place pairs next bytes ≡ respelt bytes (changed place (with_pairs pairs next) bytes)
pairs-new place next bytes pairs c room =
    let long = pairs-long pairs next c.here.raw c.here.is c.here.residence_is in
    let need = changed-need 1 place bytes (with_pairs pairs next) c in
    pairs-put bytes place c.here.before c.here.raw c.here.after pairs next c.split c.here.is c.here.residence_is (omega arith)
    ∙ ap (respelt bytes) (sym (changed-call 1 place bytes (with_pairs pairs next) c))

-- ---- values

pub call-value : (place : ℕ) (bytes : List ℕ) → Call 0 place bytes → HasValue place bytes
call-value place bytes c = c.sound.resident c.residence_there

value-size : (place count : ℕ) (bytes : List ℕ) (c : Call 0 place bytes)
    → value_size_at place count bytes ≡ value_size count c.here.raw
value-size place count bytes c =
    let raw = c.here.raw in
    let at = parts-stand bytes place c.here.before raw c.here.after c.split in
    let f = same_fields place raw bytes at (omega (arith, c.here.is.sound.more, c.here.is.long)) in
    rw f.value_offset refl

pub value-need : (place : ℕ) (bytes value : List ℕ) → Call 0 place bytes
    → resized_need place (value_size_at place (length value) bytes) bytes ≡ need_of bytes (changed place (with_value value) bytes)
value-need place bytes value c =
    let long = value-long value c.here.raw c.here.is c.here.residence_is in
    resized-parts 0 place (value_size_at place (length value) bytes) bytes c
    ∙ ap (λ n. place + n + length (more_of bytes c.here.after)) (value-size place (length value) bytes c ∙ sym long)
    ∙ sym (changed-need 0 place bytes (with_value value) c)

pub value-new : (place : ℕ) (bytes value : List ℕ) → Call 0 place bytes
    → need_of bytes (changed place (with_value value) bytes) ≤ length bytes
    → value_put place value bytes ≡ respelt bytes (changed place (with_value value) bytes)
value-new place bytes value c room =
    let long = value-long value c.here.raw c.here.is c.here.residence_is in
    let need = changed-need 0 place bytes (with_value value) c in
    value-put bytes place c.here.before c.here.raw c.here.after value c.split c.here.is c.here.residence_is (omega arith)
    ∙ ap (respelt bytes) (sym (changed-call 0 place bytes (with_value value) c))

-- ---- sizes

pub sizes-new : (place allocated size valid : ℕ) (bytes : List ℕ) → AreBytes bytes → Call 1 place bytes
    → with_valid_at place valid (with_size_at place size (with_allocated_at place allocated bytes))
    ≡ respelt bytes (changed place (with_sizes allocated size valid) bytes)
sizes-new place allocated size valid bytes are c =
    let r = c.here.is.sound.runs c.here.residence_is in
    sizes-put bytes place c.here.before c.here.raw c.here.after allocated size valid are c.split (omega (arith, r.fields, c.here.is.long))
    ∙ ap (respelt bytes) (sym (changed-call 1 place bytes (with_sizes allocated size valid) c))

pub sizes-need : (place allocated size valid : ℕ) (bytes : List ℕ) → Call 1 place bytes
    → need_of bytes (changed place (with_sizes allocated size valid) bytes) ≡ in_use_of bytes
sizes-need place allocated size valid bytes c =
    let r = c.here.is.sound.runs c.here.residence_is in
    let long = sizes-long allocated size valid c.here.raw (omega (arith, r.fields, c.here.is.long)) in
    changed-need 1 place bytes (with_sizes allocated size valid) c ∙ omega (arith, c.split.used)
