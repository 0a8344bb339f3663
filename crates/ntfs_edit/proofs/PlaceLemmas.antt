-- What the steps of an edit come to: the record with one attribute changed.
use Rattle.std.proofs.Common.{◌≡◌, ◌≤◌, ◌+◌, ◌-◌, ◌%◌, ℕ, max, List, ◌∷◌, ◌++◌, length, take, drop, replicate, sym, ap, ◌∙◌, arith, length-append}
use Rattle.std.specs.List.{concat}
use Rattle.std.proofs.lemmas.List.{length-take-le, length-replicate}
use Rattle.std.proofs.lemmas.List.Folds.{concat-append}
use Rattle.std.proofs.Math.Seq.{drop-append-add, drop-append_seam}
use Rattle.byteorder.specs.Endian.{little_bytes}
use Rattle.byteorder.specs.Numbers.{length-bytes_low_first}
use Rattle.ntfs_base.specs.Bytes.{AreBytes, piece_at, overwrite}
use Rattle.ntfs_base.proofs.OverwriteLemmas.{length-overwrite, overwrite-left, overwrite-number}
use Rattle.ntfs_record.specs.Layout.{first_attribute_of, in_use_of, length_at, pairs_offset_at, value_offset_at, non_resident_at, with_in_use, with_length_at, with_highest_at, with_value_length_at, with_allocated_at, with_size_at, with_valid_at}
use Rattle.ntfs_record.specs.Attribute.{IsRaw}
use Rattle.ntfs_record.proofs.StandsLemmas.{same_fields, same_runs}
use Rattle.ntfs_edit.specs.Edits.{up8, less_one, padded, pairs_size, with_pairs, value_size, with_value, with_sizes}
use Rattle.ntfs_edit.specs.Respelt.{need_of, respelt, tail_of}
use Rattle.ntfs_edit.specs.Steps.{resized_need, resized, pairs_put, value_put}
use Rattle.ntfs_edit.proofs.PutLemmas.{overwrite-middle, IsRefilled, refilled, refill}
use Rattle.ntfs_edit.proofs.PartsLemmas.{front_of, more_of, rest_of, Parts, regroup, parts-stand, parts-follow}

-- ---- the record with another attribute, by what stands around it

joined-long : (before : List (List ℕ)) (new : List ℕ) (after : List (List ℕ))
    → length (concat (before ++ (new ∷ after))) ≡ length (concat before) + (length new + length (concat after))
joined-long before new after =
    ap length (concat-append before (new ∷ after)) ∙ length-append (concat before) (new ++ concat after)
    ∙ ap (λ n. length (concat before) + n) (length-append new (concat after))

-- the first attribute stands behind the header alone
front-long : (bytes : List ℕ) (before : List (List ℕ)) → first_attribute_of bytes ≤ length bytes
    → length (front_of bytes before) ≡ first_attribute_of bytes + length (concat before)
front-long bytes before within =
    length-append (take (first_attribute_of bytes) bytes) (concat before)
    ∙ ap (λ n. n + length (concat before)) (length-take-le (first_attribute_of bytes) bytes within)

pub need-parts : (bytes : List ℕ) (place : ℕ) (before : List (List ℕ)) (raw new : List ℕ) (after : List (List ℕ))
    → Parts bytes place before raw after
    → need_of bytes (before ++ (new ∷ after)) ≡ place + length new + length (more_of bytes after)
unfolding need_of
need-parts bytes place before raw new after p =
    let joined = joined-long before new after in
    let front = front-long bytes before p.first in
    omega (arith, p.more, p.long)

-- the record with a new attribute in place of the old one
respelt-parts : (bytes : List ℕ) (place : ℕ) (before : List (List ℕ)) (raw new : List ℕ) (after : List (List ℕ))
    → Parts bytes place before raw after
    → respelt bytes (before ++ (new ∷ after))
    ≡ overwrite 0x18 (little_bytes 4 (need_of bytes (before ++ (new ∷ after)))) (front_of bytes before)
    ++ (new ++ (more_of bytes after ++ drop (length new + length (more_of bytes after)) (raw ++ (more_of bytes after ++ rest_of bytes))))
unfolding respelt with_in_use
respelt-parts bytes place before raw new after p =
    let raws = before ++ (new ∷ after) in
    let head = take (first_attribute_of bytes) bytes in
    let used = little_bytes 4 (need_of bytes (before ++ (new ∷ after))) in
    let four : length (little_bytes 4 (need_of bytes (before ++ (new ∷ after)))) ≡ 4 = length-bytes_low_first 0 4 (need_of bytes raws) in
    let head_long = length-take-le (first_attribute_of bytes) bytes p.first in
    let inside : 0x18 + length used ≤ length head = omega (arith, p.header) in
    let need = need-parts bytes place before raw new after p in
    let front = front_of bytes before in
    let all = raw ++ (more_of bytes after ++ rest_of bytes) in
    let sum : need_of bytes (before ++ (new ∷ after)) ≡ length (front_of bytes before) + (length new + length (more_of bytes after)) =
    omega (arith, p.long) in
    let behind : drop (need_of bytes (before ++ (new ∷ after))) bytes ≡ drop (length new + length (more_of bytes after)) all =
    ap (drop (need_of bytes raws)) p.same ∙ ap (λ n. drop n (front ++ all)) sum
    ∙ drop-append-add front all (length new + length (more_of bytes after)) in
    ap (λ xs. overwrite 0x18 used head ++ (xs ++ (tail_of bytes ++ drop (need_of bytes raws) bytes))) (concat-append before (new ∷ after))
    ∙ regroup (overwrite 0x18 used head) (concat before) new (concat after) (tail_of bytes) (drop (need_of bytes raws) bytes)
    ∙ ap (λ xs. xs ++ (new ++ (more_of bytes after ++ drop (need_of bytes raws) bytes))) (sym (overwrite-left 0x18 used head (concat before) inside))
    ∙ ap (λ xs. overwrite 0x18 used front ++ (new ++ (more_of bytes after ++ xs))) behind

-- ---- what follows is shifted, and a text and two fields are put in

-- the bytes of an attribute that is refilled
pub refilled-long : (k offset size : ℕ) (field text raw : List ℕ) → 4 + 4 ≤ offset → k + length field ≤ offset
    → offset ≤ length raw → offset + length text ≡ size
    → length (refilled k offset (little_bytes 4 size) field text raw) ≡ size
refilled-long k offset size field text raw first second within ends =
    let long = little_bytes 4 size in
    let four : length (little_bytes 4 size) ≡ 4 = length-bytes_low_first 0 4 size in
    let base = length-take-le offset raw within in
    let one = length-overwrite 4 long (take offset raw) (omega arith) in
    let two = length-overwrite k field (overwrite 4 long (take offset raw)) (omega arith) in
    omega (arith, length-append (overwrite k field (overwrite 4 long (take offset raw))) text)

pub record IsPutIn (bytes : List ℕ) (place : ℕ) (raw : List ℕ) (after : List (List ℕ)) (k offset size : ℕ) (field text : List ℕ) : Type 0 where
  pub old_length : length_at place bytes ≡ length raw
  pub length_inside : 4 + 4 ≤ offset
  pub field_inside : k + length field ≤ offset
  pub within : offset ≤ length raw
  pub ends : offset + length text ≡ size
  pub room : place + size + length (more_of bytes after) ≤ length bytes

pub put-in : (bytes : List ℕ) (place : ℕ) (before : List (List ℕ)) (raw : List ℕ) (after : List (List ℕ)) (k offset size : ℕ) (field text : List ℕ)
    → Parts bytes place before raw after → IsPutIn bytes place raw after k offset size field text
    → overwrite (place + offset) text (overwrite (place + k) field (resized place size bytes))
    ≡ respelt bytes (before ++ (refilled k offset (little_bytes 4 size) field text raw ∷ after))
unfolding resized resized_need with_length_at with_in_use
put-in bytes place before raw after k offset size field text p is =
    let long = little_bytes 4 size in
    let four : length (little_bytes 4 size) ≡ 4 = length-bytes_low_first 0 4 size in
    let new = refilled k offset (little_bytes 4 size) field text raw in
    let new_long : length (refilled k offset (little_bytes 4 size) field text raw) ≡ size =
    refilled-long k offset size field text raw is.length_inside is.field_inside is.within is.ends in
    let front = front_of bytes before in
    let more = more_of bytes after in
    let rest = rest_of bytes in
    let need = need-parts bytes place before raw new after p in
    let needed : place + size + (in_use_of bytes - (place + length_at place bytes)) ≡ need_of bytes (before ++ (new ∷ after)) =
    omega (arith, p.used, is.old_length) in
    let used = little_bytes 4 (need_of bytes (before ++ (new ∷ after))) in
    let used_long : length (little_bytes 4 (need_of bytes (before ++ (new ∷ after)))) ≡ 4 = length-bytes_low_first 0 4 (need_of bytes (before ++ (new ∷ after))) in
    let shifted : piece_at (place + length_at place bytes) (in_use_of bytes - (place + length_at place bytes)) bytes ≡ more =
    ap (λ n. piece_at (place + n) (in_use_of bytes - (place + n)) bytes) is.old_length ∙ parts-follow bytes place before raw after p in
    let steps = λ (u m b : List ℕ). overwrite (place + offset) text (overwrite (place + k) field (overwrite (place + 4) long (overwrite 0x18 u (overwrite (place + size) m b)))) in
    let front_is = front-long bytes before p.first in
    let fits : IsRefilled size k offset used long field text front raw more rest = record {
      header = omega (arith, p.header);
      length_inside = omega (arith, is.length_inside);
      field_inside = is.field_inside;
      offset_inside = is.within;
      ends = is.ends;
      room = omega (arith, is.room, p.whole, p.used);
    } in
    ap (λ n. steps (little_bytes 4 n) (piece_at (place + length_at place bytes) (in_use_of bytes - (place + length_at place bytes)) bytes) bytes) needed
    ∙ ap (λ m. steps used m bytes) shifted
    ∙ ap (λ b. steps used more b) p.same
    ∙ refill size k offset place used long field text front raw more rest fits p.long
    ∙ ap (λ n. overwrite 0x18 used front ++ (new ++ (more ++ drop (n + length more) (raw ++ (more ++ rest))))) (sym new_long)
    ∙ sym (respelt-parts bytes place before raw new after p)

-- ---- mapping pairs, values and sizes

pub up8-bounds : (n : ℕ) → (n ≤ up8 n) × (up8 n ≤ n + 7) × (up8 n % 8 ≡ 0)
unfolding up8
up8-bounds n = (omega arith, omega arith, omega arith)

pub padded-long : (size : ℕ) (text : List ℕ) → length text ≤ size → length (padded size text) ≡ size
padded-long size text within =
    omega (arith, length-append text (replicate {A = ℕ} (size - length text) 0), length-replicate {A = ℕ} (size - length text) 0)

pub pairs-long : (pairs : List ℕ) (next : ℕ) (raw : List ℕ) → IsRaw raw → non_resident_at 0 raw ≡ 1
    → length (with_pairs pairs next raw) ≡ pairs_size (length pairs) raw
unfolding with_pairs with_highest_at with_length_at
pairs-long pairs next raw is runs =
    let r = is.sound.runs runs in
    let eight : length (little_bytes 8 (less_one next)) ≡ 8 = length-bytes_low_first 0 8 (less_one next) in
    let bounds = up8-bounds (pairs_offset_at 0 raw + length pairs) in
    let size = pairs_size (length pairs) raw in
    let offset = pairs_offset_at 0 raw in
    let whole : offset + (size - offset) ≡ size = omega (arith, bounds.0) in
    let text = padded-long (size - offset) pairs (omega (arith, bounds.0)) in
    refilled-long 0x18 offset size (little_bytes 8 (less_one next)) (padded (size - offset) pairs) raw
    (omega (arith, r.begins)) (omega (arith, r.begins)) (omega (arith, r.ends, is.long)) (omega arith)

pub value-long : (value raw : List ℕ) → IsRaw raw → non_resident_at 0 raw ≡ 0
    → length (with_value value raw) ≡ value_size (length value) raw
unfolding with_value with_value_length_at with_length_at
value-long value raw is resident =
    let v = is.sound.resident resident in
    let four : length (little_bytes 4 (length value)) ≡ 4 = length-bytes_low_first 0 4 (length value) in
    let bounds = up8-bounds (value_offset_at 0 raw + length value) in
    let size = value_size (length value) raw in
    let offset = value_offset_at 0 raw in
    let text = padded-long (size - offset) value (omega (arith, bounds.0)) in
    refilled-long 0x10 offset size (little_bytes 4 (length value)) (padded (size - offset) value) raw
    (omega (arith, v.begins)) (omega (arith, v.begins)) (omega (arith, v.ends, is.long)) (omega (arith, bounds.0))

pub pairs-put : (bytes : List ℕ) (place : ℕ) (before : List (List ℕ)) (raw : List ℕ) (after : List (List ℕ)) (pairs : List ℕ) (next : ℕ)
    → Parts bytes place before raw after → IsRaw raw → non_resident_at 0 raw ≡ 1
    → place + pairs_size (length pairs) raw + length (more_of bytes after) ≤ length bytes
    → pairs_put place pairs next bytes ≡ respelt bytes (before ++ (with_pairs pairs next raw ∷ after))
unfolding pairs_put with_highest_at with_length_at with_pairs
pairs-put bytes place before raw after pairs next p is runs room =
    let r = is.sound.runs runs in
    let at = parts-stand bytes place before raw after p in
    let f = same_fields place raw bytes at (omega (arith, is.sound.more, is.long)) in
    let g = same_runs place raw bytes at (omega (arith, r.fields, is.long)) in
    let old : length_at place bytes ≡ length raw = f.long ∙ is.long in
    let field = little_bytes 8 (less_one next) in
    let eight : length (little_bytes 8 (less_one next)) ≡ 8 = length-bytes_low_first 0 8 (less_one next) in
    let bounds = up8-bounds (pairs_offset_at 0 raw + length pairs) in
    let size = pairs_size (length pairs) raw in
    let offset = pairs_offset_at 0 raw in
    let whole : offset + (size - offset) ≡ size = omega (arith, bounds.0) in
    let text_long = padded-long (size - offset) pairs (omega (arith, bounds.0)) in
    let step = λ (n o : ℕ). overwrite (place + o) (padded (max n (up8 (o + length pairs)) - o) pairs)
    (overwrite (place + 0x18) field (resized place (max n (up8 (o + length pairs))) bytes)) in
    ap (λ n. step n (pairs_offset_at place bytes)) old
    ∙ ap (λ o. step (length raw) o) g.pairs_offset
    ∙ put-in bytes place before raw after 0x18 offset size field (padded (size - offset) pairs) p
    (record {
      old_length = old;
      length_inside = omega (arith, r.begins);
      field_inside = omega (arith, r.begins);
      within = omega (arith, r.ends, is.long);
      ends = omega arith;
      room = room;
    })

pub value-put : (bytes : List ℕ) (place : ℕ) (before : List (List ℕ)) (raw : List ℕ) (after : List (List ℕ)) (value : List ℕ)
    → Parts bytes place before raw after → IsRaw raw → non_resident_at 0 raw ≡ 0
    → place + value_size (length value) raw + length (more_of bytes after) ≤ length bytes
    → value_put place value bytes ≡ respelt bytes (before ++ (with_value value raw ∷ after))
unfolding value_put with_value_length_at with_length_at with_value
value-put bytes place before raw after value p is resident room =
    let v = is.sound.resident resident in
    let at = parts-stand bytes place before raw after p in
    let f = same_fields place raw bytes at (omega (arith, is.sound.more, is.long)) in
    let old : length_at place bytes ≡ length raw = f.long ∙ is.long in
    let field = little_bytes 4 (length value) in
    let four : length (little_bytes 4 (length value)) ≡ 4 = length-bytes_low_first 0 4 (length value) in
    let bounds = up8-bounds (value_offset_at 0 raw + length value) in
    let size = value_size (length value) raw in
    let offset = value_offset_at 0 raw in
    let text_long = padded-long (size - offset) value (omega (arith, bounds.0)) in
    let step = λ (o : ℕ). overwrite (place + o) (padded (up8 (o + length value) - o) value)
    (overwrite (place + 0x10) field (resized place (up8 (o + length value)) bytes)) in
    ap step f.value_offset
    ∙ put-in bytes place before raw after 0x10 offset size field (padded (size - offset) value) p
    (record {
      old_length = old;
      length_inside = omega (arith, v.begins);
      field_inside = omega (arith, v.begins);
      within = omega (arith, v.ends, is.long);
      ends = omega (arith, bounds.0);
      room = room;
    })

-- three numbers of eight bytes keep the length
pub sizes-long : (allocated size valid : ℕ) (raw : List ℕ) → 64 ≤ length raw
    → length (with_sizes allocated size valid raw) ≡ length raw
unfolding with_sizes with_valid_at with_size_at with_allocated_at
sizes-long allocated size valid raw long =
    let a : length (little_bytes 8 allocated) ≡ 8 = length-bytes_low_first 0 8 allocated in
    let b : length (little_bytes 8 size) ≡ 8 = length-bytes_low_first 0 8 size in
    let c : length (little_bytes 8 valid) ≡ 8 = length-bytes_low_first 0 8 valid in
    let one = length-overwrite 0x28 (little_bytes 8 allocated) raw (omega arith) in
    let two = length-overwrite 0x30 (little_bytes 8 size) (overwrite 0x28 (little_bytes 8 allocated) raw) (omega arith) in
    length-overwrite 0x38 (little_bytes 8 valid) (overwrite 0x30 (little_bytes 8 size) (overwrite 0x28 (little_bytes 8 allocated) raw)) (omega arith)
    ∙ two ∙ one

pub sizes-put : (bytes : List ℕ) (place : ℕ) (before : List (List ℕ)) (raw : List ℕ) (after : List (List ℕ)) (allocated size valid : ℕ)
    → AreBytes bytes → Parts bytes place before raw after → 64 ≤ length raw
    → with_valid_at place valid (with_size_at place size (with_allocated_at place allocated bytes))
    ≡ respelt bytes (before ++ (with_sizes allocated size valid raw ∷ after))
unfolding with_sizes with_valid_at with_size_at with_allocated_at
sizes-put bytes place before raw after allocated size valid are p long =
    let a : length (little_bytes 8 allocated) ≡ 8 = length-bytes_low_first 0 8 allocated in
    let b : length (little_bytes 8 size) ≡ 8 = length-bytes_low_first 0 8 size in
    let c : length (little_bytes 8 valid) ≡ 8 = length-bytes_low_first 0 8 valid in
    let new = with_sizes allocated size valid raw in
    let new_long : length (with_sizes allocated size valid raw) ≡ length raw = sizes-long allocated size valid raw long in
    let front = front_of bytes before in
    let more = more_of bytes after in
    let rest = rest_of bytes in
    let need = need-parts bytes place before raw new after p in
    let needed : need_of bytes (before ++ (new ∷ after)) ≡ in_use_of bytes = omega (arith, p.used) in
    let used = little_bytes 4 (in_use_of bytes) in
    let four : length (little_bytes 4 (in_use_of bytes)) ≡ 4 = length-bytes_low_first 0 4 (in_use_of bytes) in
    let front_is = front-long bytes before p.first in
    let inside : 0x18 + length used ≤ length front = omega (arith, p.header) in
    let told : bytes ≡ overwrite 0x18 used front ++ (raw ++ (more ++ rest)) =
    sym (overwrite-number 4 0x18 bytes are (omega (arith, p.header, p.first)))
    ∙ ap (overwrite 0x18 used) p.same ∙ overwrite-left 0x18 used front (raw ++ (more ++ rest)) inside in
    let new_front = overwrite 0x18 used front in
    let at : length (overwrite 0x18 used front) ≡ place = length-overwrite 0x18 used front inside ∙ p.long in
    let one_long = length-overwrite 0x28 (little_bytes 8 allocated) raw (omega arith) in
    let one = overwrite 0x28 (little_bytes 8 allocated) raw in
    let two_long = length-overwrite 0x30 (little_bytes 8 size) one (omega arith) in
    let two = overwrite 0x30 (little_bytes 8 size) one in
    let steps = λ (xs : List ℕ). overwrite (place + 0x38) (little_bytes 8 valid) (overwrite (place + 0x30) (little_bytes 8 size) xs) in
    let behind : drop (length new + length more) (raw ++ (more ++ rest)) ≡ rest =
    ap (λ n. drop (n + length more) (raw ++ (more ++ rest))) new_long
    ∙ drop-append-add raw (more ++ rest) (length more) ∙ drop-append_seam more rest in
    ap (λ xs. steps (overwrite (place + 0x28) (little_bytes 8 allocated) xs)) told
    ∙ ap steps (overwrite-middle place 0x28 (little_bytes 8 allocated) new_front raw (more ++ rest) at (omega arith))
    ∙ ap (overwrite (place + 0x38) (little_bytes 8 valid)) (overwrite-middle place 0x30 (little_bytes 8 size) new_front one (more ++ rest) at (omega arith))
    ∙ overwrite-middle place 0x38 (little_bytes 8 valid) new_front two (more ++ rest) at (omega arith)
    ∙ ap (λ xs. new_front ++ (new ++ (more ++ xs))) (sym behind)
    ∙ ap (λ n. overwrite 0x18 (little_bytes 4 n) front ++ (new ++ (more ++ drop (length new + length more) (raw ++ (more ++ rest))))) (sym needed)
    ∙ sym (respelt-parts bytes place before raw new after p)
