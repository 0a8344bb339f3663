-- Records that a buffer holds, and those that a scan has still to give.
use Rattle.std.proofs.Common.{min, ◌^◌, ◌≡◌, ◌+◌, ◌-◌, ◌*◌, ◌/◌, ◌<◌, ◌≤◌, ℕ, zero, suc, List, ◌∷◌, drop, length, take, Option, Some, refl, sym, ap, ◌∙◌, arith, subst}
use Rattle.std.proofs.Math.Nat.{div-mul-le_self}
use Rattle.std.proofs.lemmas.Nat.{le-div}
use Rattle.std.proofs.lemmas.List.{drop-drop, drop-take, length-drop, length-take-le}
use Rattle.ntfs_base.specs.Bytes.{raw_of}
use Rattle.ntfs_base.proofs.BytesLemmas.{raw_of-within, take-drop-take}
use Rattle.ntfs_boot.specs.declared.geometry.Geometry.{Geometry}
use Rattle.ntfs_record.specs.FileRecord.{Laid}
use Rattle.ntfs_record.specs.Slots.{Slot}
use Rattle.ntfs_survey.specs.Surveying.{record_at, slots_in}
use Rattle.ntfs_volume.specs.Located.{Located, located_slot, slots_from}
use Rattle.ntfs_volume.specs.Opened.{Opened}
use Rattle.ntfs_volume.specs.Records.{raw_record}
use Rattle.ntfs_volume.specs.Scan.{HoldRecords, Scanning, initialised_count, taken_count}

abbrev Record : Type 0
Record = Slot (Located (Laid (List ℕ)))

-- the records from a number on
abbrev pub rest_of : Opened → (ℕ → List ℕ) → ℕ → List Record
rest_of o f next = slots_from (record_at o f) next (initialised_count o.geometry o.map - next)

-- ---- records in bytes

front-piece : (size count : ℕ) (bytes : List ℕ) → suc count * size ≤ length bytes → raw_of size bytes 0 ≡ Some (take size bytes)
front-piece size count bytes long =
    raw_of-within size 0 bytes (let fits : 0 * size + size ≤ length bytes = omega (arith, long) in fits)
    ∙ ap (λ n. Some (take size (drop n bytes))) (let none : 0 * size ≡ 0 = omega arith in none)

piece-fits : (size i j all : ℕ) → suc (suc i + j) * size ≤ all → suc i * size + size ≤ all
piece-fits size i j all fits = omega (arith, fits)

fits-among : (size count i all : ℕ) → suc count * size ≤ all → i < count → suc i * size + size ≤ all
fits-among size count i all fits lt =
    piece-fits size i (count - suc i) all (subst (λ n. suc n * size ≤ all) (let e : count ≡ suc i + (count - suc i) = omega arith in e) fits)

next-piece : (size count i : ℕ) (bytes : List ℕ) → suc count * size ≤ length bytes → i < count → raw_of size (drop size bytes) i ≡ raw_of size bytes (suc i)
next-piece size count i bytes long lt =
    let fits = fits-among size count i (length bytes) long lt in
    let rest : i * size + size ≤ length (drop size bytes) = omega (arith, fits, length-drop size bytes) in
    raw_of-within size i (drop size bytes) rest
    ∙ ap (λ xs. Some (take size xs)) (drop-drop (i * size) size bytes)
    ∙ ap (λ n. Some (take size (drop n bytes))) (let e : size + i * size ≡ suc i * size = omega arith in e)
    ∙ sym (raw_of-within size (suc i) bytes fits)

pub held : (size count r : ℕ) (bytes : List ℕ) (g : ℕ → Option (List ℕ)) → count * size ≤ length bytes → ((i : ℕ) → i < count → raw_of size bytes i ≡ g (r + i))
    → slots_in size bytes r count ≡ slots_from (λ n. located_slot n (g n)) r count
unfolding slots_in slots_from
held size zero r bytes g long is = refl
held size (suc count) r bytes g long is =
    let first : Some (take size bytes) ≡ g r = sym (front-piece size count bytes long) ∙ is 0 (omega arith) ∙ ap g (let e : r + 0 ≡ r = omega arith in e) in
    let rest_fits : count * size ≤ length (drop size bytes) = omega (arith, long, length-drop size bytes) in
    ap (λ raw. located_slot r raw ∷ slots_in size (drop size bytes) (suc r) count) first
    ∙ ap (λ (rest : List Record). located_slot r (g r) ∷ rest)
    (held size count (suc r) (drop size bytes) g rest_fits (λ i lt. next-piece size count i bytes long lt ∙ is (suc i) (omega arith) ∙ ap g (let e : r + suc i ≡ suc r + i = omega arith in e)))

-- the bytes behind those of the records play no part
pub held-front : (size count m r : ℕ) (bytes : List ℕ) → count * size ≤ m → slots_in size (take m bytes) r count ≡ slots_in size bytes r count
unfolding slots_in
held-front size zero m r bytes long = refl
held-front size (suc count) m r bytes long =
    let first : take size (take m bytes) ≡ take size bytes = take-drop-take 0 size m bytes (omega (arith, long)) in
    let parts : m ≡ size + (m - size) = omega (arith, long) in
    let rest : drop size (take m bytes) ≡ take (m - size) (drop size bytes) = ap (λ n. drop size (take n bytes)) parts ∙ drop-take size (m - size) bytes in
    ap (λ raw. located_slot r (Some raw) ∷ slots_in size (drop size (take m bytes)) (suc r) count) first
    ∙ ap (λ xs. located_slot r (Some (take size bytes)) ∷ slots_in size xs (suc r) count) rest
    ∙ ap (λ (rest : List Record). located_slot r (Some (take size bytes)) ∷ rest) (held-front size count (m - size) (suc r) (drop size bytes) (omega (arith, long)))

-- ---- a scan of a volume

-- records that a buffer holds
pub chunk-held : (o : Opened) (f : ℕ → List ℕ) (next count : ℕ) (buffer : List ℕ) → count * o.geometry.record_size ≤ length buffer → HoldRecords o.geometry o.map f next count buffer
    → slots_in o.geometry.record_size (take (count * o.geometry.record_size) buffer) next count ≡ slots_from (record_at o f) next count
chunk-held o f next count buffer long holds =
    held-front o.geometry.record_size count (count * o.geometry.record_size) next buffer (omega arith)
    ∙ held o.geometry.record_size count next buffer (raw_record o.geometry o.map f) long holds

room-some : (m size len : ℕ) → len ≡ suc m * size → size ≤ len
room-some m size len is = omega (arith, is)

room-least : (m size len : ℕ) → 0 < m → len ≡ m * size → 1 * size ≤ len
room-least zero size len some is = absurd (omega (arith, some))
room-least (suc m) size len some is = omega (arith, room-some m size len is)

-- a buffer for some records takes one at least
pub count-some : (all next size len : ℕ) → 1024 ≤ size → size ≤ 4096 → len ≡ min all (2 ^ 20 / size) * size → next < all → 0 < min (len / size) (all - next)
count-some all next size len least most is lt =
    let fits : 1 * size ≤ 2 ^ 20 = omega (arith, most) in
    let many = le-div 1 (2 ^ 20) size (omega (arith, least)) fits in
    let room = le-div 1 len size (omega (arith, least)) (room-least (min all (2 ^ 20 / size)) size len (omega (arith, many, lt)) is) in
    omega (arith, room, lt)

pieces_fit : (count most size len : ℕ) → count ≤ most → most * size ≤ len → count * size ≤ len
pieces_fit count most size len le fits =
    let parts : count * size + (most - count) * size ≡ most * size =
    sym (add-parts count (most - count) size) ∙ ap (λ n. n * size) (let e : count + (most - count) ≡ most = omega (arith, le) in e) in
    omega (arith, parts, fits)
  where
    add-parts : (a b c : ℕ) → (a + b) * c ≡ a * c + b * c
    add-parts a b c = omega arith

-- what a buffer takes lies in it
pub taken-fits : (count size len all : ℕ) → count ≡ min (len / size) all → count * size ≤ len
taken-fits count size len all is = pieces_fit count (len / size) size len (omega (arith, is)) (div-mul-le_self len size)

abbrev taken_by : ℕ → Opened → ℕ → ℕ
taken_by room o next = min (room / o.geometry.record_size) (initialised_count o.geometry o.map - next)

-- a scan takes no more records than there are
pub scan-fits : (o : Opened) (s : Scanning) (room : ℕ) → s.table ≡ o → s.next ≤ initialised_count o.geometry o.map → s.next + taken_count s room ≤ initialised_count o.geometry o.map
scan-fits o s room is there =
    let count : taken_count s room ≡ taken_by room o s.next = ap (λ (t : Opened). taken_by room t s.next) is in
    omega (arith, count, there)

-- and one at least, where one is left
pub scan-some : (o : Opened) (s : Scanning) (room all size : ℕ) → s.table ≡ o → 1024 ≤ size → size ≤ 4096 → size ≡ o.geometry.record_size → all ≡ initialised_count o.geometry o.map
    → room ≡ min all (2 ^ 20 / size) * size → s.next < all → 0 < taken_count s room
scan-some o s room all size is least most size_is all_is room_is lt =
    let count : taken_count s room ≡ min (room / size) (all - s.next) =
    ap (λ (t : Opened). taken_by room t s.next) is ∙ ap (λ k. min (room / k) (initialised_count o.geometry o.map - s.next)) (sym size_is) ∙ ap (λ n. min (room / size) (n - s.next)) (sym all_is) in
    omega (arith, count, count-some all s.next size room least most room_is lt)

-- the bytes of the records that a buffer takes
pub chunk-length : (s : Scanning) (o : Opened) (g : Geometry) (count size room : ℕ) (buffer : List ℕ) → s.table ≡ o → g ≡ o.geometry → size ≡ g.record_size → count ≡ taken_count s room → room ≡ length buffer
    → (count * size ≤ length buffer) × (length (take (count * size) buffer) ≡ count * g.record_size)
chunk-length s o g count size room buffer is view size_is count_is room_is =
    let same : count * size ≡ count * s.table.geometry.record_size =
    ap (λ k. count * k) (size_is ∙ ap (λ (g : Geometry). g.record_size) view ∙ sym (ap (λ (t : Opened). t.geometry.record_size) is)) in
    let fits = taken-fits count s.table.geometry.record_size room _ count_is in
    let long : count * size ≤ length buffer = omega (arith, fits, same, room_is) in
    (long, length-take-le (count * size) buffer long ∙ ap (λ k. count * k) size_is)
