-- Records and their copies in the mirror.
use Rattle.std.proofs.Common.{◌≡◌, ◌≤◌, ◌<◌, ◌+◌, ◌-◌, ◌*◌, ◌/◌, ◌==◌, ◌&&◌, ◌||◌, ◌∙◌, inl, inr, ap, sym, refl, subst, arith, ℕ, zero, suc, Bool, true, false, List, [], ◌∷◌, ◌++◌, length, take, drop, min, map, nat_le, nat_lt, Option, Some, None, Result, Ok, Err, if◌then◌else◌}
use Rattle.std.proofs.lemmas.Bool.{and_from, cases_lt}
use Rattle.std.proofs.lemmas.Bool.Decides.{nat_tests}
use Rattle.std.proofs.lemmas.List.{get_or_past, length-take}
use Rattle.std.proofs.Math.Nat.{div-lt_iff_lt-mul}
use Rattle.std.specs.Prelude.{slice_index}
use Rattle.std.specs.Result.{result_map_both}
use Rattle.ntfs_base.proofs.BytesLemmas.{take-drop-take}
use Rattle.ntfs_base.specs.Bytes.{cluster_at, fill_cluster, join_clusters, raw_of, stream}
use Rattle.ntfs_base.specs.Checks.{check, first_wrong}
use Rattle.ntfs_base.specs.Frames.{Gives}
use Rattle.ntfs_base.specs.declared.refusal.Rule.TheVariants as rule
use Rattle.ntfs_boot.specs.declared.geometry.Geometry.{Geometry}
use Rattle.ntfs_check_fixed.proofs.FixedLemmas.{found-is}
use Rattle.ntfs_check_fixed.specs.Copies.{copy_check, is_copied, is_same_at}
use Rattle.ntfs_check_fixed.specs.Rows.{found_by}
use Rattle.ntfs_directory.specs.UpCase.{data_kind}
use Rattle.ntfs_fixup.specs.Fixups.{unfix_of}
use Rattle.ntfs_fixup.specs.declared.header.Magic.TheVariants.{File}
use Rattle.ntfs_fixup.specs.declared.unfixing.FixFault.{FixFault}
use Rattle.ntfs_record.specs.Layout.{in_use_of}
use Rattle.ntfs_rules.proofs.DataLemmas.{content-is}
use Rattle.ntfs_rules.proofs.ListLemmas.{raw-past}
use Rattle.ntfs_rules.specs.Clusters.{holds_below}
use Rattle.ntfs_rules.specs.FixedRecords.{c16, has_copy, if_whole, is_copy, is_in_array, unfixed_in}
use Rattle.ntfs_rules.specs.Outcome.{check_origin, unless_number}
use Rattle.ntfs_rules.specs.VolumeData.{bytes_found, content_in, table_bytes, volume_data}
use Rattle.ntfs_rules.specs.declared.fault.CheckFault.{CheckFault}
use Rattle.ntfs_stream.specs.StreamBytes.{bytes_of_stream, filled_stream}
use Rattle.ntfs_volume.proofs.MappedLemmas.{gather-mapped}
use Rattle.ntfs_volume.specs.Located.{slots_of, with_cells}
use Rattle.ntfs_volume.specs.MftMap.{Map}
use Rattle.ntfs_volume.specs.Opened.{Opened}
use Rattle.ntfs_volume.specs.Records.{raw_record}
use Rattle.ntfs_volume.specs.Scan.{HoldRecords, initialised_count}
use Rattle.ntfs_volume.specs.Streams.{Gathered, gather_of, lists_of, map_gathered}
use Rattle.ntfs_volume.specs.declared.fault.VolumeFault.{VolumeFault}

-- ---- tests below a number

all-hold : (n : ℕ) (test : ℕ → Bool) → ((k : ℕ) → k < n → test k ≡ true) → holds_below n test ≡ true
all-hold zero test all = refl
all-hold (suc n) test all = and_from (holds_below n test) (test n) (all-hold n test (λ k below. all k (omega (arith, below)))) (all n (omega arith))

and-second : (a b : Bool) → b ≡ false → (a && b) ≡ false
and-second true b second = second
and-second false b second = refl

and-first : (a b : Bool) → a ≡ false → (a && b) ≡ false
and-first a b first = rw first refl

one-fails : (n k : ℕ) (test : ℕ → Bool) → k < n → test k ≡ false → holds_below n test ≡ false
one-fails zero k test below fails = absurd (omega (arith, below))
one-fails (suc n) k test below fails = elim (cases_lt k n) [
  | inl before ↦ and-first (holds_below n test) (test n) (one-fails n k test before fails)
  | inr at ↦
      let last : k ≡ n = omega (arith, below, at) in
      and-second (holds_below n test) (test n) (ap test (sym last) ∙ fails)
]

-- ---- two records

same-past : (a b : Bool) (x y : ℕ) → x ≡ y → (a || (x == y)) ≡ true
same-past true b x y same = refl
same-past false b x y same = grind (arith, nat_tests)

past-both : (block copy : List ℕ) (p : ℕ) → length copy ≡ length block → length block ≤ p → is_same_at block copy p ≡ true
past-both block copy p long past =
    same-past (is_in_array block p) true (slice_index copy p) (slice_index block p) (get_or_past copy p 0 (omega (arith, long, past)) ∙ sym (get_or_past block p 0 past))

pub copy-all : (block copy : List ℕ) (in_use end place : ℕ) → in_use ≡ in_use_of block → length copy ≡ length block → end ≡ min in_use (length block) → end ≤ place
    → ((p : ℕ) → p < place → is_same_at block copy p ≡ true) → true ≡ is_copy block copy
unfolding is_copy
copy-all block copy in_use end place used long is past same = sym (all-hold (in_use_of block) (is_same_at block copy) (λ p below. elim (cases_lt p (length block)) [
  | inl inside ↦ same p (omega (arith, below, used, inside, is, past))
  | inr out ↦ past-both block copy p long out
]))

pub copy-fails : (block copy : List ℕ) (in_use end place : ℕ) → in_use ≡ in_use_of block → end ≡ min in_use (length block) → place < end → is_same_at block copy place ≡ false → false ≡ is_copy block copy
unfolding is_copy
copy-fails block copy in_use end place used is below fails = sym (one-fails (in_use_of block) place (is_same_at block copy) (omega (arith, used, is, below)) fails)

-- ---- a record in its bytes

pub raw-within : (size r : ℕ) (bytes : List ℕ) → r * size + size ≤ length bytes → raw_of size bytes r ≡ Some (take size (drop (r * size) bytes))
unfolding raw_of
raw-within size r bytes within = if-true (nat_le (r * size + size) (length bytes)) _ (le-true (r * size + size) (length bytes) within)
  where
    le-true : (a b : ℕ) → a ≤ b → nat_le a b ≡ true
    le-true a b le = grind (arith, nat_tests)

    if-true : (b : Bool) (x : Option (List ℕ)) → b ≡ true → (if b then x else None) ≡ x
    if-true b x is = rw is refl

raw-out : (size r : ℕ) (bytes : List ℕ) → length bytes < r * size + size → raw_of size bytes r ≡ None
unfolding raw_of
raw-out size r bytes out = if-false (nat_le (r * size + size) (length bytes)) _ (le-false (r * size + size) (length bytes) out)
  where
    le-false : (a b : ℕ) → b < a → nat_le a b ≡ false
    le-false a b lt = grind (arith, nat_tests)

    if-false : (b : Bool) (x : Option (List ℕ)) → b ≡ false → (if b then x else None) ≡ None
    if-false b x is = rw is refl

unfixed-none : (size r : ℕ) (bytes : List ℕ) → raw_of size bytes r ≡ None → unfixed_in size bytes r ≡ None
unfolding unfixed_in
unfixed-none size r bytes is = rw is refl

unfixed-some : (size r : ℕ) (bytes raw : List ℕ) → raw_of size bytes r ≡ Some raw → unfixed_in size bytes r ≡ if_whole (unfix_of File raw)
unfolding unfixed_in
unfixed-some size r bytes raw is = rw is refl

pub take-short : (size r begin end : ℕ) (bytes : List ℕ) → begin ≡ r * size → end ≡ begin + size → length bytes < end → None ≡ unfixed_in size bytes r
take-short size r begin end bytes from is short = sym (unfixed-none size r bytes (raw-out size r bytes (omega (arith, from, is, short))))

taken : (size r begin end : ℕ) (bytes raw : List ℕ) → begin ≡ r * size → end ≡ begin + size → end ≤ length bytes → raw ≡ take (end - begin) (drop begin bytes) → raw_of size bytes r ≡ Some raw
taken size r begin end bytes raw from is long copied =
    let same : end - begin ≡ size = omega (arith, is) in
    raw-within size r bytes (omega (arith, from, is, long))
    ∙ ap Some (sym (copied ∙ ap (λ k. take k (drop begin bytes)) same ∙ ap (λ k. take size (drop k bytes)) from))

pub take-whole : (size r begin end : ℕ) (bytes raw block : List ℕ) → begin ≡ r * size → end ≡ begin + size → end ≤ length bytes → raw ≡ take (end - begin) (drop begin bytes) → unfix_of File raw ≡ Ok block
    → Some block ≡ unfixed_in size bytes r
take-whole size r begin end bytes raw block from is long copied whole = sym (unfixed-some size r bytes raw (taken size r begin end bytes raw from is long copied) ∙ ap if_whole whole)

pub take-torn : (size r begin end : ℕ) (bytes raw : List ℕ) (fault : FixFault) → begin ≡ r * size → end ≡ begin + size → end ≤ length bytes → raw ≡ take (end - begin) (drop begin bytes) → unfix_of File raw ≡ Err fault
    → None ≡ unfixed_in size bytes r
take-torn size r begin end bytes raw fault from is long copied torn = sym (unfixed-some size r bytes raw (taken size r begin end bytes raw from is long copied) ∙ ap if_whole torn)

-- ---- the same record in other bytes

unfixed-same : (size r : ℕ) (a b : List ℕ) (raw : Option (List ℕ)) → raw_of size b r ≡ raw → raw_of size a r ≡ raw_of size b r → unfixed_in size a r ≡ unfixed_in size b r
unfixed-same size r a b None is same = unfixed-none size r a (same ∙ is) ∙ sym (unfixed-none size r b is)
unfixed-same size r a b (Some raw) is same = unfixed-some size r a raw (same ∙ is) ∙ sym (unfixed-some size r b raw is)

raw-front : (size r most : ℕ) (bytes : List ℕ) → r * size + size ≤ most → raw_of size (take most bytes) r ≡ raw_of size bytes r
raw-front size r most bytes within = elim (cases_lt (length bytes) (r * size + size)) [
  | inl short ↦ raw-out size r (take most bytes) (omega (arith, length-take most bytes, short)) ∙ sym (raw-out size r bytes short)
  | inr long ↦ raw-within size r (take most bytes) (omega (arith, length-take most bytes, long, within))
      ∙ ap Some (take-drop-take (r * size) size most bytes within) ∙ sym (raw-within size r bytes long)
]

front-same : (size r : ℕ) (bytes : List ℕ) → r < 4 → unfixed_in size (take (4 * size) bytes) r ≡ unfixed_in size bytes r
front-same size r bytes few =
    unfixed-same size r (take (4 * size) bytes) bytes (raw_of size bytes r) refl (raw-front size r (4 * size) bytes (fits r few))
  where
    fits : (r : ℕ) → r < 4 → r * size + size ≤ 4 * size
    fits zero few = omega arith
    fits (suc zero) few = omega arith
    fits (suc (suc zero)) few = omega arith
    fits (suc (suc (suc zero))) few = omega arith
    fits (suc (suc (suc (suc r)))) few = absurd (omega (arith, few))

-- the first four checks by what each test gives
four : (ℕ → Bool) → Option ℕ
four test = first_wrong (map (λ r. check (test r) r) (0 ∷ 1 ∷ 2 ∷ 3 ∷ []))

four-same : (f g : ℕ → Bool) → ((r : ℕ) → r < 4 → f r ≡ g r) → four f ≡ four g
unfolding four
four-same f g same =
    ap (λ b. first_wrong (check b 0 ∷ check (f 1) 1 ∷ check (f 2) 2 ∷ check (f 3) 3 ∷ [])) (same 0 (omega arith))
    ∙ ap (λ b. first_wrong (check (g 0) 0 ∷ check b 1 ∷ check (f 2) 2 ∷ check (f 3) 3 ∷ [])) (same 1 (omega arith))
    ∙ ap (λ b. first_wrong (check (g 0) 0 ∷ check (g 1) 1 ∷ check b 2 ∷ check (f 3) 3 ∷ [])) (same 2 (omega arith))
    ∙ ap (λ b. first_wrong (check (g 0) 0 ∷ check (g 1) 1 ∷ check (g 2) 2 ∷ check b 3 ∷ [])) (same 3 (omega arith))

c16-four : (size : ℕ) (table mirror : List ℕ) → c16 size table mirror ≡ four (λ r. has_copy (unfixed_in size table r) (unfixed_in size mirror r))
unfolding c16 four
c16-four size table mirror = refl

copies-four : (size count : ℕ) (records mirror : List ℕ) → first_wrong (map (copy_check size count records mirror) (0 ∷ 1 ∷ 2 ∷ 3 ∷ [])) ≡ four (is_copied size count records mirror)
unfolding four
copies-four size count records mirror = refl

pub front-copies : (size : ℕ) (table mirror : List ℕ) → c16 size table (take (4 * size) mirror) ≡ c16 size table mirror
front-copies size table mirror =
    c16-four size table (take (4 * size) mirror)
    ∙ four-same (λ r. has_copy (unfixed_in size table r) (unfixed_in size (take (4 * size) mirror) r)) (λ r. has_copy (unfixed_in size table r) (unfixed_in size mirror r))
    (λ r few. ap (has_copy (unfixed_in size table r)) (front-same size r mirror few))
    ∙ sym (c16-four size table mirror)

-- ---- the records of the table

table-of : (g : Geometry) (m : Map) (f : ℕ → List ℕ) (r : ℕ) → raw_record g m f r ≡ raw_of g.record_size (take m.valid (stream f m.clusters)) r
unfolding raw_record
table-of g m f r = refl

none-copied : (a : Option (List ℕ)) (b : Option (List ℕ)) → a ≡ None → has_copy a b ≡ false
none-copied None b is = refl
none-copied (Some block) b is = absurd cc

record-copied : (g : Geometry) (m : Map) (f : ℕ → List ℕ) (count r : ℕ) (records mirror : List ℕ) → 0 < g.record_size → HoldRecords g m f 0 count records → (count ≤ r → initialised_count g m ≤ r)
    → is_copied g.record_size count records mirror r ≡ has_copy (unfixed_in g.record_size (take m.valid (stream f m.clusters)) r) (unfixed_in g.record_size mirror r)
record-copied g m f count r records mirror some held all = elim (cases_lt r count) [
  | inl below ↦
      let place : 0 + r ≡ r = omega arith in
      let same = held r below ∙ ap (raw_record g m f) place ∙ table-of g m f r in
      ap (λ b. b && has_copy (unfixed_in g.record_size records r) (unfixed_in g.record_size mirror r)) (lt-true r count below)
      ∙ ap (λ (o : Option (List ℕ)). has_copy o (unfixed_in g.record_size mirror r)) (unfixed-same g.record_size r records table (raw_of g.record_size table r) refl same)
  | inr past ↦
      let none = sym (table-of g m f r) ∙ raw-past g m f r some (all past) in
      ap (λ b. b && has_copy (unfixed_in g.record_size records r) (unfixed_in g.record_size mirror r)) (lt-false r count past)
      ∙ sym (none-copied (unfixed_in g.record_size table r) (unfixed_in g.record_size mirror r) (unfixed-none g.record_size r table none))
]
  where
    table : List ℕ
    table = take m.valid (stream f m.clusters)

    lt-true : (a b : ℕ) → a < b → nat_lt a b ≡ true
    lt-true a b lt = grind (arith, nat_tests)

    lt-false : (a b : ℕ) → b ≤ a → nat_lt a b ≡ false
    lt-false a b le = grind (arith, nat_tests)

four-fit : (size room : ℕ) → 0 < size → room ≡ 4 * size → 4 ≤ room / size
four-fit size room some is = elim (cases_lt (room / size) 4) [
  | inl below ↦ absurd (let end : room < 4 * size = (div-lt_iff_lt-mul some).0 below in omega (arith, end, is))
  | inr enough ↦ enough
]

records-copied : (g : Geometry) (m : Map) (f : ℕ → List ℕ) (count room : ℕ) (records mirror : List ℕ) → 0 < g.record_size → HoldRecords g m f 0 count records → room ≡ 4 * g.record_size
    → count ≡ min (room / g.record_size) (initialised_count g m - 0)
    → first_wrong (map (copy_check g.record_size count records mirror) (0 ∷ 1 ∷ 2 ∷ 3 ∷ [])) ≡ c16 g.record_size (take m.valid (stream f m.clusters)) mirror
records-copied g m f count room records mirror some held all counted =
    let fits = four-fit g.record_size room some all in
    copies-four g.record_size count records mirror
    ∙ four-same (is_copied g.record_size count records mirror) (λ r. has_copy (unfixed_in g.record_size (take m.valid (stream f m.clusters)) r) (unfixed_in g.record_size mirror r))
    (λ r few. record-copied g m f count r records mirror some held (λ past. omega (arith, past, few, counted, fits)))
    ∙ sym (c16-four g.record_size (take m.valid (stream f m.clusters)) mirror)

pub against-given : (o : Opened) (f : ℕ → List ℕ) (size count room : ℕ) (records held mirror : List ℕ) (result : Result (Unit {0}) CheckFault) → size ≡ o.geometry.record_size → 0 < o.geometry.record_size
    → held ≡ records → HoldRecords o.geometry o.map f 0 count records → room ≡ 4 * o.geometry.record_size → count ≡ min (room / o.geometry.record_size) (initialised_count o.geometry o.map - 0)
    → Gives check_origin (λ done. done) (unless_number rule.C16 (first_wrong (map (copy_check size count held mirror) (0 ∷ 1 ∷ 2 ∷ 3 ∷ []))) tt) result
    → Gives check_origin (λ done. done) (unless_number rule.C16 (c16 o.geometry.record_size (take o.map.valid (stream f o.map.clusters)) mirror) tt) result
against-given o f size count room records held mirror result same some are hold all counted =
    subst (λ (found : Option ℕ). Gives check_origin (λ done. done) (unless_number rule.C16 found tt) result)
    (ap (λ n. first_wrong (map (copy_check n count held mirror) (0 ∷ 1 ∷ 2 ∷ 3 ∷ []))) same
    ∙ ap (λ (bytes : List ℕ). first_wrong (map (copy_check o.geometry.record_size count bytes mirror) (0 ∷ 1 ∷ 2 ∷ 3 ∷ []))) are
    ∙ records-copied o.geometry o.map f count room records mirror some hold all counted)

-- ---- the mirror of a volume

joined : (f : ℕ → List ℕ) (ks : List ℕ) → join_clusters (map (fill_cluster f) ks) ≡ stream f ks
joined f [] = refl
joined f (k ∷ ks) = ap (λ (rest : List ℕ). f k ++ rest) (joined f ks)

table-is : (o : Opened) (f : ℕ → List ℕ) → table_bytes (volume_data o f) ≡ take o.map.valid (stream f o.map.clusters)
unfolding volume_data
table-is o f = ap (take o.map.valid) (joined f o.map.clusters)

mirror-content : (o : Opened) (f : ℕ → List ℕ) → content_in (volume_data o f) 1 data_kind [] ≡ result_map_both (map_gathered (λ place. 0) f) (λ fault. fault) (gather_of o.geometry o.map f 1 data_kind [])
mirror-content o f = content-is o f 1 data_kind [] (gather-mapped (λ place. 0) f o.geometry.cluster (lists_of o.geometry f (slots_of o.geometry o.map f)) (with_cells o.geometry.clusters (slots_of o.geometry o.map f)) 1 data_kind [])

c16-volume : (o : Opened) (f : ℕ → List ℕ) (gathered : Result (Gathered ℕ) VolumeFault) → gather_of o.geometry o.map f 1 data_kind [] ≡ gathered
    → c16 (volume_data o f).geometry.record_size (table_bytes (volume_data o f)) (bytes_found (volume_data o f).geometry.cluster (content_in (volume_data o f) 1 data_kind []))
    ≡ c16 o.geometry.record_size (take o.map.valid (stream f o.map.clusters)) (bytes_found o.geometry.cluster (result_map_both (map_gathered (λ place. 0) f) (λ fault. fault) gathered))
unfolding volume_data
c16-volume o f gathered is =
    ap (λ (bytes : List ℕ). c16 o.geometry.record_size bytes (bytes_found o.geometry.cluster (content_in (volume_data o f) 1 data_kind []))) (table-is o f)
    ∙ ap (λ (r : Result (Gathered (List ℕ)) VolumeFault). c16 o.geometry.record_size (take o.map.valid (stream f o.map.clusters)) (bytes_found o.geometry.cluster r))
    (mirror-content o f ∙ ap (result_map_both (map_gathered (λ place. 0) f) (λ fault. fault)) is)

four-wrong : (test : ℕ → Bool) → test 0 ≡ false → four test ≡ Some 0
unfolding four
four-wrong test is = ap (λ b. first_wrong (check b 0 ∷ check (test 1) 1 ∷ check (test 2) 2 ∷ check (test 3) 3 ∷ [])) is

none-in-nothing : (size : ℕ) (table : List ℕ) → 0 < size → c16 size table [] ≡ Some 0
none-in-nothing size table some =
    c16-four size table []
    ∙ four-wrong (λ r. has_copy (unfixed_in size table r) (unfixed_in size [] r)) (copied-none (unfixed_in size table 0) (unfixed_in size [] 0) (unfixed-none size 0 [] (raw-out size 0 [] (omega (arith, some)))))
  where
    copied-none : (a b : Option (List ℕ)) → b ≡ None → has_copy a b ≡ false
    copied-none None b is = refl
    copied-none (Some block) None is = refl
    copied-none (Some block) (Some copy) is = absurd cc

pub no-mirror : (o : Opened) (f : ℕ → List ℕ) → 0 < o.geometry.record_size → None ≡ found_by (gather_of o.geometry o.map f 1 data_kind [])
    → c16 (volume_data o f).geometry.record_size (table_bytes (volume_data o f)) (bytes_found (volume_data o f).geometry.cluster (content_in (volume_data o f) 1 data_kind [])) ≡ Some 0
no-mirror o f some none = go (gather_of o.geometry o.map f 1 data_kind []) refl none
  where
    go : (gathered : Result (Gathered ℕ) VolumeFault) → gather_of o.geometry o.map f 1 data_kind [] ≡ gathered → None ≡ found_by gathered
        → c16 (volume_data o f).geometry.record_size (table_bytes (volume_data o f)) (bytes_found (volume_data o f).geometry.cluster (content_in (volume_data o f) 1 data_kind [])) ≡ Some 0
    go (Ok found) is none = absurd cc
    go (Err fault) is none = c16-volume o f (Err fault) is ∙ none-in-nothing o.geometry.record_size (take o.map.valid (stream f o.map.clusters)) some

pub mirror-given : (o : Opened) (image : List ℕ) (most : ℕ) (front mirror : List ℕ) (found : Gathered ℕ) (result : Result (Unit {0}) CheckFault) → most ≡ 4 * o.geometry.record_size
    → Some found ≡ found_by (gather_of o.geometry o.map (cluster_at image o.geometry.cluster) 1 data_kind [])
    → front ≡ take most (bytes_of_stream o.geometry.cluster (filled_stream o.geometry image found.stream)) → mirror ≡ front
    → Gives check_origin (λ done. done) (unless_number rule.C16 (c16 o.geometry.record_size (take o.map.valid (stream (cluster_at image o.geometry.cluster) o.map.clusters)) mirror) tt) result
    → Gives check_origin (λ done. done) (unless_number rule.C16 (c16 (volume_data o (cluster_at image o.geometry.cluster)).geometry.record_size (table_bytes (volume_data o (cluster_at image o.geometry.cluster)))
    (bytes_found (volume_data o (cluster_at image o.geometry.cluster)).geometry.cluster (content_in (volume_data o (cluster_at image o.geometry.cluster)) 1 data_kind []))) tt) result
mirror-given o image most front mirror found result most_is some front_is held =
    let f = cluster_at image o.geometry.cluster in
    let table = take o.map.valid (stream f o.map.clusters) in
    let gathered = found-is (gather_of o.geometry o.map f 1 data_kind []) found some in
    let bytes = bytes_of_stream o.geometry.cluster (filled_stream o.geometry image found.stream) in
    subst (λ (broken : Option ℕ). Gives check_origin (λ done. done) (unless_number rule.C16 broken tt) result)
    (ap (c16 o.geometry.record_size table) (held ∙ front_is ∙ ap (λ n. take n bytes) most_is) ∙ front-copies o.geometry.record_size table bytes ∙ sym (c16-volume o f (Ok found) gathered))
