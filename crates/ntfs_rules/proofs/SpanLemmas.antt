-- In which order the extents of a stream begin.
use Rattle.std.proofs.Common.{◌≡◌, ◌≤◌, ◌+◌, ◌==◌, ◌&&◌, inl, inr, ℕ, zero, suc, Bool, true, false, List, [], ◌∷◌, length, map, Option, Some, None, Result, Ok, Err, refl, sym, subst, arith, if◌then◌else◌}
use Rattle.std.specs.Prelude.{not}
use Rattle.std.specs.List.{AllByRecursion}
use Rattle.std.proofs.lemmas.Bool.{eqb-true}
use Rattle.ntfs_fixup.specs.Fixups.{unfix_of}
use Rattle.ntfs_fixup.specs.declared.header.Magic.TheVariants.{File}
use Rattle.ntfs_fixup.specs.declared.unfixing.FixFault.{FixFault}
use Rattle.ntfs_record.proofs.RawLemmas.{all_raws, raw-lies}
use Rattle.ntfs_record.proofs.RecordLemmas.{found_lem}
use Rattle.ntfs_record.proofs.StandsLemmas.{raw-is}
use Rattle.ntfs_record.specs.Attribute.{IsRaw, attribute_of, is_resident_at, resident_at, runs_at}
use Rattle.ntfs_record.specs.Face.{Face}
use Rattle.ntfs_record.specs.FileRecord.{Attribute, FileRecord, Head, Laid}
use Rattle.ntfs_record.specs.Layout.{in_use_of}
use Rattle.ntfs_record.specs.Parsing.{parse_of}
use Rattle.ntfs_record.specs.Slots.{Slot, begins_baad, if_parsed, if_unfixed, is_in_use, map_slots, record_in, tells_own}
use Rattle.ntfs_record.specs.Views.{placed_from}
use Rattle.ntfs_record.specs.declared.fault.RecordFault.{RecordFault}
use Rattle.ntfs_rules.proofs.DataLemmas.{numbers-are}
use Rattle.ntfs_rules.proofs.GatheredLemmas.{found-joined}
use Rattle.ntfs_rules.proofs.OwnedLemmas.{celled_slots}
use Rattle.ntfs_rules.proofs.PairingLemmas.{all-at}
use Rattle.ntfs_rules.specs.Accepts.{fault_of}
use Rattle.ntfs_rules.specs.Laws.{AreJoined, BeginsBefore, IsNoList, IsValue}
use Rattle.ntfs_rules.specs.VolumeData.{Records, listings, numbers, volume_data}
use Rattle.ntfs_runs.specs.Cells.{Cells}
use Rattle.ntfs_survey.proofs.OwnedLemmas.{celled}
use Rattle.ntfs_survey.specs.Laws.{Ascend}
use Rattle.ntfs_volume.proofs.AnswerLemmas.{and-left, and-right}
use Rattle.ntfs_volume.proofs.ExtentsLemmas.{all-weaker, members}
use Rattle.ntfs_volume.specs.Gather.{Extent, extents}
use Rattle.ntfs_volume.specs.Laws.{IsBase, IsMember}
use Rattle.ntfs_volume.specs.Located.{Located, idle, live_located, located_of, located_slot, slot_at, slots_from, slots_of, sound_located, unsound_located, with_cells}
use Rattle.ntfs_volume.specs.Opened.{Opened}
use Rattle.ntfs_volume.specs.Records.{raw_record}
use Rattle.ntfs_volume.specs.Streams.{join_from, part_of}

-- ---- what each attribute of a volume keeps

-- it doesn't end before it begins, and a value begins at VCN 0
record Spans (face : Face) : Type 0 where
  next : face.lowest ≤ face.next
  value : face.is_resident ≡ true → face.lowest ≡ 0

value-lowest : (resident : Bool) (raw : List ℕ) → (if resident then resident_at 0 raw else runs_at 0 raw).face.is_resident ≡ true → (if resident then resident_at 0 raw else runs_at 0 raw).face.lowest ≡ 0
unfolding resident_at runs_at
value-lowest true raw is = refl
value-lowest false raw is = absurd cc

raw-spans : (raw : List ℕ) → IsRaw raw → Spans (attribute_of raw).face
raw-spans raw is = record { next = (raw-lies raw is).next; value = value-lowest (is_resident_at 0 raw) raw }

placed-spans : (place : ℕ) (raws : List (List ℕ)) → AllByRecursion (λ raw. Spans (attribute_of raw).face) raws
    → AllByRecursion (λ (a : Attribute (Located (Laid (List ℕ)))). Spans a.face) (map located_of (placed_from place raws))
placed-spans place [] all = tt
placed-spans place (raw ∷ raws) all = (all.0, placed-spans (place + length raw) raws all.1)

abbrev HaveSpans : {P : Type 0} → Slot P → Type 0
HaveSpans {P} s = AllByRecursion (λ (a : Attribute P). Spans a.face) s.attributes

own-spans : (own : Bool) (file : FileRecord) → HaveSpans (sound_located file) → HaveSpans (if own then sound_located file else unsound_located)
own-spans true file all = all
own-spans false file all = tt

file-spans : (bytes : List ℕ) (said : Result FileRecord RecordFault) → said ≡ parse_of bytes → (n : ℕ) → HaveSpans (live_located n (if_parsed said))
file-spans bytes (Err fault) is n = tt
file-spans bytes (Ok file) is n =
    let found = found_lem bytes (Ok file) is in
    let within : in_use_of bytes ≤ length bytes = omega (arith, found.header.in_use, found.header.allocated) in
    let all = all_raws (λ raw. Spans (attribute_of raw).face) (in_use_of bytes) bytes _ file.raws found.attributes.last
    (λ p sound kind. raw-spans _ (raw-is (in_use_of bytes) p bytes within sound kind)) found.attributes.follow in
    own-spans (tells_own n file.layout.number) file (placed-spans file.layout.first_attribute file.raws all)

block-spans : (block : Result (List ℕ) FixFault) (n : ℕ) → HaveSpans (live_located n (if_unfixed block))
block-spans (Err fault) n = tt
block-spans (Ok block) n = file-spans block (parse_of block) refl n

slot-by : (live : Bool) (n : ℕ) (raw : List ℕ) → HaveSpans (if live then live_located n (record_in raw) else idle (begins_baad raw))
unfolding record_in
slot-by true n raw = block-spans (unfix_of File raw) n
slot-by false n raw = tt

slot-spans : (n : ℕ) (raw : Option (List ℕ)) → HaveSpans (located_slot n raw)
unfolding located_slot
slot-spans n None = tt
slot-spans n (Some raw) = slot-by (is_in_use raw) n raw

celled-spans : (n r : ℕ) (h : Head) (them : List (Attribute (Located (Laid (List ℕ))))) → AllByRecursion (λ (a : Attribute (Located (Laid (List ℕ)))). Spans a.face) them
    → AllByRecursion (λ (a : Attribute (Located (Laid (Cells ℕ)))). Spans a.face) (map (celled n r h) them)
celled-spans n r h [] all = tt
celled-spans n r h (a ∷ them) all = (all.0, celled-spans n r h them all.1)

slots-spans : (n r k count i : ℕ) (slot : ℕ → Slot (Located (Laid (List ℕ)))) → ((j : ℕ) → HaveSpans (slot j)) → HaveSpans (slot_at (map_slots (celled n) r (slots_from slot k count)) i)
unfolding slots_from slot_at
slots-spans n r k zero i slot all = tt
slots-spans n r k (suc count) zero slot all = celled-spans n r (slot k).head (slot k).attributes (all k)
slots-spans n r k (suc count) (suc i) slot all = slots-spans n (suc r) (suc k) count i slot all

volume-spans : (o : Opened) (f : ℕ → List ℕ) (i : ℕ) → HaveSpans (slot_at (celled_slots o f) i)
unfolding with_cells slots_of
volume-spans o f i =
    slots-spans o.geometry.clusters 0 0 _ i (λ n. located_slot n (raw_record o.geometry o.map f n)) (λ n. slot-spans n (raw_record o.geometry o.map f n))

-- ---- extents

abbrev Extents : Type 0
Extents = List (Extent (Located (Laid (Cells ℕ))))

abbrev ExtentSpans : Extent (Located (Laid (Cells ℕ))) → Type 0
ExtentSpans e = Spans e.attribute.face

extents-span : (o : Opened) (f : ℕ → List ℕ) (r kind : ℕ) (name : List ℕ) (found : Extents) → extents (listings (volume_data o f)) (numbers (volume_data o f)) r kind name ≡ Ok found → AllByRecursion ExtentSpans found
extents-span o f r kind name found is =
    let slots = numbers (volume_data o f) in
    all-weaker (IsMember slots r) ExtentSpans
    (λ e member. all-at (λ (a : Attribute (Located (Laid (Cells ℕ)))). Spans a.face) (slot_at slots e.number).attributes e.attribute
    (subst (λ (them : Records ℕ). HaveSpans (slot_at them e.number)) (sym (numbers-are o f)) (volume-spans o f e.number)) member.attribute)
    found (members (listings (volume_data o f)) slots r kind name found is)

-- the extents begin at a VCN or behind it, one after the other
record AreBehind (n : ℕ) (es : Extents) : Type 0 where
  above : AllByRecursion (λ (e : Extent (Located (Laid (Cells ℕ)))). n ≤ e.attribute.face.lowest) es
  ascend : Ascend BeginsBefore es

joined-behind : (n : ℕ) (es : Extents) → join_from n (map part_of es) ≡ true → AllByRecursion ExtentSpans es → AreBehind n es
unfolding join_from Ascend
joined-behind n [] is all = record { above = tt; ascend = tt }
joined-behind n (e ∷ es) is all =
    let face = e.attribute.face in
    let later = join_from face.next (map part_of es) in
    let parts = and-right (not face.is_resident) ((face.lowest == n) && later) is in
    let begins = eqb-true face.lowest n (and-left (face.lowest == n) later parts) in
    let rest = joined-behind face.next es (and-right (face.lowest == n) later parts) all.1 in
    let next = all.0.next in
    record {
      above = (omega (arith, begins), all-weaker (λ (x : Extent (Located (Laid (Cells ℕ)))). face.next ≤ x.attribute.face.lowest) (λ x. n ≤ x.attribute.face.lowest) (λ x behind. omega (arith, behind, next, begins)) es rest.above);
      ascend = (all-weaker (λ (x : Extent (Located (Laid (Cells ℕ)))). face.next ≤ x.attribute.face.lowest) (BeginsBefore e) (λ x behind. omega (arith, behind, next)) es rest.above, rest.ascend);
    }

values-before : (e : Extent (Located (Laid (Cells ℕ)))) (es : Extents) → e.attribute.face.lowest ≡ 0 → AllByRecursion (BeginsBefore e) es
values-before e [] first = tt
values-before e (x ∷ es) first = (omega (arith, first), values-before e es first)

values-ascend : (es : Extents) → AllByRecursion IsValue es → AllByRecursion ExtentSpans es → Ascend BeginsBefore es
unfolding Ascend
values-ascend [] values all = tt
values-ascend (e ∷ es) values all = (values-before e es (all.0.value values.0), values-ascend es values.1 all.1)

joined-ascend : (kind : ℕ) (es : Extents) → AreJoined kind es → AllByRecursion ExtentSpans es → Ascend BeginsBefore es
joined-ascend kind es (inl values) all = values-ascend es values.1 all
joined-ascend kind es (inr joins) all = (joined-behind 0 es joins all).ascend

pub found-ascend : (o : Opened) (f : ℕ → List ℕ) (r kind : ℕ) (name : List ℕ) (found : Extents) → fault_of (volume_data o f) ≡ None → IsBase (numbers (volume_data o f)) r → IsNoList (numbers (volume_data o f)) r kind name
    → extents (listings (volume_data o f)) (numbers (volume_data o f)) r kind name ≡ Ok found → Ascend BeginsBefore found
found-ascend o f r kind name found clear base none is =
    joined-ascend kind found (found-joined (volume_data o f) r kind name found clear base none is) (extents-span o f r kind name found is)
