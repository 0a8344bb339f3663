-- What is read of a record after a survey that found all records right.
use Rattle.std.proofs.Common.{◌≡◌, ◌⊎◌, ◌/◌, ◌<◌, ◌≤◌, ◌+◌, ◌*◌, ℕ, zero, suc, Bool, true, false, List, [], ◌∷◌, map, take, Option, Some, None, Result, Ok, Err, refl, sym, ap, subst, ◌∙◌, arith, inl, inr, if◌then◌else◌}
use Rattle.std.specs.Option.{ok_or}
use Rattle.std.proofs.lemmas.List.{length-take}
use Rattle.std.proofs.lemmas.Nat.{le-div}
use Rattle.ntfs_base.specs.Bytes.{stream}
use Rattle.ntfs_base.proofs.BytesLemmas.{raw_of-some}
use Rattle.ntfs_base.specs.Frames.{must, refused_as, ◌>>=◌}
use Rattle.ntfs_base.specs.declared.refusal.Rule.TheVariants as rule
use Rattle.ntfs_boot.specs.declared.geometry.Geometry.{Geometry}
use Rattle.ntfs_fixup.specs.Fixups.{unfix_of}
use Rattle.ntfs_fixup.specs.declared.header.Magic.TheVariants.{File}
use Rattle.ntfs_fixup.specs.declared.unfixing.FixFault.{FixFault}
use Rattle.ntfs_record.specs.FileRecord.{FileRecord, Laid}
use Rattle.ntfs_record.specs.Parsing.{parse_of, unless_found}
use Rattle.ntfs_record.specs.Slots.{Slot, begins_baad, first_not, if_parsed, if_unfixed, is_in_use, record_in, tells_own}
use Rattle.ntfs_record.specs.Views.{Placed, Shown, placed_of, shown_placed}
use Rattle.ntfs_record.specs.declared.fault.RecordFault.{RecordFault}
use Rattle.ntfs_survey.specs.Owned.{have_cells, is_whole, owners_of, survey_of, volume_survey}
use Rattle.ntfs_survey.specs.Surveying.{record_at, shown_located}
use Rattle.ntfs_survey.specs.declared.owners.Owner.{Owner}
use Rattle.ntfs_volume.specs.Located.{Located, idle, live_located, located_of, located_slot, slots_from, slots_of, sound_located, unsound_located, with_cells}
use Rattle.ntfs_volume.specs.MftMap.{Map}
use Rattle.ntfs_volume.specs.Opened.{Opened}
use Rattle.ntfs_volume.specs.Records.{raw_record, read_of, unfixed_record, unsound}
use Rattle.ntfs_volume.specs.declared.fault.VolumeFault.{VolumeFault}
use Rattle.ntfs_volume.specs.declared.fault.VolumeFault.TheVariants as volume
use Rattle.ntfs_owners.specs.Owners.{record_attributes}

abbrev Record : Type 0
Record = Slot (Located (Laid (List ℕ)))

-- what the reading of record r tells of it: the bytes of one that says something, or that it isn't in use; else it isn't
-- right
abbrev Tells : Record → Result (List ℕ) VolumeFault → Type 0
Tells slot (Ok block) = (file : FileRecord) × (parse_of block ≡ Ok file) × (slot ≡ sound_located file)
Tells slot (Err fault) = ((fault ≡ volume.Absent) × (baad : Bool) × (slot ≡ idle baad)) ⊎ (is_whole slot ≡ false)

by-own : (block : List ℕ) (file : FileRecord) (own : Bool) (fault : VolumeFault) → parse_of block ≡ Ok file
    → Tells (if own then sound_located file else unsound_located) (must own fault >>= (λ _. Ok block))
by-own block file true fault is = (file, is, refl)
by-own block file false fault is = inr refl

by-parse : (r : ℕ) (block : List ℕ) (p : Result FileRecord RecordFault) → parse_of block ≡ p
    → Tells (live_located r (if_parsed p)) (refused_as (λ _. unsound r) p >>= (λ said. must (tells_own r said.layout.number) (unsound r) >>= (λ _. Ok block)))
by-parse r block (Ok file) is = by-own block file (tells_own r file.layout.number) (unsound r) is
by-parse r block (Err fault) is = inr refl

by-unfix : (r : ℕ) (u : Result (List ℕ) FixFault)
    → Tells (live_located r (if_unfixed u)) (refused_as (λ _. unsound r) u >>= (λ block. refused_as (λ _. unsound r) (parse_of block) >>= (λ said. must (tells_own r said.layout.number) (unsound r) >>= (λ _. Ok block))))
by-unfix r (Ok block) = by-parse r block (parse_of block) refl
by-unfix r (Err fault) = inr refl

by-use : (r : ℕ) (raw : List ℕ) (live : Bool)
    → Tells (if live then live_located r (record_in raw) else idle (begins_baad raw))
    (must live volume.Absent >>= (λ _. refused_as (λ _. unsound r) (unfix_of File raw) >>= (λ block. refused_as (λ _. unsound r) (parse_of block) >>= (λ said. must (tells_own r said.layout.number) (unsound r) >>= (λ _. Ok block)))))
unfolding record_in
by-use r raw true = by-unfix r (unfix_of File raw)
by-use r raw false = inl (refl, begins_baad raw, refl)

by-raw : (r : ℕ) (raw : Option (List ℕ)) → Tells (located_slot r raw) (ok_or raw volume.Absent >>= unfixed_record r)
unfolding located_slot unfixed_record
by-raw r (Some raw) = by-use r raw (is_in_use raw)
by-raw r None = inl (refl, false, refl)

tells : (o : Opened) (f : ℕ → List ℕ) (r : ℕ) → Tells (record_at o f r) (read_of o.geometry o.map f r)
unfolding read_of
tells o f r = by-raw r (raw_record o.geometry o.map f r)

located-shown : (ps : List Placed) → map shown_located (map located_of ps) ≡ map shown_placed ps
located-shown [] = refl
located-shown (p ∷ ps) = ap (λ (rest : List Shown). shown_placed p ∷ rest) (located-shown ps)

-- the attributes of a record that was read are those that its bytes say
pub read-attributes : (o : Opened) (f : ℕ → List ℕ) (r : ℕ) (block : List ℕ) (file : FileRecord) → read_of o.geometry o.map f r ≡ Ok block → parse_of block ≡ Ok file
    → record_attributes o f r ≡ map shown_placed (placed_of file)
read-attributes o f r block file read is =
    let told : Tells (record_at o f r) (Ok block) = subst (Tells (record_at o f r)) read (tells o f r) in
    let same : told.0 ≡ file = same-ok (sym told.1 ∙ is) in
    ap (λ (slot : Record). map shown_located slot.attributes) (told.2 ∙ ap sound_located same) ∙ located-shown (placed_of file)
  where
    same-ok : {x y : FileRecord} → ◌≡◌ {A = Result FileRecord RecordFault} (Ok x) (Ok y) → x ≡ y
    same-ok is = cc

-- it parses
pub read-parses : (o : Opened) (f : ℕ → List ℕ) (r : ℕ) (block : List ℕ) (fault : RecordFault) → read_of o.geometry o.map f r ≡ Ok block → parse_of block ≡ Err fault → ⊥
read-parses o f r block fault read is =
    let told : Tells (record_at o f r) (Ok block) = subst (Tells (record_at o f r)) read (tells o f r) in
    let both : ◌≡◌ {A = Result FileRecord RecordFault} (Ok told.0) (Err fault) = sym told.1 ∙ is in
    absurd cc

-- a record that is right is refused only where it isn't in use, and has no attributes then
pub read-refused : (o : Opened) (f : ℕ → List ℕ) (r : ℕ) (fault : VolumeFault) → is_whole (record_at o f r) ≡ true → read_of o.geometry o.map f r ≡ Err fault
    → (fault ≡ volume.Absent) × (record_attributes o f r ≡ [])
read-refused o f r fault whole read = by_case (subst (Tells (record_at o f r)) read (tells o f r))
  where
    by_case : Tells (record_at o f r) (Err fault) → (fault ≡ volume.Absent) × (record_attributes o f r ≡ [])
    by_case (inl (absent, baad, is)) = (absent, ap (λ (slot : Record). map shown_located slot.attributes) is)
    by_case (inr broken) = absurd cc

-- ---- after a survey

whole-among : (slot : ℕ → Record) (r count n : ℕ) → first_not (λ r s. is_whole s) r (slots_from slot r count) ≡ None → n < count → is_whole (slot (r + n)) ≡ true
unfolding slots_from
whole-among slot r zero n is below = absurd (omega (arith, below))
whole-among slot r (suc count) n is below =
    by_first (is_whole (slot r)) refl is (λ m rest less. whole-among slot (suc r) count m rest less)
  where
    by_place : (n : ℕ) → n < suc count → is_whole (slot r) ≡ true → ((m : ℕ) → m < count → is_whole (slot (suc r + m)) ≡ true) → is_whole (slot (r + n)) ≡ true
    by_place zero below here later = ap (λ k. is_whole (slot k)) (let e : r + 0 ≡ r = omega arith in e) ∙ here
    by_place (suc n) below here later = ap (λ k. is_whole (slot k)) (let e : r + suc n ≡ suc r + n = omega arith in e) ∙ later n (omega (arith, below))

    by_first : (whole : Bool) → is_whole (slot r) ≡ whole → (if whole then first_not (λ r s. is_whole s) (suc r) (slots_from slot (suc r) count) else Some r) ≡ None
        → ((m : ℕ) → first_not (λ r s. is_whole s) (suc r) (slots_from slot (suc r) count) ≡ None → m < count → is_whole (slot (suc r + m)) ≡ true) → is_whole (slot (r + n)) ≡ true
    by_first true here rest later = by_place n below here (λ m less. later m rest less)
    by_first false here rest later = absurd cc

found-none : {X : Type 0} (o : Option ℕ) (fault : ℕ → VolumeFault) (rest : Result X VolumeFault) (x : X) → (unless_found o fault >>= (λ _. rest)) ≡ Ok x → o ≡ None
found-none None fault rest x is = refl
found-none (Some r) fault rest x is = absurd cc

survey-sound : (n : ℕ) (slots : List Record) (owners : List Owner) → survey_of n slots ≡ Ok owners → first_not (λ r s. is_whole s) 0 slots ≡ None
unfolding survey_of
survey-sound n slots owners is =
    found-none (first_not (λ r s. is_whole s) 0 slots) (volume.Damaged rule.C4) (unless_found (first_not (λ r s. have_cells s) 0 (with_cells n slots)) (volume.Damaged rule.C7) >>= (λ _. Ok (owners_of slots))) owners is

whole-below : (o : Opened) (f : ℕ → List ℕ) (owners : List Owner) (r : ℕ) → volume_survey o f ≡ Ok owners → r < o.map.valid / o.geometry.record_size → is_whole (record_at o f r) ≡ true
unfolding slots_of
whole-below o f owners r is below =
    sym (ap (λ k. is_whole (record_at o f k)) (let e : 0 + r ≡ r = omega arith in e))
    ∙ whole-among (record_at o f) 0 (o.map.valid / o.geometry.record_size) r (survey-sound o.geometry.clusters (slots_of o.geometry o.map f) owners is) below

whole-none : (r : ℕ) → is_whole (located_slot r None) ≡ true
unfolding located_slot
whole-none r = refl

within : (g : Geometry) (m : Map) (f : ℕ → List ℕ) (r : ℕ) (raw : List ℕ) → 0 < g.record_size → raw_record g m f r ≡ Some raw → r < m.valid / g.record_size
unfolding raw_record
within g m f r raw some is =
    let fits = raw_of-some g.record_size r (take m.valid (stream f m.clusters)) raw is in
    let whole : suc r * g.record_size ≤ m.valid = omega (arith, fits.0, length-take m.valid (stream f m.clusters)) in
    omega (arith, le-div (suc r) m.valid g.record_size some whole)

-- after it each record is right
pub survey-whole : (o : Opened) (f : ℕ → List ℕ) (owners : List Owner) (r : ℕ) → 0 < o.geometry.record_size → volume_survey o f ≡ Ok owners → is_whole (record_at o f r) ≡ true
survey-whole o f owners r some is = by_raw (raw_record o.geometry o.map f r) refl
  where
    by_raw : (raw : Option (List ℕ)) → raw_record o.geometry o.map f r ≡ raw → is_whole (record_at o f r) ≡ true
    by_raw None none = ap (λ raw. is_whole (located_slot r raw)) none ∙ whole-none r
    by_raw (Some raw) there = whole-below o f owners r is (within o.geometry o.map f r raw some there)

-- a record that was read is in use, and tells its sequence number
pub read-live : (o : Opened) (f : ℕ → List ℕ) (r : ℕ) (block : List ℕ) (file : FileRecord) → read_of o.geometry o.map f r ≡ Ok block → parse_of block ≡ Ok file
    → ((record_at o f r).is_live ≡ true) × (file.head.sequence ≡ (record_at o f r).head.sequence)
read-live o f r block file read is =
    let told : Tells (record_at o f r) (Ok block) = subst (Tells (record_at o f r)) read (tells o f r) in
    let same : told.0 ≡ file = same-ok (sym told.1 ∙ is) in
    (ap (λ (slot : Record). slot.is_live) told.2, sym (ap (λ (slot : Record). slot.head.sequence) told.2 ∙ ap (λ (file : FileRecord). file.head.sequence) same))
  where
    same-ok : {x y : FileRecord} → ◌≡◌ {A = Result FileRecord RecordFault} (Ok x) (Ok y) → x ≡ y
    same-ok is = cc

-- one that is right is refused only where it isn't in use
pub read-idle : (o : Opened) (f : ℕ → List ℕ) (r : ℕ) (fault : VolumeFault) → is_whole (record_at o f r) ≡ true → read_of o.geometry o.map f r ≡ Err fault
    → (fault ≡ volume.Absent) × ((record_at o f r).is_live ≡ false)
read-idle o f r fault whole read = by_case (subst (Tells (record_at o f r)) read (tells o f r))
  where
    by_case : Tells (record_at o f r) (Err fault) → (fault ≡ volume.Absent) × ((record_at o f r).is_live ≡ false)
    by_case (inl (absent, baad, is)) = (absent, ap (λ (slot : Record). slot.is_live) is)
    by_case (inr broken) = absurd cc
