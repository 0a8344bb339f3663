-- Rules C5 and C6, by what is asked of each record.
use Rattle.std.proofs.Common.{◌≡◌, ◌<◌, ◌≤◌, ◌+◌, ◌*◌, ◌||◌, not, ℕ, zero, suc, Bool, List, [], Option, Some, None, Result, Ok, Err, take, refl, sym, ap, ◌∙◌, subst, arith, if◌then◌else◌}
use Rattle.std.specs.Borrow.{Bor}
use Rattle.std.specs.Option.{option_map}
use Rattle.ntfs_check_clusters.proofs.BitmapLemmas.{bits-take}
use Rattle.ntfs_check_clusters.specs.Marks.{bytes_if_found, marks_in}
use Rattle.ntfs_check_clusters.specs.Outcome.{marks_of}
use Rattle.ntfs_record.proofs.SlotLemmas.{first_not-map}
use Rattle.ntfs_record.specs.Slots.{Slot, first_not, map_laid, map_slots, on_payload}
use Rattle.ntfs_rules.proofs.DataLemmas.{contents-are}
use Rattle.ntfs_runs.specs.Cells.{cells_below}
use Rattle.ntfs_stream.specs.StreamBytes.{bytes_of_stream}
use Rattle.ntfs_survey.specs.Surveying.{record_at}
use Rattle.ntfs_volume.specs.Laws.{in_located}
use Rattle.ntfs_volume.specs.Scan.{initialised_count}
use Rattle.ntfs_volume.specs.Streams.{Gathered}
use Rattle.ntfs_volume.specs.declared.fault.VolumeFault.{VolumeFault}
use Rattle.ntfs_base.specs.Frames.{Gives}
use Rattle.ntfs_base.specs.declared.refusal.Rule.TheVariants as rule
use Rattle.ntfs_rules.proofs.DataLemmas.{c6-is}
use Rattle.ntfs_check_records.specs.Asked.{first_refused}
use Rattle.ntfs_check_clusters.specs.Asked.{cluster_answer}
use Rattle.ntfs_rules.specs.Outcome.{check_origin, unless_number}
use Rattle.ntfs_rules.specs.Records.{bitmap_kind, c5, c6, first_bad, first_unmarked, has_bit}
use Rattle.ntfs_rules.specs.VolumeData.{Records, content_in, contents, volume_data}
use Rattle.ntfs_check_clusters.specs.declared.asked.Asked.TheVariants as asked
use Rattle.ntfs_rules.specs.declared.fault.CheckFault.{CheckFault}
use Rattle.ntfs_volume.specs.Located.{map_located, slots_from, slots_of, with_cells}
use Rattle.ntfs_volume.specs.Opened.{Opened}

names-asked : (o : Opened) (f : ℕ → List ℕ) → first_refused (cluster_answer asked.Names) o f ≡ c6 (slots_of o.geometry o.map f)
unfolding c6
names-asked o f = refl

pub names-given : (o : Opened) (f : ℕ → List ℕ) (result : Result (Unit {0}) CheckFault) → Gives check_origin (λ done. done) (unless_number rule.C6 (first_refused (cluster_answer asked.Names) o f) tt) result
    → Gives check_origin (λ done. done) (unless_number rule.C6 (c6 (volume_data o f).slots) tt) result
names-given o f result = subst (λ (found : Option ℕ). Gives check_origin (λ done. done) (unless_number rule.C6 found tt) result) (names-asked o f ∙ sym (c6-is o f))

-- ---- C5

-- what is asked of the records of a map is asked of those that it gives
marks-mapped : (bytes : List ℕ) (o : Opened) (f : ℕ → List ℕ) → first_bad (λ r s. has_bit bytes r) (contents (volume_data o f)) ≡ first_bad (λ r s. has_bit bytes r) (slots_of o.geometry o.map f)
unfolding with_cells
marks-mapped bytes o f =
    let slots = slots_of o.geometry o.map f in
    ap (λ (them : Records (List ℕ)). first_bad (λ r s. has_bit bytes r) them) (contents-are o f)
    ∙ first_not-map (on_payload (in_located (λ place. 0) f)) (λ r s. not s.is_live || has_bit bytes r) (λ r s. not s.is_live || has_bit bytes r) 0
    (map_slots (on_payload (map_located (map_laid (cells_below o.geometry.clusters)))) 0 slots) (λ r s. refl)
    ∙ first_not-map (on_payload (map_located (map_laid (cells_below o.geometry.clusters)))) (λ r s. not s.is_live || has_bit bytes r) (λ r s. not s.is_live || has_bit bytes r) 0 slots (λ r s. refl)

-- tests that agree on the numbers of all records find the same one
first_not-same : {P : Type 0} (test other : ℕ → Slot P → Bool) (slot : ℕ → Slot P) (from count : ℕ) → ((n : ℕ) → from ≤ n → n < from + count → test n (slot n) ≡ other n (slot n))
    → first_not test from (slots_from slot from count) ≡ first_not other from (slots_from slot from count)
unfolding slots_from
first_not-same test other slot from zero same = refl
first_not-same test other slot from (suc count) same =
    ap (λ (b : Bool). if b then first_not test (suc from) (slots_from slot (suc from) count) else Some from) (same from (omega arith) (omega arith))
    ∙ ap (λ (rest : Option ℕ). if other from (slot from) then rest else Some from)
    (first_not-same test other slot (suc from) count (λ n above below. same n (omega (arith, above)) (omega (arith, below))))

marks-front : (o : Opened) (f : ℕ → List ℕ) (all : List ℕ) (bits : Bor (List ℕ)) (most : ℕ) → initialised_count o.geometry o.map ≤ 8 * most → bits.now ≡ take most all
    → first_refused (cluster_answer (asked.Mark bits)) o f ≡ first_bad (λ r s. has_bit all r) (slots_of o.geometry o.map f)
unfolding slots_of
marks-front o f all bits most enough is =
    first_not-same (λ r s. not s.is_live || has_bit bits.now r) (λ r s. not s.is_live || has_bit all r) (record_at o f) 0 (initialised_count o.geometry o.map)
    (λ n above below. ap (λ (b : Bool). not (record_at o f n).is_live || b) (ap (λ (bytes : List ℕ). has_bit bytes n) is ∙ bits-take most n all (omega (arith, below, enough))))

unmarked-found : (c most : ℕ) (found : Result (Gathered (List ℕ)) VolumeFault) (slots : Records (List ℕ)) (front : List ℕ) → Some front ≡ option_map (take most) (bytes_if_found c found)
    → (all : List ℕ) × (front ≡ take most all) × (first_unmarked c found slots ≡ first_bad (λ r s. has_bit all r) slots)
unmarked-found c most (Ok s) slots front is = (bytes_of_stream c s.stream, cc, refl)
unmarked-found c most (Err fault) slots front is = absurd cc

unmarked-none : (c most : ℕ) (found : Result (Gathered (List ℕ)) VolumeFault) (slots : Records (List ℕ)) → None ≡ option_map (take most) (bytes_if_found c found) → first_unmarked c found slots ≡ Some 0
unmarked-none c most (Ok s) slots is = absurd cc
unmarked-none c most (Err fault) slots is = refl

pub marks-absent : (o : Opened) (f : ℕ → List ℕ) (most : ℕ) → None ≡ option_map (take most) (marks_in (volume_data o f)) → marks_of (volume_data o f) ≡ Some 0
unfolding c5
marks-absent o f most none = unmarked-none (volume_data o f).geometry.cluster most (content_in (volume_data o f) 0 bitmap_kind []) (contents (volume_data o f)) none

marks-asked : (o : Opened) (f : ℕ → List ℕ) (most : ℕ) (front : List ℕ) (bits : Bor (List ℕ)) → initialised_count o.geometry o.map ≤ 8 * most → Some front ≡ option_map (take most) (marks_in (volume_data o f)) → bits.now ≡ front
    → first_refused (cluster_answer (asked.Mark bits)) o f ≡ marks_of (volume_data o f)
unfolding c5
marks-asked o f most front bits enough some is =
    let found = unmarked-found (volume_data o f).geometry.cluster most (content_in (volume_data o f) 0 bitmap_kind []) (contents (volume_data o f)) front some in
    marks-front o f found.0 bits most enough (is ∙ found.1) ∙ sym (marks-mapped found.0 o f) ∙ sym found.2

pub marks-given : (o : Opened) (f : ℕ → List ℕ) (most : ℕ) (front : List ℕ) (bits : Bor (List ℕ)) (result : Result (Unit {0}) CheckFault) → initialised_count o.geometry o.map ≤ 8 * most
    → Some front ≡ option_map (take most) (marks_in (volume_data o f)) → bits.now ≡ front
    → Gives check_origin (λ done. done) (unless_number rule.C5 (first_refused (cluster_answer (asked.Mark bits)) o f) tt) result
    → Gives check_origin (λ done. done) (unless_number rule.C5 (marks_of (volume_data o f)) tt) result
marks-given o f most front bits result enough some is =
    subst (λ (found : Option ℕ). Gives check_origin (λ done. done) (unless_number rule.C5 found tt) result) (marks-asked o f most front bits enough some is)
