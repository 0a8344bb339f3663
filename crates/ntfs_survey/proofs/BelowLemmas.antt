-- The owners that were found lie on the volume, and what a record is refused by is listed, whatever the bytes are.
use Rattle.std.proofs.Common.{◌≡◌, ◌≤◌, ◌^◌, ◌+◌, ◌-◌, ◌==◌, ◌||◌, ℕ, suc, Bool, true, false, List, [], ◌∷◌, length, map, Option, Some, None, Result, Ok, Err, refl, sym, ◌∙◌, subst, arith, inl, if◌then◌else◌}
use Rattle.std.specs.Prelude.{All, IfErr, OnOk, is_some}
use Rattle.std.proofs.lemmas.Bool.{leb-true}
use Rattle.std.proofs.lemmas.List.Elements.{All-append, All-cons, All-nil}
use Rattle.ntfs_base.specs.Frames.{Gives, IsJudged, must, ◌>>=◌}
use Rattle.ntfs_boot.specs.declared.geometry.Geometry.{Geometry}
use Rattle.ntfs_record.specs.FileRecord.{Laid}
use Rattle.ntfs_record.specs.Slots.{Slot}
use Rattle.ntfs_record.specs.Views.{Shown}
use Rattle.ntfs_runs.specs.Cells.{are_cells}
use Rattle.ntfs_runs.specs.Clusters.{FitFrom, row, vcns}
use Rattle.ntfs_runs.specs.Reading.{reading}
use Rattle.ntfs_runs.specs.declared.run.Run.{Run}
use Rattle.ntfs_runs.proofs.CellsLemmas.{are_cells-append, are_cells-some}
use Rattle.ntfs_runs.proofs.ItemsLemmas.{gives-spellable}
use Rattle.ntfs_survey.specs.Owned.{IsSurveyFault, LiesBelow, is_whole, run_owner, run_owners, runs_in}
use Rattle.ntfs_survey.specs.Surveying.{Found, all_shown_taken, pairs_taken, shown_located, shown_taken, slot_taken, slots_taken, spells_cells, with_owners, pairs_wrong_in}
use Rattle.ntfs_survey.specs.declared.owners.Owner.{Owner}
use Rattle.ntfs_survey.proofs.FoldLemmas.{and-left, and-right}
use Rattle.ntfs_survey.proofs.FoundLemmas.{spell-right, spell-wrong}
use Rattle.ntfs_volume.specs.Fault.{volume_origin}
use Rattle.ntfs_volume.specs.Located.{Located}
use Rattle.ntfs_volume.specs.Records.{unsound}
use Rattle.ntfs_volume.specs.declared.fault.VolumeFault.{VolumeFault}
use Rattle.ntfs_volume.specs.declared.fault.VolumeFault.TheVariants as volume

-- ---- owners

All-one : (P : Owner → Type 0) (x : Owner) → P x → All P (x ∷ [])
All-one P x is = All-cons P x [] is (All-nil P)

run-below : (n r place vcn count : ℕ) (cell : Option ℕ) → 1 ≤ count → are_cells true n (row count cell) ≡ true → All (LiesBelow n) (run_owner r place vcn count cell)
run-below n r place vcn count None some are = All-nil (LiesBelow n)
run-below n r place vcn count (Some lcn) some are =
    let fits : count ≤ n - lcn = leb-true count (n - lcn) (sym (are_cells-some true n lcn count) ∙ are) in
    All-one (LiesBelow n) _ (record { some = some; within = omega (arith, fits, some) })

runs-below : (n r place vcn room : ℕ) (runs : List Run) → FitFrom room runs → are_cells true n (vcns runs) ≡ true → All (LiesBelow n) (run_owners r place vcn runs)
unfolding run_owners vcns
runs-below n r place vcn room [] fit are = All-nil (LiesBelow n)
runs-below n r place vcn room (run ∷ runs) fit are =
    let both = sym (are_cells-append true n (row run.length run.lcn) (vcns runs)) ∙ are in
    All-append (LiesBelow n) (run_owner r place vcn run.length run.lcn) (run_owners r place (vcn + run.length) runs)
    (run-below n r place vcn run.length run.lcn fit.0 (and-left (are_cells true n (row run.length run.lcn)) (are_cells true n (vcns runs)) both))
    (runs-below n r place (vcn + run.length) (room - run.length) runs fit.3 (and-right (are_cells true n (row run.length run.lcn)) (are_cells true n (vcns runs)) both))

pairs-by : (right : Bool) (n r place lowest count : ℕ) (pairs : List ℕ) → (reading pairs).is_right ≡ right → spells_cells n count pairs ≡ true
    → All (LiesBelow n) (run_owners r place lowest (if right then (reading pairs).runs else []))
pairs-by true n r place lowest count pairs right is =
    let runs = (reading pairs).runs in
    runs-below n r place lowest (2 ^ 48) runs (gives-spellable pairs (Ok runs) (right, refl))
    (and-left (are_cells true n (vcns runs)) (length (vcns runs) == count) (sym (spell-right n count pairs runs right refl) ∙ is))
pairs-by false n r place lowest count pairs right is = let other = sym is ∙ spell-wrong n count pairs right in absurd cc

taken-by : (right : Bool) (n r place lowest next : ℕ) (pairs : List ℕ) (found : Found) → spells_cells n (next - lowest) pairs ≡ right → All (LiesBelow n) found.owners
    → All (LiesBelow n) (if right then with_owners (run_owners r place lowest (runs_in pairs)) found else pairs_wrong_in r found).owners
taken-by true n r place lowest next pairs found is all =
    All-append (LiesBelow n) found.owners (run_owners r place lowest (runs_in pairs)) all (pairs-by (reading pairs).is_right n r place lowest (next - lowest) pairs refl is)
taken-by false n r place lowest next pairs found is all = all

shown-by : (settled : Bool) (n r : ℕ) (found : Found) (shown : Shown) → All (LiesBelow n) found.owners
    → All (LiesBelow n) (if settled then found else pairs_taken n r shown.place shown.body.lowest shown.body.next shown.body.pairs found).owners
unfolding pairs_taken
shown-by true n r found shown all = all
shown-by false n r found shown all =
    taken-by (spells_cells n (shown.body.next - shown.body.lowest) shown.body.pairs) n r shown.place shown.body.lowest shown.body.next shown.body.pairs found refl all

attributes-below : (n r : ℕ) (found : Found) (shown : List Shown) → All (LiesBelow n) found.owners → All (LiesBelow n) (all_shown_taken n r found shown).owners
unfolding all_shown_taken shown_taken
attributes-below n r found [] all = all
attributes-below n r found (x ∷ shown) all =
    attributes-below n r (shown_taken n r found x) shown (shown-by (is_some found.wrong || x.body.is_resident) n r found x all)

-- ---- records

abbrev Taken : Type 0
Taken = Result Found VolumeFault

abbrev ok_found : Found → Taken
ok_found found = Ok found

slot-by : (whole : Bool) (n r : ℕ) (given more : Found) → (must whole (unsound r) >>= (λ _. ok_found given)) ≡ Ok more → All (LiesBelow n) given.owners → All (LiesBelow n) more.owners
slot-by true n r given more is all = let same : given ≡ more = cc in subst (λ (found : Found). All (LiesBelow n) found.owners) same all
slot-by false n r given more is all = absurd cc

bind-parts : (first : Taken) (rest : Found → Taken) (last : Found) → (first >>= rest) ≡ Ok last → (middle : Found) × (first ≡ Ok middle) × (rest middle ≡ Ok last)
bind-parts (Ok middle) rest last is = (middle, refl, is)
bind-parts (Err fault) rest last is = absurd cc

slots-below : (n r : ℕ) (found more : Found) (slots : List (Slot (Located (Laid (List ℕ))))) → slots_taken n r found slots ≡ Ok more → All (LiesBelow n) found.owners → All (LiesBelow n) more.owners
unfolding slots_taken slot_taken
slots-below n r found more [] is all = let same : found ≡ more = cc in subst (λ (found : Found). All (LiesBelow n) found.owners) same all
slots-below n r found more (s ∷ slots) is all =
    let parts = bind-parts (slot_taken n r found s) (λ middle. slots_taken n (suc r) middle slots) more is in
    slots-below n (suc r) parts.0 more slots parts.2
    (slot-by (is_whole s) n r (all_shown_taken n r found (map shown_located s.attributes)) parts.0 parts.1 (attributes-below n r found (map shown_located s.attributes) all))

-- the owners that were found, where no record was refused
pub given-below : (n r : ℕ) (found more : Found) (slots : List (Slot (Located (Laid (List ℕ))))) (result : Result (Unit {0}) VolumeFault)
    → Gives volume_origin (λ done. more) (slots_taken n r found slots) result → All (LiesBelow n) found.owners → OnOk result (All (LiesBelow n) more.owners)
given-below n r found more slots (Ok done) gives all = slots-below n r found more slots gives all
given-below n r found more slots (Err fault) gives all = tt

-- the same by another view of the number of clusters
pub viewed-below : (g o : Geometry) (found more : Found) (result : Result (Unit {0}) VolumeFault) → g ≡ o → (All (LiesBelow g.clusters) found.owners → OnOk result (All (LiesBelow g.clusters) more.owners))
    → All (LiesBelow o.clusters) found.owners → OnOk result (All (LiesBelow o.clusters) more.owners)
viewed-below g o found more result view = subst (λ (k : Geometry). All (LiesBelow k.clusters) found.owners → OnOk result (All (LiesBelow k.clusters) more.owners)) view

-- ---- refusals

refused-by : (whole : Bool) (r : ℕ) (given : Found) (rest : Found → Taken) (fault : VolumeFault) → ((must whole (unsound r) >>= (λ _. ok_found given)) >>= rest) ≡ Err fault
    → (rest given ≡ Err fault → IsSurveyFault fault) → IsSurveyFault fault
refused-by true r given rest fault is listed = listed is
refused-by false r given rest fault is listed = let same : unsound r ≡ fault = cc in subst IsSurveyFault same (inl refl)

slots-listed : (n r : ℕ) (found : Found) (slots : List (Slot (Located (Laid (List ℕ))))) (fault : VolumeFault) → slots_taken n r found slots ≡ Err fault → IsSurveyFault fault
unfolding slots_taken slot_taken
slots-listed n r found [] fault is = absurd cc
slots-listed n r found (s ∷ slots) fault is =
    refused-by (is_whole s) r (all_shown_taken n r found (map shown_located s.attributes)) (λ more. slots_taken n (suc r) more slots) fault is
    (λ rest. slots-listed n (suc r) (all_shown_taken n r found (map shown_located s.attributes)) slots fault rest)

-- a refusal that isn't listed would come from the content, and is then that of a record
pub given-listed : (n r : ℕ) (found more : Found) (slots : List (Slot (Located (Laid (List ℕ))))) (result : Result (Unit {0}) VolumeFault)
    → Gives volume_origin (λ done. more) (slots_taken n r found slots) result → IsJudged volume_origin result → IfErr result IsSurveyFault
given-listed n r found more slots (Ok done) gives judged = tt
given-listed n r found more slots (Err volume.NotNtfs) gives judged = slots-listed n r found slots volume.NotNtfs (gives tt)
given-listed n r found more slots (Err (volume.BadGeometry field value)) gives judged = slots-listed n r found slots (volume.BadGeometry field value) (gives tt)
given-listed n r found more slots (Err (volume.ImageShort len need)) gives judged = slots-listed n r found slots (volume.ImageShort len need) (gives tt)
given-listed n r found more slots (Err (volume.Damaged rule number)) gives judged = slots-listed n r found slots (volume.Damaged rule number) (gives tt)
given-listed n r found more slots (Err volume.Absent) gives judged = slots-listed n r found slots volume.Absent (gives tt)
given-listed n r found more slots (Err volume.NoAttribute) gives judged = slots-listed n r found slots volume.NoAttribute (gives tt)
given-listed n r found more slots (Err volume.ReadFault) gives judged = tt
given-listed n r found more slots (Err volume.WriteFault) gives judged = absurd judged
given-listed n r found more slots (Err volume.NoMemory) gives judged = tt
