-- Bad clusters, attribute by attribute, and what a query prints, step by step.
use Rattle.std.proofs.Common.{◌≡◌, ◌+◌, ◌||◌, ◌&&◌, ℕ, zero, suc, Bool, true, false, List, [], ◌∷◌, Result, Ok, Err, refl, sym, ap, subst, ◌∙◌, OnOk, if◌then◌else◌}
use Rattle.std.specs.List.{list_any}
use Rattle.std.proofs.Math.Bool.{or_assoc}
use Rattle.ntfs_base.specs.Bytes.{cluster_at}
use Rattle.ntfs_base.specs.Frames.{Gives, IsSettled, refused_as}
use Rattle.ntfs_bitmap.specs.ClusterSet.{count_where}
use Rattle.ntfs_record.specs.Views.{Shown}
use Rattle.ntfs_runs.specs.Reading.{reading}
use Rattle.ntfs_runs.specs.declared.run.Run.{Run}
use Rattle.ntfs_survey.specs.Owned.{runs_in, volume_survey}
use Rattle.ntfs_survey.specs.declared.owners.Owner.{Owner}
use Rattle.ntfs_volume.specs.Fault.{volume_origin}
use Rattle.ntfs_volume.specs.Opened.{Opened}
use Rattle.ntfs_volume.specs.declared.fault.VolumeFault.{VolumeFault}
use Rattle.ntfs_volume.specs.declared.fault.VolumeFault.TheVariants as volume
use Rattle.ntfs_print.specs.Fault.{gather_refusal, show_origin}
use Rattle.ntfs_owners.specs.Owners.{are_bad_in, record_attributes, bad_clusters_record, is_bad_in, is_bad_stream, file_outcome, none_if_absent, owners_outcome, owns, runs_have, summary_lines, summary_outcome, volume_summary}
use Rattle.ntfs_print.specs.declared.fault.ShowFault.{ShowFault}
use Rattle.ntfs_owners.specs.declared.owner_query.OwnerQuery.{OwnerQuery}
use Rattle.ntfs_owners.specs.declared.owner_query.OwnerQuery.TheVariants as query
use Rattle.ntfs_owners.specs.declared.owner_query.Summary.{Summary}
use Rattle.ntfs_owners.proofs.CoverLemmas.{or-false}

pub on-ok : {T E A B : Type 0} (result : Result T E) → (A → B) → OnOk result A → OnOk result B
on-ok (Ok x) step is = step is
on-ok (Err fault) step is = is

-- ---- mapping pairs

runs-by : (right : Bool) (runs : List Run) → right ≡ true → (if right then runs else []) ≡ runs
runs-by true runs is = refl
runs-by false runs is = absurd cc

no-runs-by : (right : Bool) (runs : List Run) → right ≡ false → (if right then runs else []) ≡ []
no-runs-by true runs is = absurd cc
no-runs-by false runs is = refl

none-have : (k : ℕ) → runs_have [] k ≡ false
unfolding runs_have
none-have k = refl

pub pairs-wrong : (pairs : List ℕ) (k : ℕ) (old : Bool) → (reading pairs).is_right ≡ false → old ≡ (old || runs_have (runs_in pairs) k)
pairs-wrong pairs k old wrong =
    sym (ap (λ runs. old || runs_have runs k) (no-runs-by (reading pairs).is_right (reading pairs).runs wrong) ∙ ap (λ b. old || b) (none-have k) ∙ or-false old)

pub pairs-right : (pairs : List ℕ) (runs : List Run) (k : ℕ) (old new : Bool) → (reading pairs).is_right ≡ true → runs ≡ (reading pairs).runs → new ≡ (old || runs_have runs k)
    → new ≡ (old || runs_have (runs_in pairs) k)
pairs-right pairs runs k old new right are added =
    added ∙ ap (λ runs. old || runs_have runs k) (are ∙ sym (runs-by (reading pairs).is_right (reading pairs).runs right))

-- ---- attributes

pub other-stream : (k : ℕ) (shown : Shown) (old : Bool) → is_bad_stream shown ≡ false → old ≡ (old || is_bad_in k shown)
unfolding is_bad_in
other-stream k shown old is = sym (ap (λ b. old || (b && runs_have (runs_in shown.body.pairs) k)) is ∙ or-false old)

pub bad-stream : (k : ℕ) (shown : Shown) (pairs : List ℕ) (old new : Bool) → is_bad_stream shown ≡ true → pairs ≡ shown.body.pairs → new ≡ (old || runs_have (runs_in pairs) k)
    → new ≡ (old || is_bad_in k shown)
unfolding is_bad_in
bad-stream k shown pairs old new is same added =
    added ∙ ap (λ pairs. old || runs_have (runs_in pairs) k) same ∙ sym (ap (λ b. old || (b && runs_have (runs_in shown.body.pairs) k)) is)

pub bad-next : (shown rest : List Shown) (x : Shown) (k : ℕ) (old new all : Bool) → shown ≡ x ∷ rest → new ≡ (old || is_bad_in k x) → (old || are_bad_in shown k) ≡ all
    → (new || are_bad_in rest k) ≡ all
unfolding are_bad_in
bad-next shown rest x k old new all is added same =
    ap (λ b. b || list_any (is_bad_in k) rest) added ∙ or_assoc old (is_bad_in k x) (list_any (is_bad_in k) rest)
    ∙ ap (λ xs. old || list_any (is_bad_in k) xs) (sym is) ∙ same

pub bad-last : (shown : List Shown) (k : ℕ) (old all : Bool) → shown ≡ [] → (old || are_bad_in shown k) ≡ all → old ≡ all
unfolding are_bad_in
bad-last shown k old all is same = sym (or-false old) ∙ ap (λ xs. old || list_any (is_bad_in k) xs) (sym is) ∙ same

none-bad : (n : ℕ) → count_where (are_bad_in []) n ≡ 0
unfolding are_bad_in
none-bad zero = refl
none-bad (suc n) = ap (λ count. count + 0) (none-bad n)

-- ---- a record that isn't in use

gives-none : (r n : ℕ) (fault : VolumeFault) → (IsSettled (volume_origin fault) → (fault ≡ volume.Absent) × (n ≡ 0)) → Gives show_origin (λ count. count) (Ok n) (none_if_absent r fault)
gives-none r n volume.Absent is = ap Ok (is tt).1
gives-none r n volume.NotNtfs is = λ settled. let none = (is tt).0 in absurd cc
gives-none r n (volume.BadGeometry field value) is = λ settled. let none = (is tt).0 in absurd cc
gives-none r n (volume.ImageShort len need) is = λ settled. let none = (is tt).0 in absurd cc
gives-none r n (volume.Damaged rule number) is = λ settled. let none = (is tt).0 in absurd cc
gives-none r n volume.NoAttribute is = λ settled. let none = (is tt).0 in absurd cc
gives-none r n volume.ReadFault is = λ settled. absurd settled
gives-none r n volume.WriteFault is = λ settled. absurd settled
gives-none r n volume.NoMemory is = λ settled. absurd settled

pub gives-no-bad : (r n : ℕ) (fault : VolumeFault) (shown : List Shown) (result : Result ℕ ShowFault) → result ≡ none_if_absent r fault
    → (IsSettled (volume_origin fault) → (fault ≡ volume.Absent) × (shown ≡ [])) → Gives show_origin (λ count. count) (Ok (count_where (are_bad_in shown) n)) result
gives-no-bad r n fault shown result same is =
    subst (Gives show_origin (λ count. count) (Ok (count_where (are_bad_in shown) n))) (sym same)
    (gives-none r (count_where (are_bad_in shown) n) fault (λ settled. let told = is settled in (told.0, ap (λ shown. count_where (are_bad_in shown) n) told.1 ∙ none-bad n)))

-- ---- the summary, and what is printed

pub summary-refused : (o : Opened) (f : ℕ → List ℕ) (fault : ShowFault) → refused_as (gather_refusal 0) (volume_survey o f) ≡ Err fault → volume_summary o f ≡ Err fault
unfolding volume_summary
summary-refused o f fault is = rw is refl

pub summary-found : (o : Opened) (f : ℕ → List ℕ) (owners : List Owner) (n owned bad : ℕ) → refused_as (gather_refusal 0) (volume_survey o f) ≡ Ok owners
    → n ≡ o.geometry.clusters → owned ≡ count_where (owns owners) o.geometry.clusters → bad ≡ count_where (are_bad_in (record_attributes o f bad_clusters_record)) o.geometry.clusters
    → volume_summary o f ≡ Ok (record { clusters = n; owned = owned; bad = bad })
unfolding volume_summary
summary-found o f owners n owned bad is same owned_is bad_is = rw (is, same, owned_is, bad_is) refl

-- a survey in the words of a printing call
pub survey-gave : (o : Opened) (f : ℕ → List ℕ) (owners : List Owner) → refused_as (gather_refusal 0) (volume_survey o f) ≡ Ok owners → volume_survey o f ≡ Ok owners
survey-gave o f owners is = by_survey (volume_survey o f) is
  where
    by_survey : (s : Result (List Owner) VolumeFault) → refused_as (gather_refusal 0) s ≡ Ok owners → s ≡ Ok owners
    by_survey (Ok found) is = cc
    by_survey (Err fault) is = absurd cc

pub summary-unprinted : (o : Opened) (f : ℕ → List ℕ) (fault : ShowFault) → volume_summary o f ≡ Err fault → summary_outcome o f ≡ Err fault
unfolding summary_outcome
summary-unprinted o f fault is = rw is refl

pub summary-printed : (o : Opened) (f : ℕ → List ℕ) (summary : Summary) → volume_summary o f ≡ Ok summary → summary_outcome o f ≡ Ok (summary_lines summary)
unfolding summary_outcome
summary-printed o f summary is = rw is refl

-- ---- what is asked

pub info-outcome : (o : Opened) (content : List ℕ) (asked : OwnerQuery) → asked ≡ query.Info → owners_outcome o content asked ≡ summary_outcome o (cluster_at content o.geometry.cluster)
unfolding owners_outcome
info-outcome o content asked is = ap (owners_outcome o content) is

pub number-outcome : (o : Opened) (content : List ℕ) (asked : OwnerQuery) (number : ℕ) → asked ≡ query.Number number
    → owners_outcome o content asked ≡ file_outcome o (cluster_at content o.geometry.cluster) number
unfolding owners_outcome
number-outcome o content asked number is = ap (owners_outcome o content) is
