-- Who has the clusters of a range, step by step.
use Rattle.std.proofs.Common.{◌≡◌, ◌-◌, ◌+◌, ℕ, List, Result, Ok, Err, min, sym, ap, ◌∙◌}
use Rattle.ntfs_base.specs.Bytes.{cluster_at}
use Rattle.ntfs_base.specs.Frames.{IsSettled, refused_as, ◌>>=◌}
use Rattle.ntfs_print.specs.Fault.{gather_refusal, show_origin}
use Rattle.ntfs_owners.specs.Held.{Held, IsCut, slots_held, wants_record, wants_runs}
use Rattle.ntfs_owners.specs.OwnerLines.{held_clusters}
use Rattle.ntfs_owners.specs.Owners.{IsOwnersFault, owners_outcome, all_records, all_runs, range_count, range_outcome}
use Rattle.ntfs_owners.specs.Sweep.{IsPutCut}
use Rattle.ntfs_print.specs.declared.fault.ShowFault.{ShowFault}
use Rattle.ntfs_print.specs.declared.fault.ShowFault.TheVariants as show
use Rattle.ntfs_owners.specs.declared.owner_query.OwnerQuery.{OwnerQuery}
use Rattle.ntfs_owners.specs.declared.owner_query.OwnerQuery.TheVariants as query
use Rattle.ntfs_owners.specs.declared.held.Wanted.TheVariants as wanted
use Rattle.ntfs_owners.proofs.RangeLemmas.{range-wanted}
use Rattle.ntfs_survey.specs.Owned.{volume_survey}
use Rattle.ntfs_survey.specs.declared.owners.Owner.{Owner}
use Rattle.ntfs_volume.specs.Located.{slots_of}
use Rattle.ntfs_volume.specs.Opened.{Opened}
use Rattle.ntfs_volume.specs.declared.fault.VolumeFault.{VolumeFault}

abbrev Survey : Type 0
Survey = Result (List Owner) VolumeFault

abbrev lines_by : Opened → (ℕ → List ℕ) → ℕ → ℕ → Survey → Result (List ℕ) ShowFault
lines_by o f from to survey =
    refused_as (gather_refusal 0) survey >>= (λ _. Ok (held_clusters from (range_count o from to) (slots_held all_records all_runs 0 (slots_of o.geometry o.map f))))

refused-before : (o : Opened) (f : ℕ → List ℕ) (from to : ℕ) (survey : Survey) (fault : ShowFault) → refused_as (gather_refusal 0) survey ≡ Err fault → lines_by o f from to survey ≡ Err fault
refused-before o f from to (Ok owners) fault is = absurd cc
refused-before o f from to (Err other) fault is = let same : gather_refusal 0 other ≡ fault = cc in ap Err same

pub range-unsurveyed : (o : Opened) (f : ℕ → List ℕ) (from to : ℕ) (fault : ShowFault) → refused_as (gather_refusal 0) (volume_survey o f) ≡ Err fault → range_outcome o f from to ≡ Err fault
unfolding range_outcome
range-unsurveyed o f from to fault is = refused-before o f from to (volume_survey o f) fault is

pub range-found : (o : Opened) (f : ℕ → List ℕ) (from to end : ℕ) (owners : List Owner) (held : List Held) → volume_survey o f ≡ Ok owners → end ≡ min o.geometry.clusters (to + 1)
    → held ≡ slots_held (wants_record (wanted.Range from end)) (wants_runs (wanted.Range from end)) 0 (slots_of o.geometry o.map f) → range_outcome o f from to ≡ Ok (held_clusters from (end - from) held)
unfolding range_outcome
range-found o f from to end owners held is end_is held_is =
    ap (lines_by o f from to) is
    ∙ ap (λ n. Ok (held_clusters from (n - from) (slots_held all_records all_runs 0 (slots_of o.geometry o.map f)))) (sym end_is)
    ∙ sym (ap (λ held. Ok (held_clusters from (end - from) held)) held_is ∙ ap Ok (range-wanted from end all_records (slots_of o.geometry o.map f)))

-- ---- refusals

-- a printing that was cut off isn't settled
pub put-cut-never : (fault : ShowFault) → IsPutCut fault → IsSettled (show_origin fault) → ⊥
put-cut-never show.WriteFault cut settled = settled
put-cut-never show.NoMemory cut settled = settled
put-cut-never show.ReadFault cut settled = settled
put-cut-never (show.NotFound what) cut settled = cut
put-cut-never (show.NotPlain flags) cut settled = cut
put-cut-never (show.Damaged rule number) cut settled = cut

pub put-cut-listed : (query : OwnerQuery) (fault : ShowFault) → IsPutCut fault → IsOwnersFault query fault
put-cut-listed query show.WriteFault cut = tt
put-cut-listed query show.NoMemory cut = tt
put-cut-listed query show.ReadFault cut = tt
put-cut-listed query (show.NotFound what) cut = absurd cut
put-cut-listed query (show.NotPlain flags) cut = absurd cut
put-cut-listed query (show.Damaged rule number) cut = absurd cut

pub cut-listed : (query : OwnerQuery) (fault : ShowFault) → IsCut fault → IsOwnersFault query fault
cut-listed query show.WriteFault cut = tt
cut-listed query show.NoMemory cut = tt
cut-listed query show.ReadFault cut = tt
cut-listed query (show.NotFound what) cut = absurd cut
cut-listed query (show.NotPlain flags) cut = absurd cut
cut-listed query (show.Damaged rule number) cut = absurd cut

pub range-query : (o : Opened) (content : List ℕ) (asked : OwnerQuery) (from to : ℕ) → asked ≡ query.Clusters from to
    → owners_outcome o content asked ≡ range_outcome o (cluster_at content o.geometry.cluster) from to
unfolding owners_outcome
range-query o content asked from to is = ap (owners_outcome o content) is
