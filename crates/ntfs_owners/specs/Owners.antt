-- What is printed of who owns the clusters of a volume (the Linux-NTFS documentation, "Data Runs", on what a run and a
-- hole are, and "$BadClus" on the stream of bad clusters). The texts, their order and the words are ours.
use Rattle.std.specs.Prelude.{◌≡◌, ◌⊎◌, ◌+◌, ◌-◌, ◌==◌, ◌&&◌, ℕ, Bool, true, false, List, [], ◌∷◌, ◌++◌, map, min, Option, Some, None, Result, Ok, Err}
use Rattle.std.specs.List.{list_any}
use Rattle.std.specs.Str.{bytes_eq}
use Rattle.ntfs_base.specs.Bytes.{cluster_at}
use Rattle.ntfs_base.specs.Frames.{must, refused_as, ◌>>=◌}
use Rattle.ntfs_base.specs.declared.refusal.Missing.{Missing}
use Rattle.ntfs_base.specs.declared.refusal.Missing.TheVariants as missing
use Rattle.ntfs_base.specs.declared.refusal.Rule.TheVariants as rule
use Rattle.ntfs_bitmap.specs.ClusterSet.{count_where, in_run}
use Rattle.ntfs_record.specs.Views.{Shown}
use Rattle.ntfs_runs.specs.declared.run.Run.{Run}
use Rattle.ntfs_print.specs.Fault.{gather_refusal}
use Rattle.ntfs_owners.specs.Held.{Held, slots_held}
use Rattle.ntfs_print.specs.Numbers.{number_line}
use Rattle.ntfs_owners.specs.OwnerLines.{held_clusters, held_lines}
use Rattle.ntfs_print.specs.declared.fault.ShowFault.{ShowFault}
use Rattle.ntfs_print.specs.declared.fault.ShowFault.TheVariants as show
use Rattle.ntfs_print.specs.declared.numbers.Label.TheVariants as label
use Rattle.ntfs_owners.specs.declared.owner_query.OwnerQuery.{OwnerQuery}
use Rattle.ntfs_owners.specs.declared.owner_query.OwnerQuery.TheVariants.{Clusters, Info, Number}
use Rattle.ntfs_owners.specs.declared.owner_query.Summary.{Summary}
use Rattle.ntfs_survey.specs.Owned.{runs_in, volume_survey}
use Rattle.ntfs_survey.specs.Surveying.{record_at, shown_located}
use Rattle.ntfs_survey.specs.declared.owners.Owner.{Owner}
use Rattle.ntfs_volume.specs.Located.{slots_of}
use Rattle.ntfs_volume.specs.Opened.{Opened}
use Rattle.ntfs_volume.specs.References.{belongs}
use Rattle.ntfs_volume.specs.declared.fault.VolumeFault.{VolumeFault}
use Rattle.ntfs_volume.specs.declared.fault.VolumeFault.TheVariants as volume

-- ---- which clusters are owned

-- one of the owners has cluster k
unfoldable pub owns : List Owner → ℕ → Bool
owns owners k = list_any (λ owner. in_run owner.first owner.length k) owners

-- so many clusters in a row have cluster k; a hole has none
abbrev pub row_has : ℕ → ℕ → Option ℕ → Bool
row_has k count None = false
row_has k count (Some first) = in_run first count k

-- one of the runs has cluster k
unfoldable pub runs_have : List Run → ℕ → Bool
runs_have runs k = list_any (λ run. row_has k run.length run.lcn) runs

-- what is shown of the attributes of record r, in their order; a record that isn't in use has none
abbrev pub record_attributes : Opened → (ℕ → List ℕ) → ℕ → List Shown
record_attributes o f r = map shown_located (record_at o f r).attributes

-- ---- which are bad

-- the number of the record of bad clusters ("$BadClus")
abbrev pub bad_clusters_record : ℕ
bad_clusters_record = 8

-- the bytes of the name of their stream, $Bad ("$BadClus")
unfoldable pub bad_stream_name : List ℕ
bad_stream_name = 36 ∷ 0 ∷ 66 ∷ 0 ∷ 97 ∷ 0 ∷ 100 ∷ 0 ∷ []

-- the attribute is a $DATA of that name
unfoldable pub is_bad_stream : Shown → Bool
is_bad_stream shown = (shown.kind == 0x80) && bytes_eq shown.name bad_stream_name

-- the attribute is one of bad clusters, and one of its runs has cluster k; a resident one has no mapping pairs, and no
-- runs
unfoldable pub is_bad_in : ℕ → Shown → Bool
is_bad_in k shown = is_bad_stream shown && runs_have (runs_in shown.body.pairs) k

-- one of the attributes is such a one
unfoldable pub are_bad_in : List Shown → ℕ → Bool
are_bad_in attributes k = list_any (is_bad_in k) attributes

-- a refusal to read record r; what no reading gives, and what isn't right where a survey found all right, stands as
-- damage of it
abbrev pub read_refusal : ℕ → VolumeFault → ShowFault
read_refusal r volume.Absent = show.NotFound (missing.Record r)
read_refusal r volume.ReadFault = show.ReadFault
read_refusal r volume.WriteFault = show.WriteFault
read_refusal r volume.NoMemory = show.NoMemory
read_refusal r other = show.Damaged rule.C4 r

-- none are counted in record r where it isn't in use; another refusal to read it stays one
abbrev pub none_if_absent : ℕ → VolumeFault → Result ℕ ShowFault
none_if_absent r volume.Absent = Ok 0
none_if_absent r other = Err (read_refusal r other)

-- ---- the summary

-- how many clusters of n there are, how many of them an owner has, and how many are bad by these attributes, each
-- counted once
abbrev pub summary_of : ℕ → List Owner → List Shown → Summary
summary_of n owners attributes =
    record { clusters = n; owned = count_where (owns owners) n; bad = count_where (are_bad_in attributes) n }

-- that of an opened volume: the survey's refusals come first, the attributes that tell bad clusters are those of their
-- record itself
unfoldable pub volume_summary : Opened → (ℕ → List ℕ) → Result Summary ShowFault
volume_summary o f = do
  owners ← refused_as (gather_refusal 0) (volume_survey o f)
  Ok (summary_of o.geometry.clusters owners (record_attributes o f bad_clusters_record))

-- its four lines; free are the clusters that have no owner
unfoldable pub summary_lines : Summary → List ℕ
summary_lines s =
    number_line label.Clusters s.clusters
    ++ number_line label.Owned s.owned
    ++ number_line label.Bad s.bad
    ++ number_line label.Free (s.clusters - s.owned)

-- what is printed of it
unfoldable pub summary_outcome : Opened → (ℕ → List ℕ) → Result (List ℕ) ShowFault
summary_outcome o f = do
  summary ← volume_summary o f
  Ok (summary_lines summary)

-- ---- the runs of a file

-- the sequence number of record r, which has to be in use
unfoldable pub live_sequence : Opened → (ℕ → List ℕ) → ℕ → Result ℕ ShowFault
live_sequence o f r = do
  _ ← must (record_at o f r).is_live (show.NotFound (missing.Record r))
  Ok (record_at o f r).head.sequence

-- any runs
abbrev pub all_runs : List Run → Bool
all_runs runs = true

-- the record of a number and a base reference is this base record, or has it as its base
abbrev pub is_of_file : ℕ → ℕ → ℕ → ℕ → Bool
is_of_file number sequence r base = belongs r base number sequence

-- the runs of a record, which has to be in use, and of its extension records: the survey's refusals come first
unfoldable pub file_runs : Opened → (ℕ → List ℕ) → ℕ → Result (List Held) ShowFault
file_runs o f number = do
  owners ← refused_as (gather_refusal 0) (volume_survey o f)
  sequence ← live_sequence o f number
  Ok (slots_held (is_of_file number sequence) all_runs 0 (slots_of o.geometry o.map f))

-- what is printed of them
unfoldable pub file_outcome : Opened → (ℕ → List ℕ) → ℕ → Result (List ℕ) ShowFault
file_outcome o f number = do
  held ← file_runs o f number
  Ok (held_lines held)

-- ---- who has the clusters of a range

-- any record
abbrev pub all_records : ℕ → ℕ → Bool
all_records r base = true

-- the clusters of a range whose last one is told that an opened volume has: how many there are from the first on
abbrev pub range_count : Opened → ℕ → ℕ → ℕ
range_count o from to = min o.geometry.clusters (to + 1) - from

-- for each cluster of a range, ascending, a line for each attribute and each of its runs that has it, by record, by
-- place, by VCN: the survey's refusals come first
unfoldable pub range_outcome : Opened → (ℕ → List ℕ) → ℕ → ℕ → Result (List ℕ) ShowFault
range_outcome o f from to = do
  owners ← refused_as (gather_refusal 0) (volume_survey o f)
  Ok (held_clusters from (range_count o from to) (slots_held all_records all_runs 0 (slots_of o.geometry o.map f)))

-- ---- what is printed

-- what a query prints of an opened volume
unfoldable pub owners_outcome : Opened → List ℕ → OwnerQuery → Result (List ℕ) ShowFault
owners_outcome o image Info = summary_outcome o (cluster_at image o.geometry.cluster)
owners_outcome o image (Clusters from to) = range_outcome o (cluster_at image o.geometry.cluster) from to
owners_outcome o image (Number number) = file_outcome o (cluster_at image o.geometry.cluster) number

-- a query can say that this is missing: a record, where it is asked for
abbrev pub CanMiss : OwnerQuery → Missing → Type 0
CanMiss Info what = ⊥
CanMiss (Clusters from to) what = ⊥
CanMiss (Number number) what = what ≡ missing.Record number

-- the refusals of a query, whatever the image tells: damage by rule C4 or C7, what is missing, and faults
abbrev pub IsOwnersFault : OwnerQuery → ShowFault → Type 0
IsOwnersFault query (show.NotFound what) = CanMiss query what
IsOwnersFault query (show.NotPlain flags) = ⊥
IsOwnersFault query (show.Damaged broken number) = (broken ≡ rule.C4) ⊎ (broken ≡ rule.C7)
IsOwnersFault query show.ReadFault = Unit {0}
IsOwnersFault query show.WriteFault = Unit {0}
IsOwnersFault query show.NoMemory = Unit {0}
