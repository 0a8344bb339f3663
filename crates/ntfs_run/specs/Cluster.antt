-- `ntfscluster`: which clusters of a volume are owned, and by whom.
use Rattle.std.specs.Prelude.{ℕ, List, Result, Ok}
use Rattle.ntfs_base.specs.Frames.{refused_as, ◌>>=◌}
use Rattle.ntfs_base.specs.declared.refusal.Named.TheVariants as named
use Rattle.ntfs_owners.specs.Owners.{owners_outcome}
use Rattle.ntfs_owners.specs.declared.owner_query.OwnerQuery.{OwnerQuery}
use Rattle.ntfs_owners.specs.declared.owner_query.OwnerQuery.TheVariants as query
use Rattle.ntfs_volume.specs.Opened.{Opened}
use Rattle.ntfs_words.specs.declared.request.Ask.{Ask}
use Rattle.ntfs_words.specs.declared.request.Ask.TheVariants as ask
use Rattle.ntfs_run.specs.Outcome.{show_status}
use Rattle.ntfs_run.specs.Place.{path_number}
use Rattle.ntfs_run.specs.declared.status.Status.{Status}
use Rattle.ntfs_run.specs.declared.status.Status.TheVariants as status

-- what is asked, with the number of the record that a path names
unfoldable pub query_of : Ask → Opened → List ℕ → Result OwnerQuery Status
query_of ask.Info volume image = Ok query.Info
query_of (ask.Clusters from to) volume image = Ok (query.Clusters from to)
query_of (ask.Number number) volume image = Ok (query.Number number)
query_of (ask.Path path) volume image = do
  number ← path_number path volume image
  Ok (query.Number number)

-- the lines for a volume, whose image has these bytes
unfoldable pub owner_lines : Ask → Opened → List ℕ → Result (List ℕ) Status
owner_lines question volume image = do
  asks ← query_of question volume image
  refused_as show_status (owners_outcome volume image asks)

-- the refusals of the tool, once its words are taken
abbrev pub ClusterRefuses : Status → Type 0
ClusterRefuses (status.Absent named.Image) = Unit {0}
ClusterRefuses status.NotNtfs = Unit {0}
ClusterRefuses (status.BadGeometry field value) = Unit {0}
ClusterRefuses (status.ImageShort len need) = Unit {0}
ClusterRefuses (status.Damaged rule number) = Unit {0}
ClusterRefuses (status.NotFound what) = Unit {0}
ClusterRefuses status.ReadFault = Unit {0}
ClusterRefuses status.WriteFault = Unit {0}
ClusterRefuses status.NoMemory = Unit {0}
ClusterRefuses other = ⊥
