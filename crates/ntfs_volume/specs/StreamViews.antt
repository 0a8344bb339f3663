-- What the code keeps of a gathered stream. The words are ours.
use Rattle.std.specs.Prelude.{ℕ}
use Rattle.ntfs_runs.specs.Clusters.{AreWithin, vcns}
use Rattle.ntfs_volume.specs.Streams.{Gathered, runs_stream, value_stream}
use Rattle.ntfs_volume.specs.declared.stream.Content.{Content}
use Rattle.ntfs_volume.specs.declared.stream.Content.TheVariants as content

-- the stream of these flags, record, place, number of extents and content
abbrev pub gathered_by : ℕ → ℕ → ℕ → ℕ → Content → Gathered ℕ
gathered_by flags number place extents (content.Value bytes) =
    record { stream = value_stream flags bytes.items; number = number; place = place; extents = extents }
gathered_by flags number place extents (content.Runs size valid runs) =
    record { stream = runs_stream flags size valid (vcns runs); number = number; place = place; extents = extents }

-- the clusters of its runs are numbers below 2^64
abbrev pub HasNumbers : Content → Type 0
HasNumbers (content.Value bytes) = Unit {0}
HasNumbers (content.Runs size valid runs) = AreWithin runs
