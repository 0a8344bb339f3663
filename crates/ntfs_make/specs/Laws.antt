-- What the laws speak of: areas as they are read back from the made volume. The words are ours.
use Rattle.std.specs.Prelude.{◌≡◌, ◌<◌, ◌+◌, ◌*◌, ℕ, List, [], ◌∷◌, ◌++◌, flat_map, slice_get, slice_index, Some}
use Rattle.std.specs.List.{range_with_len}
use Rattle.ntfs_base.specs.Bytes.{read_clusters, join_clusters, raw_of}
use Rattle.ntfs_make.specs.declared.shape.Shape.{Shape}
use Rattle.ntfs_make.specs.declared.table.Area.{Area}
use Rattle.ntfs_make.specs.declared.table.Content.{Content}
use Rattle.ntfs_make.specs.declared.table.Content.TheVariants.{Boot, Mft, Mirror, Log, Bitmap, UpCase, Index, Counting}
use Rattle.ntfs_make.specs.declared.table.ClusterCount.TheVariants.{Exactly, OfFile}
use Rattle.ntfs_make.specs.Fields.{zero_bytes}
use Rattle.ntfs_make.specs.Table.{RowValue}
use Rattle.ntfs_make.specs.Areas.{area_at}
use Rattle.ntfs_make.specs.Rows.{rows}
use Rattle.ntfs_make.specs.Records.{record_of_row}
use Rattle.ntfs_make.specs.Streams.{content_bytes}
use Rattle.ntfs_make.specs.Volume.{volume_bytes_of}

-- the clusters of an area
abbrev pub area_clusters : Area → List ℕ
area_clusters area = range_with_len area.start area.length

-- the clusters of the areas of these numbers, one after the other
abbrev pub clusters_of_areas : Shape → List ℕ → List ℕ
clusters_of_areas shape numbers = flat_map (λ number. area_clusters (area_at shape number)) numbers

-- what stands in these areas of the volume, read through their clusters
abbrev pub read_areas : Shape → List ℕ → List ℕ
read_areas shape numbers =
    join_clusters (read_clusters (volume_bytes_of shape.seed shape.clusters shape.cluster) shape.cluster
    (clusters_of_areas shape numbers))

-- each byte of an area is that of its stream at the area's VCNs, and zero behind the stream
abbrev pub HoldsVcns : Shape → Area → Type 0
HoldsVcns shape area =
    (k : ℕ) → k < area.length * shape.cluster
    → slice_index (volume_bytes_of shape.seed shape.clusters shape.cluster) (area.start * shape.cluster + k)
    ≡ slice_index (content_bytes shape area.content) (area.first_vcn * shape.cluster + k)

-- a stream of which each VCN has a cluster, and the areas that have them in their order
pub record WholeStream : Type 0 where
  pub content : Content
  pub areas : List ℕ

abbrev pub whole_stream : Content → List ℕ → WholeStream
whole_stream content areas = record { content = content; areas = areas }

-- the stream of `fileNN`
abbrev pub file_stream : ℕ → WholeStream
file_stream number = whole_stream (Counting (32 + number) (OfFile number)) ((13 + number) ∷ [])

-- all such streams; of `sparse.bin` and `packed.bin` some VCNs have no cluster
unfoldable pub whole_streams : List WholeStream
whole_streams =
    whole_stream Boot (0 ∷ [])
    ∷ whole_stream Mft (1 ∷ 7 ∷ [])
    ∷ whole_stream Mirror (2 ∷ [])
    ∷ whole_stream Log (3 ∷ [])
    ∷ whole_stream Bitmap (4 ∷ [])
    ∷ whole_stream UpCase (5 ∷ [])
    ∷ whole_stream Index (6 ∷ [])
    ∷ whole_stream (Counting 19 (Exactly 2)) (9 ∷ [])
    ∷ whole_stream (Counting 21 (Exactly 2)) (11 ∷ 12 ∷ [])
    ∷ file_stream 0 ∷ file_stream 1 ∷ file_stream 2 ∷ file_stream 3
    ∷ file_stream 4 ∷ file_stream 5 ∷ file_stream 6 ∷ file_stream 7
    ∷ file_stream 8 ∷ file_stream 9 ∷ file_stream 10 ∷ file_stream 11
    ∷ file_stream 12 ∷ file_stream 13 ∷ file_stream 14 ∷ file_stream 15
    ∷ []

-- the areas of a stream have its bytes, all of them, and zeros behind them
abbrev pub IsReadBack : Shape → WholeStream → Type 0
IsReadBack shape one = (count : ℕ) × (read_areas shape one.areas ≡ content_bytes shape one.content ++ zero_bytes count)

-- record r of the stream of $MFT is that of row r
abbrev pub HasRecords : Shape → Type 0
HasRecords shape =
    (r : ℕ) (row : RowValue) → slice_get rows r ≡ Some row
    → raw_of 1024 (read_areas shape (1 ∷ 7 ∷ [])) r ≡ Some (record_of_row shape row)
