-- What the streams in clusters have, and what of them stands in an area. Byte b of a stream stands in VCN b / c,
-- where a cluster has c bytes (the Linux-NTFS documentation, "Concepts", on VCNs). Where no source is named, the
-- words are ours.
use Rattle.std.specs.Prelude.{◌≡◌, ◌≤◌, ◌+◌, ◌-◌, ◌*◌, ◌%◌, ◌==◌, ◌&&◌, ◌||◌, ℕ, Bool, true, false, List, [], ◌∷◌, map, replicate, nat_le, nat_lt, if◌then◌else◌}
use Rattle.std.specs.List.{range_with_len}
use Rattle.ntfs_base.specs.Bytes.{piece_at}
use Rattle.ntfs_make.specs.declared.shape.Shape.{Shape}
use Rattle.ntfs_make.specs.declared.table.Area.{Area}
use Rattle.ntfs_make.specs.declared.table.Content.{Content}
use Rattle.ntfs_make.specs.declared.table.Content.TheVariants.{Boot, Mft, Mirror, Log, Bitmap, UpCase, Index, Counting}
use Rattle.ntfs_make.specs.Shape.{bad_cluster, bitmap_size}
use Rattle.ntfs_make.specs.Areas.{areas_of, area_cluster_count}
use Rattle.ntfs_make.specs.Rows.{rows}
use Rattle.ntfs_make.specs.UpCase.{up_case_bytes}
use Rattle.ntfs_make.specs.Index.{index_block}
use Rattle.ntfs_make.specs.Records.{records_bytes, rows_between}
use Rattle.ntfs_make.specs.Boot.{boot_sector}

-- so many bytes FF
unfoldable pub ff_bytes : ℕ → List ℕ
ff_bytes count = replicate count 0xFF

-- so many bytes that count up from a number
unfoldable pub counting_bytes : ℕ → ℕ → List ℕ
counting_bytes first count = map (λ place. (first + place) % 256) (range_with_len 0 count)

-- whether a cluster is one of an area
abbrev pub has_area : List Area → ℕ → Bool
has_area [] cluster = false
has_area (area ∷ areas) cluster =
    if nat_le area.start cluster && nat_lt (cluster - area.start) area.length then true else has_area areas cluster

-- the bit of a cluster in $Bitmap: 1 for the clusters of areas and the bad one, and for the numbers from that of
-- clusters on ("$Bitmap")
unfoldable pub bitmap_bit : Shape → ℕ → ℕ
bitmap_bit shape cluster =
    if nat_le shape.clusters cluster || cluster == bad_cluster shape.clusters || has_area (areas_of shape) cluster
    then 1 else 0

-- the bits of eight clusters, the first of which is the lowest
unfoldable pub byte_of : Shape → ℕ → ℕ
byte_of shape cluster =
    bitmap_bit shape cluster
    + 2 * bitmap_bit shape (cluster + 1)
    + 4 * bitmap_bit shape (cluster + 2)
    + 8 * bitmap_bit shape (cluster + 3)
    + 16 * bitmap_bit shape (cluster + 4)
    + 32 * bitmap_bit shape (cluster + 5)
    + 64 * bitmap_bit shape (cluster + 6)
    + 128 * bitmap_bit shape (cluster + 7)

-- so many bytes of $Bitmap
unfoldable pub bitmap_bytes : Shape → ℕ → List ℕ
bitmap_bytes shape count = map (λ place. byte_of shape (8 * place)) (range_with_len 0 count)

-- the bytes of a stream from VCN 0 on; behind them it has zeros. $MFT has all records, and its mirror the first four
unfoldable pub content_bytes : Shape → Content → List ℕ
content_bytes shape Boot = boot_sector shape
content_bytes shape Mft = records_bytes shape rows
content_bytes shape Mirror = records_bytes shape (rows_between 0 4 rows)
content_bytes shape Log = ff_bytes 65536
content_bytes shape Bitmap = bitmap_bytes shape (bitmap_size shape.clusters)
content_bytes shape UpCase = up_case_bytes 65536
content_bytes shape Index = index_block
content_bytes shape (Counting number vcns) = counting_bytes number (area_cluster_count shape vcns * shape.cluster)

-- what an area has: the bytes of its VCNs; what is left of its clusters behind them is zero
unfoldable pub area_bytes : Shape → Area → List ℕ
area_bytes shape area =
    piece_at (area.first_vcn * shape.cluster) (area.length * shape.cluster) (content_bytes shape area.content)

-- bytes of a stream, of which the first stands at a place, have so many of them from another place on
pub record HasBetween (from count : ℕ) (stream : List ℕ) (place : ℕ) (bytes : List ℕ) : Type 0 where
  pub begins : place ≤ from
  pub has : piece_at (from - place) count bytes ≡ piece_at from count stream
