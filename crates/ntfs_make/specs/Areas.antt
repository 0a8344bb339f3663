-- The areas of the volume, and where they stand. An area is a row of clusters, which hold VCNs of one stream in a
-- row. The table is this project's own.
use Rattle.std.specs.Prelude.{◌≡◌, ◌+◌, ◌-◌, ◌/◌, ◌%◌, ◌==◌, ℕ, List, [], ◌∷◌, ◌++◌, take, drop, slice_get, unwrap_or, if◌then◌else◌}
use Rattle.ntfs_base.specs.Bytes.{clusters_for}
use Rattle.ntfs_make.specs.declared.shape.Shape.{Shape}
use Rattle.ntfs_make.specs.declared.table.AreaRow.{AreaRow}
use Rattle.ntfs_make.specs.declared.table.Area.{Area}
use Rattle.ntfs_make.specs.declared.table.ClusterCount.{ClusterCount}
use Rattle.ntfs_make.specs.declared.table.ClusterCount.TheVariants.{ForBytes, ForBitmap, Exactly, OfFile}
use Rattle.ntfs_make.specs.declared.table.Content.{Content}
use Rattle.ntfs_make.specs.declared.table.Content.TheVariants.{Boot, Mft, Mirror, Log, Bitmap, UpCase, Index, Counting}
use Rattle.ntfs_make.specs.Shape.{IsShape, bitmap_size}

-- an area of so many clusters that holds a stream from a VCN on
abbrev pub area_row_from : ClusterCount → ClusterCount → Content → AreaRow
area_row_from first_vcn length content = record { length = length; first_vcn = first_vcn; content = content }

-- an area that holds a stream from its first VCN on
abbrev pub area_row : ClusterCount → Content → AreaRow
area_row length content = area_row_from (Exactly 0) length content

-- the clusters of `fileNN`, whose record is 32 above its number
abbrev pub file_area_row : ℕ → AreaRow
file_area_row number = area_row (OfFile number) (Counting (32 + number) (OfFile number))

-- the areas in their order: $Boot, the first VCNs of $MFT, $MFTMirr, $LogFile, $Bitmap, $UpCase, the root's index,
-- the VCNs of $MFT behind the first, those of `sparse.bin` (the third of its four VCNs), `half.bin` and `packed.bin`
-- (the first four of sixteen), both VCNs of `listed.bin`, and the sixteen files
unfoldable pub area_rows : List AreaRow
area_rows =
    area_row (ForBytes 8192) Boot
    ∷ area_row (ForBytes 32768) Mft
    ∷ area_row (ForBytes 4096) Mirror
    ∷ area_row (ForBytes 65536) Log
    ∷ area_row ForBitmap Bitmap
    ∷ area_row (ForBytes 131072) UpCase
    ∷ area_row (ForBytes 4096) Index
    ∷ area_row_from (ForBytes 32768) (ForBytes 32768) Mft
    ∷ area_row_from (Exactly 2) (Exactly 1) (Counting 18 (Exactly 4))
    ∷ area_row (Exactly 2) (Counting 19 (Exactly 2))
    ∷ area_row (Exactly 4) (Counting 20 (Exactly 16))
    ∷ area_row (Exactly 1) (Counting 21 (Exactly 2))
    ∷ area_row_from (Exactly 1) (Exactly 1) (Counting 21 (Exactly 2))
    ∷ file_area_row 0 ∷ file_area_row 1 ∷ file_area_row 2 ∷ file_area_row 3
    ∷ file_area_row 4 ∷ file_area_row 5 ∷ file_area_row 6 ∷ file_area_row 7
    ∷ file_area_row 8 ∷ file_area_row 9 ∷ file_area_row 10 ∷ file_area_row 11
    ∷ file_area_row 12 ∷ file_area_row 13 ∷ file_area_row 14 ∷ file_area_row 15
    ∷ []

-- how many clusters a count tells
unfoldable pub area_cluster_count : Shape → ClusterCount → ℕ
area_cluster_count shape (ForBytes bytes) = clusters_for bytes shape.cluster
area_cluster_count shape ForBitmap = clusters_for (bitmap_size shape.clusters) shape.cluster
area_cluster_count shape (Exactly count) = count
area_cluster_count shape (OfFile number) = 1 + (shape.seed / 4 + number) % 4

-- the area of a row, from a cluster on
abbrev pub area_from : Shape → ℕ → AreaRow → Area
area_from shape start row = record {
  start = start;
  length = area_cluster_count shape row.length;
  first_vcn = area_cluster_count shape row.first_vcn;
  content = row.content;
}

-- areas one after the other from a cluster on, with one free cluster between
abbrev pub areas_up : Shape → ℕ → List AreaRow → List Area
areas_up shape start [] = []
areas_up shape start (row ∷ rows) =
    area_from shape start row ∷ areas_up shape (start + (area_cluster_count shape row.length + 1)) rows

-- areas one below the other, with one free cluster between, of which the first ends below the cluster before the bound
abbrev pub areas_down : Shape → ℕ → List AreaRow → List Area
areas_down shape bound [] = []
areas_down shape bound (row ∷ rows) =
    area_from shape (bound - (area_cluster_count shape row.length + 1)) row
    ∷ areas_down shape (bound - (area_cluster_count shape row.length + 1)) rows

-- all areas: $Boot at 0, and the others behind it or, where bit 1 of the seed is 1, below the end
unfoldable pub areas_of : Shape → List Area
areas_of shape =
    if shape.seed / 2 % 2 == 0 then areas_up shape 0 area_rows
    else areas_up shape 0 (take 1 area_rows) ++ areas_down shape (shape.clusters + 1) (drop 1 area_rows)

-- an area without clusters
abbrev pub no_area : Area
no_area = record { start = 0; length = 0; first_vcn = 0; content = Boot }

-- an area by its number in the table, from 0 on; behind the table there is none
unfoldable pub area_at : Shape → ℕ → Area
area_at shape number = unwrap_or (slice_get (areas_of shape) number) no_area

-- a shape in the ranges, and its areas
pub record IsLayout (shape : Shape) (areas : List Area) : Type 0 where
  pub range : IsShape shape
  pub areas_are : areas ≡ areas_of shape
