-- The ranges of a generated volume, and the numbers that follow from them. Where no source is named, the word is ours.
use Rattle.std.specs.Prelude.{◌≤◌, ◌+◌, ◌-◌, ◌*◌, ◌/◌, ◌%◌, ◌==◌, ◌||◌, ℕ, Bool, IsTrue, if◌then◌else◌}
use Rattle.ntfs_make.specs.declared.shape.Shape.{Shape}

-- a power of two from 512 to 65,536
unfoldable pub is_cluster_size : ℕ → Bool
is_cluster_size c =
    c == 512 || c == 1024 || c == 2048 || c == 4096 || c == 8192 || c == 16384 || c == 32768 || c == 65536

-- the volumes that are generated: from 1,024 clusters on, or 2,048 of 512 bytes, up to 1,048,576
pub record IsShape (shape : Shape) : Type 0 where
  pub cluster : IsTrue (is_cluster_size shape.cluster)
  pub least : (if shape.cluster == 512 then 2048 else 1024) ≤ shape.clusters
  pub most : shape.clusters ≤ 1048576

-- what a volume is made from
abbrev pub shape_of : ℕ → ℕ → ℕ → Shape
shape_of seed clusters cluster = record { seed = seed; clusters = clusters; cluster = cluster }

-- the bytes of $Bitmap: words of 64 bits, as many as have a bit for each cluster
unfoldable pub bitmap_size : ℕ → ℕ
bitmap_size clusters = 8 * ((clusters + 63) / 64)

-- the number of sectors of 512 bytes: those of the clusters, and for an odd seed one less than a cluster's more
unfoldable pub sectors : Shape → ℕ
sectors shape =
    shape.clusters * (shape.cluster / 512) + (if shape.seed % 2 == 1 then shape.cluster / 512 - 1 else 0)

-- the bad cluster
unfoldable pub bad_cluster : ℕ → ℕ
bad_cluster clusters = clusters / 2
