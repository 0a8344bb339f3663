-- How every crate reads bytes: numbers and pieces at a place, the bytes of a cluster, of a list of clusters, and of
-- the r-th piece of a size; and bytes that are put at a place. A list of bytes is a list of numbers below 256. All
-- numbers of NTFS on disk are little-endian (the Linux-NTFS documentation, "Concepts"); the words are ours.
use Rattle.std.specs.Prelude.{◌≡◌, ◌<◌, ◌^◌, ◌+◌, ◌-◌, ◌*◌, ◌/◌, ℕ, List, [], ◌∷◌, ◌++◌, length, map, take, drop, slice_index, Option, Some, None, nat_le, if◌then◌else◌}
use Rattle.std.specs.List.{Contains}
use Rattle.byteorder.specs.Endian.{little_from}

-- each number of the list is a byte
abbrev pub AreBytes : List ℕ → Type 0
AreBytes bytes = (i : ℕ) → slice_index bytes i < 2 ^ 8

-- the number in the n bytes from a place on, the lowest first; a byte past the end counts as 0
unfoldable pub number_at : ℕ → ℕ → List ℕ → ℕ
number_at n place bytes = little_from place n bytes

-- so many bytes from a place on; past the end there are none
unfoldable pub piece_at : ℕ → ℕ → List ℕ → List ℕ
piece_at place count bytes = take count (drop place bytes)

-- the bytes with a text at a place, over what stood there
unfoldable pub overwrite : ℕ → List ℕ → List ℕ → List ℕ
overwrite place text bytes = take place bytes ++ (text ++ drop (place + length text) bytes)

-- the bytes of cluster k of an image whose clusters have c bytes
unfoldable pub cluster_at : List ℕ → ℕ → ℕ → List ℕ
cluster_at image c k = take c (drop (k * c) image)

-- the bytes of a list of clusters in a row, where f gives those of one
abbrev pub stream : (ℕ → List ℕ) → List ℕ → List ℕ
stream f [] = []
stream f (k ∷ ks) = f k ++ stream f ks

-- a cluster is a pair of number and bytes
pub record Cluster : Type 0 where
  pub number : ℕ
  pub bytes : List ℕ

-- the cluster of a number, where f gives its bytes
abbrev pub fill_cluster : (ℕ → List ℕ) → ℕ → Cluster
fill_cluster f k = record { number = k; bytes = f k }

-- an image read through a list of cluster numbers
abbrev pub read_clusters : List ℕ → ℕ → List ℕ → List Cluster
read_clusters image c ks = map (fill_cluster (cluster_at image c)) ks

-- the bytes of clusters in a row
abbrev pub join_clusters : List Cluster → List ℕ
join_clusters [] = []
join_clusters (cluster ∷ clusters) = cluster.bytes ++ join_clusters clusters

-- how many clusters of c bytes these bytes need
unfoldable pub clusters_for : ℕ → ℕ → ℕ
clusters_for bytes c = (bytes + (c - 1)) / c

-- the r-th piece of a size, where it lies wholly in the bytes
unfoldable pub raw_of : ℕ → List ℕ → ℕ → Option (List ℕ)
raw_of size bytes r = if nat_le (r * size + size) (length bytes) then Some (take size (drop (r * size) bytes)) else None

-- two images have the same bytes in these clusters
abbrev pub AgreeOn : ℕ → List ℕ → List ℕ → List ℕ → Type 0
AgreeOn c a b ks = (k : ℕ) → Contains ks k → cluster_at a c k ≡ cluster_at b c k
