-- The boot sector of a made volume gives its geometry, and the volume has all its clusters.
use Rattle.std.proofs.Common.{◌≡◌, ◌≤◌, ◌<◌, ◌+◌, ◌-◌, ◌*◌, ◌/◌, ◌%◌, ◌^◌, ◌==◌, ℕ, Bool, true, false, cond, IsTrue, List, [], ◌∷◌, ◌++◌, length, take, drop, nat_le, refl, ap, sym, ◌∙◌, subst, arith, append_assoc}
use Rattle.std.specs.Prelude.{None, Ok}
use Rattle.std.proofs.Math.Nat.{add-mul}
use Rattle.std.proofs.lemmas.Bool.{le-leb}
use Rattle.std.proofs.lemmas.Bool.Decides.{nat_tests}
use Rattle.std.proofs.lemmas.List.{append-nil, take-append-drop}
use Rattle.std.proofs.lemmas.Nat.{div-mul-add}
use Rattle.ntfs_base.specs.Bytes.{clusters_for}
use Rattle.ntfs_base.specs.Checks.{Check, first_wrong}
use Rattle.ntfs_boot.specs.BootSector.{fields_of}
use Rattle.ntfs_boot.specs.Geometry.{block_size, boot_geometry, checks, cluster_count, cluster_size, coded_size, geometry_of, is_block_size, is_cluster_count, is_record_size, is_sector_count, is_sector_size, lies_within, record_size, sector_geometry, volume_geometry}
use Rattle.ntfs_make.specs.declared.shape.Shape.{Shape}
use Rattle.ntfs_make.specs.Areas.{area_at}
use Rattle.ntfs_make.specs.Boot.{boot_sector}
use Rattle.ntfs_make.specs.Fields.{zero_bytes}
use Rattle.ntfs_make.specs.Laws.{area_clusters, whole_streams}
use Rattle.ntfs_make.specs.ReadBack.{FitsBoot, IsBootOf}
use Rattle.ntfs_make.specs.Shape.{IsShape, is_cluster_size, sectors}
use Rattle.ntfs_make.specs.Streams.{content_bytes}
use Rattle.ntfs_make.specs.Volume.{LiesInVolume}
use Rattle.ntfs_make.proofs.AreaLemmas.{small-area}
use Rattle.ntfs_make.proofs.ReadBackLemmas.{boot-read}
use Rattle.ntfs_make.proofs.ReadLemmas.{lies-number}
use Rattle.ntfs_make.proofs.ShapeLemmas.{bounds, sectors-end, times-fits}
use Rattle.ntfs_make.proofs.StreamReadLemmas.{streams-read-back}
use Rattle.ntfs_made_map.specs.Opened.{made_geometry}
use Rattle.ntfs_made_map.proofs.ImageLemmas.{areas-stream, length-made, made_bytes, made_stream, stream-row}
use Rattle.ntfs_made_map.proofs.PlaceLemmas.{boot-start, clusters-more, mirror-length, table-length}

-- ---- the boot sector stands in front

-- the bytes of the first area, which begins with the image
front-area : (shape : Shape)
    → made_stream shape (area_clusters (area_at shape 0))
    ≡ take ((area_at shape 0).length * shape.cluster) (made_bytes shape)
front-area shape =
    let area = area_at shape 0 in
    let first : area.start * shape.cluster ≡ 0 = ap (λ n. n * shape.cluster) (boot-start shape) ∙ omega arith in
    stream-row (made_bytes shape) shape.cluster area.start area.length
    ∙ ap (λ n. take (area.length * shape.cluster) (drop n (made_bytes shape))) first

begins : (shape : Shape) → IsShape shape → (rest : List ℕ) × (made_bytes shape ≡ boot_sector shape ++ rest)
unfolding content_bytes whole_streams
begins shape is =
    let read = streams-read-back shape.seed shape.clusters shape.cluster 0 _ is refl in
    let c = shape.cluster in
    let size = (area_at shape 0).length * c in
    let front : take size (made_bytes shape) ≡ boot_sector shape ++ zero_bytes read.0 =
    sym (front-area shape) ∙ ap (made_stream shape) (sym (append-nil (area_clusters (area_at shape 0))))
    ∙ sym (areas-stream shape (0 ∷ [])) ∙ read.1 in (
      zero_bytes read.0 ++ drop size (made_bytes shape),
      sym (take-append-drop size (made_bytes shape)) ∙ ap (λ bytes. bytes ++ drop size (made_bytes shape)) front
          ∙ append_assoc (boot_sector shape) (zero_bytes read.0) (drop size (made_bytes shape)),
    )

-- ---- what it tells

sectors-few : (t : Bool) (n k : ℕ) → n ≤ 1048576 → k ≤ 128 → n * k + cond t (k - 1) 0 < 2 ^ 64
sectors-few true n k few small = let most = times-fits n k (omega arith) (omega arith) in omega arith
sectors-few false n k few small = let most = times-fits n k (omega arith) (omega arith) in omega arith

fits-boot : (shape : Shape) → shape.seed < 2 ^ 64 → IsShape shape → FitsBoot shape
unfolding sectors
fits-boot shape small is =
    let b = bounds shape is in
    let table = small-area shape 1 is in
    let mirror = small-area shape 2 is in
    let start = table.start in
    let other = mirror.start in
    record {
      cluster = omega arith;
      sector_count = sectors-few (shape.seed % 2 == 1) shape.clusters (shape.cluster / 512) b.limit (omega arith);
      mft = omega arith;
      mirror = omega arith;
      seed = small;
    }

made-boot : (shape : Shape) → shape.seed < 2 ^ 64 → IsShape shape → IsBootOf shape (made_bytes shape)
made-boot shape small is =
    let front = begins shape is in
    subst (IsBootOf shape) (sym front.1) (boot-read shape front.0 (fits-boot shape small is))

-- ---- its fields are right

-- checks that all hold
abbrev AllHold : {X : Type 0} → List (Check X) → Type 0
AllHold [] = Unit {0}
AllHold (c ∷ cs) = (c.holds ≡ true) × AllHold cs

none-wrong : {X : Type 0} (cs : List (Check X)) → AllHold cs → first_wrong cs ≡ None
none-wrong [] hold = refl
none-wrong (c ∷ cs) hold = rw hold.0 (none-wrong cs hold.1)

count-right : (c : ℕ) → IsTrue (is_cluster_size c) → is_sector_count (c / 512) ≡ true
unfolding is_cluster_size is_sector_count
count-right c is = grind (arith, nat_tests)

clusters-told : (t : Bool) (n k : ℕ) → 1 ≤ k → (n * k + cond t (k - 1) 0) / k ≡ n
clusters-told true n k some = div-mul-add n k (k - 1) (omega arith)
clusters-told false n k some = div-mul-add n k 0 (omega arith)

sectors-told : (shape : Shape) → IsShape shape → sectors shape / (shape.cluster / 512) ≡ shape.clusters
unfolding sectors
sectors-told shape is =
    let b = bounds shape is in
    clusters-told (shape.seed % 2 == 1) shape.clusters (shape.cluster / 512) (omega arith)

lies-right : (first bytes c n count : ℕ) → first + n ≤ count → clusters_for bytes c ≤ n
    → lies_within first bytes c count ≡ true
unfolding lies_within
lies-right first bytes c n count ends few = le-leb (first + clusters_for bytes c) count (omega arith)

-- the sizes that follow from the fields
record AreSizes (shape : Shape) (bytes : List ℕ) : Type 0 where
  cluster : cluster_size (fields_of bytes) ≡ shape.cluster
  record_is : record_size (fields_of bytes) ≡ 1024
  block_is : block_size (fields_of bytes) ≡ 4096
  count : cluster_count (fields_of bytes) ≡ shape.clusters

sizes : (shape : Shape) (bytes : List ℕ) → IsShape shape → IsBootOf shape bytes → AreSizes shape bytes
unfolding coded_size
sizes shape bytes is boot =
    let b = bounds shape is in record {
      cluster = rw (boot.bytes_per_sector, boot.sectors_per_cluster) b.sectors;
      record_is = rw boot.record_code refl;
      block_is = rw boot.block_code refl;
      count = rw (boot.sector_count, boot.sectors_per_cluster) (sectors-told shape is);
    }

all-right : (shape : Shape) (bytes : List ℕ) → IsShape shape → IsBootOf shape bytes → AllHold (checks (fields_of bytes))
unfolding is_sector_size is_record_size is_block_size is_cluster_count
all-right shape bytes is boot =
    let b = bounds shape is in
    let s = sizes shape bytes is boot in
    let c = shape.cluster in
    let table = area_at shape 1 in
    let mirror = area_at shape 2 in
    let table_lies : LiesInVolume shape table = lies-number shape 1 is (omega arith) in
    let mirror_lies : LiesInVolume shape mirror = lies-number shape 2 is (omega arith) in
    let few = clusters-more 1024 32768 c (omega arith) (omega arith) in
    let size = table-length shape in
    let other = mirror-length shape in
    let first : lies_within table.start 1024 c shape.clusters ≡ true =
    lies-right table.start 1024 c table.length shape.clusters table_lies.clusters (omega arith) in
    let copy : lies_within mirror.start 4096 c shape.clusters ≡ true =
    lies-right mirror.start 4096 c mirror.length shape.clusters mirror_lies.clusters (omega arith) in (
      rw boot.bytes_per_sector refl,
      (
        rw boot.sectors_per_cluster (count-right shape.cluster is.cluster),
        (
          rw s.cluster (le-leb shape.cluster 65536 b.most),
          (
            rw s.record_is refl,
            (
              rw s.block_is refl,
              (
                rw s.count (grind (arith, nat_tests)),
                (
                  rw (boot.mft, s.record_is, s.cluster, s.count) first,
                  (
                    rw (boot.mirror, s.record_is, s.cluster, s.count) copy,
                    tt,
                  ),
                ),
              ),
            ),
          ),
        ),
      ),
    )

told : (shape : Shape) (bytes : List ℕ) → IsShape shape → IsBootOf shape bytes
    → geometry_of (fields_of bytes) ≡ made_geometry shape
unfolding made_geometry
told shape bytes is boot =
    let s = sizes shape bytes is boot in λ i. record {
      sector = boot.bytes_per_sector i;
      cluster = s.cluster i;
      record_size = s.record_is i;
      block = s.block_is i;
      sectors = boot.sector_count i;
      clusters = s.count i;
      mft = boot.mft i;
      mirror = boot.mirror i;
      serial = boot.serial i;
    }

sector-told : (shape : Shape) (bytes : List ℕ) → IsShape shape → IsBootOf shape bytes
    → sector_geometry bytes ≡ Ok (made_geometry shape)
unfolding sector_geometry boot_geometry
sector-told shape bytes is boot =
    rw (boot.oem_id, none-wrong (checks (fields_of bytes)) (all-right shape bytes is boot))
    (ap Ok (told shape bytes is boot))

-- ---- the image

pub geometry-told : (shape : Shape) → shape.seed < 2 ^ 64 → IsShape shape
    → volume_geometry (made_bytes shape) ≡ Ok (made_geometry shape)
unfolding volume_geometry made_geometry
geometry-told shape small is =
    let b = bounds shape is in
    let size = length-made shape in
    let next = add-mul shape.clusters 1 shape.cluster in
    let last = sectors-end shape is in
    let sector : sector_geometry (made_bytes shape) ≡ Ok (made_geometry shape) =
    sector-told shape (made_bytes shape) is (made-boot shape small is) in
    let has : nat_le 512 (length (made_bytes shape)) ≡ true = le-leb 512 (length (made_bytes shape)) (omega arith) in
    let all : nat_le (shape.clusters * shape.cluster) (length (made_bytes shape)) ≡ true =
    le-leb (shape.clusters * shape.cluster) (length (made_bytes shape)) (omega arith) in
    rw (has, sector, all) refl
