-- The geometry at the front of an image.
use Rattle.std.proofs.Common.{◌≡◌, ◌≤◌, ◌<◌, ◌*◌, ◌^◌, ℕ, Bool, true, false, refl, ap, ◌∙◌, sym, subst, arith, nat_le, List, length, take, Option, Some, None, Result, Ok, Err, if◌then◌else◌}
use Rattle.std.proofs.lemmas.Bool.{le-leb, lt-leb, leb-false, leb-true}
use Rattle.std.specs.Prelude.{IfErr}
use Rattle.ntfs_base.proofs.BytesLemmas.{number_at-lt, number_at-take, take-drop-take}
use Rattle.ntfs_base.specs.Bytes.{AreBytes}
use Rattle.ntfs_base.specs.Checks.{first_wrong}
use Rattle.ntfs_boot.specs.BootSector.{fields_of, oem_id_of}
use Rattle.ntfs_boot.specs.declared.boot_sector.BootSector.{BootSector}
use Rattle.ntfs_boot.specs.declared.geometry.BootFault.{BootFault}
use Rattle.ntfs_boot.specs.declared.volume.ImageFault.TheVariants as image
use Rattle.ntfs_boot.specs.Geometry.{volume_geometry, geometry_in, sector_geometry, IsCluster, IsBootRefusal, boot_geometry}
use Rattle.ntfs_boot.specs.Geometry.{cluster_size, record_size, block_size, cluster_count, geometry_of, is_sector_size, is_sector_count, is_record_size, is_block_size, is_cluster_count, lies_within, checks, refusal_or}
use Rattle.ntfs_boot.specs.Geometry.{wrong_sector, wrong_count, wrong_cluster, wrong_record, wrong_block, wrong_sectors, wrong_mft, wrong_mirror}

-- the boot sector is read from the first 512 bytes
pub fields_of-take : (m : ℕ) (bytes : List ℕ) → 512 ≤ m → fields_of (take m bytes) ≡ fields_of bytes
unfolding fields_of
fields_of-take m bytes within = λ i. record {
  bytes_per_sector = number_at-take 2 0x0B m bytes (omega arith) i;
  sectors_per_cluster = number_at-take 1 0x0D m bytes (omega arith) i;
  sectors = number_at-take 8 0x28 m bytes (omega arith) i;
  mft = number_at-take 8 0x30 m bytes (omega arith) i;
  mirror = number_at-take 8 0x38 m bytes (omega arith) i;
  record_code = number_at-take 1 0x40 m bytes (omega arith) i;
  block_code = number_at-take 1 0x44 m bytes (omega arith) i;
  serial = number_at-take 8 0x48 m bytes (omega arith) i;
}

pub sector_geometry-take : (m : ℕ) (bytes : List ℕ) → 512 ≤ m → sector_geometry (take m bytes) ≡ sector_geometry bytes
unfolding sector_geometry oem_id_of
sector_geometry-take m bytes within = rw (fields_of-take m bytes within, take-drop-take 3 8 m bytes (omega arith)) refl

-- an image that is too short for a boot sector
pub volume-short : (content : List ℕ) (len : ℕ) → length content ≡ len → len < 512 → volume_geometry content ≡ Err (image.ImageShort len 512)
unfolding volume_geometry
volume-short content len is short =
    let test : nat_le 512 (length content) ≡ false = lt-leb 512 (length content) (omega arith) in
    rw test (ap (λ n. Err (image.ImageShort n 512)) is)

-- an image that has one gives what its first 512 bytes give
pub volume-sector : (content sector : List ℕ) (len : ℕ) → length content ≡ len → 512 ≤ len → sector ≡ take 512 content → volume_geometry content ≡ geometry_in len sector
unfolding volume_geometry
volume-sector content sector len size long is =
    let test : nat_le 512 (length content) ≡ true = le-leb 512 (length content) (omega arith) in
    let same = ap sector_geometry is ∙ sector_geometry-take 512 content (omega arith) in
    rw (test, same, size) refl

-- ---- refusals

-- the first test that fails tells the refusal
first-of : {X : Type 0} (P : X → Type 0) (holds : Bool) (x : X) (rest : Option X) → (holds ≡ false → P x) → (holds ≡ true → (f : X) → rest ≡ Some f → P f)
    → (f : X) → (if holds then rest else Some x) ≡ Some f → P f
first-of P true x rest here later f is = later refl f is
first-of P false x rest here later f is = let same : x ≡ f = cc in subst P same (here refl)

pub boot-refusal : (b : BootSector) → b.bytes_per_sector < 2 ^ 16 → b.sectors_per_cluster < 2 ^ 8 → b.record_code < 2 ^ 8 → b.block_code < 2 ^ 8
    → b.sectors < 2 ^ 64 → b.mft < 2 ^ 64 → b.mirror < 2 ^ 64 → (fault : BootFault) → boot_geometry b ≡ Err fault → IsBootRefusal fault
unfolding boot_geometry
boot-refusal b sector_fits count_fits record_fits block_fits sectors_fit mft_fits mirror_fits fault is = refused (first_wrong (checks b)) fault is named
  where
    refused : (found : Option BootFault) (f : BootFault) → refusal_or found (geometry_of b) ≡ Err f → ((f : BootFault) → found ≡ Some f → IsBootRefusal f) → IsBootRefusal f
    refused None f is each = absurd cc
    refused (Some x) f is each = let same : x ≡ f = cc in each f (ap Some same)

    named : (f : BootFault) → first_wrong (checks b) ≡ Some f → IsBootRefusal f
    named f =
        first-of IsBootRefusal (is_sector_size b.bytes_per_sector) _ _ (λ no. wrong_sector b.bytes_per_sector sector_fits no) (λ sector.
        first-of IsBootRefusal (is_sector_count b.sectors_per_cluster) _ _ (λ no. wrong_count b.sectors_per_cluster count_fits no) (λ count.
        first-of IsBootRefusal (nat_le (cluster_size b) 65536) _ _ (λ no. wrong_cluster b.bytes_per_sector b.sectors_per_cluster sector count (leb-false (cluster_size b) 65536 no)) (λ most.
        let cluster : IsCluster (cluster_size b) b.bytes_per_sector b.sectors_per_cluster = record { sector_size = sector; sector_count = count; product = refl; most = leb-true (cluster_size b) 65536 most } in
        first-of IsBootRefusal (is_record_size (record_size b)) _ _ (λ no. wrong_record b.record_code _ _ _ record_fits cluster no) (λ size.
        first-of IsBootRefusal (is_block_size (block_size b)) _ _ (λ no. wrong_block b.block_code _ _ _ block_fits cluster no) (λ _.
        first-of IsBootRefusal (is_cluster_count (cluster_count b)) _ _ (λ no. wrong_sectors b.sectors _ _ _ sectors_fit cluster no) (λ some.
        first-of IsBootRefusal (lies_within b.mft (record_size b) (cluster_size b) (cluster_count b)) _ _ (λ no. wrong_mft b.mft _ _ _ _ _ mft_fits cluster size some no) (λ _.
        first-of IsBootRefusal (lies_within b.mirror (4 * record_size b) (cluster_size b) (cluster_count b)) _ _ (λ no. wrong_mirror b.mirror _ _ _ _ _ mirror_fits cluster size some no) (λ _ g none. absurd cc)))))))) f

pub fields-refusal : (bytes : List ℕ) → AreBytes bytes → (fault : BootFault) → boot_geometry (fields_of bytes) ≡ Err fault → IsBootRefusal fault
unfolding fields_of
fields-refusal bytes are = boot-refusal (fields_of bytes) (number_at-lt 2 0x0B bytes are) (number_at-lt 1 0x0D bytes are) (number_at-lt 1 0x40 bytes are) (number_at-lt 1 0x44 bytes are)
    (number_at-lt 8 0x28 bytes are) (number_at-lt 8 0x30 bytes are) (number_at-lt 8 0x38 bytes are)

pub each-err : {T E : Type 0} (P : E → Type 0) (result expected : Result T E) → result ≡ expected → ((fault : E) → expected ≡ Err fault → P fault) → IfErr result P
each-err P (Ok x) expected is each = tt
each-err P (Err fault) expected is each = each fault (sym is)
