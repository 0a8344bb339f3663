-- A restored clone is the same volume.
use Rattle.std.proofs.Common.{◌≡◌, ◌≤◌, ◌<◌, ◌^◌, ℕ, Bool, true, false, List, ◌++◌, length, replicate, Option, Some, None, Result, Ok, Err, refl, sym, ap, subst, ◌∙◌, arith, nat_le, nat_lt, if◌then◌else◌, IsTrue}
use Rattle.std.proofs.lemmas.Bool.{leb-true, lt-ltb}
use Rattle.std.proofs.lemmas.Bool.Decides.{nat_tests}
use Rattle.std.specs.Option.{option_map}
use Rattle.std.specs.Str.{bytes_eq}
use Rattle.ntfs_base.specs.Bytes.{cluster_at}
use Rattle.ntfs_base.specs.Checks.{first_wrong}
use Rattle.ntfs_base.specs.Frames.{must, refused_as, ◌>>=◌}
use Rattle.ntfs_base.specs.Image.{ImageState}
use Rattle.ntfs_bitmap.proofs.SetLemmas.{has-set_where}
use Rattle.ntfs_bitmap.specs.ClusterSet.{has}
use Rattle.ntfs_boot.specs.BootSector.{fields_of, ntfs_id, oem_id_of}
use Rattle.ntfs_boot.specs.Geometry.{boot_geometry, bytes_of_clusters, checks, cluster_count, cluster_size, geometry_in, geometry_of, image_fault, is_cluster_count, refusal_or, sector_geometry, volume_geometry}
use Rattle.ntfs_boot.specs.declared.geometry.BootFault.{BootFault}
use Rattle.ntfs_boot.specs.declared.geometry.BootFault.TheVariants as boot_error
use Rattle.ntfs_boot.specs.declared.geometry.Geometry.{Geometry}
use Rattle.ntfs_boot.specs.declared.volume.ImageFault.{ImageFault}
use Rattle.ntfs_boot.specs.declared.volume.ImageFault.TheVariants as image_error
use Rattle.ntfs_check.specs.Checked.{StandsOn}
use Rattle.ntfs_check.specs.Findings.{VolumeFindings}
use Rattle.ntfs_check_clusters.specs.Outcome.{claimed_set}
use Rattle.ntfs_clone.proofs.CopyLawLemmas.{copy-restored}
use Rattle.ntfs_clone.proofs.CopyingLemmas.{one-free, one-owned}
use Rattle.ntfs_clone.proofs.OpenedLemmas.{sized-volume}
use Rattle.ntfs_clone.proofs.PlaceLemmas.{cluster-placed, length-resized, tail-placed}
use Rattle.ntfs_clone.proofs.ReadBackLemmas.{clone-read}
use Rattle.ntfs_clone.proofs.VolumeLemmas.{IsSized, sized-least, sized-most}
use Rattle.ntfs_clone.specs.CloneOf.{Volume, clone_of, clone_tail, volume_of}
use Rattle.ntfs_clone.specs.Commands.{Clone}
use Rattle.ntfs_clone.specs.Copying.{copied_clusters, copy_of}
use Rattle.ntfs_clone.specs.Restored.{restore_of, restored}
use Rattle.ntfs_clone.specs.Same.{HasNoOwner, IsOneVolume, IsSameVolume, owned_volume}
use Rattle.ntfs_clone.specs.declared.fault.CloneFault.{CloneFault}
use Rattle.ntfs_meaning.specs.Meaning.{meaning}
use Rattle.ntfs_rules.proofs.ClearLemmas.{all-hold}
use Rattle.ntfs_rules.proofs.CloneLemmas.{same-data, same-opened, same-whole}
use Rattle.ntfs_rules.proofs.CountLemmas.{each-cluster}
use Rattle.ntfs_rules.proofs.OwnedLemmas.{claims-below}
use Rattle.ntfs_rules.specs.Accepts.{Accepts, claims_in, damaged, first_fault, opened_fault}
use Rattle.ntfs_rules.specs.Clusters.{is_owned, times}
use Rattle.ntfs_rules.specs.Laws.{HasOwner, HoldsOwned, IsWhole, data_in}
use Rattle.ntfs_rules.specs.VolumeData.{volume_data}
use Rattle.ntfs_survey.specs.Owned.{Claim}
use Rattle.ntfs_volume.proofs.AnswerLemmas.{bind-ok, must-parts}
use Rattle.ntfs_volume.specs.Fault.{volume_fault}
use Rattle.ntfs_volume.specs.MftMap.{Map, mft_map}
use Rattle.ntfs_volume.specs.Opened.{Opened, opened_of}
use Rattle.ntfs_volume.specs.declared.fault.VolumeFault.{VolumeFault}

-- ---- the sizes that an image tells

if-ok : {A E : Type 0} (b : Bool) (r : Result A E) (e : E) (x : A) → (if b then r else Err e) ≡ Ok x → r ≡ Ok x
if-ok true r e x is = is
if-ok false r e x is = absurd cc

or-ok : (o : Option BootFault) (g other : Geometry) → refusal_or o g ≡ Ok other → (o ≡ None) × (g ≡ other)
or-ok None g other is = (refl, let same : g ≡ other = cc in same)
or-ok (Some fault) g other is = absurd cc

count-parts : (n : ℕ) → is_cluster_count n ≡ true → (0 < n) × (n < 2 ^ 32)
unfolding is_cluster_count
count-parts n is = (grind (arith, nat_tests), grind (arith, nat_tests))

boot-sized : (bytes : List ℕ) (g : Geometry) → boot_geometry (fields_of bytes) ≡ Ok g → IsSized g
unfolding boot_geometry
boot-sized bytes g is =
    let b = fields_of bytes in
    let parts = or-ok (first_wrong (checks b)) (geometry_of b) g is in
    let all = all-hold (checks b) parts.0 in
    let count = count-parts (cluster_count b) all.1.1.1.1.1.0 in
    subst IsSized parts.1 (record {
      sectors_per_cluster = b.sectors_per_cluster;
      cluster = record { sector_size = all.0; sector_count = all.1.0; product = refl; most = leb-true (cluster_size b) 65536 all.1.1.0 };
      clusters = refl;
      some_clusters = count.0;
      most_clusters = count.1;
    })

sector-sized : (bytes : List ℕ) (g : Geometry) → sector_geometry bytes ≡ Ok g → IsSized g
unfolding sector_geometry
sector-sized bytes g is = boot-sized bytes g (if-ok (bytes_eq (oem_id_of bytes) ntfs_id) (boot_geometry (fields_of bytes)) boot_error.NotNtfs g is)

refused-ok : {A E F : Type 0} (over : E → F) (r : Result A E) (x : A) → refused_as over r ≡ Ok x → r ≡ Ok x
refused-ok over (Ok y) x is = cc
refused-ok over (Err e) x is = absurd cc

volume-parts : (image : List ℕ) (g : Geometry) → volume_geometry image ≡ Ok g → (sector_geometry image ≡ Ok g) × (bytes_of_clusters g ≤ length image)
unfolding volume_geometry
volume-parts image g is =
    let len = length image in
    let end : Geometry → Result Geometry ImageFault = λ h. Ok h in
    let one = must-parts (nat_le 512 len) (image_error.ImageShort len 512) (geometry_in len image) g is in
    let two = bind-ok (refused_as image_fault (sector_geometry image)) (λ h. must (nat_le (bytes_of_clusters h) len) (image_error.ImageShort len (bytes_of_clusters h)) >>= (λ _. end h)) g one.1 in
    let three = must-parts (nat_le (bytes_of_clusters two.0) len) (image_error.ImageShort len (bytes_of_clusters two.0)) (end two.0) g two.2 in
    let same : two.0 ≡ g = let given = three.1 in cc in
    (refused-ok image_fault (sector_geometry image) two.0 two.1 ∙ ap Ok same, subst (λ (h : Geometry). bytes_of_clusters h ≤ len) same (leb-true (bytes_of_clusters two.0) len three.0))

opened-geometry : (image : List ℕ) (o : Opened) → opened_of image ≡ Ok o → volume_geometry image ≡ Ok o.geometry
unfolding opened_of
opened-geometry image o is =
    let end : Geometry → Map → Result Opened VolumeFault = λ g table. Ok (record { geometry = g; map = table }) in
    let g = bind-ok (refused_as volume_fault (volume_geometry image)) (λ g. mft_map g (cluster_at image g.cluster) >>= end g) o is in
    let table = bind-ok (mft_map g.0 (cluster_at image g.0.cluster)) (end g.0) o g.2 in
    let same : ◌≡◌ {A = Opened} (record { geometry = g.0; map = table.0 }) o = let end_is = table.2 in cc in
    subst (λ (p : Opened). volume_geometry image ≡ Ok p.geometry) same (refused-ok volume_fault (volume_geometry image) g.0 g.1)

-- an image that opens: the sizes of its geometry, and room for its clusters
record Sizes (image : List ℕ) (o : Opened) : Type 0 where
  sized : IsSized o.geometry
  held : bytes_of_clusters o.geometry ≤ length image

sizes-of : (image : List ℕ) (o : Opened) → opened_of image ≡ Ok o → Sizes image o
sizes-of image o is =
    let parts = volume-parts image o.geometry (opened-geometry image o is) in
    record { sized = sector-sized image o.geometry parts.0; held = parts.1 }

-- ---- the owned clusters of the volume

owned-below : (image : List ℕ) (o : Opened) (k : ℕ) → IsWhole image o → HasOwner (data_in image o) k → k < o.geometry.clusters
owned-below image o k is some =
    let f = cluster_at image o.geometry.cluster in
    each-cluster (λ j. j < o.geometry.clusters) (claims_in (volume_data o f)) k (claims-below o f is.whole) some

has-claimed : (n : ℕ) (claims : List (Claim ℕ)) (k : ℕ) → k < n → has (claimed_set n claims) k ≡ nat_lt 0 (times k claims)
unfolding claimed_set is_owned
has-claimed n claims k below = has-set_where n (is_owned claims) k below

is-owned : (image : List ℕ) (o : Opened) (k : ℕ) → IsWhole image o → HasOwner (data_in image o) k → (owned_volume image o).owned k ≡ true
is-owned image o k is some =
    has-claimed o.geometry.clusters (claims_in (data_in image o)) k (owned-below image o k is some) ∙ lt-ltb 0 (times k (claims_in (data_in image o))) some

is-free : (image : List ℕ) (o : Opened) (k : ℕ) → k < o.geometry.clusters → HasNoOwner (data_in image o) k → (owned_volume image o).owned k ≡ false
is-free image o k below none = has-claimed o.geometry.clusters (claims_in (data_in image o)) k below ∙ ap (nat_lt 0) none

-- ---- one volume

accepted : (image : List ℕ) (o : Opened) → IsWhole image o → Accepts image
unfolding first_fault
accepted image o is = ap (opened_fault image) is.opened ∙ ap (option_map damaged) is.whole

pub one-volume : (image other : List ℕ) (o : Opened) → IsWhole image o → HoldsOwned image other o → IsOneVolume image other o
one-volume image other o is holds =
    let same = same-data image other o is holds in
    record {
      opened = same-opened image other o is holds;
      accepted = accepted other o (same-whole image other o is holds);
      says = same;
      claims = ap claims_in same;
      meaning = ap meaning same;
    }

-- ---- the copy

copy-owned : (image : List ℕ) (o : Opened) (k : ℕ) → IsWhole image o → HasOwner (data_in image o) k
    → cluster_at (copy_of (owned_volume image o)) o.geometry.cluster k ≡ cluster_at image o.geometry.cluster k
copy-owned image o k is some =
    let v = owned_volume image o in
    let sizes = sizes-of image o is.opened in
    cluster-placed v k (owned-below image o k is some) sizes.held (sized-least o.geometry sizes.sized) ∙ one-owned v k (is-owned image o k is some)

copy-free : (image : List ℕ) (o : Opened) (k : ℕ) → IsWhole image o → k < o.geometry.clusters → HasNoOwner (data_in image o) k
    → cluster_at (copy_of (owned_volume image o)) o.geometry.cluster k ≡ replicate o.geometry.cluster 0
copy-free image o k is below none =
    let v = owned_volume image o in
    let sizes = sizes-of image o is.opened in
    cluster-placed v k below sizes.held (sized-least o.geometry sizes.sized) ∙ one-free v k (is-free image o k below none)

copy-size : (v : Volume) → length (copy_of v) ≡ v.device
unfolding copy_of
copy-size v = length-resized v.device (copied_clusters v v.clusters ++ clone_tail v)

copy-holds : (image : List ℕ) (o : Opened) → IsWhole image o → HoldsOwned image (copy_of (owned_volume image o)) o
copy-holds image o is =
    let sizes = sizes-of image o is.opened in
    let long = copy-size (owned_volume image o) in
    record {
      room = omega (arith, long, sized-least o.geometry sizes.sized);
      same = λ k some. copy-owned image o k is some;
    }

pub same-volume : (image : List ℕ) (o : Opened) → IsWhole image o → IsSameVolume image (copy_of (owned_volume image o)) o
same-volume image o is =
    let v = owned_volume image o in
    let sizes = sizes-of image o is.opened in
    record {
      size = copy-size v;
      volume = one-volume image (copy_of v) o is (copy-holds image o is);
      owned = λ k some. copy-owned image o k is some;
      tail = λ i least below. tail-placed v i least below (sized-most o.geometry sizes.sized) sizes.held;
      free = λ k below none. copy-free image o k is below none;
    }

pub clone-restored : (image : List ℕ) (o : Opened) → IsWhole image o → restore_of (clone_of (owned_volume image o)) ≡ Ok (copy_of (owned_volume image o))
unfolding restore_of
clone-restored image o is =
    let v = owned_volume image o in
    let sizes = sizes-of image o is.opened in
    let read = clone-read v (sized-volume o.geometry (claimed_set o.geometry.clusters (claims_in (data_in image o))) image sizes.sized sizes.held) in
    ap (λ (r : Result Clone CloneFault). r >>= (λ clone. Ok (restored clone.header clone.commands))) read ∙ ap Ok (sym (copy-restored v))

-- ---- a checked volume

pub found-volume : (s : ImageState) (o : Opened) (f : VolumeFindings) → StandsOn s o f → IsTrue s.is_told → volume_of o.geometry f.owned s.content ≡ owned_volume s.content o
unfolding volume_data
found-volume s o f stands told = ap (λ (f : VolumeFindings). volume_of o.geometry f.owned s.content) (stands.found told)
