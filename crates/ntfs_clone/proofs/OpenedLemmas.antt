-- The volume of an opened image can be saved.
use Rattle.std.proofs.Common.{◌≡◌, ◌≤◌, ◌<◌, ◌*◌, ◌^◌, ◌⊎◌, inl, inr, ℕ, Bool, true, false, ◌||◌, List, length, refl, sym, subst, arith, nat_eq}
use Rattle.std.proofs.Math.Nat.{mul-le-mul_left}
use Rattle.std.proofs.lemmas.Bool.{eqb-true}
use Rattle.ntfs_bitmap.specs.ClusterSet.{Clusters}
use Rattle.ntfs_boot.specs.declared.geometry.Geometry.{Geometry}
use Rattle.ntfs_boot.specs.Geometry.{IsOpened, bytes_of_clusters, is_sector_count, is_sector_size}
use Rattle.ntfs_clone.specs.CloneOf.{IsVolume, volume_of}
use Rattle.ntfs_clone.specs.Header.{is_clone_cluster}
use Rattle.ntfs_clone.proofs.VolumeLemmas.{IsSized, good-sized, sized-least, sized-most}

either-of : (a b : Bool) → (a || b) ≡ true → (a ≡ true) ⊎ (b ≡ true)
either-of true b is = inl refl
either-of false b is = inr is

at : (P : ℕ → Type 0) (n k : ℕ) → nat_eq n k ≡ true → P k → P n
at P n k is holds = subst P (sym (eqb-true n k is)) holds

by-size : (P : ℕ → Type 0) → P 512 → P 1024 → P 2048 → P 4096 → (n : ℕ) → is_sector_size n ≡ true → P n
unfolding is_sector_size
by-size P p1 p2 p3 p4 n is =
    elim (either-of ((nat_eq n 512 || nat_eq n 1024) || nat_eq n 2048) (nat_eq n 4096) is) [
      | inr e ↦ at P n 4096 e p4
      | inl r ↦ elim (either-of (nat_eq n 512 || nat_eq n 1024) (nat_eq n 2048) r) [
        | inr e ↦ at P n 2048 e p3
        | inl r ↦ elim (either-of (nat_eq n 512) (nat_eq n 1024) r) [ inl e ↦ at P n 512 e p1 | inr e ↦ at P n 1024 e p2 ]
      ]
    ]

first-four : (n : ℕ) → Bool
first-four n = ((nat_eq n 1 || nat_eq n 2) || nat_eq n 4) || nat_eq n 8

by-four : (P : ℕ → Type 0) → P 1 → P 2 → P 4 → P 8 → (n : ℕ) → first-four n ≡ true → P n
unfolding first-four
by-four P p1 p2 p3 p4 n is =
    elim (either-of ((nat_eq n 1 || nat_eq n 2) || nat_eq n 4) (nat_eq n 8) is) [
      | inr e ↦ at P n 8 e p4
      | inl r ↦ elim (either-of (nat_eq n 1 || nat_eq n 2) (nat_eq n 4) r) [
        | inr e ↦ at P n 4 e p3
        | inl r ↦ elim (either-of (nat_eq n 1) (nat_eq n 2) r) [ inl e ↦ at P n 1 e p1 | inr e ↦ at P n 2 e p2 ]
      ]
    ]

by-count : (P : ℕ → Type 0) → P 1 → P 2 → P 4 → P 8 → P 16 → P 32 → P 64 → P 128 → (n : ℕ) → is_sector_count n ≡ true → P n
unfolding is_sector_count first-four
by-count P p1 p2 p3 p4 p5 p6 p7 p8 n is =
    elim (either-of (((first-four n || nat_eq n 16) || nat_eq n 32) || nat_eq n 64) (nat_eq n 128) is) [
      | inr e ↦ at P n 128 e p8
      | inl r ↦ elim (either-of ((first-four n || nat_eq n 16) || nat_eq n 32) (nat_eq n 64) r) [
        | inr e ↦ at P n 64 e p7
        | inl r ↦ elim (either-of (first-four n || nat_eq n 16) (nat_eq n 32) r) [
          | inr e ↦ at P n 32 e p6
          | inl r ↦ elim (either-of (first-four n) (nat_eq n 16) r) [ inr e ↦ at P n 16 e p5 | inl e ↦ by-four P p1 p2 p3 p4 n e ]
        ]
      ]
    ]

cluster-size : (s n : ℕ) → is_sector_size s ≡ true → is_sector_count n ≡ true → s * n ≤ 65536 → is_clone_cluster (s * n) ≡ true
unfolding is_clone_cluster
cluster-size s n size count =
    by-size (λ s. s * n ≤ 65536 → is_clone_cluster (s * n) ≡ true)
    (by-count (λ n. 512 * n ≤ 65536 → is_clone_cluster (512 * n) ≡ true) (λ m. refl) (λ m. refl) (λ m. refl) (λ m. refl) (λ m. refl) (λ m. refl) (λ m. refl) (λ m. refl) n count)
    (by-count (λ n. 1024 * n ≤ 65536 → is_clone_cluster (1024 * n) ≡ true) (λ m. refl) (λ m. refl) (λ m. refl) (λ m. refl) (λ m. refl) (λ m. refl) (λ m. refl) (λ m. absurd (omega arith)) n count)
    (by-count (λ n. 2048 * n ≤ 65536 → is_clone_cluster (2048 * n) ≡ true) (λ m. refl) (λ m. refl) (λ m. refl) (λ m. refl) (λ m. refl) (λ m. refl) (λ m. absurd (omega arith)) (λ m. absurd (omega arith)) n count)
    (by-count (λ n. 4096 * n ≤ 65536 → is_clone_cluster (4096 * n) ≡ true) (λ m. refl) (λ m. refl) (λ m. refl) (λ m. refl) (λ m. refl) (λ m. absurd (omega arith)) (λ m. absurd (omega arith)) (λ m. absurd (omega arith)) n count)
    s size

small : (n c : ℕ) → n < 2 ^ 32 → c ≤ 65536 → n * c ≤ 281474976710656
small n c few most = let all : c * n ≤ c * 4294967296 = mul-le-mul_left c (omega (arith, few)) in omega (arith, all, most)

pub sized-volume : (g : Geometry) (owned : Clusters) (image : List ℕ) → IsSized g → bytes_of_clusters g ≤ length image → IsVolume (volume_of g owned image)
sized-volume g owned image sized held =
    let bytes = small g.clusters g.cluster sized.most_clusters sized.cluster.most in
    let most = sized-most g sized in
    record {
      cluster = subst (λ (n : ℕ). is_clone_cluster n ≡ true) (sym sized.cluster.product)
          (cluster-size g.sector sized.sectors_per_cluster sized.cluster.sector_size sized.cluster.sector_count (subst (λ (n : ℕ). n ≤ 65536) sized.cluster.product sized.cluster.most));
      device = omega (arith, most, bytes, sized.cluster.most);
      held = sized-least g sized;
      some_clusters = sized.some_clusters;
      most_clusters = sized.most_clusters;
      bytes = held;
    }

pub opened-volume : (g : Geometry) (owned : Clusters) (image : List ℕ) → IsOpened (length image) g → IsVolume (volume_of g owned image)
opened-volume g owned image opened = sized-volume g owned image (good-sized g opened.good) opened.held
