-- What a making leaves that was cut off. The words are ours.
use Rattle.std.specs.Prelude.{◌≡◌, ◌<◌, ◌+◌, ◌*◌, ◌⊎◌, ℕ, List, length, slice_index}
use Rattle.ntfs_make.specs.Volume.{volume_bytes_of}

-- the volume's length, and bytes of which each is zero or that of the volume
pub record IsZeroOrMade (seed clusters cluster : ℕ) (content : List ℕ) : Type 0 where
  pub len : length content ≡ (clusters + 1) * cluster
  pub bytes : (i : ℕ) → i < length content
      → (slice_index content i ≡ 0) ⊎ (slice_index content i ≡ slice_index (volume_bytes_of seed clusters cluster) i)
