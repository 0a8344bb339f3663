-- What may be done with a file of the system. The words are ours.
use Rattle.std.specs.Prelude.{◌≡◌, ◌≤◌, ◌+◌, ◌⊎◌, ℕ}
use Rattle.ntfs_host.specs.declared.access.Access.TheVariants as access
use Rattle.ntfs_host.specs.declared.disk_file.DiskFile.{DiskFile}

-- so many bytes may be written from a place on: the file isn't only read, and they end at its limit or before
pub record MayWrite (file : DiskFile) (at count : ℕ) : Type 0 where
  pub writable : file.access ≡ access.ReadWrite
  pub within : at + count ≤ file.limit

-- the file may get this length: it isn't only read, and becomes no longer, or ends at its limit or before
pub record MaySetLength (file : DiskFile) (len : ℕ) : Type 0 where
  pub writable : file.access ≡ access.ReadWrite
  pub within : (len ≤ file.size) ⊎ (len ≤ file.limit)
