-- What rule C11 presumes: that the rules before them hold.
use Rattle.std.specs.Prelude.{◌≡◌, None}
use Rattle.ntfs_rules.specs.Files.{c10}
use Rattle.ntfs_rules.specs.Records.{c4, c7}
use Rattle.ntfs_rules.specs.VolumeData.{VolumeData, numbers}

pub record KeepsTen (v : VolumeData) : Type 0 where
  pub whole : c4 v.slots ≡ None
  pub cells : c7 (numbers v) ≡ None
  pub bases : c10 v.slots ≡ None
