-- What a source has still to give. The words are ours.
use Rattle.std.specs.Prelude.{◌≡◌, ℕ, List, drop}
use Rattle.ntfs_base.specs.Source.{SourceState, after_take}

-- its bytes that it hasn't given yet, where it tells them
abbrev pub to_come : SourceState → List ℕ
to_come source = drop source.given source.bytes

-- it has given further bytes, and all else is as before
pub record HasGiven (old new : SourceState) : Type 0 where
  pub count : ℕ
  pub given : new ≡ after_take count old
