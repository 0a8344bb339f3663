-- File records by their number, over $MFT's map (the Linux-NTFS documentation, "File Record"; the refusals are ours).
use Rattle.std.specs.Prelude.{◌/◌, ℕ, List, take, Option, Result, Ok}
use Rattle.std.specs.Option.{ok_or}
use Rattle.ntfs_base.specs.Bytes.{raw_of, stream}
use Rattle.ntfs_base.specs.Frames.{must, refused_as, ◌>>=◌}
use Rattle.ntfs_base.specs.declared.refusal.Rule.TheVariants as rule
use Rattle.ntfs_boot.specs.declared.geometry.Geometry.{Geometry}
use Rattle.ntfs_fixup.specs.Fixups.{unfix_of}
use Rattle.ntfs_fixup.specs.declared.header.Magic.TheVariants.{File}
use Rattle.ntfs_record.specs.Parsing.{parse_of}
use Rattle.ntfs_record.specs.Slots.{is_in_use, tells_own}
use Rattle.ntfs_volume.specs.MftMap.{Map}
use Rattle.ntfs_volume.specs.declared.fault.VolumeFault.{VolumeFault}
use Rattle.ntfs_volume.specs.declared.fault.VolumeFault.TheVariants as volume

-- the bytes of record r as they stand on disk, where they lie wholly in the initialised part of $MFT
unfoldable pub raw_record : Geometry → Map → (ℕ → List ℕ) → ℕ → Option (List ℕ)
raw_record g map f r = raw_of g.record_size (take map.valid (stream f map.clusters)) r

-- something is wrong with record r, which is in use
abbrev pub unsound : ℕ → VolumeFault
unsound r = volume.Damaged rule.C4 r

-- the unfixed bytes of record r, where these are its bytes on disk: it is in use, unfixes, parses, and tells no other
-- number than its own
unfoldable pub unfixed_record : ℕ → List ℕ → Result (List ℕ) VolumeFault
unfixed_record r raw = do
  _ ← must (is_in_use raw) volume.Absent
  block ← refused_as (λ _. unsound r) (unfix_of File raw)
  said ← refused_as (λ _. unsound r) (parse_of block)
  _ ← must (tells_own r said.layout.number) (unsound r)
  Ok block

-- the unfixed bytes of record r of a volume; it is absent where it isn't in use
unfoldable pub read_of : Geometry → Map → (ℕ → List ℕ) → ℕ → Result (List ℕ) VolumeFault
read_of g map f r = do
  raw ← ok_or (raw_record g map f r) volume.Absent
  unfixed_record r raw

-- how many records $MFT has room for
abbrev pub record_count : Geometry → Map → ℕ
record_count g map = map.size / g.record_size
