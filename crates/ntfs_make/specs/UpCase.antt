-- The table of $UpCase (the Linux-NTFS documentation, "$UpCase"). The words are ours.
use Rattle.std.specs.Prelude.{◌-◌, ◌&&◌, ℕ, List, flat_map, nat_le, if◌then◌else◌}
use Rattle.std.specs.List.{range_with_len}
use Rattle.byteorder.specs.Endian.{little_bytes}

-- the unit to which $UpCase maps a unit: small letters of ASCII to capital ones, all else to itself
unfoldable pub upper : ℕ → ℕ
upper unit = if nat_le 0x61 unit && nat_le unit 0x7A then unit - 0x20 else unit

-- the table of $UpCase for so many units, a unit for each ("$UpCase")
unfoldable pub up_case_bytes : ℕ → List ℕ
up_case_bytes count = flat_map (λ unit. little_bytes 2 (upper unit)) (range_with_len 0 count)
