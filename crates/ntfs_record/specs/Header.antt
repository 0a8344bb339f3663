-- The header of a file record: its tests in their order, and the plain values that it tells (the Linux-NTFS
-- documentation, "File Record"; the order of the faults is ours).
use Rattle.std.specs.Prelude.{ℕ, ◌+◌, ◌*◌, ◌%◌, ◌==◌, ◌&&◌, codes, nat_eq, Bool, List, [], ◌∷◌, length, Option, Some, None, nat_le, if◌then◌else◌}
use Rattle.std.specs.List.{starts_with}
use Rattle.ntfs_base.specs.Checks.{Check, check, first_wrong}
use Rattle.ntfs_record.specs.Layout.{array_offset, array_count, log_number_of, sequence_of, links_of, first_attribute_of, flags_of, in_use_of, allocated_of, base_of, next_instance_of, own_number_of}
use Rattle.ntfs_record.specs.FileRecord.{Head, HeadLayout}

-- the record begins with FILE
unfoldable pub begins_file : List ℕ → Bool
begins_file bytes = starts_with nat_eq bytes (codes "FILE")

-- the header's first 32 bytes are there, and the bytes allocated are the length
unfoldable pub has_size : List ℕ → Bool
has_size bytes = nat_le 32 (length bytes) && (allocated_of bytes == length bytes)

-- the bytes in use are among those allocated
unfoldable pub has_room : List ℕ → Bool
has_room bytes = nat_le (in_use_of bytes) (allocated_of bytes)

-- the first attribute stands at a multiple of 8, behind the update sequence array and the header of 0x28 bytes, and
-- before the last 4 bytes in use or at them
unfoldable pub has_first : List ℕ → Bool
has_first bytes =
    (first_attribute_of bytes % 8 == 0)
    && (nat_le (array_offset bytes + 2 * array_count bytes) (first_attribute_of bytes)
    && (nat_le 0x28 (first_attribute_of bytes) && nat_le (first_attribute_of bytes + 4) (in_use_of bytes)))

-- the tests of the header in their order, each with the number that its fault bears
abbrev pub header_checks : List ℕ → List (Check ℕ)
header_checks bytes =
    check (begins_file bytes) 1 ∷ check (has_size bytes) 2 ∷ check (has_room bytes) 3 ∷ check (has_first bytes) 4 ∷ []

-- the number of what is first wrong with the header
unfoldable pub header_fault_of : List ℕ → Option ℕ
header_fault_of bytes = first_wrong (header_checks bytes)

-- the plain values of the header
abbrev pub head_of : List ℕ → Head
head_of bytes = record {
  log_number = log_number_of bytes;
  sequence = sequence_of bytes;
  links = links_of bytes;
  flags = flags_of bytes;
  base = base_of bytes;
  next_instance = next_instance_of bytes;
}

-- where the parts of the record stand; a record tells its number where its update sequence array begins at 0x30 or
-- later
abbrev pub layout_of : List ℕ → HeadLayout
layout_of bytes = record {
  array_offset = array_offset bytes;
  array_count = array_count bytes;
  first_attribute = first_attribute_of bytes;
  in_use = in_use_of bytes;
  allocated = allocated_of bytes;
  number = if nat_le 0x30 (array_offset bytes) then Some (own_number_of bytes) else None;
}
