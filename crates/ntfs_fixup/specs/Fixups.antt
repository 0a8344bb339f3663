-- Fixups: NTFS guards each stride of 512 bytes of a file record or index block by a number in the stride's last two
-- bytes, and keeps the true bytes in the update sequence array (the Linux-NTFS documentation, "Fixup" and "File
-- Record"). The blocks here are new lists, told byte by byte; the words are ours.
use Rattle.std.specs.Prelude.{◌≡◌, ◌≢◌, ◌⊎◌, ◌≤◌, ◌<◌, ◌==◌, ◌&&◌, ◌||◌, ◌+◌, ◌-◌, ◌*◌, ◌/◌, ◌%◌, ℕ, IsTrue, Bool, false, not, List, length, map, slice_index, Option, Some, None, Result, Ok, Err, nat_le, nat_lt, if◌then◌else◌}
use Rattle.std.specs.List.{find, range_with_len}
use Rattle.std.specs.Int.{byte_at}
use Rattle.byteorder.specs.Endian.{little_bytes}
use Rattle.ntfs_base.specs.Bytes.{number_at, overwrite}
use Rattle.ntfs_fixup.specs.declared.header.Magic.{Magic}
use Rattle.ntfs_fixup.specs.declared.header.Magic.TheVariants.{File, Indx}
use Rattle.ntfs_fixup.specs.declared.unfixing.FixFault.{FixFault}
use Rattle.ntfs_fixup.specs.declared.unfixing.FixFault.TheVariants.{NoMagic, BadArray, Torn}

-- a block has whole strides, two at least and 128 at most (the sizes of records and index blocks are multiples of a
-- sector: "File Record", "Index Record"; the bounds are ours)
pub record HasWholeStrides (block : List ℕ) : Type 0 where
  pub whole : length block % 512 ≡ 0
  pub least : 1024 ≤ length block
  pub most : length block ≤ 65536

-- the magic as the number in a block's first four bytes, `FILE` or `INDX` ("File Record", "Index Record")
unfoldable pub magic_number : Magic → ℕ
magic_number File = 0x454C4946
magic_number Indx = 0x58444E49

-- whether the block begins with the magic
unfoldable pub has_magic : Magic → List ℕ → Bool
has_magic magic block = number_at 4 0 block == magic_number magic

-- usa_ofs, u16 at 0x04: where the update sequence array begins ("File Record", "Index Record")
unfoldable pub array_offset : List ℕ → ℕ
array_offset block = number_at 2 0x04 block

-- usa_count, u16 at 0x06: how many words the array has ("File Record", "Index Record")
unfoldable pub array_count : List ℕ → ℕ
array_count block = number_at 2 0x06 block

-- the block with another offset of the array
unfoldable pub with_array_offset : ℕ → List ℕ → List ℕ
with_array_offset offset block = overwrite 0x04 (little_bytes 2 offset) block

-- the block with another count of the array's words
unfoldable pub with_array_count : ℕ → List ℕ → List ℕ
with_array_count count block = overwrite 0x06 (little_bytes 2 count) block

-- how many strides the block has
abbrev pub stride_count : List ℕ → ℕ
stride_count block = length block / 512

-- the least offset of the array, behind the header of the block ("File Record", "Index Record")
unfoldable pub least_offset : Magic → ℕ
least_offset File = 0x2A
least_offset Indx = 0x28

-- whether the array is good: a word for the number and one for each stride, at an even offset behind the header,
-- before the first stride's last two bytes ("Fixup")
unfoldable pub has_good_array : Magic → List ℕ → Bool
has_good_array magic block =
    (array_count block == 1 + stride_count block)
    && (array_offset block % 2 == 0)
    && nat_le (least_offset magic) (array_offset block)
    && nat_le (array_offset block + 2 * array_count block) 510

-- the array lies behind the words that tell it, and before the first stride's last two bytes
pub record HasRoom (block : List ℕ) : Type 0 where
  pub behind : 0x28 ≤ array_offset block
  pub ends : array_offset block + 2 * (stride_count block + 1) ≤ 510

-- byte p is none of the array's
abbrev pub IsOutsideArray : List ℕ → ℕ → Type 0
IsOutsideArray block p = (p < array_offset block) ⊎ (array_offset block + 2 * array_count block ≤ p)

-- two blocks of one length have the same bytes but for the array's own
pub record SameOutsideArray (old new : List ℕ) : Type 0 where
  pub long : length new ≡ length old
  pub bytes : (p : ℕ) → p < length old → IsOutsideArray old p → slice_index new p ≡ slice_index old p

-- a block of the same length with the same bytes before the array
pub record KeepsFront (old new : List ℕ) : Type 0 where
  pub long : length new ≡ length old
  pub front : (p : ℕ) → p < array_offset old → slice_index new p ≡ slice_index old p

-- the update sequence number, the array's first word ("Fixup")
unfoldable pub sequence_number : List ℕ → ℕ
sequence_number block = number_at 2 (array_offset block) block

-- the last word of stride k, as it stands in the block
unfoldable pub last_word : List ℕ → ℕ → ℕ
last_word block k = number_at 2 (512 * k + 510) block

-- whether stride k ends with the update sequence number
unfoldable pub agrees : List ℕ → ℕ → Bool
agrees block k = last_word block k == sequence_number block

-- the first stride, counted from 0, that doesn't end with the update sequence number
unfoldable pub first_torn : List ℕ → Option ℕ
first_torn block = find (λ k. not (agrees block k)) (range_with_len 0 (stride_count block))

-- stride k is the first that doesn't end with the update sequence number
pub record IsFirstTorn (block : List ℕ) (k : ℕ) : Type 0 where
  pub within : k < stride_count block
  pub differs : last_word block k ≢ sequence_number block
  pub before : (j : ℕ) → j < k → last_word block j ≡ sequence_number block

-- all strides end with the update sequence number
abbrev pub AllAgree : List ℕ → Type 0
AllAgree block = (k : ℕ) → k < stride_count block → last_word block k ≡ sequence_number block

-- the block begins with the magic, and its array is good
pub record HasFront (magic : Magic) (block : List ℕ) : Type 0 where
  pub begins : IsTrue (has_magic magic block)
  pub array : IsTrue (has_good_array magic block)

-- why a block is refused: its magic; else its array; else its first torn stride
abbrev pub Refuses : Magic → List ℕ → FixFault → Type 0
Refuses magic block NoMagic = has_magic magic block ≡ false
Refuses magic block BadArray = IsTrue (has_magic magic block) × (has_good_array magic block ≡ false)
Refuses magic block (Torn stride) = HasFront magic block × IsFirstTorn block stride

-- the byte at p of the block once it is unfixed: in a stride's last two bytes the one that the array saved, else the
-- old one ("Fixup")
unfoldable pub unfix_byte : List ℕ → ℕ → ℕ
unfix_byte block p =
    if nat_lt (p % 512) 510 then slice_index block p
    else slice_index block (array_offset block + 2 * (p / 512 + 1) + (p % 512 - 510))

-- the unfixed block, byte by byte
unfoldable pub unfix_block : List ℕ → List ℕ
unfix_block block = map (unfix_byte block) (range_with_len 0 (length block))

-- the unfixed block, or the first stride that is torn
abbrev pub unless_torn : Option ℕ → List ℕ → Result (List ℕ) FixFault
unless_torn (Some k) block = Err (Torn k)
unless_torn None block = Ok (unfix_block block)

-- the unfixed block, or the first fault: its magic, its array, a torn stride
unfoldable pub unfix_of : Magic → List ℕ → Result (List ℕ) FixFault
unfix_of magic block =
    if has_magic magic block then
    (if has_good_array magic block then unless_torn (first_torn block) block else Err BadArray)
    else Err NoMagic

-- the number after an update sequence number: one more modulo 65,536 ("Fixup": the number is raised at each write),
-- and 1 where that gives 0 or 0xFFFF, which the drivers leave out
unfoldable pub next_number : ℕ → ℕ
next_number n = let raised = (n + 1) % 65536 in if (raised == 0) || (raised == 0xFFFF) then 1 else raised

-- byte 0 or 1 of the number that follows the block's
unfoldable pub next_byte : List ℕ → ℕ → ℕ
next_byte block i = byte_at i (next_number (sequence_number block))

-- byte i of the last words of all strides, one after the other
unfoldable pub last_byte : List ℕ → ℕ → ℕ
last_byte block i = slice_index block (512 * (i / 2) + 510 + i % 2)

-- the byte at p of the block once it is refixed: the next number in each stride's last two bytes and in the array's
-- first word, in the array's further words the last bytes of the strides, else the old byte ("Fixup")
unfoldable pub refix_byte : List ℕ → ℕ → ℕ
refix_byte block p =
    if nat_le 510 (p % 512) then next_byte block (p % 512 - 510)
    else (if nat_lt p (array_offset block) then slice_index block p
    else (if nat_lt p (array_offset block + 2) then next_byte block (p - array_offset block)
    else (if nat_lt p (array_offset block + 2 * array_count block) then last_byte block (p - (array_offset block + 2))
    else slice_index block p)))

-- the refixed block, byte by byte
unfoldable pub refix_of : List ℕ → List ℕ
refix_of block = map (refix_byte block) (range_with_len 0 (length block))
