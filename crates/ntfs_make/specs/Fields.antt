-- Fields of a structure on disk, one after the other. All numbers are little-endian (the Linux-NTFS documentation,
-- "Concepts"); the words are ours.
use Rattle.std.specs.Prelude.{◌-◌, ◌%◌, ℕ, List, ◌++◌, length, take, replicate, flat_map}
use Rattle.byteorder.specs.Endian.{little_bytes}
use Rattle.ntfs_make.specs.declared.field.Field.{Field}
use Rattle.ntfs_make.specs.declared.field.Field.TheVariants.{U8, U16, U32, U64, Zeros}

-- so many zeros
unfoldable pub zero_bytes : ℕ → List ℕ
zero_bytes count = replicate count 0

-- the bytes of a field
abbrev pub field_bytes : Field → List ℕ
field_bytes (U8 number) = little_bytes 1 number
field_bytes (U16 number) = little_bytes 2 number
field_bytes (U32 number) = little_bytes 4 number
field_bytes (U64 number) = little_bytes 8 number
field_bytes (Zeros count) = zero_bytes count

-- the bytes of the fields, one after the other
unfoldable pub fields_bytes : List Field → List ℕ
fields_bytes fields = flat_map field_bytes fields

-- the bytes, and zeros up to a multiple of 8
unfoldable pub with_padding : List ℕ → List ℕ
with_padding bytes = bytes ++ zero_bytes ((8 - length bytes % 8) % 8)

-- the bytes cut to a length, or with zeros up to it
unfoldable pub with_length : ℕ → List ℕ → List ℕ
with_length size bytes = take size bytes ++ zero_bytes (size - length (take size bytes))

-- a text of ASCII in UTF-16LE
unfoldable pub utf16_bytes : List ℕ → List ℕ
utf16_bytes letters = flat_map (λ letter. little_bytes 2 letter) letters
