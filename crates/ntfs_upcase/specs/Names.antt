-- The units of a name, and the text that they spell. A name is a list of bytes in UTF-16LE, as the value of
-- `$FILE_NAME` and the key of an entry of `$I30` have it (the Linux-NTFS documentation, "$FILE_NAME", "Filename in
-- Unicode"). A byte is a number below 256, and a last odd byte is no unit.
use Rattle.std.specs.Prelude.{ℕ, List, [], ◌∷◌}
use Rattle.std.specs.List.{flat_map}
use Rattle.std.specs.Char.Escape.{encode_utf16}
use Rattle.std.specs.Char.Utf16.{utf16_lossy_chars}
use Rattle.std.specs.Str.{chars, encode_utf8_all}
use Rattle.byteorder.specs.Endian.{little_bytes}
use Rattle.ntfs_base.specs.Bytes.{number_at}

-- the units of a name: the number in each two bytes, the lower first (the Linux-NTFS documentation, "$FILE_NAME")
unfoldable pub units : List ℕ → List ℕ
units [] = []
units (low ∷ []) = []
units (low ∷ high ∷ rest) = number_at 2 0 (low ∷ high ∷ rest) ∷ units rest

-- the bytes of units, two to each, the lower first; the word is ours
unfoldable pub unit_bytes : List ℕ → List ℕ
unit_bytes us = flat_map (little_bytes 2) us

-- the bytes in UTF-8 of the text that a name spells, with U+FFFD for each surrogate that has no partner (Unicode,
-- "UTF-16"); the word is ours
unfoldable pub text_bytes : List ℕ → List ℕ
text_bytes name = encode_utf8_all (utf16_lossy_chars (units name))

-- the bytes of the name that a text in UTF-8 spells: the units of each of its characters (Unicode, "UTF-16"); the
-- word is ours
unfoldable pub name_bytes : List ℕ → List ℕ
name_bytes text = unit_bytes (flat_map encode_utf16 (chars text))
