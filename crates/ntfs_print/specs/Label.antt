-- An attribute's type and its name, as they stand in a line. The words are ours.
use Rattle.std.specs.Prelude.{ℕ, List, false, ◌++◌, codes}
use Rattle.std.specs.Fmt.{digits}
use Rattle.ntfs_upcase.specs.Names.{text_bytes}

-- the type in lower-case hexadecimal digits without leading zeros, and the text of the name between quotes
unfoldable pub kind_and_name : ℕ → List ℕ → List ℕ
kind_and_name kind name =
    codes "0x" ++ (digits 16 false kind ++ (codes " \"" ++ (text_bytes name ++ codes "\"")))
