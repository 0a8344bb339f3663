-- The generator's order of names beside the collation by the volume's own $UpCase (the Linux-NTFS documentation,
-- "Collation", the rule of file names). The words are ours.
use Rattle.std.specs.Prelude.{◌<◌, ◌&&◌, ℕ, Bool, true, false, List, [], ◌∷◌, nat_lt}
use Rattle.std.specs.List.{list_all}
use Rattle.std.specs.declared.cmp.Ordering.{Ordering}
use Rattle.std.specs.declared.cmp.Ordering.TheVariants.{Less, Equal, Greater}
use Rattle.ntfs_make.specs.RootNames.{is_before}
use Rattle.ntfs_make.specs.Table.{RootNameValue}
use Rattle.ntfs_make.specs.UpCase.{up_case_bytes}
use Rattle.ntfs_upcase.specs.Names.{units}

-- the table that the volume's $UpCase has: a unit for each of the 65,536
unfoldable pub volume_table : List ℕ
volume_table = units (up_case_bytes 65536)

-- each is a unit of 16 bits
abbrev pub AllUnits : List ℕ → Type 0
AllUnits [] = Unit {0}
AllUnits (unit ∷ rest) = (unit < 0x1_0000) × AllUnits rest

-- a comparison, and an answer where it doesn't tell two names apart
abbrev pub first_or : Ordering → Bool → Bool
first_or Less tie = true
first_or Equal tie = tie
first_or Greater tie = false

-- each name is of units and comes before the next
abbrev pub are_in_order : List RootNameValue → Bool
are_in_order [] = true
are_in_order (one ∷ []) = list_all (λ unit. nat_lt unit 0x1_0000) one.name.letters
are_in_order (one ∷ (next ∷ rest)) =
    list_all (λ unit. nat_lt unit 0x1_0000) one.name.letters
    && (is_before one.name.letters next.name.letters && are_in_order (next ∷ rest))
