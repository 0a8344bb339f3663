-- How names are ordered (the Linux-NTFS documentation, "$UpCase", and "Collation", the rule of file names). A table
-- is the list of the upper-case units of all 65,536 units, as `$UpCase` has them.
use Rattle.std.specs.Prelude.{ℕ, Bool, List, map, slice_index}
use Rattle.std.specs.declared.cmp.Ordering.{Ordering}
use Rattle.std.specs.Cmp.Lexicographic.{slice_cmp}
use Rattle.std.specs.Ordering.{nat_cmp, is_eq}
use Rattle.ntfs_upcase.specs.Names.{units}

-- the units of a name, each as the table maps it (the Linux-NTFS documentation, "$UpCase")
unfoldable pub upper_units : List ℕ → List ℕ → List ℕ
upper_units table name = map (λ unit. slice_index table unit) (units name)

-- the order of two names: that of their mapped units in the first place where they differ, and else the prefix comes
-- first (the Linux-NTFS documentation, "Collation")
unfoldable pub collate : List ℕ → List ℕ → List ℕ → Ordering
collate table a b = slice_cmp nat_cmp (upper_units table a) (upper_units table b)

-- whether two names are one name to the volume: the order doesn't tell them apart (the Linux-NTFS documentation,
-- "Collation")
unfoldable pub same_name : List ℕ → List ℕ → List ℕ → Bool
same_name table a b = is_eq (collate table a b)
