-- Names in their order, where those that tie stand in a row. The words are ours.
use Rattle.std.specs.Prelude.{◌++◌, not, Bool, true, false, ℕ, List, [], ◌∷◌, map, Vec}
use Rattle.std.specs.declared.alloc.Global.{Global}
use Rattle.std.specs.List.{list_any}
use Rattle.std.specs.Str.{bytes_eq}
use Rattle.std.specs.declared.cmp.Ordering.{Ordering}
use Rattle.std.specs.declared.cmp.Ordering.TheVariants.{Less, Equal, Greater}
use Rattle.ntfs_upcase.specs.Collation.{collate}

-- the names that stand in a row, by their bytes
abbrev pub names_in_row : List (Vec ℕ Global) → List (List ℕ)
names_in_row names = map (λ (name : Vec ℕ Global). name.items) names

-- the order of a row of names that tie and of a name behind it; the first of a row stands for all
abbrev pub order_behind : List ℕ → List (List ℕ) → List ℕ → Ordering
order_behind table [] name = Less
order_behind table (first ∷ row) name = collate table first name

-- the name is one of them
abbrev pub stands_in : List (List ℕ) → List ℕ → Bool
stands_in row name = list_any (λ other. bytes_eq other name) row

-- a name may come in this order behind a row in which it stands or not
abbrev pub may_come : Ordering → Bool → Bool
may_come Less stands = true
may_come Equal stands = not stands
may_come Greater stands = false

-- a name may follow a row: it doesn't come before it, and isn't one of its names
unfoldable pub name_may_follow : List ℕ → List (List ℕ) → List ℕ → Bool
name_may_follow table row name = may_come (order_behind table row name) (stands_in row name)

-- the row in which a name stands that comes in this order behind another row
abbrev pub row_behind : Ordering → List (List ℕ) → List ℕ → List (List ℕ)
row_behind Less row name = name ∷ []
row_behind Equal row name = row ++ name ∷ []
row_behind Greater row name = row ++ name ∷ []

-- the row of a name that follows another row
unfoldable pub row_of : List ℕ → List (List ℕ) → List ℕ → List (List ℕ)
row_of table row name = row_behind (order_behind table row name) row name
