-- The names of the root in the order of its index: by their units mapped through $UpCase, and where these are the
-- same by their units (the Linux-NTFS documentation, "$I30", on the collation of file names). The words are ours.
use Rattle.std.specs.Prelude.{◌==◌, ℕ, Bool, true, false, List, [], ◌∷◌, map, flat_map, filter, nat_lt, if◌then◌else◌}
use Rattle.ntfs_make.specs.Table.{RootNameValue, RowValue, BodyValue, ZerosBody, BytesBody, ListBody, NameBody, RootBody, ExtentBody}
use Rattle.ntfs_make.specs.Rows.{rows}
use Rattle.ntfs_make.specs.UpCase.{upper}

-- the names of a record
abbrev pub names_of_body : ℕ → BodyValue → List RootNameValue
names_of_body number (NameBody file) = record { number = number; name = file } ∷ []
names_of_body number (ZerosBody count) = []
names_of_body number (BytesBody bytes) = []
names_of_body number (ListBody entries) = []
names_of_body number (RootBody node) = []
names_of_body number (ExtentBody extent) = []

abbrev pub names_of_row : RowValue → List RootNameValue
names_of_row row = flat_map (λ attribute. names_of_body row.number attribute.body) row.attributes

-- whether the first list of units comes before the second
abbrev pub comes_before : List ℕ → List ℕ → Bool
comes_before a [] = false
comes_before [] (y ∷ ys) = true
comes_before (x ∷ xs) (y ∷ ys) = if x == y then comes_before xs ys else nat_lt x y

-- whether the first name comes before the second
abbrev pub is_before : List ℕ → List ℕ → Bool
is_before a b =
    if comes_before (map upper a) (map upper b) then true
    else (if comes_before (map upper b) (map upper a) then false else comes_before a b)

-- a name among names in order
abbrev pub insert_name : RootNameValue → List RootNameValue → List RootNameValue
insert_name one [] = one ∷ []
insert_name one (next ∷ others) =
    if is_before one.name.letters next.name.letters then one ∷ next ∷ others else next ∷ insert_name one others

abbrev pub names_in_order : List RootNameValue → List RootNameValue
names_in_order [] = []
names_in_order (one ∷ others) = insert_name one (names_in_order others)

-- all names of the root's files
unfoldable pub root_names : List RootNameValue
root_names = names_in_order (filter (λ each. each.name.parent == 5) (flat_map names_of_row rows))
