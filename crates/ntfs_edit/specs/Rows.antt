-- Edits of the attributes of a record in a row, and the one attribute that an edit changes. The words are ours.
use Rattle.std.specs.Prelude.{ℕ, ◌≡◌, ◌≤◌, ◌+◌, Option, List, ◌∷◌, ◌++◌, length, map, true}
use Rattle.std.specs.List.{concat, AllByRecursion}
use Rattle.ntfs_record.specs.FileRecord.{Attribute, Laid}
use Rattle.ntfs_record.specs.Layout.{first_attribute_of}
use Rattle.ntfs_record.specs.Attribute.{attribute_of, IsRaw}
use Rattle.ntfs_record.specs.Parsing.{raws_of}
use Rattle.ntfs_runs.specs.Cells.{Cells, cells_of}
use Rattle.ntfs_edit.specs.Edits.{changed}
use Rattle.ntfs_edit.specs.Respelt.{need_of, respelt}

-- of the attributes of a record the one at a place is edited, and those before and behind it stay
pub record ChangesOne (place : ℕ) (f : List ℕ → List ℕ) (bytes : List ℕ) : Type 0 where
  pub before : List (List ℕ)
  pub raw : List ℕ
  pub after : List (List ℕ)
  pub there : first_attribute_of bytes + length (concat before) ≡ place
  pub old : raws_of bytes (first_attribute_of bytes) ≡ before ++ (raw ∷ after)
  pub new : changed place f bytes ≡ before ++ (f raw ∷ after)

-- an edit leaves an attribute with nothing wrong, and what is read of it is changed by a function
pub record EditsRead {X : Type 0} (reads : Attribute (Laid (List ℕ)) → X) (f : List ℕ → List ℕ) (g : X → X)
    (raw : List ℕ) : Type 0 where
  pub is : IsRaw (f raw)
  pub says : reads (attribute_of (f raw)) ≡ g (reads (attribute_of raw))

-- it does so with each of these attributes
abbrev pub AllEditsRead : {X : Type 0} → (Attribute (Laid (List ℕ)) → X) → (List ℕ → List ℕ) → (X → X)
    → List (List ℕ) → Type 0
AllEditsRead reads f g raws = AllByRecursion (EditsRead reads f g) raws

-- what is read of attributes
abbrev pub all_read : {X : Type 0} → (Attribute (Laid (List ℕ)) → X) → List (List ℕ) → List X
all_read reads raws = map reads (map attribute_of raws)

-- the plain values of an attribute, and the cells that its mapping pairs spell
abbrev pub with_cells_read : Attribute (Laid (List ℕ)) → Attribute (Cells ℕ)
with_cells_read a = record { face = a.face; payload = cells_of a.payload.runs }

-- what is read of an attribute whose mapping pairs spell these cells, up to this VCN
abbrev pub cells_said : ℕ → List (Option ℕ) → Attribute (Cells ℕ) → Attribute (Cells ℕ)
cells_said next cells a =
    record { face = record (a.face) { next = next }; payload = record { is_right = true; cells = cells } }

-- a turn of a walk that edits each attribute: the record with the attributes before already edited is edited at the
-- next
pub record Turn (bytes mid : List ℕ) (place : ℕ) (f : List ℕ → List ℕ) (before : List (List ℕ)) (raw : List ℕ)
    (after : List (List ℕ)) : Type 0 where
  pub attributes : changed place f mid ≡ before ++ (f raw ∷ after)
  pub needs : need_of mid (changed place f mid) ≡ need_of bytes (before ++ (f raw ∷ after))
  pub is : need_of bytes (before ++ (raw ∷ after)) ≤ need_of bytes (before ++ (f raw ∷ after))
      → respelt mid (changed place f mid) ≡ respelt bytes (before ++ (f raw ∷ after))
