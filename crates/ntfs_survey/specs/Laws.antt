-- What the laws of owned clusters speak of. The words are ours.
use Rattle.std.specs.Prelude.{◌≡◌, ◌+◌, ◌<◌, ◌⊎◌, ℕ, true, false, List, [], ◌∷◌, Contains, Option, Some, IfSome, slice_get}
use Rattle.std.specs.List.{AllByRecursion}
use Rattle.ntfs_record.specs.FileRecord.{Attribute, Laid}
use Rattle.ntfs_record.specs.Slots.{Slot}
use Rattle.ntfs_runs.specs.Cells.{Cells}
use Rattle.ntfs_survey.specs.Owned.{Claim, owned}
use Rattle.ntfs_volume.specs.Located.{Located, slot_at}

-- the claim that the i-th cell of an attribute of record r makes where it is this cluster
abbrev pub claim_at : {X : Type 0} → ℕ → Attribute (Located (Laid (Cells X))) → ℕ → X → Claim X
claim_at r a i k = record { cluster = k; number = r; place = a.payload.place; vcn = a.face.lowest + i }

-- the claim is that of a cell of an attribute of its record, which isn't resident
pub record IsOfCell {X : Type 0} (slots : List (Slot (Located (Laid (Cells X))))) (claim : Claim X) : Type 0 where
  pub attribute : Attribute (Located (Laid (Cells X)))
  pub index : ℕ
  pub stands : Contains (slot_at slots claim.number).attributes attribute
  pub runs : attribute.face.is_resident ≡ false
  pub cell : slice_get attribute.payload.payload.runs.cells index ≡ Some (Some claim.cluster)
  pub is : claim ≡ claim_at claim.number attribute index claim.cluster

-- the claim with something else in place of its cluster and of its place
abbrev pub map_claim : {X Y : Type 0} → (ℕ → ℕ) → (X → Y) → Claim X → Claim Y
map_claim moved f claim =
    record { cluster = f claim.cluster; number = claim.number; place = moved claim.place; vcn = claim.vcn }

-- ---- the order

-- a claim comes before another: by record, by place, by VCN
abbrev pub ComesBefore : {X : Type 0} → Claim X → Claim X → Type 0
ComesBefore c d = (c.number < d.number)
    ⊎ ((c.number ≡ d.number) × ((c.place < d.place) ⊎ ((c.place ≡ d.place) × (c.vcn < d.vcn))))

-- each comes before all that follow it
unfoldable pub Ascend : {A : Type 0} → (A → A → Type 0) → List A → Type 0
Ascend Before [] = Unit {0}
Ascend Before (x ∷ xs) = AllByRecursion (Before x) xs × Ascend Before xs

-- an attribute stands before another in its record
abbrev pub StandsBefore : {P : Type 0} → Attribute (Located P) → Attribute (Located P) → Type 0
StandsBefore a b = a.payload.place < b.payload.place

-- the attributes of each record stand one behind the other
abbrev pub AreInOrder : {P : Type 0} → List (Slot (Located P)) → Type 0
AreInOrder slots = AllByRecursion (λ s. Ascend StandsBefore s.attributes) slots

-- ---- streams

-- an attribute that is resident has no cells
abbrev pub HasNoCells : {X : Type 0} → Attribute (Located (Laid (Cells X))) → Type 0
HasNoCells a = a.face.is_resident ≡ true → a.payload.payload.runs.cells ≡ []

-- the attributes of all records that are resident have none
abbrev pub HaveNoCells : {X : Type 0} → List (Slot (Located (Laid (Cells X)))) → Type 0
HaveNoCells slots = AllByRecursion (λ s. AllByRecursion HasNoCells s.attributes) slots

-- the cell is a hole or an owned cluster
abbrev pub IsOwned : {X : Type 0} → List (Slot (Located (Laid (Cells X)))) → Option X → Type 0
IsOwned {X} slots cell = IfSome cell (λ k. (claim : Claim X) × Contains (owned slots) claim × (claim.cluster ≡ k))
