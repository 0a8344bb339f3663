-- Words of the laws on walks. The words are ours.
use Rattle.std.specs.Prelude.{◌≡◌, ℕ, true, List, [], ◌∷◌}
use Rattle.ntfs_index.specs.Blocks.{BlockMap}
use Rattle.ntfs_index.specs.Node.{IndexEntry, Visit, Child, Own, Damage}
use Rattle.ntfs_index.specs.Walk.{is_met}

-- both maps have the same at each of these VCNs
abbrev pub AgreeOnMet : BlockMap → BlockMap → List ℕ → Type 0
AgreeOnMet a b met = (vcn : ℕ) → is_met vcn met ≡ true → b vcn ≡ a vcn

-- no child is met there
abbrev pub HasNoChild : List Visit → Type 0
HasNoChild [] = Unit {0}
HasNoChild (Child vcn ∷ rest) = ⊥
HasNoChild (Own entry ∷ rest) = HasNoChild rest
HasNoChild (Damage fault ∷ rest) = HasNoChild rest

-- the entries that stand before any damage
abbrev pub own_entries : List Visit → List IndexEntry
own_entries [] = []
own_entries (Child vcn ∷ rest) = own_entries rest
own_entries (Own entry ∷ rest) = entry ∷ own_entries rest
own_entries (Damage fault ∷ rest) = []
