-- What the laws of streams and of the meaning speak of. The words are ours.
use Rattle.std.specs.Prelude.{◌≡◌, ◌⊎◌, ℕ, true, List, Ok}
use Rattle.ntfs_rules.specs.VolumeData.{VolumeData, stream_in}
use Rattle.ntfs_volume.specs.Streams.{Gathered}

-- the stream of this type and name of base record r can be gathered
abbrev pub IsThere : VolumeData → ℕ → ℕ → List ℕ → Type 0
IsThere v r kind name = (s : Gathered ℕ) × (stream_in v r kind name ≡ Ok s)

-- the same, and it is a value that stands in a record
abbrev pub IsValueThere : VolumeData → ℕ → ℕ → List ℕ → Type 0
IsValueThere v r kind name =
    (s : Gathered ℕ) × (stream_in v r kind name ≡ Ok s) × (s.stream.is_resident ≡ true)

-- the stream of this type and name of base record r
pub record Name : Type 0 where
  pub number : ℕ
  pub kind : ℕ
  pub name : List ℕ

-- two streams are of other base records, types or names
abbrev pub AreOther : Name → Name → Type 0
AreOther a b = (a.number ≡ b.number → ⊥) ⊎ ((a.kind ≡ b.kind → ⊥) ⊎ (a.name ≡ b.name → ⊥))
