-- What one attribute of a file record says (the Linux-NTFS documentation, "Attribute Header"; the words are ours). The
-- payload stands for the clusters of its stream: at first the bytes of its mapping pairs, later what they spell.
use Rattle.std.specs.Prelude.{ℕ, Bool, List}

-- the plain values of an attribute; of a resident one the runs' are 0 and empty, of another the value is empty; none
-- tells a place, a length or an offset
pub record Face : Type 0 where
  pub kind : ℕ
  pub name : List ℕ
  pub flags : ℕ
  pub instance : ℕ
  pub is_resident : Bool
  pub value : List ℕ
  pub lowest : ℕ
  pub next : ℕ
  pub allocated : ℕ
  pub size : ℕ
  pub valid : ℕ
  pub unit : List ℕ
  pub packed : List ℕ

-- an attribute, with what stands for its clusters
pub record Attribute (P : Type 0) : Type 0 where
  pub face : Face
  pub payload : P

-- where the name and the body, which is the value or the mapping pairs, stand in an attribute's bytes
pub record Spot : Type 0 where
  pub name_offset : ℕ
  pub body_offset : ℕ

-- where name and body stand, and what stands for the runs: first the bytes of the mapping pairs
pub record Laid (P : Type 0) : Type 0 where
  pub spot : Spot
  pub runs : P
