-- What is known of an entry that breaks no rule, and what a walk does at an entry. The words are ours.
use Rattle.std.specs.Prelude.{◌≡◌, ◌+◌, ◌≤◌, ℕ, Bool, true, false, List, [], ◌∷◌, length, drop, if◌then◌else◌}
use Rattle.ntfs_index.specs.Layout.{index_entry_length, key_length}
use Rattle.ntfs_index.specs.Node.{Visit, Child, Own, Damage, broken_rule, child_length, ends_node, key_of, visits, visits_at, visits_behind_child}
use Rattle.ntfs_index.specs.declared.entry.Step.{Step}
use Rattle.ntfs_index.specs.declared.entry.Step.TheVariants as step
use Rattle.ntfs_index.specs.declared.fault.IndexFault.TheVariants.{BadNode}

-- an entry has its fields, and lies within the bytes
pub record HasSoundLength (entry : List ℕ) : Type 0 where
  pub fields : 16 ≤ index_entry_length entry
  pub within : index_entry_length entry ≤ length entry

-- and so do its child's VCN and its key
pub record IsSoundEntry (entry : List ℕ) : Type 0 where
  pub long : HasSoundLength entry
  pub child : 0x10 + child_length entry ≤ index_entry_length entry
  pub key : ends_node entry ≡ false → 0x10 + key_length entry ≤ index_entry_length entry

-- what is left of a node at an entry, whose child has been entered or not
abbrev pub visits_left : ℕ → Bool → List ℕ → List Visit
visits_left vcn entered entry =
    (if entered then visits_behind_child else visits_at)
    vcn entry (visits vcn 0 (drop (index_entry_length entry) entry)) (broken_rule entry)

-- what is met first at an entry of the node of a VCN, and what is left behind it
abbrev pub IsStep : ℕ → Bool → List ℕ → Step → Type 0
IsStep vcn entered entry (step.Child child) =
    (entered ≡ false) × (visits_left vcn false entry ≡ Child child ∷ visits_left vcn true entry)
IsStep vcn entered entry (step.Own reference len) =
    (0x10 + key_length entry ≤ length entry) × (len ≤ length entry)
    × (visits_left vcn entered entry
    ≡ Own (record { reference = reference; key = key_of entry }) ∷ visits_left vcn false (drop len entry))
IsStep vcn entered entry (step.Damage rule) = visits_left vcn entered entry ≡ Damage (BadNode vcn rule) ∷ []
IsStep vcn entered entry step.End = visits_left vcn entered entry ≡ []
