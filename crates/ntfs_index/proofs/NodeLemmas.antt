-- Numbers and entries in the bytes of a node.
use Rattle.std.proofs.Common.{◌≡◌, ◌-◌, ◌%◌, ◌≤◌, ◌==◌, ◌&&◌, ℕ, zero, suc, Bool, true, false, List, [], ◌∷◌, length, take, drop, Option, Some, None, if◌then◌else◌, nat_le, refl, ap, ◌∙◌, arith}
use Rattle.std.proofs.lemmas.Bool.{and_parts, leb-true}
use Rattle.std.proofs.lemmas.List.{take_rest}
use Rattle.byteorder.specs.Endian.{little_number}
use Rattle.ntfs_base.specs.Bytes.{number_at}
use Rattle.ntfs_base.proofs.BytesLemmas.{little_number-drop}
use Rattle.ntfs_index.specs.Layout.{index_entry_length, indexed_file, child_vcn}
use Rattle.ntfs_index.specs.Node.{Visit, Child, Own, broken_rule, has_right_length, has_right_parts, has_child, child_of, ends_node, key_of, visits, visits_at}
use Rattle.ntfs_index.specs.Entry.{visits_left}

-- what `byteorder` reads at the front of a slice that begins at a place
pub number_at-slice : (n place x : ℕ) (bytes : List ℕ)
    → x ≡ little_number n (take (length bytes - place) (drop place bytes)) → x ≡ number_at n place bytes
number_at-slice n place x bytes is = is ∙ ap (little_number n) (take_rest bytes place)
    ∙ little_number-drop n place bytes

-- ---- what is met in a node, from an entry on

-- an entry of no bytes breaks rule 4, so that nothing is met behind the end but that damage
visits-skip : (vcn skip : ℕ) (bytes : List ℕ) → visits vcn skip bytes ≡ visits vcn 0 (drop skip bytes)
visits-skip vcn zero bytes = refl
visits-skip vcn (suc skip) [] = refl
visits-skip vcn (suc skip) (byte ∷ bytes) = visits-skip vcn skip bytes

rule-none : (long parts : Bool) (four five : ℕ)
    → (if long then (if parts then None else Some five) else Some four) ≡ None → long ≡ true
rule-none true parts four five none = refl
rule-none false parts four five none = cc

-- an entry that breaks no rule has 16 bytes
broken_rule-none : (entry : List ℕ) → broken_rule entry ≡ None → 16 ≤ index_entry_length entry
unfolding broken_rule has_right_length
broken_rule-none entry none =
    let long = rule-none (has_right_length entry) (has_right_parts entry) 4 5 none in
    let parts =
    and_parts (nat_le 16 (index_entry_length entry) && (index_entry_length entry % 8 == 0))
    (nat_le (index_entry_length entry) (length entry)) long in
    leb-true 16 (index_entry_length entry) (and_parts (nat_le 16 (index_entry_length entry)) (index_entry_length entry % 8 == 0)
    parts.0).0

-- what follows plays a part only where the entry breaks no rule
visits_at-same : (vcn : ℕ) (entry : List ℕ) (a b : List Visit) (rule : Option ℕ) → (rule ≡ None → a ≡ b)
    → visits_at vcn entry a rule ≡ visits_at vcn entry b rule
visits_at-same vcn entry a b (Some rule) same = refl
visits_at-same vcn entry a b None same = ap (λ rest. visits_at vcn entry rest None) (same refl)

-- what is met from an entry on, by the entry
pub visits-left : (vcn : ℕ) (entry : List ℕ) → visits vcn 0 entry ≡ visits_left vcn false entry
unfolding broken_rule has_right_length number_at
visits-left vcn [] = refl
visits-left vcn (byte ∷ bytes) =
    let entry : List ℕ = byte ∷ bytes in
    visits_at-same vcn entry (visits vcn (index_entry_length entry - 1) bytes)
    (visits vcn 0 (drop (index_entry_length entry) entry)) (broken_rule entry)
    (λ none.
    let long = broken_rule-none entry none in
    let one : suc (index_entry_length entry - 1) ≡ index_entry_length entry = omega arith in
    visits-skip vcn (index_entry_length entry - 1) bytes ∙ ap (λ n. visits vcn 0 (drop n entry)) one)

module _ (vcn : ℕ) (entry : List ℕ) (whole : broken_rule entry ≡ None) where
  pub step_child : has_child entry ≡ true
      → visits_left vcn false entry ≡ Child (child_vcn entry) ∷ visits_left vcn true entry
  unfolding child_of
  step_child child = rw (whole, child) refl

  pub step_end : (entered : Bool) → (entered ≡ false → has_child entry ≡ false) → ends_node entry ≡ true
      → visits_left vcn entered entry ≡ []
  unfolding child_of
  step_end true childless ends = rw (whole, ends) refl
  step_end false childless ends = rw (whole, childless refl, ends) refl

  pub step_own : (entered : Bool) → (entered ≡ false → has_child entry ≡ false) → ends_node entry ≡ false
      → visits_left vcn entered entry ≡ Own (record {
        reference = indexed_file entry;
        key =
            key_of entry;
      }) ∷ visits_left vcn false (drop (index_entry_length entry) entry)
  unfolding child_of
  step_own true childless goes_on = rw (whole, goes_on, visits-left vcn (drop (index_entry_length entry) entry)) refl
  step_own false childless goes_on =
      rw (whole, childless refl, goes_on, visits-left vcn (drop (index_entry_length entry) entry)) refl

-- what a walk does at an entry
pub ruleset steps = (step_child, step_end, step_own)
