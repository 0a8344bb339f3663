-- What is met in the bytes of one node of an index: the first of the two steps of a walk. The rules of entries, 4 and
-- 5, are settled here (the Linux-NTFS documentation, "Index Record" and "Directory"; the numbers of the rules and the
-- words are ours).
use Rattle.std.specs.Prelude.{◌+◌, ◌-◌, ◌*◌, ◌%◌, ◌==◌, ◌&&◌, ℕ, zero, suc, Bool, not, List, [], ◌∷◌, ◌++◌, length, take, drop, Option, Some, None, Result, Ok, Err, nat_le, if◌then◌else◌, bit_and}
use Rattle.ntfs_base.specs.Bytes.{piece_at}
use Rattle.ntfs_fixup.specs.Fixups.{unfix_of}
use Rattle.ntfs_fixup.specs.declared.header.Magic.TheVariants.{Indx}
use Rattle.ntfs_fixup.specs.declared.unfixing.FixFault.{FixFault}
use Rattle.ntfs_index.specs.Layout.{root_type, collation_rule, index_block_size, root_header, index_block_vcn, block_header, entries_offset, index_length, indexed_file, index_entry_length, key_length, entry_flags, file_name_length, child_vcn}
use Rattle.ntfs_index.specs.declared.fault.IndexFault.{IndexFault}
use Rattle.ntfs_index.specs.declared.fault.IndexFault.TheVariants.{BadNode}

-- an entry that a walk gives: the reference and the key (a $FILE_NAME) as they stand
pub record IndexEntry : Type 0 where
  pub reference : ℕ
  pub key : List ℕ

-- what a walk meets in a node: a child, by its VCN; an entry of the node's own; or damage, which ends it
pub data Visit : Type 0 where
  Child : ℕ → Visit
  Own : IndexEntry → Visit
  Damage : IndexFault → Visit

-- ---- an entry, by the bytes from its first on to the end of those in use

-- it has a child ("Directory": flag 1)
unfoldable pub has_child : List ℕ → Bool
has_child entry = not (bit_and (entry_flags entry) 1 == 0)

-- it ends the node, and is none of its own ("Directory": flag 2)
unfoldable pub ends_node : List ℕ → Bool
ends_node entry = not (bit_and (entry_flags entry) 2 == 0)

-- the bytes that a child's VCN takes
unfoldable pub child_length : List ℕ → ℕ
child_length entry = if has_child entry then 8 else 0

-- the child's VCN, where it has one
unfoldable pub child_of : List ℕ → Option ℕ
child_of entry = if has_child entry then Some (child_vcn entry) else None

-- the key, behind the 16 bytes of the fields
unfoldable pub key_of : List ℕ → List ℕ
key_of entry = piece_at 0x10 (key_length entry) entry

-- rule 4: the length is at least 16, a multiple of 8, and within the bytes in use
unfoldable pub has_right_length : List ℕ → Bool
has_right_length entry =
    nat_le 16 (index_entry_length entry) && (index_entry_length entry % 8 == 0)
    && nat_le (index_entry_length entry) (length entry)

-- rule 5 of an entry with a key: the fields, the key and the child's VCN are within the entry, and a $FILE_NAME with
-- its name within the key
unfoldable pub has_right_key : List ℕ → Bool
has_right_key entry =
    nat_le (0x10 + key_length entry + child_length entry) (index_entry_length entry)
    && nat_le (0x42 + 2 * file_name_length entry) (key_length entry)

-- rule 5 of an entry that ends the node: the fields and the child's VCN are within the entry
unfoldable pub has_right_child : List ℕ → Bool
has_right_child entry = nat_le (0x10 + child_length entry) (index_entry_length entry)

abbrev pub has_right_parts : List ℕ → Bool
has_right_parts entry = if ends_node entry then has_right_child entry else has_right_key entry

-- the first rule that it breaks
unfoldable pub broken_rule : List ℕ → Option ℕ
broken_rule entry = if has_right_length entry then (if has_right_parts entry then None else Some 5) else Some 4

-- ---- the entries of a node, one after the other

abbrev pub visit_child : Option ℕ → List Visit
visit_child None = []
visit_child (Some vcn) = Child vcn ∷ []

-- the entry itself and what follows; nothing where it ends the node
abbrev pub own_visits : List ℕ → List Visit → List Visit
own_visits entry rest =
    if ends_node entry then [] else Own (record { reference = indexed_file entry; key = key_of entry }) ∷ rest

-- at an entry whose child has been met already
abbrev pub visits_behind_child : ℕ → List ℕ → List Visit → Option ℕ → List Visit
visits_behind_child vcn entry rest (Some rule) = Damage (BadNode vcn rule) ∷ []
visits_behind_child vcn entry rest None = own_visits entry rest

-- at an entry: the damage of the first rule that it breaks; else its child, and then itself and what follows
abbrev pub visits_at : ℕ → List ℕ → List Visit → Option ℕ → List Visit
visits_at vcn entry rest (Some rule) = Damage (BadNode vcn rule) ∷ []
visits_at vcn entry rest None = visit_child (child_of entry) ++ own_visits entry rest

-- what is met in the node of this VCN, in the bytes of its entries that are in use, behind so many bytes of an entry
-- that was met. Where they end without an entry that ends the node, rule 4 is broken.
abbrev pub visits : ℕ → ℕ → List ℕ → List Visit
visits vcn skip [] = Damage (BadNode vcn 4) ∷ []
visits vcn (suc skip) (byte ∷ bytes) = visits vcn skip bytes
visits vcn zero (byte ∷ bytes) =
    visits_at vcn (byte ∷ bytes) (visits vcn (index_entry_length (byte ∷ bytes) - 1) bytes) (broken_rule (byte ∷ bytes))

-- ---- the entries in use of a root and of a block: rules 1, 2, 3

-- rule 3: the first entry lies at least 16 bytes behind the header's begin, at a multiple of 8, not behind the end of
-- those in use, which are within the node
unfoldable pub has_right_header : ℕ → List ℕ → Bool
has_right_header header bytes =
    nat_le 16 (entries_offset header bytes)
    && (entries_offset header bytes % 8 == 0)
    && nat_le (entries_offset header bytes) (index_length header bytes)
    && nat_le (header + index_length header bytes) (length bytes)

-- the bytes of the entries in use
unfoldable pub entries_in : ℕ → List ℕ → List ℕ
entries_in header bytes = drop (header + entries_offset header bytes) (take (header + index_length header bytes) bytes)

abbrev pub entries_at : ℕ → ℕ → List ℕ → Result (List ℕ) IndexFault
entries_at vcn header bytes =
    if has_right_header header bytes then Ok (entries_in header bytes) else Err (BadNode vcn 3)

-- the root's VCN in a fault, the greatest number of 64 bits
abbrev pub root_vcn : ℕ
root_vcn = 18446744073709551615

-- rule 1 of a root: it has 32 bytes at least, its keys are attributes of type 0x30, $FILE_NAME, in the order of rule 1,
-- that of file names, and its blocks have the volume's size
unfoldable pub is_root : ℕ → List ℕ → Bool
is_root size root =
    nat_le 32 (length root) && (root_type root == 0x30) && (collation_rule root == 1) && (index_block_size root == size)

-- the bytes of a root's entries, or the rule that it breaks
unfoldable pub root_node : ℕ → List ℕ → Result (List ℕ) IndexFault
root_node size root = if is_root size root then entries_at root_vcn root_header root else Err (BadNode root_vcn 1)

-- of a block that was unfixed, or wasn't: rules 1, 2, 3
abbrev pub unfixed_node : ℕ → Result (List ℕ) FixFault → Result (List ℕ) IndexFault
unfixed_node vcn (Ok block) =
    if index_block_vcn block == vcn then entries_at vcn block_header block else Err (BadNode vcn 2)
unfixed_node vcn (Err fault) = Err (BadNode vcn 1)

-- of a block as it stands in the allocation, where it is there: rule 7, then the others
abbrev pub raw_node : ℕ → Option (List ℕ) → Result (List ℕ) IndexFault
raw_node vcn (Some raw) = unfixed_node vcn (unfix_of Indx raw)
raw_node vcn None = Err (BadNode vcn 7)

-- the bytes of the entries of the block of a VCN, or the first rule that it breaks
unfoldable pub block_node : (ℕ → Option (List ℕ)) → ℕ → Result (List ℕ) IndexFault
block_node blocks vcn = raw_node vcn (blocks vcn)
