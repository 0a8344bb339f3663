-- How many entries a walk can still give at most, as its path goes down, on and up.
use Rattle.std.proofs.Common.{◌≡◌, ◌+◌, ◌-◌, ◌*◌, ◌^◌, ◌<◌, ◌≤◌, ℕ, zero, suc, Bool, true, false, List, [], ◌∷◌, ◌++◌, length, map, drop, Option, Some, None, if◌then◌else◌, refl, sym, ap, ◌∙◌, subst, arith}
use Rattle.std.proofs.lemmas.List.{map-append, length-drop}
use Rattle.std.specs.BTreeSet.{BTreeSet}
use Rattle.std.specs.Global.{Vec}
use Rattle.ntfs_index.specs.Entry.{visits_left}
use Rattle.ntfs_index.specs.Laws.{own_entries}
use Rattle.ntfs_index.specs.Layout.{index_entry_length}
use Rattle.ntfs_index.specs.Most.{entries_above, entries_in_node, most_left, path_most}
use Rattle.ntfs_index.specs.Node.{IndexEntry, Visit, Own, broken_rule, child_of, ends_node, own_visits, visit_child, visits, visits_at, visits_behind_child}
use Rattle.ntfs_index.specs.Path.{IsPassed, entry_at, left_in}
use Rattle.ntfs_index.specs.declared.node.OpenNode.{OpenNode}
use Rattle.ntfs_index.specs.declared.path.Path.{Path}
use Rattle.ntfs_index.proofs.NodeLemmas.{visits-left}

-- ---- a node has no more entries than bytes

own_visits-few : (ends : Bool) (entry : IndexEntry) (rest : List Visit) (n : ℕ) → entries_in_node rest ≤ n
    → entries_in_node (if ends then [] else Own entry ∷ rest) ≤ suc n
own_visits-few true entry rest n few = omega arith
own_visits-few false entry rest n few = omega (arith, few)

-- a child is no entry
child-none : (child : Option ℕ) (rest : List Visit) → own_entries (visit_child child ++ rest) ≡ own_entries rest
child-none None rest = refl
child-none (Some vcn) rest = refl

visits_at-few : (vcn n : ℕ) (entry : List ℕ) (rest : List Visit) (rule : Option ℕ) → entries_in_node rest ≤ n
    → entries_in_node (visits_at vcn entry rest rule) ≤ suc n
visits_at-few vcn n entry rest (Some rule) few = omega arith
visits_at-few vcn n entry rest None few =
    subst (λ (own : List IndexEntry). length own ≤ suc n) (sym (child-none (child_of entry) (own_visits entry rest)))
    (own_visits-few (ends_node entry) _ rest n few)

visits-few : (vcn skip : ℕ) (bytes : List ℕ) → entries_in_node (visits vcn skip bytes) ≤ length bytes
visits-few vcn skip [] = omega arith
visits-few vcn (suc skip) (byte ∷ bytes) = let rest = visits-few vcn skip bytes in omega (arith, rest)
visits-few vcn zero (byte ∷ bytes) =
    visits_at-few vcn (length bytes) (byte ∷ bytes) (visits vcn (index_entry_length (byte ∷ bytes) - 1) bytes)
    (broken_rule (byte ∷ bytes)) (visits-few vcn (index_entry_length (byte ∷ bytes) - 1) bytes)

left-few : (vcn : ℕ) (entry : List ℕ) → entries_in_node (visits_left vcn false entry) ≤ length entry
left-few vcn entry =
    subst (λ (v : List Visit). entries_in_node v ≤ length entry) (visits-left vcn entry) (visits-few vcn 0 entry)

-- where the child is behind, the same entries are left
behind-same : (vcn : ℕ) (entry : List ℕ) (rest : List Visit) (rule : Option ℕ)
    → own_entries (visits_behind_child vcn entry rest rule) ≡ own_entries (visits_at vcn entry rest rule)
behind-same vcn entry rest (Some rule) = refl
behind-same vcn entry rest None = sym (child-none (child_of entry) (own_visits entry rest))

entered-same : (vcn : ℕ) (entry : List ℕ)
    → own_entries (visits_left vcn true entry) ≡ own_entries (visits_left vcn false entry)
entered-same vcn entry =
    behind-same vcn entry (visits vcn 0 (drop (index_entry_length entry) entry)) (broken_rule entry)

-- ---- the nodes above

above-last : (above : List (List Visit)) (node : List Visit)
    → entries_above (above ++ node ∷ []) ≡ entries_above above + entries_in_node node
above-last [] node = omega arith
above-last (first ∷ above) node = let rest = above-last above node in omega (arith, rest)

-- ---- a path

-- what is left behind an entry that was passed
pub passed-left : (old : OpenNode) (len : ℕ) (new : OpenNode) (entry : IndexEntry) → IsPassed old len new
    → Own entry ∷ visits_left old.vcn false (drop len (entry_at old)) ≡ Own entry ∷ left_in new
passed-left old len new entry passed =
    let bears = passed.bears in
    let first = passed.first in
    let rest = passed.rest in
    rw (bears, first, rest) refl

-- a set to which a new one was added has one more
pub insert-more : (old new : ℕ) (added : Bool) → added ≡ true → new ≡ old + (if added then 1 else 0)
    → new ≡ old + 1
insert-more old new true done is = is
insert-more old new false done is = cc

-- more blocks were met
pub most-met : (present : List Visit) (above : List (List Visit)) (old new : List ℕ) → length old ≤ length new
    → most_left present above new ≤ most_left present above old
unfolding most_left
most-met present above old new more = fewer (2 ^ 63) (length old) (length new) _ more
  where
    fewer : (all a b n : ℕ) → a ≤ b → n + (all - b) * 65536 ≤ n + (all - a) * 65536
    fewer all a b n more = omega (arith, more)

-- a node that begins has no more than a block's bytes
child-few : (node : OpenNode) → node.entered ≡ false → length node.bytes.items ≤ 65536
    → entries_in_node (left_in node) ≤ 65536
child-few node first small =
    let start = ap (λ entered. entries_in_node (visits_left node.vcn entered (entry_at node))) first in
    let few = left-few node.vcn (entry_at node) in
    let cut = length-drop node.place node.bytes.items in
    omega (arith, start, few, cut, small)

-- one block more was met, of which a node has so many entries; the entries of another node may be gone
met-one : (all old new child node above : ℕ) → child ≤ 65536 → new ≡ old + 1 → new ≤ all
    → child + above + (all - new) * 65536 ≤ node + above + (all - old) * 65536
met-one all old new child node above small more within = omega (arith, small, more, within)

module _ (old : Path) (present : OpenNode) (met : BTreeSet ℕ) where
  module _ (more : length met.keys ≡ length old.met.keys + 1) (within : length met.keys ≤ 2 ^ 63)
      (first : present.entered ≡ false) (small : length present.bytes.items ≤ 65536) where
    -- the present node has become a child, and is lost itself
    pub most-lost : (above : Vec OpenNode) → above.items ≡ old.above.items
        → path_most (record { present = present; above = above; met = met }) ≤ path_most old
    unfolding most_left
    most-lost above same =
        rw same (met-one (2 ^ 63) (length old.met.keys) (length met.keys) (entries_in_node (left_in present))
        (entries_in_node (left_in old.present)) (entries_above (map left_in old.above.items))
        (child-few present first small) more within)

    -- down: one block more was met, and its entries are left
    pub most-down : (above : Vec OpenNode) → old.present.entered ≡ false
        → above.items ≡ old.above.items ++ record old.present { entered = true } ∷ []
        → path_most (record { present = present; above = above; met = met }) ≤ path_most old
    unfolding most_left
    most-down above start down =
        let before = map left_in old.above.items in
        let parent = visits_left old.present.vcn true (entry_at old.present) in
        let joined : map left_in above.items ≡ before ++ parent ∷ [] = ap (map left_in) down
        ∙ map-append left_in old.above.items (record old.present { entered = true } ∷ []) in
        let nodes : entries_above (map left_in above.items) ≡ entries_above before + entries_in_node parent =
        ap entries_above joined ∙ above-last before parent in
        let owned : entries_in_node parent ≡ entries_in_node (left_in old.present) =
        ap length (entered-same old.present.vcn (entry_at old.present))
        ∙ ap (λ entered. entries_in_node (visits_left old.present.vcn entered (entry_at old.present))) (sym start) in
        let one =
        met-one (2 ^ 63) (length old.met.keys) (length met.keys) (entries_in_node (left_in present)) 0
        (entries_above before + entries_in_node (left_in old.present)) (child-few present first small) more within in
        rw (nodes, owned) (swapped _ _ _ _ _ one)
      where
        swapped : (child before node rest most : ℕ) → child + (before + node) + rest ≤ 0 + (before + node) + most
            → child + (before + node) + rest ≤ node + before + most
        swapped child before node rest most fewer = omega (arith, fewer)

-- up: what the node had left is gone
pub most-up : (old : Path) (present : OpenNode) (above : Vec OpenNode)
    → old.above.items ≡ above.items ++ present ∷ []
    → path_most (record { present = present; above = above; met = old.met }) ≤ path_most old
unfolding most_left
most-up old present above up =
    let rest = map left_in above.items in
    let joined : map left_in old.above.items ≡ rest ++ left_in present ∷ [] = ap (map left_in) up
    ∙ map-append left_in above.items (present ∷ []) in
    let nodes : entries_above (map left_in old.above.items) ≡ entries_above rest + entries_in_node (left_in present) =
    ap entries_above joined ∙ above-last rest (left_in present) in
    rw nodes (fewer (entries_in_node (left_in old.present)) (entries_in_node (left_in present)) (entries_above rest) _)
  where
    fewer : (gone node above blocks : ℕ) → node + above + blocks ≤ gone + (above + node) + blocks
    fewer gone node above blocks = omega arith

-- on: one entry fewer is left
pub most-own : (old : Path) (present : OpenNode) (entry : IndexEntry)
    → left_in old.present ≡ Own entry ∷ left_in present
    → path_most (record { present = present; above = old.above; met = old.met }) < path_most old
unfolding most_left
most-own old present entry step = rw step (fewer (entries_in_node (left_in present)) _ _)
  where
    fewer : (node above blocks : ℕ) → node + above + blocks < suc node + above + blocks
    fewer node above blocks = omega arith
