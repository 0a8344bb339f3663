-- What is left of a walk, as its path goes down, on and up.
use Rattle.std.proofs.Common.{◌≡◌, ◌+◌, ◌-◌, ◌<◌, ◌≤◌, ℕ, zero, suc, true, false, List, [], ◌∷◌, ◌++◌, length, map, Ok, Err, Some, None, refl, sym, ap, ◌∙◌, subst, arith, length-append}
use Rattle.std.proofs.lemmas.Bool.{cond-true, cond-false}
use Rattle.std.proofs.lemmas.List.{map-append, length-map}
use Rattle.ntfs_index.specs.Blocks.{BlockMap}
use Rattle.ntfs_index.specs.Node.{IndexEntry, Visit, Child, Own, Damage, block_node}
use Rattle.ntfs_index.specs.Entry.{visits_left}
use Rattle.ntfs_index.specs.Walk.{Walked, Gave, Whole, Broke, Listing, before, listing, and_then, is_met, walk_visits, walk_node, walk_child}
use Rattle.ntfs_index.specs.Path.{AreEntered, IsDown, IsUp, IsAtRoot, IsIn, IsPath, left_in, entry_at, left_above, left_of_nodes, left_of_path, nothing, only_fault, turns_left, asks_left}
use Rattle.ntfs_index.specs.declared.path.Path.{Path}
use Rattle.ntfs_index.specs.declared.fault.IndexFault.{IndexFault}
use Rattle.ntfs_index.specs.declared.fault.IndexFault.TheVariants.{BadNode}
use Rattle.ntfs_index.specs.declared.node.OpenNode.{OpenNode}
use Rattle.ntfs_index.proofs.WalkLemmas.{and_then-assoc, and_then-whole, and_then-same}
use Rattle.ntfs_index.proofs.NodeLemmas.{visits-left}
use Rattle.ntfs_index.proofs.AlikeLemmas.{nodes-alike}

-- ---- a child was entered in each node above

pub AreEntered-more : (nodes : List OpenNode) (node : OpenNode) → AreEntered nodes → node.entered ≡ true
    → AreEntered (nodes ++ node ∷ [])
AreEntered-more [] node all is = (is, tt)
AreEntered-more (first ∷ nodes) node all is = (all.0, AreEntered-more nodes node all.1 is)

pub AreEntered-parts : (nodes : List OpenNode) (node : OpenNode) → AreEntered (nodes ++ node ∷ [])
    → AreEntered nodes × (node.entered ≡ true)
AreEntered-parts [] node all = (tt, all.0)
AreEntered-parts (first ∷ nodes) node all = let rest = AreEntered-parts nodes node all.1 in ((all.0, rest.0), rest.1)

-- ---- the last of the nodes above comes first

left_above-last : (blocks : BlockMap) (levels : ℕ) (above : List (List Visit)) (parent : List Visit) (met : List ℕ)
    → left_above blocks levels (above ++ parent ∷ []) met
    ≡ and_then (walk_visits (walk_child blocks (levels - length above)) parent met) (left_above blocks levels above)
left_above-last blocks levels [] parent met =
    let all : levels - 0 ≡ levels = omega arith in
    rw all (sym (and_then-whole (walk_visits (walk_child blocks levels) parent met)))
left_above-last blocks levels (node ∷ above) parent met =
    let fewer : (levels - 1) - length above ≡ levels - suc (length above) = omega arith in
    let rest = left_above-last blocks (levels - 1) above parent met in
    let first =
    ap (λ n. and_then (walk_visits (walk_child blocks n) parent met) (left_above blocks (levels - 1) above))
    fewer in
    ap (λ walked. and_then walked (walk_visits (walk_child blocks levels) node)) (rest ∙ first)
    ∙ and_then-assoc (walk_visits (walk_child blocks (levels - suc (length above))) parent met)
    (left_above blocks (levels - 1) above) (walk_visits (walk_child blocks levels) node)

-- up from the end of a node to its parent
pub left-up : (blocks : BlockMap) (above : List (List Visit)) (parent : List Visit) (met : List ℕ)
    → left_of_nodes blocks [] (above ++ parent ∷ []) met ≡ left_of_nodes blocks parent above met
left-up blocks above parent met = left_above-last blocks 15 above parent met

-- ---- a child

-- one that was met already
pub child-twice : (blocks : BlockMap) (levels vcn : ℕ) (met : List ℕ) → 0 < levels → is_met vcn met ≡ true
    → walk_child blocks levels met vcn ≡ Broke met (BadNode vcn 6)
child-twice blocks zero vcn met some twice = absurd (omega arith)
child-twice blocks (suc levels) vcn met some twice =
    cond-true (is_met vcn met) (Broke met (BadNode vcn 6))
    (walk_node (walk_child blocks levels) vcn (met ++ vcn ∷ []) (block_node blocks vcn)) twice

-- one that is new
child-new : (blocks : BlockMap) (levels vcn : ℕ) (met : List ℕ) → is_met vcn met ≡ false
    → walk_child blocks (suc levels) met vcn ≡ walk_node (walk_child blocks levels) vcn (met ++ vcn ∷ [])
    (block_node blocks vcn)
child-new blocks levels vcn met new =
    cond-false (is_met vcn met) (Broke met (BadNode vcn 6))
    (walk_node (walk_child blocks levels) vcn (met ++ vcn ∷ []) (block_node blocks vcn)) new

-- one whose node breaks a rule
pub child-broken : (blocks : BlockMap) (levels vcn : ℕ) (met : List ℕ) (fault : IndexFault) → 0 < levels
    → is_met vcn met ≡ false → block_node blocks vcn ≡ Err fault
    → walk_child blocks levels met vcn ≡ Broke (met ++ vcn ∷ []) fault
child-broken blocks zero vcn met fault some new broken = absurd (omega arith)
child-broken blocks (suc levels) vcn met fault some new broken = child-new blocks levels vcn met new ∙ rw broken refl

-- down to it
child-entered : (blocks : BlockMap) (levels vcn : ℕ) (met entries : List ℕ) → is_met vcn met ≡ false
    → block_node blocks vcn ≡ Ok entries
    → walk_child blocks (suc levels) met vcn ≡ walk_visits (walk_child blocks levels) (visits_left vcn false entries)
    (met ++ vcn ∷ [])
child-entered blocks levels vcn met entries new node = child-new blocks levels vcn met new
    ∙ rw (node, visits-left vcn entries) refl

pub left-down : (blocks : BlockMap) (vcn : ℕ) (rest : List Visit) (above : List (List Visit)) (met entries : List ℕ)
    → length above < 15 → is_met vcn met ≡ false → block_node blocks vcn ≡ Ok entries
    → left_of_nodes blocks (Child vcn ∷ rest) above met
    ≡ left_of_nodes blocks (visits_left vcn false entries) (above ++ rest ∷ []) (met ++ vcn ∷ [])
left-down blocks vcn rest above met entries within new node =
    let levels : suc (14 - length above) ≡ 15 - length above = omega arith in
    let fewer : 14 - length above ≡ 15 - length (above ++ rest ∷ []) = omega (arith, length-append above (rest ∷ [])) in
    let walked =
    walk_visits (walk_child blocks (14 - length above)) (visits_left vcn false entries) (met ++ vcn ∷ []) in
    let entered = ap (λ n. walk_child blocks n met vcn) (sym levels)
    ∙ child-entered blocks (14 - length above) vcn met entries new node in
    ap (λ w. and_then (and_then w (walk_visits (walk_child blocks (15 - length above)) rest))
    (left_above blocks 15 above)) entered
    ∙ and_then-assoc walked (walk_visits (walk_child blocks (15 - length above)) rest) (left_above blocks 15 above)
    ∙ and_then-same walked (λ m. and_then (walk_visits (walk_child blocks (15 - length above)) rest m)
    (left_above blocks 15 above)) (left_above blocks 15 (above ++ rest ∷ []))
    (λ m. sym (left_above-last blocks 15 above rest m))
    ∙ ap (λ n. and_then (walk_visits (walk_child blocks n) (visits_left vcn false entries) (met ++ vcn ∷ []))
    (left_above blocks 15 (above ++ rest ∷ []))) fewer

-- ---- turns of a path

-- a walk that is nothing but a fault, whatever follows
fault-first : (walked : Walked) (next : List ℕ → Walked) (fault : IndexFault) → listing walked ≡ only_fault fault
    → listing (and_then walked next) ≡ only_fault fault
fault-first (Gave entry rest) next fault is = let none : entry ∷ (listing rest).entries ≡ [] =
    ap (λ (shown : Listing). shown.entries) is in cc
fault-first (Whole met) next fault is = let none : None ≡ Some fault = ap (λ (shown : Listing). shown.fault) is in cc
fault-first (Broke met other) next fault is = is

module _ (blocks : BlockMap) (old : Path) where
  -- the child at the present entry is what the walk meets next
  abbrev pub MeetsChild : ℕ → Type 0
  MeetsChild vcn = (old.present.entered ≡ false)
      × (visits_left old.present.vcn false (entry_at old.present)
      ≡ Child vcn ∷ visits_left old.present.vcn true (entry_at old.present))

  meets-child : (vcn : ℕ) → MeetsChild vcn
      → left_in old.present ≡ Child vcn ∷ visits_left old.present.vcn true (entry_at old.present)
  meets-child vcn meets = ap (λ entered. visits_left old.present.vcn entered (entry_at old.present)) meets.0 ∙ meets.1

  pub turn-down : (vcn : ℕ) (new : Path) → MeetsChild vcn → IsDown old new → IsIn blocks vcn old new
      → left_of_path blocks old ≡ left_of_path blocks new
  turn-down vcn new meets down is =
      let rest = visits_left old.present.vcn true (entry_at old.present) in
      let above = map left_in old.above.items in
      let within : length above < 15 = omega (arith, is.within, length-map old.above.items left_in) in
      let child = visits_left vcn false (entry_at new.present) in
      let same : left_in new.present ≡ child = let p = is.bears in let q = down.first in rw (p, q) refl in
      let joined : map left_in new.above.items ≡ above ++ rest ∷ [] = ap (map left_in) down.above
      ∙ map-append left_in old.above.items (record old.present { entered = true } ∷ []) in
      ap (λ present. listing (left_of_nodes blocks present above old.met.keys)) (meets-child vcn meets)
      ∙ ap listing (left-down blocks vcn rest above old.met.keys (entry_at new.present) within is.twice is.node)
      ∙ nodes-alike blocks child (above ++ rest ∷ []) (old.met.keys ++ vcn ∷ []) new.met.keys is.met
      ∙ ap (λ present. listing (left_of_nodes blocks present (above ++ rest ∷ []) new.met.keys)) (sym same)
      ∙ ap (λ nodes. listing (left_of_nodes blocks (left_in new.present) nodes new.met.keys)) (sym joined)

  pub turn-refused : (vcn : ℕ) (fault : IndexFault) → MeetsChild vcn
      → listing (walk_child blocks (15 - length old.above.items) old.met.keys vcn) ≡ only_fault fault
      → left_of_path blocks old ≡ only_fault fault
  turn-refused vcn fault meets refused =
      let above = map left_in old.above.items in
      let rest = visits_left old.present.vcn true (entry_at old.present) in
      let child =
      subst (λ n. listing (walk_child blocks (15 - n) old.met.keys vcn)
      ≡ only_fault fault) (sym (length-map old.above.items left_in)) refused in
      let enter = walk_child blocks (15 - length above) in
      ap (λ present. listing (left_of_nodes blocks present above old.met.keys)) (meets-child vcn meets)
      ∙ fault-first (and_then (enter old.met.keys vcn) (walk_visits enter rest)) (left_above blocks 15 above) fault
      (fault-first (enter old.met.keys vcn) (walk_visits enter rest) fault child)

  pub turn-own : (entry : IndexEntry) (new : Path) → left_in old.present ≡ Own entry ∷ left_in new.present
      → new.above ≡ old.above → new.met ≡ old.met
      → left_of_path blocks old ≡ before entry (left_of_path blocks new)
  turn-own entry new step above met = rw (step, above, met) refl

  pub turn-damage : (fault : IndexFault) → left_in old.present ≡ Damage fault ∷ []
      → left_of_path blocks old ≡ only_fault fault
  turn-damage fault step = rw step refl

  pub turn-up : (new : Path) → left_in old.present ≡ [] → IsUp old new → new.met ≡ old.met
      → left_of_path blocks old ≡ left_of_path blocks new
  turn-up new step up met =
      let above = map left_in new.above.items in
      let joined : map left_in old.above.items ≡ above ++ left_in new.present ∷ [] = ap (map left_in) up.above
      ∙ map-append left_in new.above.items (new.present ∷ []) in
      ap (λ present. listing (left_of_nodes blocks present (map left_in old.above.items) old.met.keys)) step
      ∙ ap (λ nodes. listing (left_of_nodes blocks [] nodes old.met.keys)) joined
      ∙ ap listing (left-up blocks above (left_in new.present) old.met.keys)
      ∙ ap (λ set. listing (left_of_nodes blocks (left_in new.present) above set.keys)) (sym met)

  pub turn-ended : left_in old.present ≡ [] → old.above.items ≡ [] → left_of_path blocks old ≡ nothing
  turn-ended step root = rw (step, root) refl

  pub turn-stays : (new : Path) → left_in old.present ≡ [] → IsAtRoot old new → left_of_path blocks new ≡ nothing
  turn-stays new step root =
      let same = ap left_in root.same ∙ step in
      let none = root.still in
      rw (same, none) refl

-- down, fewer turns and fewer blocks are left
pub moved-down : (old new : Path) (before after : ℕ) → old.present.entered ≡ false → IsDown old new → IsPath new
    → after ≤ before + 1
    → (turns_left new < turns_left old) × (after + asks_left new ≤ before + asks_left old)
moved-down old new before after start down path one =
    let many : length new.above.items ≡ length old.above.items + 1 = ap length down.above
    ∙ length-append old.above.items (record old.present { entered = true } ∷ []) in
    let first = down.first in
    let few = path.few in
    rw (first, start) (omega arith, omega arith)
