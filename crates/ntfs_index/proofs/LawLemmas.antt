-- What a walk met: it only grows, has none twice, and is all that the walk depends on.
use Rattle.std.proofs.Common.{◌≡◌, ℕ, zero, suc, Bool, true, false, List, [], ◌∷◌, ◌++◌, Ok, Err, Result, if◌then◌else◌, refl, ap, ◌∙◌}
use Rattle.std.proofs.lemmas.Bool.{cond_both}
use Rattle.ntfs_index.specs.Blocks.{BlockMap, allocation_blocks}
use Rattle.ntfs_index.specs.Node.{Visit, Child, Own, Damage, visits, root_node, root_vcn, block_node, raw_node}
use Rattle.ntfs_index.specs.Walk.{Walked, Gave, Whole, Broke, listing, blocks_met, and_then, is_met, walk_visits, walk_node, walk_child, walk, walk_allocation}
use Rattle.ntfs_index.specs.Tree.{AreDistinct}
use Rattle.ntfs_index.specs.Laws.{AgreeOnMet, HasNoChild, own_entries}
use Rattle.ntfs_index.specs.declared.fault.IndexFault.{IndexFault}
use Rattle.ntfs_index.specs.declared.fault.IndexFault.TheVariants.{BadNode}
use Rattle.ntfs_index.proofs.MetLemmas.{is_met-more, is_met-last, AreDistinct-more}

-- ---- what was met stays met

abbrev Grows : (List ℕ → Walked) → Type 0
Grows f = (met : List ℕ) (v : ℕ) → is_met v met ≡ true → is_met v (blocks_met (f met)) ≡ true

and_then-grows : (walked : Walked) (next : List ℕ → Walked) → Grows next → (v : ℕ) → is_met v (blocks_met walked) ≡ true
    → is_met v (blocks_met (and_then walked next)) ≡ true
and_then-grows (Gave entry rest) next grows v is = and_then-grows rest next grows v is
and_then-grows (Whole met) next grows v is = grows met v is
and_then-grows (Broke met fault) next grows v is = is

visits-grow : (enter : List ℕ → ℕ → Walked) → ((vcn : ℕ) → Grows (λ met. enter met vcn)) → (visits : List Visit)
    → Grows (walk_visits enter visits)
visits-grow enter grows [] met v is = is
visits-grow enter grows (Child vcn ∷ rest) met v is =
    and_then-grows (enter met vcn) (walk_visits enter rest) (visits-grow enter grows rest) v (grows vcn met v is)
visits-grow enter grows (Own entry ∷ rest) met v is = visits-grow enter grows rest met v is
visits-grow enter grows (Damage fault ∷ rest) met v is = is

node-grows : (enter : List ℕ → ℕ → Walked) → ((vcn : ℕ) → Grows (λ met. enter met vcn))
    → (vcn : ℕ) (node : Result (List ℕ) IndexFault) → Grows (λ met. walk_node enter vcn met node)
node-grows enter grows vcn (Ok entries) met v is = visits-grow enter grows (visits vcn 0 entries) met v is
node-grows enter grows vcn (Err fault) met v is = is

pub child-grows : (blocks : BlockMap) (levels vcn : ℕ) → Grows (λ met. walk_child blocks levels met vcn)
child-grows blocks zero vcn met v is = is
child-grows blocks (suc levels) vcn met v is =
    cond_both (is_met vcn met) (Broke met (BadNode vcn 6))
    (walk_node (walk_child blocks levels) vcn (met ++ vcn ∷ []) (block_node blocks vcn))
    (λ walked. is_met v (blocks_met walked) ≡ true)
    (λ twice. is)
    (λ new. node-grows (walk_child blocks levels) (child-grows blocks levels) vcn (block_node blocks vcn)
    (met ++ vcn ∷ []) v (is_met-more v vcn met is))

-- ---- the walk depends on what it met alone

module _ (a b : BlockMap) where
  abbrev AgreeAt : Walked → Type 0
  AgreeAt walked = AgreeOnMet a b (blocks_met walked)

  and_then-agrees : (walked : Walked) (f g : List ℕ → Walked) → ((met : List ℕ) → AgreeAt (f met) → g met ≡ f met)
      → AgreeAt (and_then walked f) → and_then walked g ≡ and_then walked f
  and_then-agrees (Gave entry rest) f g same agree = ap (Gave entry) (and_then-agrees rest f g same agree)
  and_then-agrees (Whole met) f g same agree = same met agree
  and_then-agrees (Broke met fault) f g same agree = refl

  visits-agree : (f g : List ℕ → ℕ → Walked) → ((vcn : ℕ) → Grows (λ met. f met vcn))
      → ((vcn : ℕ) (met : List ℕ) → AgreeAt (f met vcn) → g met vcn ≡ f met vcn)
      → (visits : List Visit) (met : List ℕ) → AgreeAt (walk_visits f visits met)
      → walk_visits g visits met ≡ walk_visits f visits met
  visits-agree f g grows same [] met agree = refl
  visits-agree f g grows same (Child vcn ∷ rest) met agree =
      let first =
      same vcn met (λ v is. agree v (and_then-grows (f met vcn) (walk_visits f rest) (visits-grow f grows rest)
      v is)) in
      ap (λ walked. and_then walked (walk_visits g rest)) first
      ∙ and_then-agrees (f met vcn) (walk_visits f rest) (walk_visits g rest) (visits-agree f g grows same rest) agree
  visits-agree f g grows same (Own entry ∷ rest) met agree =
      ap (Gave entry) (visits-agree f g grows same rest met agree)
  visits-agree f g grows same (Damage fault ∷ rest) met agree = refl

  node-agrees : (f g : List ℕ → ℕ → Walked) → ((vcn : ℕ) → Grows (λ met. f met vcn))
      → ((vcn : ℕ) (met : List ℕ) → AgreeAt (f met vcn) → g met vcn ≡ f met vcn)
      → (vcn : ℕ) (node : Result (List ℕ) IndexFault) (met : List ℕ) → AgreeAt (walk_node f vcn met node)
      → walk_node g vcn met node ≡ walk_node f vcn met node
  node-agrees f g grows same vcn (Ok entries) met agree = visits-agree f g grows same (visits vcn 0 entries) met agree
  node-agrees f g grows same vcn (Err fault) met agree = refl

  block-agrees : (vcn : ℕ) → b vcn ≡ a vcn → block_node b vcn ≡ block_node a vcn
  unfolding block_node
  block-agrees vcn same = ap (raw_node vcn) same

  entered-agrees : (f g : List ℕ → ℕ → Walked) → ((vcn : ℕ) → Grows (λ met. f met vcn))
      → ((vcn : ℕ) (met : List ℕ) → AgreeAt (f met vcn) → g met vcn ≡ f met vcn)
      → (vcn : ℕ) (met : List ℕ) (twice : Bool)
      → AgreeAt (if twice then Broke met (BadNode vcn 6) else walk_node f vcn (met ++ vcn ∷ []) (block_node a vcn))
      → (if twice then Broke met (BadNode vcn 6) else walk_node g vcn (met ++ vcn ∷ []) (block_node b vcn))
      ≡ (if twice then Broke met (BadNode vcn 6) else walk_node f vcn (met ++ vcn ∷ []) (block_node a vcn))
  entered-agrees f g grows same vcn met true agree = refl
  entered-agrees f g grows same vcn met false agree =
      let here =
      block-agrees vcn (agree vcn (node-grows f grows vcn (block_node a vcn) (met ++ vcn ∷ []) vcn
      (is_met-last vcn met))) in
      ap (walk_node g vcn (met ++ vcn ∷ [])) here
      ∙ node-agrees f g grows same vcn (block_node a vcn) (met ++ vcn ∷ []) agree

  pub child-agrees : (levels vcn : ℕ) (met : List ℕ) → AgreeAt (walk_child a levels met vcn)
      → walk_child b levels met vcn ≡ walk_child a levels met vcn
  child-agrees zero vcn met agree = refl
  child-agrees (suc levels) vcn met agree =
      entered-agrees (walk_child a levels) (walk_child b levels) (child-grows a levels) (child-agrees levels) vcn met
      (is_met vcn met) agree

pub walk-agrees : (size : ℕ) (root : List ℕ) (a b : BlockMap) → AgreeOnMet a b (blocks_met (walk size root a))
    → walk size root b ≡ walk size root a
unfolding walk
walk-agrees size root a b agree =
    node-agrees a b (walk_child a 15) (walk_child b 15) (child-grows a 15) (child-agrees a b 15) root_vcn
    (root_node size root) [] agree

pub walk_allocation-agrees : (cluster size : ℕ) (root a b : List ℕ)
    → AgreeOnMet (allocation_blocks cluster size a) (allocation_blocks cluster size b)
    (blocks_met (walk_allocation cluster size root a))
    → walk_allocation cluster size root b ≡ walk_allocation cluster size root a
unfolding walk_allocation
walk_allocation-agrees cluster size root a b agree =
    walk-agrees size root (allocation_blocks cluster size a) (allocation_blocks cluster size b) agree

-- ---- none is met twice

abbrev Keeps : (List ℕ → Walked) → Type 0
Keeps f = (met : List ℕ) → AreDistinct met → AreDistinct (blocks_met (f met))

and_then-keeps : (walked : Walked) (next : List ℕ → Walked) → Keeps next → AreDistinct (blocks_met walked)
    → AreDistinct (blocks_met (and_then walked next))
and_then-keeps (Gave entry rest) next keeps distinct = and_then-keeps rest next keeps distinct
and_then-keeps (Whole met) next keeps distinct = keeps met distinct
and_then-keeps (Broke met fault) next keeps distinct = distinct

visits-keep : (enter : List ℕ → ℕ → Walked) → ((vcn : ℕ) → Keeps (λ met. enter met vcn)) → (visits : List Visit)
    → Keeps (walk_visits enter visits)
visits-keep enter keeps [] met distinct = distinct
visits-keep enter keeps (Child vcn ∷ rest) met distinct =
    and_then-keeps (enter met vcn) (walk_visits enter rest) (visits-keep enter keeps rest) (keeps vcn met distinct)
visits-keep enter keeps (Own entry ∷ rest) met distinct = visits-keep enter keeps rest met distinct
visits-keep enter keeps (Damage fault ∷ rest) met distinct = distinct

node-keeps : (enter : List ℕ → ℕ → Walked) → ((vcn : ℕ) → Keeps (λ met. enter met vcn))
    → (vcn : ℕ) (node : Result (List ℕ) IndexFault) → Keeps (λ met. walk_node enter vcn met node)
node-keeps enter keeps vcn (Ok entries) met distinct = visits-keep enter keeps (visits vcn 0 entries) met distinct
node-keeps enter keeps vcn (Err fault) met distinct = distinct

child-keeps : (blocks : BlockMap) (levels vcn : ℕ) → Keeps (λ met. walk_child blocks levels met vcn)
child-keeps blocks zero vcn met distinct = distinct
child-keeps blocks (suc levels) vcn met distinct =
    cond_both (is_met vcn met) (Broke met (BadNode vcn 6))
    (walk_node (walk_child blocks levels) vcn (met ++ vcn ∷ []) (block_node blocks vcn))
    (λ walked. AreDistinct (blocks_met walked))
    (λ twice. distinct)
    (λ new. node-keeps (walk_child blocks levels) (child-keeps blocks levels) vcn (block_node blocks vcn)
    (met ++ vcn ∷ []) (AreDistinct-more vcn met distinct new))

pub walk-distinct : (size : ℕ) (root : List ℕ) (blocks : BlockMap) → AreDistinct (blocks_met (walk size root blocks))
unfolding walk
walk-distinct size root blocks =
    node-keeps (walk_child blocks 15) (child-keeps blocks 15) root_vcn (root_node size root) [] tt

-- ---- a root without children

own-entries : (enter : List ℕ → ℕ → Walked) (visits : List Visit) (met : List ℕ) → HasNoChild visits
    → (listing (walk_visits enter visits met)).entries ≡ own_entries visits
own-entries enter [] met none = refl
own-entries enter (Child vcn ∷ rest) met none = absurd none
own-entries enter (Own entry ∷ rest) met none = ap (λ entries. entry ∷ entries) (own-entries enter rest met none)
own-entries enter (Damage fault ∷ rest) met none = refl

own-met : (enter : List ℕ → ℕ → Walked) (visits : List Visit) (met : List ℕ) → HasNoChild visits
    → blocks_met (walk_visits enter visits met) ≡ met
own-met enter [] met none = refl
own-met enter (Child vcn ∷ rest) met none = absurd none
own-met enter (Own entry ∷ rest) met none = own-met enter rest met none
own-met enter (Damage fault ∷ rest) met none = refl

module _ (size : ℕ) (root : List ℕ) (blocks : BlockMap) (bytes : List ℕ) (is : root_node size root
    ≡ Ok bytes) (none : HasNoChild (visits root_vcn 0 bytes)) where
  pub walk-own_entries : (listing (walk size root blocks)).entries ≡ own_entries (visits root_vcn 0 bytes)
  unfolding walk
  walk-own_entries = rw is (own-entries (walk_child blocks 15) (visits root_vcn 0 bytes) [] none)

  pub walk-own_met : blocks_met (walk size root blocks) ≡ []
  unfolding walk
  walk-own_met = rw is (own-met (walk_child blocks 15) (visits root_vcn 0 bytes) [] none)
