-- The walk of an index is whole and gives its tree in order; and what a whole walk walked is an index.
use Rattle.std.proofs.Common.{◌≡◌, ℕ, zero, suc, List, [], ◌∷◌, ◌++◌, Ok, Err, None, Result, refl, sym, ap, ◌∙◌, subst, append_assoc}
use Rattle.std.proofs.lemmas.Bool.{cond_both, cond-false}
use Rattle.std.proofs.lemmas.List.{append-nil}
use Rattle.ntfs_index.specs.Blocks.{BlockMap}
use Rattle.ntfs_index.specs.Node.{IndexEntry, Visit, Child, Own, Damage, visits, root_node, root_vcn, block_node}
use Rattle.ntfs_index.specs.Walk.{Walked, Gave, Whole, Broke, listing, blocks_met, and_then, is_met, walk_visits, walk_node, walk_child, walk}
use Rattle.ntfs_index.specs.Tree.{visits_in, entries_among, entries_below, index_entries, blocks_among, blocks_below, index_blocks, AreUndamaged, IsUndamaged, AreDistinct, IsIndex}
use Rattle.ntfs_index.specs.declared.fault.IndexFault.{IndexFault}
use Rattle.ntfs_index.specs.declared.fault.IndexFault.TheVariants.{BadNode}
use Rattle.ntfs_index.proofs.MetLemmas.{AreDistinct-front, AreDistinct-middle}
use Rattle.ntfs_index.proofs.WalkLemmas.{gave_all, gave_all-append, gave_all-then}
use Rattle.ntfs_index.proofs.LawLemmas.{walk-distinct}

-- ---- an index is walked whole

module _ (enter : List ℕ → ℕ → Walked) (entries : ℕ → List IndexEntry) (blocks : ℕ → List ℕ) (sound : ℕ → Type 0) where
  -- each child is walked so where it is sound and meets none twice
  abbrev GivesTree : Type 0
  GivesTree = (vcn : ℕ) (met : List ℕ) → sound vcn → AreDistinct (met ++ blocks vcn)
      → enter met vcn ≡ gave_all (entries vcn) (Whole (met ++ blocks vcn))

  visits-tree : GivesTree → (visits : List Visit) (met : List ℕ) → AreUndamaged sound visits
      → AreDistinct (met ++ blocks_among blocks visits)
      → walk_visits enter visits met ≡ gave_all (entries_among entries visits)
      (Whole (met ++ blocks_among blocks visits))
  visits-tree gives [] met whole distinct = ap Whole (sym (append-nil met))
  visits-tree gives (Child vcn ∷ rest) met whole distinct =
      let parts = append_assoc met (blocks vcn) (blocks_among blocks rest) in
      let apart = subst AreDistinct (sym parts) distinct in
      let first = gives vcn met whole.0 (AreDistinct-front (met ++ blocks vcn) (blocks_among blocks rest) apart) in
      let then = visits-tree gives rest (met ++ blocks vcn) whole.1 apart in
      ap (λ walked. and_then walked (walk_visits enter rest)) first
      ∙ gave_all-then (entries vcn) (met ++ blocks vcn) (walk_visits enter rest)
      ∙ ap (gave_all (entries vcn)) (then ∙ ap (λ all. gave_all (entries_among entries rest) (Whole all)) parts)
      ∙ sym (gave_all-append (entries vcn) (entries_among entries rest)
      (Whole (met ++ (blocks vcn ++ blocks_among blocks rest))))
  visits-tree gives (Own entry ∷ rest) met whole distinct = ap (Gave entry) (visits-tree gives rest met whole distinct)
  visits-tree gives (Damage fault ∷ rest) met whole distinct = absurd whole

  node-tree : GivesTree → (vcn : ℕ) (node : Result (List ℕ) IndexFault) (met : List ℕ)
      → AreUndamaged sound (visits_in vcn node)
      → AreDistinct (met ++ blocks_among blocks (visits_in vcn node))
      → walk_node enter vcn met node ≡ gave_all (entries_among entries (visits_in vcn node))
      (Whole (met ++ blocks_among blocks (visits_in vcn node)))
  node-tree gives vcn (Ok bytes) met whole distinct = visits-tree gives (visits vcn 0 bytes) met whole distinct
  node-tree gives vcn (Err fault) met whole distinct = absurd whole

child-tree : (blocks : BlockMap) (levels : ℕ)
    → GivesTree (λ met vcn. walk_child blocks levels met vcn) (entries_below blocks levels) (blocks_below blocks levels)
    (IsUndamaged blocks levels)
child-tree blocks zero vcn met whole distinct = absurd whole
child-tree blocks (suc levels) vcn met whole distinct =
    let parts =
    append_assoc met (vcn ∷ []) (blocks_among (blocks_below blocks levels)
    (visits_in vcn (block_node blocks vcn))) in
    let new =
    AreDistinct-middle vcn met (blocks_among (blocks_below blocks levels) (visits_in vcn (block_node blocks vcn)))
    distinct in
    cond-false (is_met vcn met) (Broke met (BadNode vcn 6))
    (walk_node (walk_child blocks levels) vcn (met ++ vcn ∷ []) (block_node blocks vcn)) new
    ∙ node-tree (walk_child blocks levels) (entries_below blocks levels) (blocks_below blocks levels)
    (IsUndamaged blocks levels)
    (child-tree blocks levels) vcn (block_node blocks vcn) (met ++ vcn ∷ []) whole
    (subst AreDistinct (sym parts) distinct)
    ∙ ap (λ all. gave_all (entries_among (entries_below blocks levels) (visits_in vcn (block_node blocks vcn)))
    (Whole all)) parts

pub walk-tree : (size : ℕ) (root : List ℕ) (blocks : BlockMap) → IsIndex size root blocks
    → walk size root blocks ≡ gave_all (index_entries size root blocks) (Whole (index_blocks size root blocks))
unfolding walk index_entries index_blocks
walk-tree size root blocks is =
    node-tree (walk_child blocks 15) (entries_below blocks 15) (blocks_below blocks 15) (IsUndamaged blocks 15)
    (child-tree blocks 15)
    root_vcn (root_node size root) [] is.sound is.distinct

gave_all-entries : (entries : List IndexEntry) (met : List ℕ)
    → (listing (gave_all entries (Whole met))).entries ≡ entries
gave_all-entries [] met = refl
gave_all-entries (entry ∷ entries) met = ap (λ rest. entry ∷ rest) (gave_all-entries entries met)

gave_all-fault : (entries : List IndexEntry) (met : List ℕ) → (listing (gave_all entries (Whole met))).fault ≡ None
gave_all-fault [] met = refl
gave_all-fault (entry ∷ entries) met = gave_all-fault entries met

gave_all-met : (entries : List IndexEntry) (met : List ℕ) → blocks_met (gave_all entries (Whole met)) ≡ met
gave_all-met [] met = refl
gave_all-met (entry ∷ entries) met = gave_all-met entries met

module _ (size : ℕ) (root : List ℕ) (blocks : BlockMap) (is : IsIndex size root blocks) where
  pub walk-entries : (listing (walk size root blocks)).entries ≡ index_entries size root blocks
  walk-entries = ap (λ walked. (listing walked).entries) (walk-tree size root blocks is)
      ∙ gave_all-entries (index_entries size root blocks) (index_blocks size root blocks)

  pub walk-whole : (listing (walk size root blocks)).fault ≡ None
  walk-whole = ap (λ walked. (listing walked).fault) (walk-tree size root blocks is)
      ∙ gave_all-fault (index_entries size root blocks) (index_blocks size root blocks)

  pub walk-met : blocks_met (walk size root blocks) ≡ index_blocks size root blocks
  walk-met = ap blocks_met (walk-tree size root blocks is)
      ∙ gave_all-met (index_entries size root blocks) (index_blocks size root blocks)

-- ---- what a whole walk walked is an index

-- the walk is whole, and has met these blocks
abbrev EndsWith : Walked → List ℕ → Type 0
EndsWith (Gave entry rest) all = EndsWith rest all
EndsWith (Whole met) all = all ≡ met
EndsWith (Broke met fault) all = ⊥

whole-ends : (walked : Walked) → (listing walked).fault ≡ None → EndsWith walked (blocks_met walked)
whole-ends (Gave entry rest) whole = whole-ends rest whole
whole-ends (Whole met) whole = refl
whole-ends (Broke met fault) whole = cc

and_then-ends : (walked : Walked) (next : List ℕ → Walked) (all : List ℕ) → EndsWith (and_then walked next) all
    → (met : List ℕ) × EndsWith walked met × EndsWith (next met) all
and_then-ends (Gave entry rest) next all ends = and_then-ends rest next all ends
and_then-ends (Whole met) next all ends = (met, refl, ends)
and_then-ends (Broke met fault) next all ends = absurd ends

module _ (enter : List ℕ → ℕ → Walked) (blocks : ℕ → List ℕ) (sound : ℕ → Type 0) where
  -- each child that is walked whole is sound, and its blocks were met
  abbrev ShowsTree : Type 0
  ShowsTree = (vcn : ℕ) (met all : List ℕ) → EndsWith (enter met vcn) all → sound vcn × (all ≡ met ++ blocks vcn)

  visits-show : ShowsTree → (visits : List Visit) (met all : List ℕ) → EndsWith (walk_visits enter visits met) all
      → AreUndamaged sound visits × (all ≡ met ++ blocks_among blocks visits)
  visits-show shows [] met all ends = (tt, ends ∙ sym (append-nil met))
  visits-show shows (Child vcn ∷ rest) met all ends =
      let parts = and_then-ends (enter met vcn) (walk_visits enter rest) all ends in
      let first = shows vcn met parts.0 parts.1 in
      let then = visits-show shows rest parts.0 all parts.2 in (
        (first.0, then.0),
        then.1 ∙ ap (λ m. m ++ blocks_among blocks rest) first.1
            ∙ append_assoc met (blocks vcn) (blocks_among blocks rest),
      )
  visits-show shows (Own entry ∷ rest) met all ends = visits-show shows rest met all ends
  visits-show shows (Damage fault ∷ rest) met all ends = absurd ends

  node-shows : ShowsTree → (vcn : ℕ) (node : Result (List ℕ) IndexFault) (met all : List ℕ)
      → EndsWith (walk_node enter vcn met node) all
      → AreUndamaged sound (visits_in vcn node) × (all ≡ met ++ blocks_among blocks (visits_in vcn node))
  node-shows shows vcn (Ok bytes) met all ends = visits-show shows (visits vcn 0 bytes) met all ends
  node-shows shows vcn (Err fault) met all ends = absurd ends

child-shows : (blocks : BlockMap) (levels : ℕ)
    → ShowsTree (walk_child blocks levels) (blocks_below blocks levels) (IsUndamaged blocks levels)
child-shows blocks zero vcn met all ends = absurd ends
child-shows blocks (suc levels) vcn met all ends =
    cond_both (is_met vcn met) (Broke met (BadNode vcn 6))
    (walk_node (walk_child blocks levels) vcn (met ++ vcn ∷ []) (block_node blocks vcn))
    (λ walked. EndsWith walked all
    → IsUndamaged blocks (suc levels) vcn × (all ≡ met ++ blocks_below blocks (suc levels) vcn))
    (λ twice broke. absurd broke)
    (λ new whole.
    let shown =
    node-shows (walk_child blocks levels) (blocks_below blocks levels) (IsUndamaged blocks levels)
    (child-shows blocks levels) vcn (block_node blocks vcn) (met ++ vcn ∷ []) all whole in (
      shown.0,
      shown.1
          ∙ append_assoc met (vcn ∷ []) (blocks_among (blocks_below blocks levels)
          (visits_in vcn (block_node blocks vcn))),
    ))
    ends

pub index-walk : (size : ℕ) (root : List ℕ) (blocks : BlockMap) → (listing (walk size root blocks)).fault ≡ None
    → IsIndex size root blocks
unfolding walk index_blocks
index-walk size root blocks whole =
    let shown =
    node-shows (walk_child blocks 15) (blocks_below blocks 15) (IsUndamaged blocks 15) (child-shows blocks 15)
    root_vcn (root_node size root) [] (blocks_met (walk size root blocks)) (whole-ends (walk size root blocks) whole) in
    record { sound = shown.0; distinct = subst AreDistinct shown.1 (walk-distinct size root blocks) }
