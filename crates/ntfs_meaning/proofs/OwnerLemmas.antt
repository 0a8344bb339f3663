-- Whose file an extent is of.
use Rattle.std.proofs.Common.{◌≡◌, ◌==◌, ◌&&◌, ◌||◌, ℕ, Bool, true, false, List, inl, inr, refl, ap, ◌∙◌, if◌then◌else◌}
use Rattle.std.specs.Prelude.{not}
use Rattle.std.proofs.lemmas.Bool.{eq-eqb, eqb-true}
use Rattle.ntfs_meaning.specs.Meaning.{owner}
use Rattle.ntfs_record.specs.FileRecord.{Head}
use Rattle.ntfs_record.specs.Slots.{Slot}
use Rattle.ntfs_volume.proofs.AnswerLemmas.{and-left, and-right}
use Rattle.ntfs_volume.specs.Gather.{Extent}
use Rattle.ntfs_volume.specs.Laws.{IsBase, IsMember}
use Rattle.ntfs_volume.specs.Located.{slot_at}
use Rattle.ntfs_volume.specs.References.{has_base, matches, target, turn}

not-true : (b : Bool) → not b ≡ true → b ≡ false
not-true true is = absurd cc
not-true false is = refl

owner-base : (r : ℕ) (h : Head) → h.base ≡ 0 → owner r h ≡ r
owner-base r h is = ap (λ b. if b then r else target h.base) (eq-eqb h.base 0 is)

owner-extension : (n r sequence : ℕ) (h : Head) → has_base h.base r sequence ≡ true → owner n h ≡ r
unfolding has_base matches
owner-extension n r sequence h is =
    let match = (target h.base == r) && ((turn h.base == 0) || (turn h.base == sequence)) in
    ap (λ b. if b then n else target h.base) (not-true (h.base == 0) (and-left (not (h.base == 0)) match is))
    ∙ eqb-true (target h.base) r (and-left (target h.base == r) ((turn h.base == 0) || (turn h.base == sequence)) (and-right (not (h.base == 0)) match is))

-- an extent of base record r is of its file
pub extent-owner : {P : Type 0} (slots : List (Slot P)) (r : ℕ) (e : Extent P) → IsBase slots r → IsMember slots r e → owner e.number e.head ≡ r
extent-owner slots r e base member = elim member.part [
  | inl same ↦ owner-base e.number e.head (ap (λ (h : Head). h.base) member.head ∙ ap (λ n. (slot_at slots n).head.base) same ∙ base.base) ∙ same
  | inr has ↦ owner-extension e.number r (slot_at slots r).head.sequence e.head has
]
