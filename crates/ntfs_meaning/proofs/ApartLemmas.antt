-- The clusters of streams: on the volume, owned, and each in one stream.
use Rattle.std.proofs.Common.{◌≡◌, ◌≤◌, ◌==◌, ℕ, zero, suc, Bool, true, false, List, [], ◌∷◌, length, map, Some, None, Ok, inl, inr, refl, sym, ap, ◌∙◌, subst, arith}
use Rattle.std.specs.Prelude.{Contains, slice_get}
use Rattle.std.specs.List.{AllByRecursion}
use Rattle.std.proofs.lemmas.Bool.Decides.{nat_tests}
use Rattle.ntfs_meaning.proofs.OwnerLemmas.{extent-owner}
use Rattle.ntfs_meaning.specs.Laws.{AreOther, Name}
use Rattle.ntfs_meaning.specs.Meaning.{owner}
use Rattle.ntfs_record.specs.FileRecord.{Attribute, Head, Laid}
use Rattle.ntfs_rules.proofs.CountLemmas.{counted}
use Rattle.ntfs_rules.proofs.DataLemmas.{numbers-are, stream-is}
use Rattle.ntfs_rules.proofs.OwnedLemmas.{owned-single}
use Rattle.ntfs_rules.proofs.PairingLemmas.{all-at}
use Rattle.ntfs_rules.specs.Accepts.{claims_in, fault_of}
use Rattle.ntfs_rules.specs.Clusters.{count_if, times}
use Rattle.ntfs_rules.specs.VolumeData.{Records, VolumeData, listings, numbers, stream_in, volume_data}
use Rattle.ntfs_runs.specs.Cells.{Cells, are_cells}
use Rattle.ntfs_survey.proofs.ClaimLemmas.{owned-each}
use Rattle.ntfs_survey.proofs.OrderLemmas.{volume-ordered}
use Rattle.ntfs_survey.proofs.StreamLemmas.{volume-none}
use Rattle.ntfs_survey.specs.Laws.{AreInOrder, Ascend, HasNoCells, HaveNoCells, StandsBefore, claim_at}
use Rattle.ntfs_survey.specs.Owned.{Claim, owned}
use Rattle.ntfs_volume.proofs.AnswerLemmas.{bind-ok}
use Rattle.ntfs_volume.proofs.ExtentsLemmas.{of-base}
use Rattle.ntfs_volume.proofs.StreamLemmas.{cells-of, gathered-readable}
use Rattle.ntfs_volume.specs.Gather.{Extent, extents}
use Rattle.ntfs_volume.specs.Laws.{IsBase, IsMember, IsOf, IsOfMember}
use Rattle.ntfs_volume.specs.Located.{Located, slot_at}
use Rattle.ntfs_volume.specs.Opened.{Opened}
use Rattle.ntfs_volume.specs.Streams.{Gathered, gather, part_of, stream_of}

-- ---- on the volume

pub stream-below : (o : Opened) (f : ℕ → List ℕ) (r kind : ℕ) (name : List ℕ) (s : Gathered ℕ) → stream_in (volume_data o f) r kind name ≡ Ok s → are_cells true o.geometry.clusters s.stream.cells ≡ true
stream-below o f r kind name s is = (gathered-readable o.geometry o.map f r kind name s (sym (stream-is o f r kind name) ∙ is)).cells

-- ---- owned

get-at : {A : Type 0} (xs : List A) (x : A) → Contains xs x → (i : ℕ) × (slice_get xs i ≡ Some x)
get-at [] x has = absurd (omega (arith, has.1))
get-at (y ∷ xs) x (zero, lt, is) = (0, ap Some is)
get-at (y ∷ xs) x (suc k, lt, is) = let rest = get-at xs x (k, omega (arith, lt), is) in (suc rest.0, rest.1)

none-at : (slots : Records ℕ) (r : ℕ) → HaveNoCells slots → AllByRecursion HasNoCells (slot_at slots r).attributes
unfolding slot_at
none-at [] r none = tt
none-at (s ∷ slots) zero none = none.0
none-at (s ∷ slots) (suc r) none = none-at slots r none.1

ordered-at : (slots : Records ℕ) (r : ℕ) → AreInOrder slots → Ascend StandsBefore (slot_at slots r).attributes
unfolding slot_at Ascend
ordered-at [] r all = tt
ordered-at (s ∷ slots) zero all = all.0
ordered-at (s ∷ slots) (suc r) all = ordered-at slots r all.1

no-cells : (o : Opened) (f : ℕ → List ℕ) → HaveNoCells (numbers (volume_data o f))
no-cells o f = subst (λ (slots : Records ℕ). HaveNoCells slots) (sym (numbers-are o f)) (volume-none o.geometry o.map f)

in-order : (o : Opened) (f : ℕ → List ℕ) → AreInOrder (numbers (volume_data o f))
in-order o f = subst (λ (slots : Records ℕ). AreInOrder slots) (sym (numbers-are o f)) (volume-ordered o.geometry o.map f)

-- a cell of an attribute is claimed by it
claimed-by : (resident : Bool) (slots : Records ℕ) (r : ℕ) (a : Attribute (Located (Laid (Cells ℕ)))) (k : ℕ) → a.face.is_resident ≡ resident → HasNoCells a → Contains (slot_at slots r).attributes a
    → Contains a.payload.payload.runs.cells (Some k) → (i : ℕ) × Contains (owned slots) (claim_at r a i k)
claimed-by true slots r a k is none has stands = absurd (omega (arith, stands.1, ap length (none is)))
claimed-by false slots r a k is none has stands = let at = get-at a.payload.payload.runs.cells (Some k) stands in (at.0, owned-each slots r a at.0 k has is at.1)

-- where a cluster of a stream stands: in an extent of it, which claims it
record Standing (slots : Records ℕ) (r kind : ℕ) (name : List ℕ) (k : ℕ) : Type 0 where
  extent : Extent (Located (Laid (Cells ℕ)))
  member : IsMember slots r extent
  named : IsOf kind name extent
  index : ℕ
  claimed : Contains (owned slots) (claim_at extent.number extent.attribute index k)

standing : (o : Opened) (f : ℕ → List ℕ) (r kind : ℕ) (name : List ℕ) (s : Gathered ℕ) (k : ℕ) → stream_in (volume_data o f) r kind name ≡ Ok s → Contains s.stream.cells (Some k)
    → Standing (numbers (volume_data o f)) r kind name k
standing o f r kind name s k is has =
    let v = volume_data o f in
    let slots = numbers v in
    let at = all-at (IsOfMember slots r kind name) s.stream.cells (Some k) (cells-of v.geometry.cluster (listings v) slots r kind name s is) has in
    let e = at.extent in
    let none = all-at HasNoCells (slot_at slots e.number).attributes e.attribute (none-at slots e.number (no-cells o f)) at.member.attribute in
    let claim = claimed-by e.attribute.face.is_resident slots e.number e.attribute k refl none at.member.attribute at.stands in
    record { extent = e; member = at.member; named = at.named; index = claim.0; claimed = claim.1 }

pub stream-owned : (o : Opened) (f : ℕ → List ℕ) (r kind : ℕ) (name : List ℕ) (s : Gathered ℕ) (k : ℕ) → fault_of (volume_data o f) ≡ None → stream_in (volume_data o f) r kind name ≡ Ok s
    → Contains s.stream.cells (Some k) → times k (claims_in (volume_data o f)) ≡ 1
stream-owned o f r kind name s k clear is has =
    let at = standing o f r kind name s k is has in
    let least = counted k (claims_in (volume_data o f)) (claim_at at.extent.number at.extent.attribute at.index k) at.claimed refl in
    let most = owned-single o f k clear in
    omega (arith, least, most)

-- ---- in one stream

count-same : (x k : ℕ) → x ≡ k → count_if (x == k) ≡ 1
count-same x k same = grind (arith, nat_tests)

-- a cluster that is claimed once has one claim
claim-once : (k : ℕ) (claims : List (Claim ℕ)) (a b : Claim ℕ) → times k claims ≤ 1 → Contains claims a → Contains claims b → a.cluster ≡ k → b.cluster ≡ k → a ≡ b
unfolding times
claim-once k [] a b most one two is too = absurd (omega (arith, one.1))
claim-once k (x ∷ claims) a b most (zero, lt, here) (zero, less, there) is too = sym here ∙ there
claim-once k (x ∷ claims) a b most (zero, lt, here) (suc j, less, there) is too =
    let first = count-same x.cluster k (ap (λ (c : Claim ℕ). c.cluster) here ∙ is) in
    let rest = counted k claims b (j, omega (arith, less), there) too in
    absurd (omega (arith, most, first, rest))
claim-once k (x ∷ claims) a b most (suc i, lt, here) (zero, less, there) is too =
    let first = count-same x.cluster k (ap (λ (c : Claim ℕ). c.cluster) there ∙ too) in
    let rest = counted k claims a (i, omega (arith, lt), here) is in
    absurd (omega (arith, most, first, rest))
claim-once k (x ∷ claims) a b most (suc i, lt, here) (suc j, less, there) is too =
    claim-once k claims a b (omega (arith, most)) (i, omega (arith, lt), here) (j, omega (arith, less), there) is too

abbrev Cell : Type 0
Cell = Attribute (Located (Laid (Cells ℕ)))

-- attributes at one place of a record are one
place-once : (them : List Cell) (a b : Cell) → Ascend StandsBefore them → Contains them a → Contains them b → a.payload.place ≡ b.payload.place → a ≡ b
unfolding Ascend
place-once [] a b all one two same = absurd (omega (arith, one.1))
place-once (x ∷ them) a b all (zero, lt, here) (zero, less, there) same = sym here ∙ there
place-once (x ∷ them) a b all (zero, lt, here) (suc j, less, there) same =
    let before = all-at (StandsBefore x) them b all.0 (j, omega (arith, less), there) in
    let at = ap (λ (c : Cell). c.payload.place) here in
    absurd (omega (arith, before, at, same))
place-once (x ∷ them) a b all (suc i, lt, here) (zero, less, there) same =
    let before = all-at (StandsBefore x) them a all.0 (i, omega (arith, lt), here) in
    let at = ap (λ (c : Cell). c.payload.place) there in
    absurd (omega (arith, before, at, same))
place-once (x ∷ them) a b all (suc i, lt, here) (suc j, less, there) same =
    place-once them a b all.1 (i, omega (arith, lt), here) (j, omega (arith, less), there) same

base-of : (v : VolumeData) (r kind : ℕ) (name : List ℕ) (s : Gathered ℕ) → stream_in v r kind name ≡ Ok s → IsBase (numbers v) r
unfolding gather
base-of v r kind name s is =
    let found = bind-ok (extents (listings v) (numbers v) r kind name) (λ es. stream_of v.geometry.cluster r (map part_of es)) s is in
    of-base (listings v) (numbers v) r kind name found.0 found.1

-- the extents in which a cluster stands are one attribute of one record
record AreOne (a b : Extent (Located (Laid (Cells ℕ)))) : Type 0 where
  number : a.number ≡ b.number
  head : a.head ≡ b.head
  attribute : a.attribute ≡ b.attribute

standing-once : (slots : Records ℕ) (a b : Name) (k : ℕ) → AreInOrder slots → times k (owned slots) ≤ 1 → (one : Standing slots a.number a.kind a.name k) → (two : Standing slots b.number b.kind b.name k)
    → AreOne one.extent two.extent
standing-once slots a b k all most one two =
    let e = one.extent in
    let d = two.extent in
    let same = claim-once k (owned slots) (claim_at e.number e.attribute one.index k) (claim_at d.number d.attribute two.index k) most one.claimed two.claimed refl refl in
    let number = ap (λ (c : Claim ℕ). c.number) same in
    let here = subst (λ n. Contains (slot_at slots n).attributes e.attribute) number one.member.attribute in
    record {
      number = number;
      head = one.member.head ∙ ap (λ n. (slot_at slots n).head) number ∙ sym two.member.head;
      attribute = place-once (slot_at slots d.number).attributes e.attribute d.attribute (ordered-at slots d.number all) here two.member.attribute (ap (λ (c : Claim ℕ). c.place) same);
    }

other-owner : (slots : Records ℕ) (a b : Name) (e d : Extent (Located (Laid (Cells ℕ)))) → AreOne e d → IsBase slots a.number → IsBase slots b.number → IsMember slots a.number e → IsMember slots b.number d → a.number ≡ b.number
other-owner slots a b e d same base too one two =
    sym (extent-owner slots a.number e base one)
    ∙ ap (λ n. owner n e.head) same.number
    ∙ ap (λ (h : Head). owner d.number h) same.head
    ∙ extent-owner slots b.number d too two

pub streams-apart : (o : Opened) (f : ℕ → List ℕ) (a b : Name) (s t : Gathered ℕ) (k : ℕ) → fault_of (volume_data o f) ≡ None → stream_in (volume_data o f) a.number a.kind a.name ≡ Ok s
    → stream_in (volume_data o f) b.number b.kind b.name ≡ Ok t → AreOther a b → Contains s.stream.cells (Some k) → Contains t.stream.cells (Some k) → ⊥
streams-apart o f a b s t k clear is too other has holds =
    let v = volume_data o f in
    let one = standing o f a.number a.kind a.name s k is has in
    let two = standing o f b.number b.kind b.name t k too holds in
    let same = standing-once (numbers v) a b k (in-order o f) (owned-single o f k clear) one two in
    elim other [
      | inl apart ↦ apart (other-owner (numbers v) a b one.extent two.extent same (base-of v a.number a.kind a.name s is) (base-of v b.number b.kind b.name t too) one.member two.member)
      | inr (inl apart) ↦ apart (sym one.named.kind_is ∙ ap (λ (c : Cell). c.face.kind) same.attribute ∙ two.named.kind_is)
      | inr (inr apart) ↦ apart (sym one.named.name_is ∙ ap (λ (c : Cell). c.face.name) same.attribute ∙ two.named.name_is)
    ]
