-- Which clusters are owned.
use Rattle.std.proofs.Common.{◌≡◌, ◌+◌, ℕ, zero, suc, Bool, true, false, List, [], ◌∷◌, ◌++◌, map, Option, Some, None, refl, sym, ap, ◌∙◌, subst, arith, if◌then◌else◌}
use Rattle.std.specs.Prelude.{Contains, slice_get}
use Rattle.std.specs.List.{AllByRecursion, flat_map}
use Rattle.std.proofs.lemmas.List.{map-append}
use Rattle.std.proofs.lemmas.List.Elements.{Contains-append_left, Contains-append_right}
use Rattle.ntfs_record.specs.FileRecord.{Attribute, Head, Laid}
use Rattle.ntfs_record.specs.Slots.{Slot, map_slots, on_payload}
use Rattle.ntfs_runs.specs.Cells.{Cells, map_cells}
use Rattle.ntfs_survey.specs.Laws.{IsOfCell, claim_at, map_claim}
use Rattle.ntfs_survey.specs.Owned.{Claim, attribute_claims, cell_claims, each_attribute, owned}
use Rattle.ntfs_volume.specs.Laws.{in_located}
use Rattle.ntfs_volume.specs.Located.{Located, slot_at}

here : {A : Type 0} → (x : A) (xs : List A) → Contains (x ∷ xs) x
here x xs = (0, omega arith, refl)

there : {A : Type 0} → (x y : A) (xs : List A) → Contains xs y → Contains (x ∷ xs) y
there x y xs has = (suc has.0, omega (arith, has.1), has.2)

-- ---- all of them

pub all-append : {A : Type 0} → (P : A → Type 0) (xs ys : List A) → AllByRecursion P xs → AllByRecursion P ys → AllByRecursion P (xs ++ ys)
all-append P [] ys one two = two
all-append P (x ∷ xs) ys one two = (one.0, all-append P xs ys one.1 two)

all-flat : {A B : Type 0} → (P : B → Type 0) (f : A → List B) (xs : List A) → ((x : A) → Contains xs x → AllByRecursion P (f x)) → AllByRecursion P (flat_map f xs)
all-flat P f [] all = tt
all-flat P f (x ∷ xs) all = all-append P (f x) (flat_map f xs) (all x (here x xs)) (all-flat P f xs (λ y has. all y (there x y xs has)))

all-each : {A B : Type 0} → (P : B → Type 0) (f : ℕ → Attribute A → List B) (r : ℕ) (slots : List (Slot A))
    → ((i : ℕ) (a : Attribute A) → Contains (slot_at slots i).attributes a → AllByRecursion P (f (r + i) a)) → AllByRecursion P (each_attribute f r slots)
unfolding each_attribute slot_at
all-each P f r [] all = tt
all-each P f r (s ∷ slots) all =
    all-append P (flat_map (f r) s.attributes) (each_attribute f (suc r) slots)
    (all-flat P (f r) s.attributes (λ a has. subst (λ (n : ℕ). AllByRecursion P (f n a)) (let e : r + 0 ≡ r = omega arith in e) (all 0 a has)))
    (all-each P f (suc r) slots (λ i a has. subst (λ (n : ℕ). AllByRecursion P (f n a)) (let e : r + suc i ≡ suc r + i = omega arith in e) (all (suc i) a has)))

pub all-cells : {X : Type 0} → (P : Claim X → Type 0) (r place vcn : ℕ) (cells : List (Option X))
    → ((i : ℕ) (k : X) → slice_get cells i ≡ Some (Some k) → P (record { cluster = k; number = r; place = place; vcn = vcn + i })) → AllByRecursion P (cell_claims r place vcn cells)
unfolding cell_claims
all-cells P r place vcn [] all = tt
all-cells P r place vcn (None ∷ cells) all =
    all-cells P r place (suc vcn) cells (λ i k is. subst (λ (n : ℕ). P (record { cluster = k; number = r; place = place; vcn = n })) (let e : vcn + suc i ≡ suc vcn + i = omega arith in e) (all (suc i) k is))
all-cells P r place vcn (Some x ∷ cells) all = (
  subst (λ (n : ℕ). P (record { cluster = x; number = r; place = place; vcn = n })) (let e : vcn + 0 ≡ vcn = omega arith in e) (all 0 x refl),
  all-cells P r place (suc vcn) cells (λ i k is. subst (λ (n : ℕ). P (record { cluster = k; number = r; place = place; vcn = n })) (let e : vcn + suc i ≡ suc vcn + i = omega arith in e) (all (suc i) k is)),
)

pub all-runs : {X : Type 0} → (P : Claim X → Type 0) (resident : Bool) (claims : List (Claim X)) → (resident ≡ false → AllByRecursion P claims) → AllByRecursion P (if resident then [] else claims)
all-runs P true claims all = tt
all-runs P false claims all = all refl

pub owned-only : {X : Type 0} → (slots : List (Slot (Located (Laid (Cells X))))) → AllByRecursion (IsOfCell slots) (owned slots)
unfolding attribute_claims
owned-only slots =
    all-each (IsOfCell slots) attribute_claims 0 slots (λ i a has.
    subst (λ (n : ℕ). AllByRecursion (IsOfCell slots) (attribute_claims n a)) (let e : i ≡ 0 + i = omega arith in e)
    (all-runs (IsOfCell slots) a.face.is_resident (cell_claims i a.payload.place a.face.lowest a.payload.payload.runs.cells) (λ runs.
    all-cells (IsOfCell slots) i a.payload.place a.face.lowest a.payload.payload.runs.cells (λ j k is.
    record { attribute = a; index = j; stands = has; runs = runs; cell = is; is = refl }))))

-- ---- each of them

has-flat : {A B : Type 0} → (f : A → List B) (xs : List A) (x : A) (y : B) → Contains xs x → Contains (f x) y → Contains (flat_map f xs) y
has-flat f [] x y has given = absurd (omega (arith, has.1))
has-flat f (z ∷ xs) x y (zero, lt, is) given = Contains-append_left (f z) (flat_map f xs) y (subst (λ (w : _). Contains (f w) y) (sym is) given)
has-flat f (z ∷ xs) x y (suc k, lt, is) given = Contains-append_right (f z) (flat_map f xs) y (has-flat f xs x y (k, omega (arith, lt), is) given)

has-each : {A B : Type 0} → (f : ℕ → Attribute A → List B) (r i : ℕ) (slots : List (Slot A)) (a : Attribute A) (y : B)
    → Contains (slot_at slots i).attributes a → Contains (f (r + i) a) y → Contains (each_attribute f r slots) y
unfolding each_attribute slot_at
has-each f r i [] a y has given = absurd (omega (arith, has.1))
has-each f r zero (s ∷ slots) a y has given =
    Contains-append_left (flat_map (f r) s.attributes) (each_attribute f (suc r) slots) y
    (has-flat (f r) s.attributes a y has (subst (λ (n : ℕ). Contains (f n a) y) (let e : r + 0 ≡ r = omega arith in e) given))
has-each f r (suc i) (s ∷ slots) a y has given =
    Contains-append_right (flat_map (f r) s.attributes) (each_attribute f (suc r) slots) y
    (has-each f (suc r) i slots a y has (subst (λ (n : ℕ). Contains (f n a) y) (let e : r + suc i ≡ suc r + i = omega arith in e) given))

has-cell : {X : Type 0} → (r place vcn i : ℕ) (cells : List (Option X)) (k : X) → slice_get cells i ≡ Some (Some k) → Contains (cell_claims r place vcn cells) (record { cluster = k; number = r; place = place; vcn = vcn + i })
unfolding cell_claims
has-cell r place vcn i [] k is = absurd cc
has-cell r place vcn zero (None ∷ cells) k is = absurd cc
has-cell r place vcn zero (Some x ∷ cells) k is =
    let same : x ≡ k = cc in
    let next : vcn ≡ vcn + 0 = omega arith in
    (0, omega arith, ap (λ k. record { cluster = k; number = r; place = place; vcn = vcn }) same ∙ ap (λ n. record { cluster = k; number = r; place = place; vcn = n }) next)
has-cell r place vcn (suc i) (None ∷ cells) k is =
    subst (λ (n : ℕ). Contains (cell_claims r place (suc vcn) cells) (record { cluster = k; number = r; place = place; vcn = n })) (let e : suc vcn + i ≡ vcn + suc i = omega arith in e)
    (has-cell r place (suc vcn) i cells k is)
has-cell r place vcn (suc i) (Some x ∷ cells) k is =
    there _ _ (cell_claims r place (suc vcn) cells)
    (subst (λ (n : ℕ). Contains (cell_claims r place (suc vcn) cells) (record { cluster = k; number = r; place = place; vcn = n })) (let e : suc vcn + i ≡ vcn + suc i = omega arith in e)
    (has-cell r place (suc vcn) i cells k is))

has-runs : {X : Type 0} → (resident : Bool) (claims : List (Claim X)) (y : Claim X) → resident ≡ false → Contains claims y → Contains (if resident then [] else claims) y
has-runs true claims y runs has = absurd cc
has-runs false claims y runs has = has

pub owned-each : {X : Type 0} → (slots : List (Slot (Located (Laid (Cells X))))) (r : ℕ) (a : Attribute (Located (Laid (Cells X)))) (i : ℕ) (k : X) → Contains (slot_at slots r).attributes a
    → a.face.is_resident ≡ false → slice_get a.payload.payload.runs.cells i ≡ Some (Some k) → Contains (owned slots) (claim_at r a i k)
unfolding attribute_claims
owned-each slots r a i k has runs is =
    has-each attribute_claims 0 r slots a (claim_at r a i k) has
    (subst (λ (n : ℕ). Contains (attribute_claims n a) (claim_at r a i k)) (let e : r ≡ 0 + r = omega arith in e)
    (has-runs a.face.is_resident (cell_claims r a.payload.place a.face.lowest a.payload.payload.runs.cells) (claim_at r a i k) runs
    (has-cell r a.payload.place a.face.lowest i a.payload.payload.runs.cells k is)))

-- ---- something else in place of each cluster

map-cells : {X Y : Type 0} → (moved : ℕ → ℕ) (f : X → Y) (r place vcn : ℕ) (cells : List (Option X)) → cell_claims r (moved place) vcn (map_cells f cells) ≡ map (map_claim moved f) (cell_claims r place vcn cells)
unfolding cell_claims
map-cells moved f r place vcn [] = refl
map-cells moved f r place vcn (None ∷ cells) = map-cells moved f r place (suc vcn) cells
map-cells {Y = Y} moved f r place vcn (Some k ∷ cells) =
    ap (λ (rest : List (Claim Y)). record { cluster = f k; number = r; place = moved place; vcn = vcn } ∷ rest) (map-cells moved f r place (suc vcn) cells)

map-runs : {X Y : Type 0} → (g : Claim X → Claim Y) (resident : Bool) (mapped : List (Claim Y)) (claims : List (Claim X)) → mapped ≡ map g claims
    → (if resident then [] else mapped) ≡ map g (if resident then [] else claims)
map-runs g true mapped claims is = refl
map-runs g false mapped claims is = is

map-attributes : {X Y : Type 0} → (moved : ℕ → ℕ) (f : X → Y) (r : ℕ) (h : Head) (attributes : List (Attribute (Located (Laid (Cells X)))))
    → flat_map (attribute_claims r) (map (on_payload (in_located moved f) r h) attributes) ≡ map (map_claim moved f) (flat_map (attribute_claims r) attributes)
unfolding attribute_claims
map-attributes moved f r h [] = refl
map-attributes moved f r h (a ∷ attributes) =
    ap (λ front. front ++ flat_map (attribute_claims r) (map (on_payload (in_located moved f) r h) attributes))
    (map-runs (map_claim moved f) a.face.is_resident (cell_claims r (moved a.payload.place) a.face.lowest (map_cells f a.payload.payload.runs.cells)) (cell_claims r a.payload.place a.face.lowest a.payload.payload.runs.cells)
    (map-cells moved f r a.payload.place a.face.lowest a.payload.payload.runs.cells))
    ∙ ap (λ rest. map (map_claim moved f) (attribute_claims r a) ++ rest) (map-attributes moved f r h attributes)
    ∙ sym (map-append (map_claim moved f) (attribute_claims r a) (flat_map (attribute_claims r) attributes))

pub owned-map : {X Y : Type 0} → (moved : ℕ → ℕ) (f : X → Y) (r : ℕ) (slots : List (Slot (Located (Laid (Cells X)))))
    → each_attribute attribute_claims r (map_slots (on_payload (in_located moved f)) r slots) ≡ map (map_claim moved f) (each_attribute attribute_claims r slots)
unfolding each_attribute
owned-map moved f r [] = refl
owned-map moved f r (s ∷ slots) =
    ap (λ front. front ++ each_attribute attribute_claims (suc r) (map_slots (on_payload (in_located moved f)) (suc r) slots)) (map-attributes moved f r s.head s.attributes)
    ∙ ap (λ rest. map (map_claim moved f) (flat_map (attribute_claims r) s.attributes) ++ rest) (owned-map moved f (suc r) slots)
    ∙ sym (map-append (map_claim moved f) (flat_map (attribute_claims r) s.attributes) (each_attribute attribute_claims (suc r) slots))
