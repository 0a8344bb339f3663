-- The owners of runs, cluster by cluster.
use Rattle.std.proofs.Common.{◌≡◌, ◌+◌, ℕ, zero, suc, List, [], ◌∷◌, ◌++◌, length, map, refl, sym, ap, ◌∙◌, arith, Bool, true, false, Option, Some, None, if◌then◌else◌}
use Rattle.std.specs.List.{flat_map}
use Rattle.std.proofs.lemmas.Grind.{flat_map-append}
use Rattle.std.proofs.lemmas.List.{append-nil}
use Rattle.ntfs_record.specs.FileRecord.{Attribute, Head, Laid}
use Rattle.ntfs_record.specs.Slots.{Slot, map_laid, map_slots, on_payload}
use Rattle.ntfs_runs.specs.Cells.{Cells, cells_below, cells_of}
use Rattle.ntfs_runs.specs.Clusters.{row, vcns}
use Rattle.ntfs_runs.specs.Reading.{reading}
use Rattle.ntfs_runs.specs.declared.run.Run.{Run}
use Rattle.ntfs_runs.proofs.CellsLemmas.{length-row}
use Rattle.ntfs_survey.specs.Owned.{Claim, attribute_claims, attribute_owners, cell_claims, each_attribute, owner_claims, run_owner, run_owners, runs_in}
use Rattle.ntfs_survey.specs.declared.owners.Owner.{Owner}
use Rattle.ntfs_volume.specs.Located.{Located, map_located}

claims-append : (r place vcn : ℕ) (xs ys : List (Option ℕ)) → cell_claims r place vcn (xs ++ ys) ≡ cell_claims r place vcn xs ++ cell_claims r place (vcn + length xs) ys
unfolding cell_claims
claims-append r place vcn [] ys = ap (λ v. cell_claims r place v ys) (let e : vcn ≡ vcn + 0 = omega arith in e)
claims-append r place vcn (None ∷ xs) ys =
    claims-append r place (suc vcn) xs ys
    ∙ ap (λ v. cell_claims r place (suc vcn) xs ++ cell_claims r place v ys) (let e : suc vcn + length xs ≡ vcn + suc (length xs) = omega arith in e)
claims-append r place vcn (Some k ∷ xs) ys =
    ap (λ (rest : List (Claim ℕ)). record { cluster = k; number = r; place = place; vcn = vcn } ∷ rest)
    (claims-append r place (suc vcn) xs ys
    ∙ ap (λ v. cell_claims r place (suc vcn) xs ++ cell_claims r place v ys) (let e : suc vcn + length xs ≡ vcn + suc (length xs) = omega arith in e))

claims-holes : (r place vcn n : ℕ) → cell_claims {X = ℕ} r place vcn (row n None) ≡ []
unfolding cell_claims row
claims-holes r place vcn zero = refl
claims-holes r place vcn (suc n) = claims-holes r place (suc vcn) n

claims-run : (r place vcn n : ℕ) (cell : Option ℕ) → flat_map owner_claims (run_owner r place vcn n cell) ≡ cell_claims r place vcn (row n cell)
claims-run r place vcn n None = sym (claims-holes r place vcn n)
claims-run r place vcn n (Some lcn) = append-nil (cell_claims r place vcn (row n (Some lcn)))

claims-runs : (r place vcn : ℕ) (runs : List Run) → flat_map owner_claims (run_owners r place vcn runs) ≡ cell_claims r place vcn (vcns runs)
unfolding run_owners vcns cell_claims
claims-runs r place vcn [] = refl
claims-runs r place vcn (run ∷ runs) =
    flat_map-append owner_claims (run_owner r place vcn run.length run.lcn) (run_owners r place (vcn + run.length) runs)
    ∙ ap (λ front. front ++ flat_map owner_claims (run_owners r place (vcn + run.length) runs)) (claims-run r place vcn run.length run.lcn)
    ∙ ap (λ rest. cell_claims r place vcn (row run.length run.lcn) ++ rest) (claims-runs r place (vcn + run.length) runs)
    ∙ ap (λ n. cell_claims r place vcn (row run.length run.lcn) ++ cell_claims r place (vcn + n) (vcns runs)) (sym (length-row run.length run.lcn))
    ∙ sym (claims-append r place vcn (row run.length run.lcn) (vcns runs))

cells-runs : (right : Bool) (runs : List Run) → vcns (if right then runs else []) ≡ (if right then vcns runs else [])
unfolding vcns
cells-runs true runs = refl
cells-runs false runs = refl

claims-pairs : (n r place vcn : ℕ) (pairs : List ℕ) → flat_map owner_claims (run_owners r place vcn (runs_in pairs)) ≡ cell_claims r place vcn (cells_below n pairs).cells
unfolding cells_below cells_of
claims-pairs n r place vcn pairs =
    claims-runs r place vcn (runs_in pairs) ∙ ap (cell_claims r place vcn) (cells-runs (reading pairs).is_right (reading pairs).runs)

resident-step : (b : Bool) (owners : List Owner) (claims : List (Claim ℕ)) → flat_map owner_claims owners ≡ claims
    → flat_map owner_claims (if b then [] else owners) ≡ (if b then [] else claims)
resident-step true owners claims is = refl
resident-step false owners claims is = is

-- with the cells of its mapping pairs on a volume of n clusters
abbrev pub celled : ℕ → ℕ → Head → Attribute (Located (Laid (List ℕ))) → Attribute (Located (Laid (Cells ℕ)))
celled n = on_payload (map_located (map_laid (cells_below n)))

claims-attribute : (n r : ℕ) (h : Head) (a : Attribute (Located (Laid (List ℕ)))) → flat_map owner_claims (attribute_owners r a) ≡ attribute_claims r (celled n r h a)
unfolding attribute_owners attribute_claims
claims-attribute n r h a =
    resident-step a.face.is_resident (run_owners r a.payload.place a.face.lowest (runs_in a.payload.payload.runs))
    (cell_claims r a.payload.place a.face.lowest (cells_below n a.payload.payload.runs).cells)
    (claims-pairs n r a.payload.place a.face.lowest a.payload.payload.runs)

claims-attributes : (n r : ℕ) (h : Head) (attributes : List (Attribute (Located (Laid (List ℕ)))))
    → flat_map owner_claims (flat_map (attribute_owners r) attributes) ≡ flat_map (attribute_claims r) (map (celled n r h) attributes)
claims-attributes n r h [] = refl
claims-attributes n r h (a ∷ attributes) =
    flat_map-append owner_claims (attribute_owners r a) (flat_map (attribute_owners r) attributes)
    ∙ ap (λ front. front ++ flat_map owner_claims (flat_map (attribute_owners r) attributes)) (claims-attribute n r h a)
    ∙ ap (λ rest. attribute_claims r (celled n r h a) ++ rest) (claims-attributes n r h attributes)

pub claims-from : (n r : ℕ) (slots : List (Slot (Located (Laid (List ℕ)))))
    → flat_map owner_claims (each_attribute attribute_owners r slots) ≡ each_attribute attribute_claims r (map_slots (celled n) r slots)
unfolding each_attribute
claims-from n r [] = refl
claims-from n r (s ∷ slots) =
    flat_map-append owner_claims (flat_map (attribute_owners r) s.attributes) (each_attribute attribute_owners (suc r) slots)
    ∙ ap (λ front. front ++ flat_map owner_claims (each_attribute attribute_owners (suc r) slots)) (claims-attributes n r s.head s.attributes)
    ∙ ap (λ rest. flat_map (attribute_claims r) (map (celled n r s.head) s.attributes) ++ rest) (claims-from n (suc r) slots)
