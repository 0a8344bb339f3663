-- Rules C4 to C9 in their order.
use Rattle.std.proofs.Common.{◌≡◌, ◌&&◌, ℕ, Bool, List, [], ◌∷◌, Option, Some, None, Result, Ok, Err, refl, sym, ap, ◌∙◌, if◌then◌else◌}
use Rattle.std.specs.List.{flat_map}
use Rattle.ntfs_base.specs.Frames.{◌>>=◌}
use Rattle.ntfs_base.specs.declared.refusal.Rule.TheVariants as rule
use Rattle.ntfs_bitmap.specs.ClusterSet.{Clusters, bound_of, has}
use Rattle.ntfs_boot.specs.declared.geometry.Geometry.{Geometry}
use Rattle.ntfs_check_clusters.proofs.BitmapLemmas.{tests-same}
use Rattle.ntfs_check_clusters.proofs.ClaimLemmas.{bound-claims, has-claimed}
use Rattle.ntfs_check_clusters.specs.Outcome.{bitmap_of, claimed_once, claimed_set, clusters_judged, judged_first, marks_of, owners_or_wrong, surveyed}
use Rattle.ntfs_directory.specs.UpCase.{data_kind}
use Rattle.ntfs_rules.proofs.DataLemmas.{c4-is, c7-is, numbers-are}
use Rattle.ntfs_rules.specs.Accepts.{Line, claims_in, line}
use Rattle.ntfs_rules.specs.Clusters.{c8, c9, c9_by, is_owned}
use Rattle.ntfs_rules.specs.FixedRecords.{row_6}
use Rattle.ntfs_rules.specs.Outcome.{judged_by, unless_number}
use Rattle.ntfs_rules.specs.Records.{c4, c6, c7}
use Rattle.ntfs_rules.specs.VolumeData.{Records, VolumeData, bytes_found, content_in, listings, numbers, stream_in, volume_data}
use Rattle.ntfs_rules.specs.declared.fault.CheckFault.{CheckFault}
use Rattle.ntfs_rules.specs.declared.fault.CheckFault.TheVariants as check
use Rattle.ntfs_survey.proofs.OwnedLemmas.{claims-from}
use Rattle.ntfs_survey.specs.Owned.{Claim, owned, owner_claims, owners_of}
use Rattle.ntfs_survey.specs.declared.owners.Owner.{Owner}
use Rattle.ntfs_volume.specs.Located.{slots_of, with_cells}
use Rattle.ntfs_volume.specs.Opened.{Opened}

-- ---- the claimed set

once-bound-by : (n : ℕ) (double : Option ℕ) (claims : List (Claim ℕ)) (set : Clusters) → unless_number rule.C8 double (claimed_set n claims) ≡ Ok set → bound_of set ≡ n
once-bound-by n None claims set is = let same : claimed_set n claims ≡ set = cc in ap bound_of (sym same) ∙ bound-claims n claims
once-bound-by n (Some number) claims set is = absurd cc

pub once-bound : (n : ℕ) (claims : List (Claim ℕ)) (set : Clusters) → claimed_once n claims ≡ Ok set → bound_of set ≡ n
unfolding claimed_once
once-bound n claims set is = once-bound-by n (c8 claims) claims set is

-- ---- the order

-- what is done with a survey after rules C5 and C6
abbrev then_judged : Option ℕ → Option ℕ → (Result (List Owner) ℕ → Result Clusters CheckFault) → Result (List Owner) ℕ → Result Clusters CheckFault
then_judged marks names after found = unless_number rule.C5 marks (tt {0}) >>= (λ _. unless_number rule.C6 names (tt {0}) >>= (λ _. after found))

-- the six rules as a table
abbrev six_lines : Option ℕ → Option ℕ → Option ℕ → Option ℕ → Option ℕ → Option ℕ → List Line
six_lines torn marks names wrong double bitmap =
    line rule.C4 torn ∷ line rule.C5 marks ∷ line rule.C6 names ∷ line rule.C7 wrong ∷ line rule.C8 double ∷ line rule.C9 bitmap ∷ []

last-two : (double bitmap : Option ℕ) (set : Clusters)
    → (unless_number rule.C8 double set >>= (λ s. unless_number rule.C9 bitmap (tt {0}) >>= (λ _. Ok s))) ≡ judged_by (line rule.C8 double ∷ line rule.C9 bitmap ∷ []) set
last-two (Some n) bitmap set = refl
last-two None (Some n) set = refl
last-two None None set = refl

in-order : (torn marks names wrong double bitmap : Option ℕ) (owners : List Owner) (set : Clusters) (after : Result (List Owner) ℕ → Result Clusters CheckFault)
    → ((n : ℕ) → after (Err n) ≡ Err (check.Damaged rule.C7 n))
    → after (Ok owners) ≡ judged_by (line rule.C8 double ∷ line rule.C9 bitmap ∷ []) set
    → (unless_number rule.C4 torn (owners_or_wrong wrong owners) >>= then_judged marks names after) ≡ judged_by (six_lines torn marks names wrong double bitmap) set
in-order (Some n) marks names wrong double bitmap owners set after late found = refl
in-order None (Some n) names wrong double bitmap owners set after late found = refl
in-order None None (Some n) wrong double bitmap owners set after late found = refl
in-order None None None (Some n) double bitmap owners set after late found = late n
in-order None None None None double bitmap owners set after late found = found

-- ---- of a volume

claims-are : (o : Opened) (f : ℕ → List ℕ) → claims_in (volume_data o f) ≡ flat_map owner_claims (owners_of (slots_of o.geometry o.map f))
unfolding with_cells
claims-are o f =
    ap (λ (slots : Records ℕ). owned slots) (numbers-are o f) ∙ sym (claims-from o.geometry.clusters 0 (slots_of o.geometry o.map f))

bits-claimed : (is_bitmap : Bool) (n : ℕ) (claims : List (Claim ℕ)) (bytes : List ℕ) → c9_by is_bitmap (has (claimed_set n claims)) n bytes ≡ c9 is_bitmap n claims bytes
unfolding c9
bits-claimed is_bitmap n claims bytes =
    ap (λ (b : Bool). if is_bitmap && b then None else Some 6) (tests-same n (has (claimed_set n claims)) (is_owned claims) bytes (λ k below. has-claimed n claims k below))

-- C9 of a volume, by its claims
abbrev bitmap_by : VolumeData → List (Claim ℕ) → Option ℕ
bitmap_by v claims =
    c9 (row_6 v.geometry (listings v) (stream_in v 6 data_kind [])) v.geometry.clusters claims (bytes_found v.geometry.cluster (content_in v 6 data_kind []))

-- rules C8 and C9 by the claims
clusters-by : (v : VolumeData) (owners : List Owner)
    → clusters_judged v (Ok owners)
    ≡ judged_by (line rule.C8 (c8 (flat_map owner_claims owners)) ∷ line rule.C9 (bitmap_by v (flat_map owner_claims owners)) ∷ []) (claimed_set v.geometry.clusters (flat_map owner_claims owners))
unfolding claimed_once
clusters-by v owners =
    let claims = flat_map owner_claims owners in
    let set = claimed_set v.geometry.clusters claims in
    taken (c8 claims) set (λ s. bitmap_of (has s) v)
    ∙ ap (λ (b : Option ℕ). unless_number rule.C8 (c8 claims) set >>= (λ s. unless_number rule.C9 b (tt {0}) >>= (λ _. Ok s)))
    (bits-claimed (row_6 v.geometry (listings v) (stream_in v 6 data_kind [])) v.geometry.clusters claims (bytes_found v.geometry.cluster (content_in v 6 data_kind [])))
    ∙ last-two (c8 claims) (bitmap_by v claims) set
  where
    taken : (double : Option ℕ) (set : Clusters) (bitmap : Clusters → Option ℕ)
        → (unless_number rule.C8 double set >>= (λ s. unless_number rule.C9 (bitmap s) (tt {0}) >>= (λ _. Ok s)))
        ≡ (unless_number rule.C8 double set >>= (λ s. unless_number rule.C9 (bitmap set) (tt {0}) >>= (λ _. Ok s)))
    taken None set bitmap = refl
    taken (Some n) set bitmap = refl

-- the first rules, as the code asks them
abbrev pub first_asked : Opened → (ℕ → List ℕ) → Result Clusters CheckFault
first_asked o f = surveyed o f >>= then_judged (marks_of (volume_data o f)) (c6 (volume_data o f).slots) (clusters_judged (volume_data o f))

lines-are : (o : Opened) (f : ℕ → List ℕ)
    → judged_first (volume_data o f)
    ≡ judged_by (six_lines (c4 (slots_of o.geometry o.map f)) (marks_of (volume_data o f)) (c6 (volume_data o f).slots) (c7 (with_cells o.geometry.clusters (slots_of o.geometry o.map f)))
    (c8 (claims_in (volume_data o f))) (bitmap_by (volume_data o f) (claims_in (volume_data o f)))) (claimed_set (volume_data o f).geometry.clusters (claims_in (volume_data o f)))
unfolding judged_first c7
lines-are o f =
    let v = volume_data o f in
    let set = claimed_set v.geometry.clusters (claims_in v) in
    ap (λ (torn : Option ℕ). judged_by (six_lines torn (marks_of v) (c6 v.slots) (c7 (numbers v)) (c8 (claims_in v)) (bitmap_by v (claims_in v))) set) (c4-is o f)
    ∙ ap (λ (wrong : Option ℕ). judged_by (six_lines (c4 (slots_of o.geometry o.map f)) (marks_of v) (c6 v.slots) wrong (c8 (claims_in v)) (bitmap_by v (claims_in v))) set) (c7-is o f)

claimed-lines : (o : Opened) (f : ℕ → List ℕ) (claims others : List (Claim ℕ)) (torn wrong : Option ℕ) → claims ≡ others
    → judged_by (six_lines torn (marks_of (volume_data o f)) (c6 (volume_data o f).slots) wrong (c8 claims) (bitmap_by (volume_data o f) claims)) (claimed_set (volume_data o f).geometry.clusters claims)
    ≡ judged_by (six_lines torn (marks_of (volume_data o f)) (c6 (volume_data o f).slots) wrong (c8 others) (bitmap_by (volume_data o f) others)) (claimed_set (volume_data o f).geometry.clusters others)
claimed-lines o f claims others torn wrong same =
    ap (λ (cs : List (Claim ℕ)). judged_by (six_lines torn (marks_of (volume_data o f)) (c6 (volume_data o f).slots) wrong (c8 cs) (bitmap_by (volume_data o f) cs)) (claimed_set (volume_data o f).geometry.clusters cs)) same

pub first-is : (o : Opened) (f : ℕ → List ℕ) → judged_first (volume_data o f) ≡ first_asked o f
first-is o f =
    let v = volume_data o f in
    let slots = slots_of o.geometry o.map f in
    let claims = flat_map owner_claims (owners_of slots) in
    let torn = c4 slots in
    let wrong = c7 (with_cells o.geometry.clusters slots) in
    lines-are o f
    ∙ claimed-lines o f (claims_in v) claims torn wrong (claims-are o f)
    ∙ sym (in-order torn (marks_of v) (c6 v.slots) wrong (c8 claims) (bitmap_by v claims) (owners_of slots) (claimed_set v.geometry.clusters claims) (clusters_judged v) (λ n. refl) (clusters-by v (owners_of slots)))

-- ---- stage by stage

pub survey-stops : (o : Opened) (f : ℕ → List ℕ) (fault : CheckFault) → surveyed o f ≡ Err fault → judged_first (volume_data o f) ≡ Err fault
survey-stops o f fault is =
    first-is o f ∙ ap (λ (r : Result (Result (List Owner) ℕ) CheckFault). r >>= then_judged (marks_of (volume_data o f)) (c6 (volume_data o f).slots) (clusters_judged (volume_data o f))) is

after-survey : (o : Opened) (f : ℕ → List ℕ) (found : Result (List Owner) ℕ) → surveyed o f ≡ Ok found
    → judged_first (volume_data o f) ≡ then_judged (marks_of (volume_data o f)) (c6 (volume_data o f).slots) (clusters_judged (volume_data o f)) found
after-survey o f found is =
    first-is o f ∙ ap (λ (r : Result (Result (List Owner) ℕ) CheckFault). r >>= then_judged (marks_of (volume_data o f)) (c6 (volume_data o f).slots) (clusters_judged (volume_data o f))) is

pub marks-stop : (o : Opened) (f : ℕ → List ℕ) (found : Result (List Owner) ℕ) (fault : CheckFault) → surveyed o f ≡ Ok found
    → unless_number rule.C5 (marks_of (volume_data o f)) (tt {0}) ≡ Err fault → judged_first (volume_data o f) ≡ Err fault
marks-stop o f found fault is stops =
    after-survey o f found is
    ∙ ap (λ (r : Result (Unit {0}) CheckFault). r >>= (λ _. unless_number rule.C6 (c6 (volume_data o f).slots) (tt {0}) >>= (λ _. clusters_judged (volume_data o f) found))) stops

after-marks : (o : Opened) (f : ℕ → List ℕ) (found : Result (List Owner) ℕ) → surveyed o f ≡ Ok found → unless_number rule.C5 (marks_of (volume_data o f)) (tt {0}) ≡ Ok tt
    → judged_first (volume_data o f) ≡ (unless_number rule.C6 (c6 (volume_data o f).slots) (tt {0}) >>= (λ _. clusters_judged (volume_data o f) found))
after-marks o f found is passed =
    after-survey o f found is
    ∙ ap (λ (r : Result (Unit {0}) CheckFault). r >>= (λ _. unless_number rule.C6 (c6 (volume_data o f).slots) (tt {0}) >>= (λ _. clusters_judged (volume_data o f) found))) passed

pub names-stop : (o : Opened) (f : ℕ → List ℕ) (found : Result (List Owner) ℕ) (fault : CheckFault) → surveyed o f ≡ Ok found
    → unless_number rule.C5 (marks_of (volume_data o f)) (tt {0}) ≡ Ok tt → unless_number rule.C6 (c6 (volume_data o f).slots) (tt {0}) ≡ Err fault → judged_first (volume_data o f) ≡ Err fault
names-stop o f found fault is passed stops =
    after-marks o f found is passed ∙ ap (λ (r : Result (Unit {0}) CheckFault). r >>= (λ _. clusters_judged (volume_data o f) found)) stops

pub after-names : (o : Opened) (f : ℕ → List ℕ) (found : Result (List Owner) ℕ) → surveyed o f ≡ Ok found
    → unless_number rule.C5 (marks_of (volume_data o f)) (tt {0}) ≡ Ok tt → unless_number rule.C6 (c6 (volume_data o f).slots) (tt {0}) ≡ Ok tt
    → judged_first (volume_data o f) ≡ clusters_judged (volume_data o f) found
after-names o f found is passed named =
    after-marks o f found is passed ∙ ap (λ (r : Result (Unit {0}) CheckFault). r >>= (λ _. clusters_judged (volume_data o f) found)) named

-- ---- rules C8 and C9

pub claims-stop : (v : VolumeData) (owners : List Owner) (fault : CheckFault) → claimed_once v.geometry.clusters (flat_map owner_claims owners) ≡ Err fault → clusters_judged v (Ok owners) ≡ Err fault
claims-stop v owners fault is =
    ap (λ (r : Result Clusters CheckFault). r >>= (λ set. unless_number rule.C9 (bitmap_of (has set) v) (tt {0}) >>= (λ _. Ok set))) is

after-claims : (v : VolumeData) (owners : List Owner) (set : Clusters) → claimed_once v.geometry.clusters (flat_map owner_claims owners) ≡ Ok set
    → clusters_judged v (Ok owners) ≡ (unless_number rule.C9 (bitmap_of (has set) v) (tt {0}) >>= (λ _. Ok set))
after-claims v owners set is =
    ap (λ (r : Result Clusters CheckFault). r >>= (λ set. unless_number rule.C9 (bitmap_of (has set) v) (tt {0}) >>= (λ _. Ok set))) is

pub bitmap-stops : (v : VolumeData) (owners : List Owner) (set : Clusters) (fault : CheckFault) → claimed_once v.geometry.clusters (flat_map owner_claims owners) ≡ Ok set
    → unless_number rule.C9 (bitmap_of (has set) v) (tt {0}) ≡ Err fault → clusters_judged v (Ok owners) ≡ Err fault
bitmap-stops v owners set fault is stops =
    after-claims v owners set is ∙ ap (λ (r : Result (Unit {0}) CheckFault). r >>= (λ _. Ok set)) stops

pub clusters-pass : (v : VolumeData) (owners : List Owner) (set : Clusters) → claimed_once v.geometry.clusters (flat_map owner_claims owners) ≡ Ok set
    → unless_number rule.C9 (bitmap_of (has set) v) (tt {0}) ≡ Ok tt → clusters_judged v (Ok owners) ≡ Ok set
clusters-pass v owners set is passed =
    after-claims v owners set is ∙ ap (λ (r : Result (Unit {0}) CheckFault). r >>= (λ _. Ok set)) passed

-- what was claimed of these owners by a geometry that is the volume's
claimed-by : (o : Opened) (f : ℕ → List ℕ) (k : Geometry) (taken owners : List Owner) → k ≡ o.geometry → taken ≡ owners
    → claimed_once (volume_data o f).geometry.clusters (flat_map owner_claims owners) ≡ claimed_once k.clusters (flat_map owner_claims taken)
unfolding volume_data
claimed-by o f k taken owners kept same =
    ap (λ (h : Geometry). claimed_once h.clusters (flat_map owner_claims owners)) (sym kept) ∙ ap (λ (them : List Owner). claimed_once k.clusters (flat_map owner_claims them)) (sym same)

pub claims-given : (o : Opened) (f : ℕ → List ℕ) (k : Geometry) (taken owners : List Owner) (set : Clusters) → k ≡ o.geometry → taken ≡ owners
    → claimed_once k.clusters (flat_map owner_claims taken) ≡ Ok set → claimed_once (volume_data o f).geometry.clusters (flat_map owner_claims owners) ≡ Ok set
claims-given o f k taken owners set kept same is = claimed-by o f k taken owners kept same ∙ is

pub claims-refused : (o : Opened) (f : ℕ → List ℕ) (k : Geometry) (taken owners : List Owner) (fault : CheckFault) → k ≡ o.geometry → taken ≡ owners
    → claimed_once k.clusters (flat_map owner_claims taken) ≡ Err fault → claimed_once (volume_data o f).geometry.clusters (flat_map owner_claims owners) ≡ Err fault
claims-refused o f k taken owners fault kept same is = claimed-by o f k taken owners kept same ∙ is
