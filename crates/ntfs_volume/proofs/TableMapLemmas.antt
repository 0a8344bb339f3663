-- $MFT's map, from record 0.
use Rattle.std.proofs.Common.{◌≡◌, ◌&&◌, ℕ, List, [], length, map, refl, sym, ap, ◌∙◌, subst, Bool, true, false, Some, None, Result, Ok, Err}
use Rattle.std.specs.Prelude.{find, not, IfOk}
use Rattle.std.specs.Option.{option_map}
use Rattle.std.proofs.lemmas.Bool.{false≢true}
use Rattle.ntfs_base.specs.Bytes.{cluster_at}
use Rattle.ntfs_base.specs.Frames.{Gives, refused_as, ◌>>=◌}
use Rattle.ntfs_boot.specs.Geometry.{image_origin, volume_geometry}
use Rattle.ntfs_boot.specs.declared.geometry.Geometry.{Geometry}
use Rattle.ntfs_boot.specs.declared.volume.ImageFault.{ImageFault}
use Rattle.ntfs_boot.specs.declared.volume.ImageFault.TheVariants as image
use Rattle.ntfs_record.specs.FileRecord.{Attribute, FileRecord, attributes_of}
use Rattle.ntfs_record.specs.Views.{Shown}
use Rattle.ntfs_runs.specs.Cells.{are_cells}
use Rattle.ntfs_runs.specs.Clusters.{AreWithin, vcns}
use Rattle.ntfs_volume.specs.Fault.{volume_fault, volume_origin}
use Rattle.ntfs_volume.specs.Known.{IsKnown, behind_known, joined_clusters, known_clusters}
use Rattle.ntfs_volume.specs.MftMap.{Map, all_clusters, begins_table, is_data, is_table, live_record, map_in, map_of, map_of_record, mft_map, no_map, table_clusters}
use Rattle.ntfs_volume.specs.Opened.{Opened, opened_of}
use Rattle.ntfs_volume.specs.StreamBytes.{clusters_in}
use Rattle.ntfs_volume.specs.Views.{is_wanted, told}
use Rattle.ntfs_volume.specs.declared.fault.VolumeFault.{VolumeFault}
use Rattle.ntfs_volume.specs.declared.known.Known.{Known}
use Rattle.ntfs_volume.specs.declared.wanted.Wanted.TheVariants as wanted
use Rattle.ntfs_volume.proofs.AnswerLemmas.{and-right, gives_by}
use Rattle.ntfs_volume.proofs.ListLemmas.{find-map, find-meets, found-none, found-some}

-- nothing is known yet
pub known-none : (known : Known) → known.runs ≡ [] → known_clusters known ≡ []
unfolding clusters_in vcns
known-none known is = ap (λ rs. clusters_in (vcns rs)) is

pub known-new : (n : ℕ) (known : Known) → known.runs ≡ [] → known.count ≡ 0 → IsKnown n known
unfolding are_cells vcns
known-new n known is counted = record {
  table = record { cells = ap (λ rs. are_cells false n (vcns rs)) is; within = subst AreWithin (sym is) tt };
  counted = counted ∙ sym (ap (λ rs. length (vcns rs)) is);
}

behind_nil : (r : Result (List ℕ) VolumeFault) → behind_known [] r ≡ r
behind_nil (Ok more) = refl
behind_nil (Err fault) = refl

-- the first extent, where nothing is known yet
pub joined-first : (before : List ℕ) (n : ℕ) (pairs : List ℕ) → before ≡ [] → joined_clusters before n 0 pairs ≡ table_clusters n 0 pairs
joined-first before n pairs is = ap (λ ks. joined_clusters ks n 0 pairs) is ∙ behind_nil (table_clusters n 0 pairs)

-- the map of an extent with these pairs and sizes
abbrev pub map_by : Geometry → (ℕ → List ℕ) → FileRecord → List ℕ → ℕ → ℕ → Result Map VolumeFault
map_by g f first pairs size valid = do
  known ← table_clusters g.clusters 0 pairs
  clusters ← all_clusters g f valid first known
  map_of g clusters size valid

first_wanted : (first : FileRecord) → find (is_wanted wanted.First) (map told (attributes_of first)) ≡ option_map told (find (λ (a : Attribute _). begins_table a.face) (attributes_of first))
first_wanted first = find-map told (is_wanted wanted.First) (λ a. begins_table a.face) (λ a. refl) (attributes_of first)

pub first-none : (g : Geometry) (f : ℕ → List ℕ) (first : FileRecord) → None ≡ find (is_wanted wanted.First) (map told (attributes_of first)) → map_of_record g f first ≡ Err (no_map 0)
unfolding map_of_record
first-none g f first is = rw (found-none (find (λ (a : Attribute _). begins_table a.face) (attributes_of first)) (is ∙ first_wanted first)) refl

resident_not : (b c : Bool) → (not b && c) ≡ true → b ≡ true → ⊥
resident_not true c is same = absurd (false≢true is)
resident_not false c is same = absurd (false≢true same)

pub first-resident : (first : FileRecord) (s : Shown) → Some s ≡ find (is_wanted wanted.First) (map told (attributes_of first)) → s.body.is_resident ≡ true → ⊥
first-resident first s is resident =
    let meets = find-meets (is_wanted wanted.First) (map told (attributes_of first)) s (sym is) in
    resident_not s.body.is_resident _ (and-right (is_data s.kind s.name) _ meets) resident

pub first-runs : (g : Geometry) (f : ℕ → List ℕ) (first : FileRecord) (s : Shown) (pairs : List ℕ) (size valid : ℕ) → Some s ≡ find (is_wanted wanted.First) (map told (attributes_of first))
    → s.body.pairs ≡ pairs → s.body.size ≡ size → s.body.valid ≡ valid → map_of_record g f first ≡ map_by g f first pairs size valid
unfolding map_of_record
first-runs g f first s pairs size valid is text whole some =
    let found = found-some (find (λ (a : Attribute _). begins_table a.face) (attributes_of first)) s (is ∙ first_wanted first) in
    rw (found.1, ap (λ (t : Shown). t.body.pairs) found.2 ∙ text, ap (λ (t : Shown). t.body.size) found.2 ∙ whole, ap (λ (t : Shown). t.body.valid) found.2 ∙ some) refl

pub by-fault : (g : Geometry) (f : ℕ → List ℕ) (first : FileRecord) (pairs : List ℕ) (size valid : ℕ) (fault : VolumeFault) → table_clusters g.clusters 0 pairs ≡ Err fault
    → map_by g f first pairs size valid ≡ Err fault
by-fault g f first pairs size valid fault is = rw is refl

pub by-list-fault : (g : Geometry) (f : ℕ → List ℕ) (first : FileRecord) (pairs : List ℕ) (size valid : ℕ) (known : List ℕ) (fault : VolumeFault) → table_clusters g.clusters 0 pairs ≡ Ok known
    → all_clusters g f valid first known ≡ Err fault → map_by g f first pairs size valid ≡ Err fault
by-list-fault g f first pairs size valid known fault is more = rw (is, more) refl

pub by-map : (g : Geometry) (f : ℕ → List ℕ) (first : FileRecord) (pairs : List ℕ) (size valid : ℕ) (known clusters : List ℕ) → table_clusters g.clusters 0 pairs ≡ Ok known
    → all_clusters g f valid first known ≡ Ok clusters → map_by g f first pairs size valid ≡ map_of g clusters size valid
by-map g f first pairs size valid known clusters is more = rw (is, more) refl

pub map-wrong : (g : Geometry) (clusters : List ℕ) (count size valid : ℕ) → length clusters ≡ count → is_table g count size valid ≡ false → map_of g clusters size valid ≡ Err (no_map 0)
unfolding map_of
map-wrong g clusters count size valid long is = rw (long, is) refl

pub map-right : (g : Geometry) (clusters : List ℕ) (count size valid : ℕ) → length clusters ≡ count → is_table g count size valid ≡ true
    → map_of g clusters size valid ≡ Ok (record { clusters = clusters; size = size; valid = valid })
unfolding map_of
map-right g clusters count size valid long is = rw (long, is) refl

-- the bytes of record 0
pub in-none : (g : Geometry) (f : ℕ → List ℕ) (raw : List ℕ) → live_record raw ≡ None → map_in g f raw ≡ Err (no_map 0)
unfolding map_in
in-none g f raw is = rw is refl

pub in-some : (g : Geometry) (f : ℕ → List ℕ) (raw : List ℕ) (first : FileRecord) → live_record raw ≡ Some first → map_in g f raw ≡ map_of_record g f first
unfolding map_in
in-some g f raw first is = rw is refl

-- ---- what an image gives that is opened

pub volume-origin : (fault : ImageFault) → volume_origin (volume_fault fault) ≡ image_origin fault
volume-origin image.NotNtfs = refl
volume-origin (image.BadGeometry field value) = refl
volume-origin (image.ImageShort len need) = refl
volume-origin image.ReadFault = refl

pub opened-geometry : (content : List ℕ) (fault : VolumeFault) → refused_as volume_fault (volume_geometry content) ≡ Err fault → opened_of content ≡ Err fault
unfolding opened_of
opened-geometry content fault is = rw is refl

opened_map : (content : List ℕ) (g : Geometry) → volume_geometry content ≡ Ok g
    → opened_of content ≡ (mft_map g (cluster_at content g.cluster) >>= (λ (kept : Map). Ok (record { geometry = g; map = kept })))
unfolding opened_of
opened_map content g is = rw is refl

opened_gives : (g : Geometry) (expected : Result Map VolumeFault) (result : Result Opened VolumeFault) → Gives volume_origin (λ (o : Opened). o.map) expected result
    → IfOk result (λ o. o.geometry ≡ g) → Gives volume_origin (λ (o : Opened). o) (expected >>= (λ (kept : Map). Ok (record { geometry = g; map = kept }))) result
opened_gives g expected (Ok o) is same = rw is (ap (λ (k : Geometry). Ok (record { geometry = k; map = o.map })) (sym same))
opened_gives g expected (Err fault) is same = λ settled. rw (is settled) refl

pub opened-gives : (content : List ℕ) (g : Geometry) (result : Result Opened VolumeFault) → volume_geometry content ≡ Ok g
    → Gives volume_origin (λ (o : Opened). o.map) (mft_map g (cluster_at content g.cluster)) result → IfOk result (λ o. o.geometry ≡ g)
    → Gives volume_origin (λ (o : Opened). o) (opened_of content) result
opened-gives content g result is gives same = gives_by volume_origin _ _ _ result (opened_map content g is) (opened_gives g (mft_map g (cluster_at content g.cluster)) result gives same)
