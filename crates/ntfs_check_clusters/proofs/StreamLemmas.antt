-- $MFT's bitmap and $Bitmap, as they are gathered.
use Rattle.std.proofs.Common.{◌≡◌, ◌&&◌, not, ℕ, Bool, true, false, List, [], Option, Some, None, Result, Ok, Err, take, refl, sym, ap, ◌∙◌, if◌then◌else◌}
use Rattle.std.specs.Option.{option_map}
use Rattle.std.specs.Result.{result_map_both, result_ok}
use Rattle.ntfs_check_clusters.specs.Marks.{bytes_if_found, marks_in}
use Rattle.ntfs_check_clusters.specs.Outcome.{bitmap_of}
use Rattle.ntfs_directory.specs.UpCase.{data_kind}
use Rattle.ntfs_rules.proofs.DataLemmas.{content-is, listings-are, stream-is}
use Rattle.ntfs_rules.specs.Clusters.{are_bits_of, c9_by}
use Rattle.ntfs_rules.specs.FixedRecords.{is_bitmap, passes, row_6}
use Rattle.ntfs_rules.specs.Records.{bitmap_kind}
use Rattle.ntfs_rules.specs.VolumeData.{bytes_found, content_in, stream_in, volume_data}
use Rattle.ntfs_stream.specs.StreamBytes.{bytes_of_stream}
use Rattle.ntfs_volume.proofs.MappedLemmas.{gather-mapped}
use Rattle.ntfs_volume.specs.Gather.{Lists}
use Rattle.ntfs_volume.specs.Located.{slots_of, with_cells}
use Rattle.ntfs_volume.specs.Opened.{Opened}
use Rattle.ntfs_volume.specs.Streams.{Gathered, gather_of, lists_of, map_gathered, map_stream}
use Rattle.ntfs_volume.specs.declared.fault.VolumeFault.{VolumeFault}

-- the same with bytes in place of clusters
abbrev pub filled_of : Opened → (ℕ → List ℕ) → ℕ → ℕ → Result (Gathered (List ℕ)) VolumeFault
filled_of o f r kind = result_map_both (map_gathered (λ place. 0) f) (λ fault. fault) (gather_of o.geometry o.map f r kind [])

content-filled : (o : Opened) (f : ℕ → List ℕ) (r kind : ℕ) → content_in (volume_data o f) r kind [] ≡ filled_of o f r kind
content-filled o f r kind =
    content-is o f r kind [] (gather-mapped (λ place. 0) f o.geometry.cluster (lists_of o.geometry f (slots_of o.geometry o.map f)) (with_cells o.geometry.clusters (slots_of o.geometry o.map f)) r kind [])

-- ---- $MFT's bitmap

marks-are : (o : Opened) (f : ℕ → List ℕ) → marks_in (volume_data o f) ≡ bytes_if_found o.geometry.cluster (filled_of o f 0 bitmap_kind)
unfolding volume_data
marks-are o f = ap (bytes_if_found o.geometry.cluster) (content-filled o f 0 bitmap_kind)

none-gathered : (c : ℕ) (f : ℕ → List ℕ) (found : Result (Gathered ℕ) VolumeFault) → None ≡ result_ok found → bytes_if_found c (result_map_both (map_gathered (λ place. 0) f) (λ fault. fault) found) ≡ None
none-gathered c f (Ok s) none = absurd cc
none-gathered c f (Err fault) none = refl

some-gathered : (c : ℕ) (f : ℕ → List ℕ) (found : Result (Gathered ℕ) VolumeFault) (s : Gathered ℕ) → Some s ≡ result_ok found
    → bytes_if_found c (result_map_both (map_gathered (λ place. 0) f) (λ fault. fault) found) ≡ Some (bytes_of_stream c (map_stream f s.stream))
some-gathered c f (Ok t) s some = let same : t ≡ s = cc in ap (λ (u : Gathered ℕ). Some (bytes_of_stream c (map_stream f u.stream))) same
some-gathered c f (Err fault) s some = absurd cc

pub marks-missing : (o : Opened) (f : ℕ → List ℕ) (most : ℕ) → None ≡ result_ok (gather_of o.geometry o.map f 0 0xB0 []) → None ≡ option_map (take most) (marks_in (volume_data o f))
marks-missing o f most none =
    sym (ap (option_map (take most)) (marks-are o f ∙ none-gathered o.geometry.cluster f (gather_of o.geometry o.map f 0 bitmap_kind []) none))

pub marks-gathered : (o : Opened) (f : ℕ → List ℕ) (most : ℕ) (s : Gathered ℕ) (front : List ℕ) → Some s ≡ result_ok (gather_of o.geometry o.map f 0 0xB0 [])
    → front ≡ take most (bytes_of_stream o.geometry.cluster (map_stream f s.stream)) → Some front ≡ option_map (take most) (marks_in (volume_data o f))
marks-gathered o f most s front some is =
    ap Some is ∙ sym (ap (option_map (take most)) (marks-are o f ∙ some-gathered o.geometry.cluster f (gather_of o.geometry o.map f 0 bitmap_kind []) s some))

-- ---- $Bitmap

-- C9 by what was gathered of record 6
abbrev bitmap_found : Opened → (ℕ → List ℕ) → (ℕ → Bool) → Bool → Result (Gathered ℕ) VolumeFault → Option ℕ
bitmap_found o f test listed found =
    c9_by (not listed && passes (is_bitmap o.geometry.clusters) found) test o.geometry.clusters
    (bytes_found o.geometry.cluster (result_map_both (map_gathered (λ place. 0) f) (λ fault. fault) found))

bitmap-is : (o : Opened) (f : ℕ → List ℕ) (test : ℕ → Bool)
    → bitmap_of test (volume_data o f) ≡ bitmap_found o f test (lists_of o.geometry f (slots_of o.geometry o.map f) 6).is_there (gather_of o.geometry o.map f 6 data_kind [])
unfolding volume_data row_6
bitmap-is o f test =
    let n = o.geometry.clusters in
    let c = o.geometry.cluster in
    ap (λ (lists : Lists). c9_by (not (lists 6).is_there && passes (is_bitmap n) (stream_in (volume_data o f) 6 data_kind [])) test n (bytes_found c (content_in (volume_data o f) 6 data_kind []))) (listings-are o f)
    ∙ ap (λ (found : Result (Gathered ℕ) VolumeFault). c9_by (not (lists_of o.geometry f (slots_of o.geometry o.map f) 6).is_there && passes (is_bitmap n) found) test n
    (bytes_found c (content_in (volume_data o f) 6 data_kind []))) (stream-is o f 6 data_kind [])
    ∙ ap (λ (bytes : Result (Gathered (List ℕ)) VolumeFault). c9_by (not (lists_of o.geometry f (slots_of o.geometry o.map f) 6).is_there && passes (is_bitmap n) (gather_of o.geometry o.map f 6 data_kind [])) test n
    (bytes_found c bytes)) (content-filled o f 6 data_kind)

pub bitmap-listed : (o : Opened) (f : ℕ → List ℕ) (test : ℕ → Bool) (listed : Bool) → listed ≡ (lists_of o.geometry f (slots_of o.geometry o.map f) 6).is_there → listed ≡ true
    → bitmap_of test (volume_data o f) ≡ Some 6
bitmap-listed o f test listed is there =
    bitmap-is o f test ∙ ap (λ (b : Bool). bitmap_found o f test b (gather_of o.geometry o.map f 6 data_kind [])) (sym is ∙ there)

unlisted : (o : Opened) (f : ℕ → List ℕ) (test : ℕ → Bool) (listed : Bool) → listed ≡ (lists_of o.geometry f (slots_of o.geometry o.map f) 6).is_there → listed ≡ false
    → bitmap_of test (volume_data o f) ≡ bitmap_found o f test false (gather_of o.geometry o.map f 6 data_kind [])
unlisted o f test listed is there =
    bitmap-is o f test ∙ ap (λ (b : Bool). bitmap_found o f test b (gather_of o.geometry o.map f 6 data_kind [])) (sym is ∙ there)

none-found : (o : Opened) (f : ℕ → List ℕ) (test : ℕ → Bool) (found : Result (Gathered ℕ) VolumeFault) → None ≡ result_ok found → bitmap_found o f test false found ≡ Some 6
none-found o f test (Ok s) none = absurd cc
none-found o f test (Err fault) none = refl

some-found : (o : Opened) (f : ℕ → List ℕ) (test : ℕ → Bool) (found : Result (Gathered ℕ) VolumeFault) (s : Gathered ℕ) → Some s ≡ result_ok found
    → bitmap_found o f test false found
    ≡ (if is_bitmap o.geometry.clusters s && are_bits_of test o.geometry.clusters (bytes_of_stream o.geometry.cluster (map_stream f s.stream)) then None else Some 6)
some-found o f test (Ok t) s some =
    let same : t ≡ s = cc in
    ap (λ (u : Gathered ℕ). if is_bitmap o.geometry.clusters u && are_bits_of test o.geometry.clusters (bytes_of_stream o.geometry.cluster (map_stream f u.stream)) then None else Some 6) same
some-found o f test (Err fault) s some = absurd cc

pub bitmap-missing : (o : Opened) (f : ℕ → List ℕ) (test : ℕ → Bool) (listed : Bool) → listed ≡ (lists_of o.geometry f (slots_of o.geometry o.map f) 6).is_there → listed ≡ false
    → None ≡ result_ok (gather_of o.geometry o.map f 6 0x80 []) → bitmap_of test (volume_data o f) ≡ Some 6
bitmap-missing o f test listed is there none = unlisted o f test listed is there ∙ none-found o f test (gather_of o.geometry o.map f 6 data_kind []) none

pub bitmap-gathered : (o : Opened) (f : ℕ → List ℕ) (test : ℕ → Bool) (listed answer : Bool) (s : Gathered ℕ) → listed ≡ (lists_of o.geometry f (slots_of o.geometry o.map f) 6).is_there → listed ≡ false
    → Some s ≡ result_ok (gather_of o.geometry o.map f 6 0x80 [])
    → answer ≡ (is_bitmap o.geometry.clusters s && are_bits_of test o.geometry.clusters (bytes_of_stream o.geometry.cluster (map_stream f s.stream)))
    → bitmap_of test (volume_data o f) ≡ (if answer then None else Some 6)
bitmap-gathered o f test listed answer s is there some same =
    unlisted o f test listed is there ∙ some-found o f test (gather_of o.geometry o.map f 6 data_kind []) s some
    ∙ ap (λ (b : Bool). if b then None else Some 6) (sym same)
