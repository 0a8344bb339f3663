-- Images that agree on $MFT's clusters have the same records.
use Rattle.std.proofs.Common.{◌≡◌, ◌++◌, ◌/◌, ℕ, zero, suc, List, [], ◌∷◌, take, refl, ap, ◌∙◌}
use Rattle.ntfs_base.specs.Bytes.{raw_of, stream}
use Rattle.ntfs_boot.specs.declared.geometry.Geometry.{Geometry}
use Rattle.ntfs_record.specs.FileRecord.{Laid}
use Rattle.ntfs_record.specs.Slots.{Slot}
use Rattle.ntfs_volume.specs.Laws.{AgreeAt}
use Rattle.ntfs_volume.specs.Located.{Located, located_slot, slots_from, slots_of}
use Rattle.ntfs_volume.specs.MftMap.{Map}
use Rattle.ntfs_volume.specs.Records.{raw_record}

agree-stream : (f h : ℕ → List ℕ) (ks : List ℕ) → AgreeAt f h ks → stream f ks ≡ stream h ks
agree-stream f h [] are = refl
agree-stream f h (k ∷ ks) are = ap (λ xs. xs ++ stream f ks) are.0 ∙ ap (λ xs. h k ++ xs) (agree-stream f h ks are.1)

agree-raw : (g : Geometry) (m : Map) (f h : ℕ → List ℕ) (r : ℕ) → AgreeAt f h m.clusters → raw_record g m f r ≡ raw_record g m h r
unfolding raw_record
agree-raw g m f h r are = ap (λ bytes. raw_of g.record_size (take m.valid bytes) r) (agree-stream f h m.clusters are)

agree-slots : (slot other : ℕ → Slot (Located (Laid (List ℕ)))) (r count : ℕ) → ((n : ℕ) → slot n ≡ other n) → slots_from slot r count ≡ slots_from other r count
unfolding slots_from
agree-slots slot other r zero same = refl
agree-slots slot other r (suc count) same =
    ap (λ (s : Slot (Located (Laid (List ℕ)))). s ∷ slots_from slot (suc r) count) (same r)
    ∙ ap (λ (rest : List (Slot (Located (Laid (List ℕ))))). other r ∷ rest) (agree-slots slot other (suc r) count same)

pub agree-volume : (g : Geometry) (m : Map) (f h : ℕ → List ℕ) → AgreeAt f h m.clusters → slots_of g m f ≡ slots_of g m h
unfolding slots_of
agree-volume g m f h are =
    agree-slots (λ n. located_slot n (raw_record g m f n)) (λ n. located_slot n (raw_record g m h n)) 0 (m.valid / g.record_size) (λ n. ap (located_slot n) (agree-raw g m f h n are))
