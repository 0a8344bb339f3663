use Rattle.std.proofs.Common.{◌≡◌, ◌∙◌, sym, ap, ℕ, length}
use Rattle.std.proofs.lemmas.List.{length-replicate}
use Rattle.ntfs_base.specs.Bytes.{cluster_at}
use Rattle.ntfs_base.specs.Frames.{Gives}
use Rattle.ntfs_base.proofs.FramesLemmas.{told_still}
use Rattle.ntfs_volume.specs.Fault.{volume_origin}
use Rattle.ntfs_volume.specs.MftMap.{map_in, mft_map}
use Rattle.ntfs_volume.specs.Opened.{Opened}
use Rattle.ntfs_volume.proofs.AnswerLemmas.{gives_by}
use Rattle.ntfs_volume.proofs.ListLemmas.{list-back}
use Rattle.ntfs_volume.proofs.ReadLemmas.{head-read}
use Rattle.ntfs_volume.proofs.mft_map.read_map.Goals as goal

pub returns-clause-gives : goal.returns-clause-gives
unfolding mft_map
returns-clause-gives g c told =
    let k = c.args.geometry.now in
    let image = g.G.Image.seen c.args.image.now in
    let block = c.in_ok-block.block in
    let shown = c.deref_mut.result.now in
    let size : length shown ≡ k.record_size = ap length c.deref_mut.ensures.value ∙ ap length c.in_ok-block.ensures ∙ length-replicate {A = ℕ} k.record_size 0 in
    let read = head-read k image.content c.read_at.new.into c.place_of.result (length shown) c.requires.good (c.in_ok-read_at.ensures.bytes told) c.place_of.ensures.place size in
    let back = c.deref_mut-2.ensures.value ∙ list-back block.len c.read_at.new.into block.items shown c.read_at.auto.into c.deref_mut.ensures.value block.ok.0 in
    let inside = told_still g.G.Image _ _ (λ content. Gives volume_origin (λ (o : Opened). o.map) (map_in k (cluster_at content k.cluster) c.deref_mut-2.result.now) c.map_in.result)
    c.in_ok-read_at.ensures.seen c.map_in.ensures.gives in
    gives_by volume_origin _ _ _ c.map_in.result (ap (map_in k (cluster_at image.content k.cluster)) (sym read ∙ sym back)) (inside told)
