use Rattle.std.proofs.Common.{◌∙◌, sym, ap, Err}
use Rattle.ntfs_base.specs.Bytes.{cluster_at}
use Rattle.ntfs_volume.specs.Fault.{volume_origin}
use Rattle.ntfs_volume.proofs.AnswerLemmas.{gives_by}
use Rattle.ntfs_volume.proofs.TableMapLemmas.{in-none, in-some}
use Rattle.ntfs_volume.proofs.mft_map.map_in.Goals as goal

pub returns-in-None-clause-gives : goal.returns-in-None-clause-gives
returns-in-None-clause-gives g c told settled =
    in-none c.args.geometry.now (cluster_at (g.G.Image.seen c.args.image.now).content c.args.geometry.now.cluster) c.args.raw.now (sym c.live_record.ensures ∙ c.in-None.is)
    ∙ ap Err (sym c.no_map.ensures)

pub returns-in-Some-clause-gives : goal.returns-in-Some-clause-gives
returns-in-Some-clause-gives g c told =
    gives_by volume_origin _ _ _ c.map_of_record.result
    (in-some c.args.geometry.now (cluster_at (g.G.Image.seen c.args.image.now).content c.args.geometry.now.cluster) c.args.raw.now c.in-Some.view (sym c.live_record.ensures ∙ c.in-Some.is))
    (c.map_of_record.ensures.gives told)
