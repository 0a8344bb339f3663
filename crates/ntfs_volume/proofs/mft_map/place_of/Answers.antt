use Rattle.std.proofs.Common.{◌≤◌, ◌*◌, ◌+◌, sym, subst, ℕ, arith}
use Rattle.ntfs_boot.specs.Geometry.{bytes_of_clusters}
use Rattle.ntfs_volume.proofs.ReadLemmas.{ends-within}
use Rattle.ntfs_volume.proofs.mft_map.place_of.Goals as goal

pub returns-clause-within : goal.returns-clause-within
returns-clause-within c =
    let g = c.args.geometry.now in
    subst (λ (k : ℕ). g.mft * k + g.record_size ≤ bytes_of_clusters g) (sym c.from.ensures) (ends-within g.mft g.record_size g.cluster g.clusters (omega arith) c.requires.mft)
