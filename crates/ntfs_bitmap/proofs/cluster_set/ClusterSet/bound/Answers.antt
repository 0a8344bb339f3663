use Rattle.std.proofs.Common.{sym, ap, ◌∙◌}
use Rattle.ntfs_bitmap.specs.ClusterSet.{bound_of}
use Rattle.ntfs_bitmap.specs.Runs.{is_covered, lengths_of}
use Rattle.ntfs_bitmap.proofs.SetLemmas.{bound-set_where}
use Rattle.ntfs_bitmap.proofs.cluster_set.ClusterSet.bound.Goals as goal

pub returns : goal.returns
returns c = sym (bound-set_where c.self.inside.bound (is_covered (lengths_of c.self.inside.runs)))
    ∙ ap bound_of c.self.view_is
