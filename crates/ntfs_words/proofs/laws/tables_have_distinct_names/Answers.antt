use Rattle.std.proofs.Common.{refl}
use Rattle.ntfs_words.specs.Line.{are_distinct}
use Rattle.ntfs_words.specs.Info.{info_app}
use Rattle.ntfs_words.specs.Ls.{ls_app}
use Rattle.ntfs_words.specs.Cat.{cat_app}
use Rattle.ntfs_words.specs.Cluster.{cluster_app}
use Rattle.ntfs_words.specs.Cp.{cp_app}
use Rattle.ntfs_words.specs.Clone.{clone_app}
use Rattle.ntfs_words.specs.Resize.{resize_app}
use Rattle.ntfs_words.specs.Fix.{fix_app}
use Rattle.ntfs_words.specs.Make.{make_app}
use Rattle.ntfs_words.specs.Trial.{trial_app}
use Rattle.ntfs_words.proofs.laws.tables_have_distinct_names.Goals as goal

pub returns : goal.returns
unfolding are_distinct info_app ls_app cat_app cluster_app cp_app clone_app resize_app fix_app make_app trial_app
returns c = refl
