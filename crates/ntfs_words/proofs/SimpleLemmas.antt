-- Each tool's command is simple and free: clap states exactly which words it takes.
use Rattle.std.proofs.Common.{◌≡◌, true, refl}
use Rattle.clap.specs.Words.{is_simple_and_free}
use Rattle.clap.proofs.OnLiterals.{clap_on_literals}
use Rattle.ntfs_words.specs.Ls.{ls_app}
use Rattle.ntfs_words.specs.Cat.{cat_app}
use Rattle.ntfs_words.specs.Cluster.{cluster_app}
use Rattle.ntfs_words.specs.Cp.{cp_app}
use Rattle.ntfs_words.specs.Clone.{clone_app}
use Rattle.ntfs_words.specs.Resize.{resize_app}
use Rattle.ntfs_words.specs.Fix.{fix_app}
use Rattle.ntfs_words.specs.Make.{make_app}
use Rattle.ntfs_words.specs.Trial.{trial_app}
use Rattle.ntfs_words.specs.Info.{info_app}

pub ls_is_simple : is_simple_and_free ls_app ≡ true
unfolding clap_on_literals ls_app
ls_is_simple = refl

pub cat_is_simple : is_simple_and_free cat_app ≡ true
unfolding clap_on_literals cat_app
cat_is_simple = refl

pub cluster_is_simple : is_simple_and_free cluster_app ≡ true
unfolding clap_on_literals cluster_app
cluster_is_simple = refl

pub cp_is_simple : is_simple_and_free cp_app ≡ true
unfolding clap_on_literals cp_app
cp_is_simple = refl

pub clone_is_simple : is_simple_and_free clone_app ≡ true
unfolding clap_on_literals clone_app
clone_is_simple = refl

pub resize_is_simple : is_simple_and_free resize_app ≡ true
unfolding clap_on_literals resize_app
resize_is_simple = refl

pub fix_is_simple : is_simple_and_free fix_app ≡ true
unfolding clap_on_literals fix_app
fix_is_simple = refl

pub make_is_simple : is_simple_and_free make_app ≡ true
unfolding clap_on_literals make_app
make_is_simple = refl

pub trial_is_simple : is_simple_and_free trial_app ≡ true
unfolding clap_on_literals trial_app
trial_is_simple = refl

pub info_is_simple : is_simple_and_free info_app ≡ true
unfolding clap_on_literals info_app
info_is_simple = refl
