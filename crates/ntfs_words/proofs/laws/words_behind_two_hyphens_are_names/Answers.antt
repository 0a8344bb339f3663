use Rattle.ntfs_words.proofs.LawLemmas.{ls_behind, cat_behind, cluster_behind, cp_behind, clone_behind, resize_behind, fix_behind, make_behind, trial_behind}
use Rattle.ntfs_words.proofs.laws.words_behind_two_hyphens_are_names.Goals as goal

pub returns-clause-ls : goal.returns-clause-ls
returns-clause-ls c = ls_behind

pub returns-clause-cat : goal.returns-clause-cat
returns-clause-cat c = cat_behind

pub returns-clause-cluster : goal.returns-clause-cluster
returns-clause-cluster c = cluster_behind

pub returns-clause-cp : goal.returns-clause-cp
returns-clause-cp c = cp_behind

pub returns-clause-clone : goal.returns-clause-clone
returns-clause-clone c = clone_behind

pub returns-clause-resize : goal.returns-clause-resize
returns-clause-resize c = resize_behind

pub returns-clause-fix : goal.returns-clause-fix
returns-clause-fix c = fix_behind

pub returns-clause-make : goal.returns-clause-make
returns-clause-make c = make_behind

pub returns-clause-trial : goal.returns-clause-trial
returns-clause-trial c = trial_behind
