use Rattle.ntfs_words.proofs.InfoLaws.{twice}
use Rattle.ntfs_words.proofs.LawLemmas.{ls_twice, cat_twice, cluster_twice, cp_twice, clone_twice, resize_twice, fix_twice}
use Rattle.ntfs_words.proofs.laws.options_are_given_once.Goals as goal

pub returns-clause-info : goal.returns-clause-info
returns-clause-info c = twice

pub returns-clause-ls : goal.returns-clause-ls
returns-clause-ls c = ls_twice

pub returns-clause-cat : goal.returns-clause-cat
returns-clause-cat c = cat_twice

pub returns-clause-cluster : goal.returns-clause-cluster
returns-clause-cluster c = cluster_twice

pub returns-clause-cp : goal.returns-clause-cp
returns-clause-cp c = cp_twice

pub returns-clause-clone : goal.returns-clause-clone
returns-clause-clone c = clone_twice

pub returns-clause-resize : goal.returns-clause-resize
returns-clause-resize c = resize_twice

pub returns-clause-fix : goal.returns-clause-fix
returns-clause-fix c = fix_twice
