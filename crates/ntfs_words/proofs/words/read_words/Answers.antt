use Rattle.std.proofs.Common.{Some, ap, sym, ◌∙◌}
use Rattle.ntfs_words.specs.declared.tool.Tool.TheVariants.{Info, Ls, Cat, Cluster, Cp, Clone, Resize, Fix, Make, Trial}
use Rattle.ntfs_words.proofs.KindLemmas.{kinds}
use Rattle.ntfs_words.proofs.words.read_words.Goals as goal

pub returns-in-Some-Info-clause-kinds : goal.returns-in-Some-Info-clause-kinds
returns-in-Some-Info-clause-kinds c = kinds Info _ _ _ (sym c.tool_of.ensures ∙ c.in-Some-Info.is ∙ ap Some c.in-Some-Info.field-0-is) c.read_info.ensures.reads

pub returns-in-Some-Ls-clause-kinds : goal.returns-in-Some-Ls-clause-kinds
returns-in-Some-Ls-clause-kinds c = kinds Ls _ _ _ (sym c.tool_of.ensures ∙ c.in-Some-Ls.is ∙ ap Some c.in-Some-Ls.field-0-is) c.read_ls.ensures.reads

pub returns-in-Some-Cat-clause-kinds : goal.returns-in-Some-Cat-clause-kinds
returns-in-Some-Cat-clause-kinds c = kinds Cat _ _ _ (sym c.tool_of.ensures ∙ c.in-Some-Cat.is ∙ ap Some c.in-Some-Cat.field-0-is) c.read_cat.ensures.reads

pub returns-in-Some-Cluster-clause-kinds : goal.returns-in-Some-Cluster-clause-kinds
returns-in-Some-Cluster-clause-kinds c = kinds Cluster _ _ _ (sym c.tool_of.ensures ∙ c.in-Some-Cluster.is ∙ ap Some c.in-Some-Cluster.field-0-is) c.read_cluster.ensures.reads

pub returns-in-Some-Cp-clause-kinds : goal.returns-in-Some-Cp-clause-kinds
returns-in-Some-Cp-clause-kinds c = kinds Cp _ _ _ (sym c.tool_of.ensures ∙ c.in-Some-Cp.is ∙ ap Some c.in-Some-Cp.field-0-is) c.read_cp.ensures.reads

pub returns-in-Some-Clone-clause-kinds : goal.returns-in-Some-Clone-clause-kinds
returns-in-Some-Clone-clause-kinds c = kinds Clone _ _ _ (sym c.tool_of.ensures ∙ c.in-Some-Clone.is ∙ ap Some c.in-Some-Clone.field-0-is) c.read_clone.ensures.reads

pub returns-in-Some-Resize-clause-kinds : goal.returns-in-Some-Resize-clause-kinds
returns-in-Some-Resize-clause-kinds c = kinds Resize _ _ _ (sym c.tool_of.ensures ∙ c.in-Some-Resize.is ∙ ap Some c.in-Some-Resize.field-0-is) c.read_resize.ensures.reads

pub returns-in-Some-Fix-clause-kinds : goal.returns-in-Some-Fix-clause-kinds
returns-in-Some-Fix-clause-kinds c = kinds Fix _ _ _ (sym c.tool_of.ensures ∙ c.in-Some-Fix.is ∙ ap Some c.in-Some-Fix.field-0-is) c.read_fix.ensures.reads

pub returns-in-Some-Make-clause-kinds : goal.returns-in-Some-Make-clause-kinds
returns-in-Some-Make-clause-kinds c = kinds Make _ _ _ (sym c.tool_of.ensures ∙ c.in-Some-Make.is ∙ ap Some c.in-Some-Make.field-0-is) c.read_make.ensures.reads

pub returns-in-Some-Trial-clause-kinds : goal.returns-in-Some-Trial-clause-kinds
returns-in-Some-Trial-clause-kinds c = kinds Trial _ _ _ (sym c.tool_of.ensures ∙ c.in-Some-Trial.is ∙ ap Some c.in-Some-Trial.field-0-is) c.read_trial.ensures.reads
