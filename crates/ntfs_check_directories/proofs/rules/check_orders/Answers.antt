use Rattle.std.proofs.Common.{◌∙◌, ap, sym, ℕ, Err, Option}
use Rattle.ntfs_base.proofs.FramesLemmas.{told_still}
use Rattle.ntfs_base.specs.Frames.{Gives}
use Rattle.ntfs_base.specs.declared.refusal.Rule.TheVariants as rule
use Rattle.ntfs_check_directories.proofs.RuleLemmas.{no-table, orders-given}
use Rattle.ntfs_check_directories.proofs.rules.check_orders.Goals as goal
use Rattle.ntfs_check_directories.specs.Asked.{first_unordered}
use Rattle.ntfs_rules.proofs.ListLemmas.{uncut}
use Rattle.ntfs_rules.specs.Outcome.{check_origin, unless_number}

pub returns-in-None-clause-gives : goal.returns-in-None-clause-gives
returns-in-None-clause-gives g c told settled =
    ap (λ (found : Option ℕ). unless_number rule.C13 found tt) (no-table c.args.table.now (g.G.Image.seen c.args.image.now).content c.in-Err.fault
    (c.in-Err.ensures.gives told (uncut c.in-Err.fault (sym c.cut_of.ensures ∙ c.in-None.is))))
    ∙ ap Err (sym c.damaged.ensures)

pub returns-in-Ok-clause-gives : goal.returns-in-Ok-clause-gives
returns-in-Ok-clause-gives g c told =
    orders-given c.args.table.now (g.G.Image.seen c.args.image.now).content c.in-Ok.upper c.check_under.result (c.in-Ok.ensures.gives told)
    (told_still g.G.Image c.args.image.now c.read_up_case.new.image
    (λ content. Gives check_origin (λ done. done) (unless_number rule.C13 (first_unordered c.args.table.now content c.in-Ok.upper) tt) c.check_under.result)
    c.in-Ok.ensures.reads.seen c.check_under.ensures.gives told)
