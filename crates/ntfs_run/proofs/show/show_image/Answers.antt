use Rattle.std.proofs.Common.{sym, subst, ◌∙◌}
use Rattle.ntfs_print.specs.Printing.{Prints}
use Rattle.ntfs_run.specs.Info.{image_lines}
use Rattle.ntfs_run.specs.Outcome.{status_origin}
use Rattle.ntfs_run.proofs.ShowLemmas.{geometry_printing, geometry_refuses, opened_printing}
use Rattle.ntfs_run.proofs.ToolLemmas.{prints_of}
use Rattle.ntfs_run.proofs.show.show_image.Goals as goal

pub returns-then-asks_geometry-clause-prints : goal.returns-then-asks_geometry-clause-prints
returns-then-asks_geometry-clause-prints g c told =
    subst (λ expected. Prints status_origin expected (g.O.Sink.seen c.args.out.now) c.print_geometry.result (g.O.Sink.seen c.print_geometry.new.out))
    (sym (geometry_printing c.args.request.now (g.G.Image.seen c.args.image.now).content (sym c.asks_geometry.ensures ∙ c.if-asks_geometry.true)))
    (prints_of (image_lines (g.G.Image.seen c.args.image.now).content) c.print_geometry.result _ _ (c.print_geometry.ensures.puts told))

pub returns-then-asks_geometry-clause-refusal : goal.returns-then-asks_geometry-clause-refusal
returns-then-asks_geometry-clause-refusal g c = geometry_refuses c.args.request.now c.print_geometry.result (sym c.asks_geometry.ensures ∙ c.if-asks_geometry.true) c.print_geometry.ensures.refusal

pub returns-else-asks_geometry-clause-prints : goal.returns-else-asks_geometry-clause-prints
returns-else-asks_geometry-clause-prints g c told =
    subst (λ expected. Prints status_origin expected (g.O.Sink.seen c.args.out.now) c.show_volume.result (g.O.Sink.seen c.show_volume.new.out))
    (sym (opened_printing c.args.request.now (g.G.Image.seen c.args.image.now).content (sym c.asks_geometry.ensures ∙ c.if-asks_geometry.false))) (c.show_volume.ensures.prints told)
