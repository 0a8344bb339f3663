use Rattle.std.proofs.Common.{sym, ap, ◌∙◌}
use Rattle.std.specs.Prelude.{option_map}
use Rattle.ntfs_clone.specs.Commands.{next_command}
use Rattle.ntfs_clone.specs.Reading.{command_found}
use Rattle.ntfs_clone.proofs.ReadingLemmas.{next-enough}
use Rattle.ntfs_clone.proofs.reading.next.Goals as goal

pub returns-clause-exact : goal.returns-clause-exact
returns-clause-exact g c told =
    let p = c.args.progress.now in
    let here = c.waiting.ensures in
    ap (λ bytes. option_map (command_found c.args.cluster bytes) c.next_command.result) (sym here)
    ∙ c.next_command.ensures.exact ∙ ap (next_command c.args.cluster p.room p.after_empty) here
    ∙ sym (next-enough c.args.cluster p.room p.after_empty _ _ c.requires.least (c.in_ok-want.ensures.enough told))
