use Rattle.std.proofs.Common.{ap, sym, Ok}
use Rattle.clap.specs.Words.{app_of}
use Rattle.ntfs_words.specs.Line.{line_of}
use Rattle.ntfs_words.proofs.LineLemmas.{free_is_simple}
use Rattle.ntfs_words.proofs.line.read_line.Goals as goal

pub returns-in-Ok : goal.returns-in-Ok
unfolding line_of
returns-in-Ok c =
    let none = c.in-Ok.ensures.kinds c.requires in
    let rows = c.in-Ok.ensures.matches (free_is_simple (app_of c.args.command) c.requires) in
    rw none (ap Ok (sym rows.0))
