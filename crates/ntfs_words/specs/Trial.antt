-- The words of ntfstrial, `SEED NAME`. The rule is ours.
use Rattle.std.specs.Prelude.{List, [], ◌∷◌, codes, Result, Ok}
use Rattle.clap.specs.Words.{App, Row, Text}
use Rattle.ntfs_base.specs.Frames.{◌>>=◌}
use Rattle.ntfs_words.specs.Line.{app_with, line_of, needed, word_of}
use Rattle.ntfs_words.specs.Values.{number_word}
use Rattle.ntfs_words.specs.declared.request.Request.{Request}
use Rattle.ntfs_words.specs.declared.request.Request.TheVariants as request
use Rattle.ntfs_words.specs.declared.request.WordsFault.{WordsFault}

-- the options and words
unfoldable pub trial_app : App
trial_app = app_with (codes "ntfstrial") (
    needed (codes "SEED") ∷
    needed (codes "NAME") ∷
    [])

-- what a line that is taken asks for
unfoldable pub trial_request : List Row → Result Request WordsFault
trial_request rows = do
  first ← word_of (codes "SEED") rows
  name ← word_of (codes "NAME") rows
  seed ← number_word first
  Ok (request.Trial seed name)

-- the words of ntfstrial
unfoldable pub trial_asked : List Text → Result Request WordsFault
trial_asked words = do
  rows ← line_of trial_app words
  trial_request rows
