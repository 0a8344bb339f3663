-- The words of ntfsfix: an image and what is mended. `--rebuild` is ours, the other options are those of the public
-- ntfsprogs; which of them go together is our rule.
use Rattle.std.specs.Prelude.{◌&&◌, ◌||◌, List, [], ◌∷◌, codes, not, Result, Ok}
use Rattle.std.specs.Str.{byte}
use Rattle.clap.specs.Words.{App, Row, Text}
use Rattle.ntfs_base.specs.Frames.{must, ◌>>=◌}
use Rattle.ntfs_words.specs.Line.{app_with, flag, is_on, line_of, long_flag, needed, word_of}
use Rattle.ntfs_words.specs.Values.{combination}
use Rattle.ntfs_words.specs.declared.request.Request.{Request}
use Rattle.ntfs_words.specs.declared.request.Request.TheVariants as request
use Rattle.ntfs_words.specs.declared.request.WordsFault.{WordsFault}

-- the options and words
unfoldable pub fix_app : App
fix_app = app_with (codes "ntfsfix") (
    flag (byte "n") (codes "no-action") ∷
    flag (byte "d") (codes "clear-dirty") ∷
    flag (byte "b") (codes "clear-bad-sectors") ∷
    long_flag (codes "rebuild") ∷
    needed (codes "IMAGE") ∷
    [])

-- what a line that is taken asks for
unfoldable pub fix_request : List Row → Result Request WordsFault
fix_request rows = do
  image ← word_of (codes "IMAGE") rows
  fit ← must (not (is_on (codes "no-action") rows
      && (is_on (codes "rebuild") rows || is_on (codes "clear-bad-sectors") rows))) combination
  Ok (request.Fix (is_on (codes "no-action") rows) (is_on (codes "clear-dirty") rows)
      (is_on (codes "clear-bad-sectors") rows) (is_on (codes "rebuild") rows) image)

-- the words of ntfsfix
unfoldable pub fix_asked : List Text → Result Request WordsFault
fix_asked words = do
  rows ← line_of fix_app words
  fix_request rows
