-- The words of ntfsresize: an image and its new size. The options are those of the public ntfsprogs; that `-i` stands
-- alone is our rule.
use Rattle.std.specs.Prelude.{◌&&◌, ◌||◌, List, [], ◌∷◌, codes, not, Result, Ok}
use Rattle.std.specs.Str.{byte}
use Rattle.clap.specs.Words.{App, Row, Text}
use Rattle.ntfs_base.specs.Frames.{must, ◌>>=◌}
use Rattle.ntfs_words.specs.Line.{app_with, flag, is_given, is_on, line_of, needed, text_of, valued, word_of}
use Rattle.ntfs_words.specs.Values.{combination, size_in}
use Rattle.ntfs_words.specs.declared.request.Request.{Request}
use Rattle.ntfs_words.specs.declared.request.Request.TheVariants as request
use Rattle.ntfs_words.specs.declared.request.WordsFault.{WordsFault}

-- the options and words
unfoldable pub resize_app : App
resize_app = app_with (codes "ntfsresize") (
    flag (byte "i") (codes "info") ∷
    valued (byte "s") (codes "size") ∷
    flag (byte "n") (codes "no-action") ∷
    flag (byte "f") (codes "force") ∷
    needed (codes "IMAGE") ∷
    [])

-- what a line that is taken asks for
unfoldable pub resize_request : List Row → Result Request WordsFault
resize_request rows = do
  image ← word_of (codes "IMAGE") rows
  alone ← must (not (is_on (codes "info") rows && (is_given (codes "size") rows
      || (is_on (codes "no-action") rows || is_on (codes "force") rows)))) combination
  size ← size_in (text_of (codes "size") rows)
  Ok (request.Resize (is_on (codes "info") rows) (is_on (codes "no-action") rows) (is_on (codes "force") rows) size
      image)

-- the words of ntfsresize
unfoldable pub resize_asked : List Text → Result Request WordsFault
resize_asked words = do
  rows ← line_of resize_app words
  resize_request rows
