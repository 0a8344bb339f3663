-- The words of ntfscat: a record by its number or its path, and a stream of it. The options are those of the public
-- ntfsprogs; that exactly one of number and path is given is our rule.
use Rattle.std.specs.Prelude.{List, [], ◌∷◌, codes, Option, Some, None, Result, Ok, Err}
use Rattle.std.specs.Str.{byte}
use Rattle.clap.specs.Words.{App, Row, Text}
use Rattle.ntfs_base.specs.Frames.{◌>>=◌}
use Rattle.ntfs_words.specs.Line.{app_with, line_of, needed, optional, text_of, valued, word_of}
use Rattle.ntfs_words.specs.Values.{combination, kind_in, number_word}
use Rattle.ntfs_words.specs.declared.request.Request.{Request}
use Rattle.ntfs_words.specs.declared.request.Request.TheVariants as request
use Rattle.ntfs_words.specs.declared.request.Target.{Target}
use Rattle.ntfs_words.specs.declared.request.Target.TheVariants as target
use Rattle.ntfs_words.specs.declared.request.WordsFault.{WordsFault}

-- the options and words
unfoldable pub cat_app : App
cat_app = app_with (codes "ntfscat") (
    valued (byte "i") (codes "inode") ∷
    valued (byte "a") (codes "attribute") ∷
    valued (byte "n") (codes "attribute-name") ∷
    needed (codes "IMAGE") ∷
    optional (codes "FILE") ∷
    [])

-- the record, by exactly one of its number and its path
unfoldable pub cat_target : Option Text → Option Text → Result Target WordsFault
cat_target (Some number) None = do
  value ← number_word number
  Ok (target.Number value)
cat_target None (Some path) = Ok (target.Path path)
cat_target number path = Err combination

-- what a line that is taken asks for
unfoldable pub cat_request : List Row → Result Request WordsFault
cat_request rows = do
  image ← word_of (codes "IMAGE") rows
  stream ← cat_target (text_of (codes "inode") rows) (text_of (codes "FILE") rows)
  kind ← kind_in (text_of (codes "attribute") rows)
  Ok (request.Cat stream kind (text_of (codes "attribute-name") rows) image)

-- the words of ntfscat
unfoldable pub cat_asked : List Text → Result Request WordsFault
cat_asked words = do
  rows ← line_of cat_app words
  cat_request rows
