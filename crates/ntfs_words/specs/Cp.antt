-- The words of ntfscp: an image, a host file, and a record of the image by its path or its number. The options are
-- those of the public ntfsprogs; that the two host files have two names is our rule.
use Rattle.std.specs.Prelude.{Bool, true, false, List, [], ◌∷◌, codes, not, Result, Ok}
use Rattle.std.specs.Str.{byte, bytes_eq}
use Rattle.clap.specs.Words.{App, Row, Text}
use Rattle.ntfs_base.specs.Frames.{must, ◌>>=◌}
use Rattle.ntfs_words.specs.Line.{app_with, flag, is_on, line_of, needed, text_of, valued, word_of}
use Rattle.ntfs_words.specs.Values.{kind_in, number_word, same_name_usage}
use Rattle.ntfs_words.specs.declared.request.Request.{Request}
use Rattle.ntfs_words.specs.declared.request.Request.TheVariants as request
use Rattle.ntfs_words.specs.declared.request.Target.{Target}
use Rattle.ntfs_words.specs.declared.request.Target.TheVariants as target
use Rattle.ntfs_words.specs.declared.request.WordsFault.{WordsFault}

-- the options and words
unfoldable pub cp_app : App
cp_app = app_with (codes "ntfscp") (
    flag (byte "i") (codes "inode") ∷
    valued (byte "a") (codes "attribute") ∷
    valued (byte "N") (codes "attr-name") ∷
    flag (byte "n") (codes "no-action") ∷
    needed (codes "IMAGE") ∷
    needed (codes "SOURCE") ∷
    needed (codes "DEST") ∷
    [])

-- the record, whose last word is its path, or with `-i` its number
unfoldable pub cp_target : Bool → Text → Result Target WordsFault
cp_target false text = Ok (target.Path text)
cp_target true text = do
  number ← number_word text
  Ok (target.Number number)

-- what a line that is taken asks for
unfoldable pub cp_request : List Row → Result Request WordsFault
cp_request rows = do
  image ← word_of (codes "IMAGE") rows
  source ← word_of (codes "SOURCE") rows
  dest ← word_of (codes "DEST") rows
  stream ← cp_target (is_on (codes "inode") rows) dest
  kind ← kind_in (text_of (codes "attribute") rows)
  other ← must (not (bytes_eq image source)) same_name_usage
  Ok (request.Cp kind (text_of (codes "attr-name") rows) (is_on (codes "no-action") rows) image source stream)

-- the words of ntfscp
unfoldable pub cp_asked : List Text → Result Request WordsFault
cp_asked words = do
  rows ← line_of cp_app words
  cp_request rows
