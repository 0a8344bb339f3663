-- The words of ntfsinfo: `[-m|--mft] [-i|--inode NUM] IMAGE`, with exactly one option. The rule is ours.
use Rattle.std.specs.Prelude.{List, [], ◌∷◌, codes, is_some, Result, Ok}
use Rattle.std.specs.Str.{byte}
use Rattle.clap.specs.Words.{App, Row, Text}
use Rattle.ntfs_base.specs.Frames.{must, ◌>>=◌}
use Rattle.ntfs_words.specs.Line.{app_with, flag, is_on, line_of, needed, text_of, valued, word_of}
use Rattle.ntfs_words.specs.Values.{combination, is_one, number_in}
use Rattle.ntfs_words.specs.declared.request.Request.{Request}
use Rattle.ntfs_words.specs.declared.request.Request.TheVariants as request
use Rattle.ntfs_words.specs.declared.request.WordsFault.{WordsFault}

-- the options and words
unfoldable pub info_app : App
info_app = app_with (codes "ntfsinfo") (
    flag (byte "m") (codes "mft") ∷
    valued (byte "i") (codes "inode") ∷
    needed (codes "IMAGE") ∷
    [])

-- what a line that is taken asks for
unfoldable pub info_request : List Row → Result Request WordsFault
info_request rows = do
  image ← word_of (codes "IMAGE") rows
  one ← must (is_one (is_on (codes "mft") rows ∷ is_some (text_of (codes "inode") rows) ∷ [])) combination
  number ← number_in (text_of (codes "inode") rows)
  Ok (request.Info (is_on (codes "mft") rows) number image)

-- the words of ntfsinfo
unfoldable pub info_asked : List Text → Result Request WordsFault
info_asked words = do
  rows ← line_of info_app words
  info_request rows
