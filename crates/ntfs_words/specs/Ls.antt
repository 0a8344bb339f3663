-- The words of ntfsls: flags, and the path of a directory. The options are those of the public ntfsprogs.
use Rattle.std.specs.Prelude.{List, [], ◌∷◌, codes, Result, Ok}
use Rattle.std.specs.Str.{byte}
use Rattle.clap.specs.Words.{App, Row, Text}
use Rattle.ntfs_base.specs.Frames.{◌>>=◌}
use Rattle.ntfs_words.specs.Line.{app_with, flag, is_on, line_of, needed, text_of, valued, word_of}
use Rattle.ntfs_words.specs.declared.request.Request.{Request}
use Rattle.ntfs_words.specs.declared.request.Request.TheVariants as request
use Rattle.ntfs_words.specs.declared.request.WordsFault.{WordsFault}

-- the options and words
unfoldable pub ls_app : App
ls_app = app_with (codes "ntfsls") (
    flag (byte "a") (codes "all") ∷
    flag (byte "i") (codes "inode") ∷
    flag (byte "F") (codes "classify") ∷
    flag (byte "R") (codes "recursive") ∷
    flag (byte "s") (codes "system") ∷
    flag (byte "x") (codes "dos") ∷
    valued (byte "p") (codes "path") ∷
    needed (codes "IMAGE") ∷
    [])

-- what a line that is taken asks for
unfoldable pub ls_request : List Row → Result Request WordsFault
ls_request rows = do
  image ← word_of (codes "IMAGE") rows
  Ok (request.Ls (is_on (codes "all") rows) (is_on (codes "inode") rows) (is_on (codes "classify") rows)
      (is_on (codes "recursive") rows) (is_on (codes "system") rows) (is_on (codes "dos") rows)
      (text_of (codes "path") rows) image)

-- the words of ntfsls
unfoldable pub ls_asked : List Text → Result Request WordsFault
ls_asked words = do
  rows ← line_of ls_app words
  ls_request rows
