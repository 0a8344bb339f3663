-- The words of ntfscluster: exactly one question about an image. The options are those of the public ntfsprogs; the
-- rule is ours.
use Rattle.std.specs.Prelude.{Bool, true, false, List, [], ◌∷◌, codes, is_some, Option, Some, None, Result, Ok, Err}
use Rattle.std.specs.Str.{byte}
use Rattle.clap.specs.Words.{App, Row, Text}
use Rattle.ntfs_base.specs.Frames.{must, ◌>>=◌}
use Rattle.ntfs_words.specs.Line.{app_with, flag, is_on, line_of, needed, text_of, valued, word_of}
use Rattle.ntfs_words.specs.Values.{combination, is_one, number_word, range_word}
use Rattle.ntfs_words.specs.declared.request.Request.{Request}
use Rattle.ntfs_words.specs.declared.request.Request.TheVariants as request
use Rattle.ntfs_words.specs.declared.request.Ask.{Ask}
use Rattle.ntfs_words.specs.declared.request.Ask.TheVariants as ask
use Rattle.ntfs_words.specs.declared.request.WordsFault.{WordsFault}

-- the options and words
unfoldable pub cluster_app : App
cluster_app = app_with (codes "ntfscluster") (
    flag (byte "i") (codes "info") ∷
    valued (byte "c") (codes "cluster") ∷
    valued (byte "I") (codes "inode") ∷
    valued (byte "F") (codes "filename") ∷
    needed (codes "IMAGE") ∷
    [])

-- what is asked of a record by its number
abbrev pub of_number : Text → Result Ask WordsFault
of_number text = do
  number ← number_word text
  Ok (ask.Number number)

-- what is asked of a range of clusters
abbrev pub of_range : Text → Result Ask WordsFault
of_range text = do
  range ← range_word text
  Ok (ask.Clusters range.0 range.1)

-- the question, of which one is given: about the volume, a range, a record's number, a path
unfoldable pub ask_in : Bool → Option Text → Option Text → Option Text → Result Ask WordsFault
ask_in true range number path = Ok ask.Info
ask_in false (Some range) number path = of_range range
ask_in false None (Some number) path = of_number number
ask_in false None None (Some path) = Ok (ask.Path path)
ask_in false None None None = Err combination

-- what a line that is taken asks for
unfoldable pub cluster_request : List Row → Result Request WordsFault
cluster_request rows = do
  image ← word_of (codes "IMAGE") rows
  one ← must (is_one (is_on (codes "info") rows ∷ is_some (text_of (codes "cluster") rows)
      ∷ is_some (text_of (codes "inode") rows) ∷ is_some (text_of (codes "filename") rows) ∷ [])) combination
  question ← ask_in (is_on (codes "info") rows) (text_of (codes "cluster") rows) (text_of (codes "inode") rows)
      (text_of (codes "filename") rows)
  Ok (request.Cluster question image)

-- the words of ntfscluster
unfoldable pub cluster_asked : List Text → Result Request WordsFault
cluster_asked words = do
  rows ← line_of cluster_app words
  cluster_request rows
