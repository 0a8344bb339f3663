-- The words of ntfsclone: saving, restoring or copying, from a source to an output. The options are those of the
-- public ntfsprogs; which of them go together is our rule.
use Rattle.std.specs.Prelude.{◌&&◌, ◌||◌, Bool, false, List, [], ◌∷◌, codes, not, Option, Some, Result, Ok}
use Rattle.std.specs.Option.{option_or}
use Rattle.std.specs.Str.{byte, bytes_eq}
use Rattle.clap.specs.Words.{App, Row, Text}
use Rattle.ntfs_base.specs.Frames.{must, ◌>>=◌}
use Rattle.ntfs_words.specs.Line.{app_with, flag, is_given, is_on, line_of, optional, text_of, valued}
use Rattle.ntfs_words.specs.Values.{combination, same_name_usage}
use Rattle.ntfs_words.specs.declared.request.Request.{Request}
use Rattle.ntfs_words.specs.declared.request.Request.TheVariants as request
use Rattle.ntfs_words.specs.declared.request.WordsFault.{WordsFault}

-- the options and words
unfoldable pub clone_app : App
clone_app = app_with (codes "ntfsclone") (
    flag (byte "s") (codes "save-image") ∷
    flag (byte "r") (codes "restore-image") ∷
    valued (byte "o") (codes "output") ∷
    valued (byte "O") (codes "overwrite") ∷
    flag (byte "n") (codes "no-action") ∷
    flag (byte "f") (codes "force") ∷
    optional (codes "SOURCE") ∷
    [])

-- an output is named
unfoldable pub has_output : List Row → Bool
has_output rows = is_given (codes "output") rows || is_given (codes "overwrite") rows

-- options that don't go together: saving and restoring; two outputs; no action but where a restore has no output; and
-- force where nothing is saved or copied
unfoldable pub has_clash : List Row → Bool
has_clash rows =
    (is_on (codes "save-image") rows && is_on (codes "restore-image") rows)
    || ((is_given (codes "output") rows && is_given (codes "overwrite") rows)
    || ((is_on (codes "no-action") rows && (not (is_on (codes "restore-image") rows) || has_output rows))
    || (is_on (codes "force") rows && is_on (codes "restore-image") rows)))

-- something is missing: the output of a copy; that of a restore, but with no action; and the source, but of a restore
unfoldable pub has_gap : List Row → Bool
has_gap rows =
    (not (is_on (codes "save-image") rows) && (not (is_on (codes "restore-image") rows) && not (has_output rows)))
    || ((is_on (codes "restore-image") rows && (not (is_on (codes "no-action") rows) && not (has_output rows)))
    || (not (is_on (codes "restore-image") rows) && not (is_given (codes "SOURCE") rows)))

-- two names that are there and the same
unfoldable pub are_same : Option Text → Option Text → Bool
are_same (Some first) (Some second) = bytes_eq first second
are_same first second = false

-- the output's name
abbrev pub output_word : List Row → Option Text
output_word rows = option_or (text_of (codes "output") rows) (text_of (codes "overwrite") rows)

-- what a line that is taken asks for
unfoldable pub clone_request : List Row → Result Request WordsFault
clone_request rows = do
  fit ← must (not (has_clash rows || has_gap rows)) combination
  other ← must (not (are_same (text_of (codes "SOURCE") rows) (output_word rows))) same_name_usage
  Ok (request.Clone (is_on (codes "save-image") rows) (is_on (codes "restore-image") rows)
      (is_on (codes "no-action") rows) (is_on (codes "force") rows) (output_word rows)
      (is_given (codes "overwrite") rows) (text_of (codes "SOURCE") rows))

-- the words of ntfsclone
unfoldable pub clone_asked : List Text → Result Request WordsFault
clone_asked words = do
  rows ← line_of clone_app words
  clone_request rows
