-- The words of ntfsmake, `FILE SEED CLUSTERS CLUSTER`, and the ranges of a generated volume. The rule is ours.
use Rattle.std.specs.Prelude.{◌&&◌, ◌||◌, ◌==◌, ℕ, Bool, List, [], ◌∷◌, codes, Result, Ok, nat_le, if◌then◌else◌}
use Rattle.clap.specs.Words.{App, Row, Text}
use Rattle.ntfs_base.specs.Frames.{must, ◌>>=◌}
use Rattle.ntfs_words.specs.Line.{app_with, line_of, needed, word_of}
use Rattle.ntfs_words.specs.Values.{no_number, number_word}
use Rattle.ntfs_words.specs.declared.request.Request.{Request}
use Rattle.ntfs_words.specs.declared.request.Request.TheVariants as request
use Rattle.ntfs_words.specs.declared.request.WordsFault.{WordsFault}

-- the options and words
unfoldable pub make_app : App
make_app = app_with (codes "ntfsmake") (
    needed (codes "FILE") ∷
    needed (codes "SEED") ∷
    needed (codes "CLUSTERS") ∷
    needed (codes "CLUSTER") ∷
    [])

-- a power of two from 512 to 65,536
unfoldable pub is_cluster_size : ℕ → Bool
is_cluster_size c =
    c == 512 || c == 1024 || c == 2048 || c == 4096 || c == 8192 || c == 16384 || c == 32768 || c == 65536

-- from 1,024 clusters on, or 2,048 of 512 bytes, up to 1,048,576
unfoldable pub is_in_range : ℕ → ℕ → Bool
is_in_range clusters cluster =
    is_cluster_size cluster && (nat_le (if cluster == 512 then 2048 else 1024) clusters && nat_le clusters 1048576)

-- what a line that is taken asks for
unfoldable pub make_request : List Row → Result Request WordsFault
make_request rows = do
  file ← word_of (codes "FILE") rows
  first ← word_of (codes "SEED") rows
  second ← word_of (codes "CLUSTERS") rows
  third ← word_of (codes "CLUSTER") rows
  seed ← number_word first
  clusters ← number_word second
  cluster ← number_word third
  range ← must (is_in_range clusters cluster) no_number
  Ok (request.Make file seed clusters cluster)

-- the words of ntfsmake
unfoldable pub make_asked : List Text → Result Request WordsFault
make_asked words = do
  rows ← line_of make_app words
  make_request rows
