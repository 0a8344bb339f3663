-- `ntfscat`: a stream of a record.
use Rattle.std.specs.Prelude.{◌≡◌, ℕ, true, List, [], Option, Some, None, Result, Ok}
use Rattle.ntfs_base.specs.Bytes.{cluster_at}
use Rattle.ntfs_base.specs.Frames.{refused_as, ◌>>=◌}
use Rattle.ntfs_base.specs.Shelf.{Files, file_of}
use Rattle.ntfs_base.specs.Sink.{SinkState, after_put}
use Rattle.ntfs_base.specs.declared.refusal.Named.TheVariants as named
use Rattle.ntfs_show.specs.Cat.{cat_outcome}
use Rattle.ntfs_stream.specs.StreamBytes.{bytes_of_stream, filled_stream, is_plain}
use Rattle.ntfs_upcase.specs.Names.{name_bytes}
use Rattle.ntfs_volume.specs.Opened.{Opened, opened_of}
use Rattle.ntfs_volume.specs.Streams.{Gathered, gather_of}
use Rattle.ntfs_words.specs.declared.request.Target.{Target}
use Rattle.ntfs_run.specs.Outcome.{show_status}
use Rattle.ntfs_run.specs.Place.{number_meant}
use Rattle.ntfs_run.specs.declared.status.Status.{Status}
use Rattle.ntfs_run.specs.declared.status.Status.TheVariants as status

-- the name of a stream in UTF-16LE; without a text it has none
abbrev pub stream_name : Option (List ℕ) → List ℕ
stream_name None = []
stream_name (Some text) = name_bytes text

-- the bytes of the stream of this type and name of the record that is meant of a volume, whose image has these bytes
unfoldable pub cat_bytes : Target → ℕ → List ℕ → Opened → List ℕ → Result (List ℕ) Status
cat_bytes place kind name volume image = do
  number ← number_meant place volume image
  refused_as show_status (cat_outcome volume image number kind name)

-- the refusals of the tool, once its words are taken
abbrev pub CatRefuses : Status → Type 0
CatRefuses (status.Absent named.Image) = Unit {0}
CatRefuses status.NotNtfs = Unit {0}
CatRefuses (status.BadGeometry field value) = Unit {0}
CatRefuses (status.ImageShort len need) = Unit {0}
CatRefuses (status.Damaged rule number) = Unit {0}
CatRefuses (status.NotFound what) = Unit {0}
CatRefuses (status.NotPlain flags) = Unit {0}
CatRefuses status.ReadFault = Unit {0}
CatRefuses status.WriteFault = Unit {0}
CatRefuses status.NoMemory = Unit {0}
CatRefuses other = ⊥

-- the bytes of the stream of this type and name of the record that is meant: the volume opens, the record is there by
-- its number or its path, the stream is gathered from whichever records hold its extents, it is plain, and its bytes
-- are those of its clusters, with zeros in holes and from the initialised size on (the Linux-NTFS documentation,
-- "$ATTRIBUTE_LIST" and "Attribute Header")
pub record IsStreamOf (image : List ℕ) (place : Target) (kind : ℕ) (name bytes : List ℕ) : Type 0 where
  pub volume : Opened
  pub number : ℕ
  pub found : Gathered ℕ
  pub opened : opened_of image ≡ Ok volume
  pub meant : number_meant place volume image ≡ Ok number
  pub gathered : gather_of volume.geometry volume.map (cluster_at image volume.geometry.cluster) number kind name
      ≡ Ok found
  pub plain : is_plain found.stream.flags ≡ true
  pub whole : bytes ≡ bytes_of_stream volume.geometry.cluster (filled_stream volume.geometry image found.stream)

-- the bytes of the stream of a record of the image of a name were put
pub record PutsStream (file : List ℕ) (place : Target) (kind : ℕ) (name : List ℕ) (files : Files)
    (old new : SinkState) : Type 0 where
  pub image : List ℕ
  pub bytes : List ℕ
  pub held : file_of files file ≡ Some image
  pub stream : IsStreamOf image place kind name bytes
  pub put : new ≡ after_put bytes old
