-- What ntfscat puts: where its work was done, the stream of the record.
use Rattle.std.proofs.Common.{◌≡◌, ℕ, true, List, refl, sym, ap, ◌∙◌, Result, Ok, Err, Option, Some, None, ok_or}
use Rattle.ntfs_base.specs.Bytes.{cluster_at}
use Rattle.ntfs_base.specs.Frames.{must, refused_as, ◌>>=◌}
use Rattle.ntfs_base.specs.Shelf.{Files, file_of}
use Rattle.ntfs_base.specs.Sink.{SinkState, after_put}
use Rattle.ntfs_base.specs.declared.refusal.Named.TheVariants as named
use Rattle.ntfs_show.specs.Cat.{cat_outcome, gathered_stream}
use Rattle.ntfs_print.specs.Fault.{gather_refusal, stream_refusal}
use Rattle.ntfs_print.specs.Printing.{Printing, end_of, printing_of}
use Rattle.ntfs_print.specs.declared.fault.ShowFault.{ShowFault}
use Rattle.ntfs_print.specs.declared.fault.ShowFault.TheVariants as show
use Rattle.ntfs_stream.specs.StreamBytes.{is_plain, stream_outcome}
use Rattle.ntfs_stream.specs.declared.fault.StreamFault.TheVariants as stream
use Rattle.ntfs_volume.specs.Fault.{volume_origin}
use Rattle.ntfs_volume.specs.Opened.{Opened, opened_of}
use Rattle.ntfs_volume.specs.Streams.{gather_of}
use Rattle.ntfs_volume.specs.declared.fault.VolumeFault.{VolumeFault}
use Rattle.ntfs_volume.specs.declared.fault.VolumeFault.TheVariants as volume
use Rattle.ntfs_words.specs.declared.request.Request.{Request}
use Rattle.ntfs_words.specs.declared.request.Request.TheVariants as request
use Rattle.ntfs_directory.specs.Paths.{path_of}
use Rattle.ntfs_directory.specs.declared.path_fault.PathFault.{PathFault}
use Rattle.ntfs_directory.specs.declared.path_fault.PathFault.TheVariants as path
use Rattle.ntfs_words.specs.declared.request.Target.{Target}
use Rattle.ntfs_words.specs.declared.request.Target.TheVariants as target
use Rattle.ntfs_run.specs.Place.{path_number, number_meant}
use Rattle.ntfs_words.specs.declared.request.WordsFault.{WordsFault}
use Rattle.ntfs_run.specs.Cat.{IsStreamOf, PutsStream, cat_bytes, stream_name}
use Rattle.ntfs_run.specs.Outcome.{Does, path_status, show_status, status_of, status_origin, volume_status}
use Rattle.ntfs_run.specs.Reply.{PutsIfCat, outcome_for, reads_input}
use Rattle.ntfs_run.specs.Show.{image_printing, volume_printing}
use Rattle.ntfs_show.specs.RecordInfo.{printing_after}
use Rattle.ntfs_run.specs.declared.status.Status.{Status}
use Rattle.ntfs_run.specs.declared.status.Status.TheVariants as status
use Rattle.ntfs_run.proofs.ToolLemmas.{bind_ok, must_ok, refused_ok}

-- ---- the opening of the volume

pub volume-origin : (fault : VolumeFault) → status_origin (volume_status fault) ≡ volume_origin fault
volume-origin volume.NotNtfs = refl
volume-origin (volume.BadGeometry field value) = refl
volume-origin (volume.ImageShort len need) = refl
volume-origin (volume.Damaged rule number) = refl
volume-origin volume.ReadFault = refl
volume-origin volume.WriteFault = refl
volume-origin volume.NoMemory = refl
volume-origin volume.Absent = refl
volume-origin volume.NoAttribute = refl

-- ---- the stream of a record

the_same : {E : Type 0} (r : Result (List ℕ) E) (a b : List ℕ) → r ≡ Ok a → r ≡ Ok b → b ≡ a
the_same r a b one other = cc

-- what the outcome shows is the bytes of the stream
stream_is_told : (image : List ℕ) (volume : Opened) (place : Target) (kind : ℕ) (name bytes : List ℕ) → opened_of image ≡ Ok volume
    → cat_bytes place kind name volume image ≡ Ok bytes → IsStreamOf image place kind name bytes
unfolding cat_bytes cat_outcome stream_outcome
stream_is_told image volume place kind name bytes opened is =
    let meant = bind_ok (number_meant place volume image) (λ number. refused_as show_status (cat_outcome volume image number kind name)) bytes is in
    let number = meant.0 in
    let shown = refused_ok show_status (cat_outcome volume image number kind name) bytes meant.2 in
    let gathered = bind_ok (gathered_stream volume image number kind name) _ bytes shown in
    let found = gathered.0 in
    let told = refused_ok stream_refusal (stream_outcome volume.geometry image found.stream) bytes gathered.2 in
    let plain = bind_ok (must (is_plain found.stream.flags) (stream.NotPlain found.stream.flags)) _ bytes told in
    record {
      volume = volume;
      number = number;
      found = found;
      opened = opened;
      meant = meant.1;
      gathered = refused_ok (gather_refusal number) (gather_of volume.geometry volume.map (cluster_at image volume.geometry.cluster) number kind name) found gathered.1;
      plain = must_ok (is_plain found.stream.flags) (stream.NotPlain found.stream.flags) plain.0 plain.1;
      whole = the_same _ _ bytes refl plain.2;
    }

-- ---- where the work was done

done_show : (fault : ShowFault) → show_status fault ≡ status.Done → ⊥
done_show (show.NotFound what) is = cc
done_show (show.NotPlain flags) is = cc
done_show (show.Damaged rule number) is = cc
done_show show.ReadFault is = cc
done_show show.WriteFault is = cc
done_show show.NoMemory is = cc

done_volume : (fault : VolumeFault) → volume_status fault ≡ status.Done → ⊥
done_volume volume.NotNtfs is = cc
done_volume (volume.BadGeometry field value) is = cc
done_volume (volume.ImageShort len need) is = cc
done_volume (volume.Damaged rule number) is = cc
done_volume volume.ReadFault is = cc
done_volume volume.WriteFault is = cc
done_volume volume.NoMemory is = cc
done_volume volume.Absent is = cc
done_volume volume.NoAttribute is = cc

done_shown : (outcome : Result (List ℕ) ShowFault) → refused_as show_status outcome ≡ Err status.Done → ⊥
done_shown (Ok bytes) is = cc
done_shown (Err fault) is = done_show fault cc

done_path : (fault : PathFault) → path_status fault ≡ status.Done → ⊥
done_path (path.NotFound what) is = cc
done_path (path.Damaged rule number) is = cc
done_path path.ReadFault is = cc
done_path path.NoMemory is = cc

done_at : (r : Result ℕ PathFault) → refused_as path_status r ≡ Err status.Done → ⊥
done_at (Ok number) is = cc
done_at (Err fault) is = done_path fault cc

done_meant : (place : Target) (volume : Opened) (image : List ℕ) → number_meant place volume image ≡ Err status.Done → ⊥
unfolding path_number
done_meant (target.Number number) volume image is = cc
done_meant (target.Path path) volume image is = done_at (path_of volume.geometry volume.map image path) is

done_then : {A B : Type 0} (r : Result A Status) (f : A → Result B Status) → (r ≡ Err status.Done → ⊥) → ((x : A) → f x ≡ Err status.Done → ⊥)
    → (r >>= f) ≡ Err status.Done → ⊥
done_then (Ok x) f first rest is = rest x is
done_then (Err fault) f first rest is = first (let same : fault ≡ status.Done = cc in ap Err same)

no_refusal : (place : Target) (kind : ℕ) (name : List ℕ) (volume : Opened) (image : List ℕ) → cat_bytes place kind name volume image ≡ Err status.Done → ⊥
unfolding cat_bytes
no_refusal place kind name volume image is =
    done_then (number_meant place volume image) (λ number. refused_as show_status (cat_outcome volume image number kind name))
    (done_meant place volume image) (λ number. done_shown (cat_outcome volume image number kind name)) is

-- all of it was put, and it ended without a refusal
abbrev IsDone : Printing Status → SinkState → SinkState → Type 0
IsDone printing before after = (status.Done ≡ status_of (end_of printing.fault)) × (after ≡ after_put printing.output before)

module _ (file : List ℕ) (place : Target) (kind : ℕ) (name : Option (List ℕ)) (files : Files) (before after : SinkState) where
  bytes_done : (image : List ℕ) (volume : Opened) → file_of files file ≡ Some image → opened_of image ≡ Ok volume
      → (r : Result (List ℕ) Status) → cat_bytes place kind (stream_name name) volume image ≡ r → IsDone (printing_of r) before after
      → PutsStream file place kind (stream_name name) files before after
  bytes_done image volume held opened (Ok bytes) is done = record {
    image = image;
    bytes = bytes;
    held = held;
    stream = stream_is_told image volume place kind (stream_name name) bytes opened is;
    put = done.1;
  }
  bytes_done image volume held opened (Err fault) is done =
      absurd (no_refusal place kind (stream_name name) volume image (is ∙ ap Err (sym done.0)))

  volume_done : (image : List ℕ) → file_of files file ≡ Some image → (r : Result Opened VolumeFault) → opened_of image ≡ r
      → IsDone (printing_after (refused_as volume_status r) (λ volume. printing_of (cat_bytes place kind (stream_name name) volume image))) before after
      → PutsStream file place kind (stream_name name) files before after
  volume_done image held (Ok volume) opened done = bytes_done image volume held opened (cat_bytes place kind (stream_name name) volume image) refl done
  volume_done image held (Err fault) opened done = absurd (done_volume fault (sym done.0))

  file_done : (o : Option (List ℕ)) → file_of files file ≡ o
      → IsDone (printing_after (ok_or o (status.Absent named.Image)) (image_printing (request.Cat place kind name file))) before after
      → PutsStream file place kind (stream_name name) files before after
  unfolding image_printing volume_printing
  file_done (Some image) held done = volume_done image held (opened_of image) refl done
  file_done None held done = absurd cc

-- ntfscat puts the stream, of whatever words it was told
cat_stream : (file : List ℕ) (place : Target) (kind : ℕ) (name : Option (List ℕ)) (s : Status) (files left : Files) (input : List ℕ) (before after : SinkState)
    → Does (outcome_for (Ok (request.Cat place kind name file)) files input) s before after left
    → PutsIfCat (Ok (request.Cat place kind name file)) s files before after
cat_stream file place kind name status.Done files left input before after does =
    file_done file place kind name files before after (file_of files file) refl (does.status tt, does.output tt)
cat_stream file place kind name other files left input before after does = tt

-- it reads no input
pub puts_stream : (reading : Result Request WordsFault) (s : Status) (files left : Files) (input : List ℕ) (told : Type 0) (before after : SinkState)
    → ((reads_input reading ≡ true → told) → Does (outcome_for reading files input) s before after left) → PutsIfCat reading s files before after
puts_stream (Ok (request.Cat place kind name file)) s files left input told before after does =
    cat_stream file place kind name s files left input before after (does (λ reads. absurd cc))
puts_stream other s files left input told before after does = tt
