-- What the tools that only show print, of the image that is there or not, and of its volume.
use Rattle.std.proofs.Common.{◌≡◌, ℕ, true, false, List, refl, sym, ap, subst, ◌∙◌, arith, Result, Ok, Err, Option, Some, None, IfErr, ok_or}
use Rattle.std.proofs.lemmas.Result.{IfErr-weaker}
use Rattle.std.specs.Option.{option_map}
use Rattle.ntfs_base.specs.Frames.{IsSettled, refused_as, ◌>>=◌}
use Rattle.ntfs_base.specs.Shelf.{Files, file_of}
use Rattle.ntfs_base.specs.Sink.{SinkState, after_put}
use Rattle.ntfs_base.specs.declared.refusal.Named.TheVariants as named
use Rattle.ntfs_base.proofs.FramesLemmas.{gives_as}
use Rattle.ntfs_base.proofs.SinkLemmas.{after_put-nil}
use Rattle.ntfs_boot.specs.Geometry.{image_origin, volume_geometry}
use Rattle.ntfs_boot.specs.declared.volume.ImageFault.{ImageFault}
use Rattle.ntfs_boot.specs.declared.volume.ImageFault.TheVariants as image
use Rattle.ntfs_show.specs.Info.{info_lines}
use Rattle.ntfs_print.specs.Printing.{Printing, Prints, end_of, printing_of, stops}
use Rattle.ntfs_volume.specs.Fault.{volume_origin}
use Rattle.ntfs_volume.specs.Opened.{Opened, opened_of}
use Rattle.ntfs_volume.specs.declared.fault.VolumeFault.{VolumeFault}
use Rattle.ntfs_volume.specs.declared.fault.VolumeFault.TheVariants as volume
use Rattle.ntfs_words.specs.declared.request.Request.{Request}
use Rattle.ntfs_words.specs.declared.request.Request.TheVariants as request
use Rattle.ntfs_show.specs.Cat.{cat_outcome}
use Rattle.ntfs_words.specs.declared.request.Target.{Target}
use Rattle.ntfs_run.specs.Place.{number_meant}
use Rattle.ntfs_run.specs.Cat.{CatRefuses, cat_bytes}
use Rattle.ntfs_owners.specs.Owners.{owners_outcome}
use Rattle.ntfs_owners.specs.declared.owner_query.OwnerQuery.{OwnerQuery}
use Rattle.ntfs_words.specs.declared.request.Ask.{Ask}
use Rattle.ntfs_run.specs.Cluster.{ClusterRefuses, owner_lines, query_of}
use Rattle.ntfs_run.specs.Info.{GeometryRefuses, RecordRefuses, image_lines}
use Rattle.ntfs_run.specs.Ls.{ListRefuses}
use Rattle.ntfs_run.specs.Outcome.{image_status, show_status, status_origin, volume_status}
use Rattle.ntfs_run.specs.Show.{ShowRefuses, asks_geometry, image_printing, volume_printing}
use Rattle.ntfs_show.specs.RecordInfo.{printing_after}
use Rattle.ntfs_print.specs.Fault.{show_origin}
use Rattle.ntfs_print.specs.declared.fault.ShowFault.{ShowFault}
use Rattle.ntfs_print.specs.declared.fault.ShowFault.TheVariants as show
use Rattle.ntfs_run.specs.Shown.{of_file, of_volume, with_status}
use Rattle.ntfs_run.specs.declared.status.Status.{Status}
use Rattle.ntfs_run.specs.declared.status.Status.TheVariants as status
use Rattle.ntfs_run.proofs.CatLemmas.{volume-origin}

-- ---- nothing was printed

pub prints_none : (expected : Printing Status) (fault : Status) (sink : SinkState) → (IsSettled (status_origin fault) → expected ≡ stops fault)
    → Prints status_origin expected sink (Err fault) sink
prints_none expected fault sink is = record {
  answer = λ settled. sym (ap (λ printing. end_of printing.fault) (is settled));
  output = λ settled. sym (ap (λ printing. after_put printing.output sink) (is settled) ∙ after_put-nil sink);
  prefix = (0, omega arith, sym (after_put-nil sink));
}

-- ---- what is printed with refusals of its own

show-origins : (fault : ShowFault) → status_origin (show_status fault) ≡ show_origin fault
show-origins (show.NotFound what) = refl
show-origins (show.NotPlain flags) = refl
show-origins (show.Damaged rule number) = refl
show-origins show.ReadFault = refl
show-origins show.WriteFault = refl
show-origins show.NoMemory = refl

end_err : (o : Option ShowFault) (fault : ShowFault) → Err fault ≡ end_of o → Err (show_status fault) ≡ end_of (option_map show_status o)
end_err None fault is = absurd cc
end_err (Some e) fault is = let same : fault ≡ e = cc in ap (λ e. Err (show_status e)) same

end_ok : (o : Option ShowFault) → Ok tt ≡ end_of o → Ok tt ≡ end_of (option_map show_status o)
end_ok None is = refl
end_ok (Some e) is = absurd cc

pub prints_err : (printing : Printing ShowFault) (fault : ShowFault) (before after : SinkState) → Prints show_origin printing before (Err fault) after
    → Prints status_origin (with_status printing) before (Err (show_status fault)) after
prints_err printing fault before after is = record {
  answer = λ settled. end_err printing.fault fault (is.answer (subst IsSettled (show-origins fault) settled));
  output = λ settled. is.output (subst IsSettled (show-origins fault) settled);
  prefix = is.prefix;
}

pub prints_ok : (printing : Printing ShowFault) (before after : SinkState) → Prints show_origin printing before (Ok tt) after
    → Prints status_origin (with_status printing) before (Ok tt) after
prints_ok printing before after is =
    record { answer = λ settled. end_ok printing.fault (is.answer tt); output = λ settled. is.output tt; prefix = is.prefix }

-- ---- the image of a name

pub held : (name : List ℕ) (files : Files) (shown : List ℕ → Printing Status) (image : List ℕ) → ok_or (file_of files name) (status.Absent named.Image) ≡ Ok image
    → of_file name files shown ≡ shown image
held name files shown image is = ap (λ r. printing_after r shown) is

pub absent : (name : List ℕ) (files : Files) (shown : List ℕ → Printing Status) (fault : Status) → ok_or (file_of files name) (status.Absent named.Image) ≡ Err fault
    → of_file name files shown ≡ stops fault
absent name files shown fault is = ap (λ r. printing_after r shown) is

-- ---- its volume

pub opened : (image : List ℕ) (shown : Opened → Printing Status) (v : Opened) → opened_of image ≡ Ok v → of_volume image shown ≡ shown v
opened image shown v is = ap (λ r. printing_after (refused_as volume_status r) shown) is

pub unopened : (image : List ℕ) (shown : Opened → Printing Status) (fault : VolumeFault) → (IsSettled (volume_origin fault) → opened_of image ≡ Err fault)
    → IsSettled (status_origin (volume_status fault)) → of_volume image shown ≡ stops (volume_status fault)
unopened image shown fault is settled =
    ap (λ r. printing_after r shown) (gives_as volume_origin status_origin volume_status volume-origin (opened_of image) fault is settled)

-- ---- the geometry

image-origins : (fault : ImageFault) → status_origin (image_status fault) ≡ image_origin fault
image-origins image.NotNtfs = refl
image-origins (image.BadGeometry field value) = refl
image-origins (image.ImageShort len need) = refl
image-origins image.ReadFault = refl

-- nothing is put of an image whose geometry is refused
pub lines_refused : (image : List ℕ) (fault : ImageFault) → (IsSettled (image_origin fault) → volume_geometry image ≡ Err fault)
    → IsSettled (status_origin (image_status fault)) → image_lines image ≡ Err (image_status fault)
unfolding image_lines
lines_refused image fault is settled =
    ap (λ r. r >>= (λ geometry. Ok (info_lines geometry))) (gives_as image_origin status_origin image_status image-origins (volume_geometry image) fault is settled)

-- what a request prints of an image, by what it asks
pub geometry_printing : (r : Request) (bytes : List ℕ) → asks_geometry r ≡ true → image_printing r bytes ≡ printing_of (image_lines bytes)
unfolding image_printing
geometry_printing r bytes is = rw is refl

pub opened_printing : (r : Request) (bytes : List ℕ) → asks_geometry r ≡ false
    → image_printing r bytes ≡ of_volume bytes (λ volume. volume_printing r volume bytes)
unfolding image_printing
opened_printing r bytes is = rw is refl

-- ---- refusals

record_opening : (fault : VolumeFault) → RecordRefuses (volume_status fault)
record_opening volume.NotNtfs = tt
record_opening (volume.BadGeometry field value) = tt
record_opening (volume.ImageShort len need) = tt
record_opening (volume.Damaged rule number) = tt
record_opening volume.ReadFault = tt
record_opening volume.WriteFault = tt
record_opening volume.NoMemory = tt
record_opening volume.Absent = tt
record_opening volume.NoAttribute = tt

list_opening : (fault : VolumeFault) → ListRefuses (volume_status fault)
list_opening volume.NotNtfs = tt
list_opening (volume.BadGeometry field value) = tt
list_opening (volume.ImageShort len need) = tt
list_opening (volume.Damaged rule number) = tt
list_opening volume.ReadFault = tt
list_opening volume.WriteFault = tt
list_opening volume.NoMemory = tt
list_opening volume.Absent = tt
list_opening volume.NoAttribute = tt

cat_opening : (fault : VolumeFault) → CatRefuses (volume_status fault)
cat_opening volume.NotNtfs = tt
cat_opening (volume.BadGeometry field value) = tt
cat_opening (volume.ImageShort len need) = tt
cat_opening (volume.Damaged rule number) = tt
cat_opening volume.ReadFault = tt
cat_opening volume.WriteFault = tt
cat_opening volume.NoMemory = tt
cat_opening volume.Absent = tt
cat_opening volume.NoAttribute = tt

cluster_opening : (fault : VolumeFault) → ClusterRefuses (volume_status fault)
cluster_opening volume.NotNtfs = tt
cluster_opening (volume.BadGeometry field value) = tt
cluster_opening (volume.ImageShort len need) = tt
cluster_opening (volume.Damaged rule number) = tt
cluster_opening volume.ReadFault = tt
cluster_opening volume.WriteFault = tt
cluster_opening volume.NoMemory = tt
cluster_opening volume.Absent = tt
cluster_opening volume.NoAttribute = tt

-- of the volume
pub open_refuses : (r : Request) (fault : VolumeFault) → asks_geometry r ≡ false → ShowRefuses r (volume_status fault)
open_refuses (request.Info mft None image) fault is = absurd cc
open_refuses (request.Info mft (Some number) image) fault is = record_opening fault
open_refuses (request.Ls all numbers classify recursive system dos path image) fault is = list_opening fault
open_refuses (request.Cat place kind name image) fault is = cat_opening fault
open_refuses (request.Cluster question image) fault is = cluster_opening fault
open_refuses other fault is = tt

geometry_shows : (r : Request) (fault : Status) → asks_geometry r ≡ true → GeometryRefuses fault → ShowRefuses r fault
geometry_shows (request.Info mft None image) fault is refused = refused
geometry_shows other fault is refused = absurd cc

pub geometry_refuses : (r : Request) (result : Result (Unit {0}) Status) → asks_geometry r ≡ true → IfErr result GeometryRefuses → IfErr result (ShowRefuses r)
geometry_refuses r result is refused = IfErr-weaker result _ _ (λ fault. geometry_shows r fault is) refused

-- ---- the record that is meant

pub unmeant_bytes : (place : Target) (kind : ℕ) (name : List ℕ) (volume : Opened) (image : List ℕ) (fault : Status)
    → number_meant place volume image ≡ Err fault → cat_bytes place kind name volume image ≡ Err fault
unfolding cat_bytes
unmeant_bytes place kind name volume image fault is = ap (λ r. r >>= (λ number. refused_as show_status (cat_outcome volume image number kind name))) is

pub meant_bytes : (place : Target) (kind : ℕ) (name : List ℕ) (volume : Opened) (image : List ℕ) (number : ℕ)
    → number_meant place volume image ≡ Ok number → cat_bytes place kind name volume image ≡ refused_as show_status (cat_outcome volume image number kind name)
unfolding cat_bytes
meant_bytes place kind name volume image number is = ap (λ r. r >>= (λ number. refused_as show_status (cat_outcome volume image number kind name))) is

-- ---- the question about owners

pub unasked_lines : (question : Ask) (volume : Opened) (image : List ℕ) (fault : Status)
    → query_of question volume image ≡ Err fault → owner_lines question volume image ≡ Err fault
unfolding owner_lines
unasked_lines question volume image fault is = ap (λ r. r >>= (λ asks. refused_as show_status (owners_outcome volume image asks))) is

pub asked_lines : (question : Ask) (volume : Opened) (image : List ℕ) (query : OwnerQuery)
    → query_of question volume image ≡ Ok query → owner_lines question volume image ≡ refused_as show_status (owners_outcome volume image query)
unfolding owner_lines
asked_lines question volume image query is = ap (λ r. r >>= (λ asks. refused_as show_status (owners_outcome volume image asks))) is
