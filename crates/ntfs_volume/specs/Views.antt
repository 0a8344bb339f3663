-- What views of a record show of its attributes, wherever they stand. The words are ours.
use Rattle.std.specs.Prelude.{◌==◌, ◌&&◌, not, Bool, List, ℕ}
use Rattle.std.specs.Str.{bytes_eq}
use Rattle.ntfs_record.specs.FileRecord.{Attribute, Laid}
use Rattle.ntfs_record.specs.Views.{Shown, shown_attribute, shown_body}
use Rattle.ntfs_record.specs.declared.attribute.AttributeView.{AttributeView}
use Rattle.ntfs_volume.specs.MftMap.{is_data}
use Rattle.ntfs_volume.specs.declared.wanted.Wanted.{Wanted}
use Rattle.ntfs_volume.specs.declared.wanted.Wanted.TheVariants as wanted

-- what is shown of an attribute, with no place
abbrev pub told : Attribute (Laid (List ℕ)) → Shown
told a = shown_attribute 0 a

-- what a view shows, with no place
abbrev pub told_view : AttributeView → Shown
told_view view = record {
  place = 0;
  kind = view.kind;
  name = view.name.now;
  flags = view.flags;
  instance = view.instance;
  body = shown_body view.body;
}

-- an attribute is the one that is wanted
abbrev pub is_wanted : Wanted → Shown → Bool
is_wanted wanted.List shown = shown.kind == 0x20
is_wanted wanted.First shown =
    is_data shown.kind shown.name && (not shown.body.is_resident && (shown.body.lowest == 0))
is_wanted (wanted.Extent lowest instance) shown =
    is_data shown.kind shown.name && ((shown.body.lowest == lowest) && (shown.instance == instance))

-- what is shown of an attribute, without its place
abbrev pub unplaced : Shown → Shown
unplaced s = record { place = 0; kind = s.kind; name = s.name; flags = s.flags; instance = s.instance; body = s.body }

-- an attribute is a list of this name
abbrev pub is_shown_list : List ℕ → Shown → Bool
is_shown_list name s = (s.kind == 0x20) && bytes_eq s.name name
