-- What the attribute that an entry of a list names tells, and entries one after the other.
use Rattle.std.proofs.Common.{◌≡◌, ◌&&◌, ℕ, Bool, true, false, List, [], ◌∷◌, map, Option, Some, None, Result, Ok, Err, refl, sym, ap, ◌∙◌, if◌then◌else◌}
use Rattle.ntfs_check_records.proofs.EntryLemmas.{good-all}
use Rattle.ntfs_check_records.specs.Entries.{good_entries}
use Rattle.std.specs.Prelude.{filter, find, is_ok}
use Rattle.std.specs.Option.{ok_or, option_map}
use Rattle.std.specs.Result.{result_map_both}
use Rattle.ntfs_attrlist.specs.Entry.{Listed}
use Rattle.ntfs_attrlist.specs.Reading.{all_or_first, list_entries, list_items}
use Rattle.ntfs_attrlist.specs.declared.fault.BadEntry.{BadEntry}
use Rattle.ntfs_base.specs.Frames.{◌>>=◌}
use Rattle.ntfs_check_streams.specs.Join.{are_joined, is_stream, join, join_all, join_lead, span_found, face_span, span_shown, spans_of}
use Rattle.ntfs_check_records.specs.Reading.{IsView, is_readable}
use Rattle.ntfs_check_streams.specs.Said.{all_listed, is_listed_stream, good_listed}
use Rattle.ntfs_check_streams.specs.declared.join.Joined.{Joined}
use Rattle.ntfs_check_streams.specs.declared.join.Span.{Span}
use Rattle.ntfs_record.specs.FileRecord.{Attribute, FileRecord, Head, Laid}
use Rattle.ntfs_record.specs.Slots.{Slot}
use Rattle.ntfs_record.specs.Views.{Placed, Shown, placed_of, shown_placed}
use Rattle.ntfs_volume.specs.Gather.{Extent, all_found, bad_list, extent_at, found_in, id_of, is_member, lists, means}
use Rattle.ntfs_volume.specs.Gathering.{is_meant}
use Rattle.ntfs_volume.specs.Listing.{listing_of_bytes, listing_of_entries}
use Rattle.ntfs_volume.specs.Located.{Located, located_of, slot_at, sound_located}
use Rattle.ntfs_volume.specs.References.{target}
use Rattle.ntfs_volume.specs.declared.fault.VolumeFault.{VolumeFault}

abbrev Own : Type 0
Own = Attribute (Located (Laid (List ℕ)))

abbrev Record : Type 0
Record = Slot (Located (Laid (List ℕ)))

abbrev pub shown_span : Shown → Span
shown_span s = span_shown s.body

-- ---- the attribute that an entry names

find-step : (t : ℕ) (h : Head) (fault : VolumeFault) (p : Placed) (is : Bool) (xs : Option Own) (ys : Option Shown)
    → span_found (ok_or xs fault >>= (λ a. Ok (extent_at t h a))) ≡ option_map shown_span ys
    → span_found (ok_or (if is then Some (located_of p) else xs) fault >>= (λ a. Ok (extent_at t h a))) ≡ option_map shown_span (if is then Some (shown_placed p) else ys)
find-step t h fault p true xs ys rest = refl
find-step t h fault p false xs ys rest = rest

find-shown : (t : ℕ) (h : Head) (fault : VolumeFault) (entry : Listed) (ps : List Placed)
    → span_found (ok_or (find (λ (a : Own). means entry (id_of a.face)) (map located_of ps)) fault >>= (λ a. Ok (extent_at t h a))) ≡ option_map shown_span (find (is_meant entry) (map shown_placed ps))
find-shown t h fault entry [] = refl
find-shown t h fault entry (p ∷ ps) =
    find-step t h fault p (is_meant entry (shown_placed p)) (find (λ (a : Own). means entry (id_of a.face)) (map located_of ps)) (find (is_meant entry) (map shown_placed ps)) (find-shown t h fault entry ps)

pub found-stranger : (r sequence : ℕ) (entry : Listed) (file : FileRecord) (member : Bool) → member ≡ is_member r sequence entry.reference file.head → member ≡ false
    → None ≡ span_found (found_in r sequence entry (sound_located file))
unfolding found_in
found-stranger r sequence entry file member is other = let no : is_member r sequence entry.reference file.head ≡ false = sym is ∙ other in rw no refl

pub found-member : (r sequence : ℕ) (entry : Listed) (file : FileRecord) (member : Bool) (found : Option Span) → member ≡ is_member r sequence entry.reference file.head → member ≡ true
    → found ≡ option_map shown_span (find (is_meant entry) (map shown_placed (placed_of file)))
    → found ≡ span_found (found_in r sequence entry (sound_located file))
unfolding found_in
found-member r sequence entry file member found is holds same =
    let yes : is_member r sequence entry.reference file.head ≡ true = sym is ∙ holds in
    rw yes (same ∙ sym (find-shown (target entry.reference) file.head (bad_list r) entry (placed_of file)))

unread-by : (r sequence : ℕ) (entry : Listed) (s : Record) (live sound : Bool) → s.is_live ≡ live → s.is_sound ≡ sound → (live && sound) ≡ false → None ≡ span_found (found_in r sequence entry s)
unfolding found_in
unread-by r sequence entry s false sound is well unread = rw is refl
unread-by r sequence entry s true false is well unread = rw (is, well) refl
unread-by r sequence entry s true true is well unread = absurd cc

-- of a record that can't be read there is none
pub found-unread : (r sequence : ℕ) (entry : Listed) (s : Record) → is_readable s ≡ false → None ≡ span_found (found_in r sequence entry s)
found-unread r sequence entry s unread = unread-by r sequence entry s s.is_live s.is_sound refl refl unread

pub found-read : (r sequence : ℕ) (entry : Listed) (s : Record) (file : FileRecord) (found : Option Span) → s ≡ sound_located file → found ≡ span_found (found_in r sequence entry (sound_located file))
    → found ≡ span_found (found_in r sequence entry s)
found-read r sequence entry s file found is same = same ∙ sym (ap (λ (s : Record). span_found (found_in r sequence entry s)) is)

-- ---- the entries of a list, one after the other

-- those so far, and those that the entries among the items name, are a stream
unfoldable pub items_joined : ℕ → ℕ → List ℕ → Joined → ℕ → ℕ → List Record → List (Result Listed BadEntry) → Bool
items_joined c kind name before r sequence slots items = are_joined c kind before (all_found r sequence slots (filter (lists kind name) (good_entries items)))

good-step : (c r sequence : ℕ) (slots : List Record) (lead : Option Shown) (shown : List Shown) (items : List (Result Listed BadEntry)) (entries : Result (List Listed) BadEntry) → all_or_first items ≡ entries → is_ok entries ≡ true
    → good_listed c r sequence slots (listing_of_entries entries) lead shown ≡ all_listed c r sequence slots (good_entries items) lead shown
good-step c r sequence slots lead shown items (Ok entries) is good = ap (λ (es : List Listed). all_listed c r sequence slots es lead shown) (sym (good-all items entries is))
good-step c r sequence slots lead shown items (Err fault) is good = absurd cc

-- all items are entries
pub items-good : (c r sequence : ℕ) (slots : List Record) (lead : Option Shown) (shown : List Shown) (list : List ℕ) → is_ok (list_entries list) ≡ true
    → good_listed c r sequence slots (listing_of_bytes (Some list)) lead shown ≡ all_listed c r sequence slots (good_entries (list_items list)) lead shown
unfolding list_entries
items-good c r sequence slots lead shown list good = good-step c r sequence slots lead shown (list_items list) (all_or_first (list_items list)) refl good

bad-step : (c r sequence : ℕ) (slots : List Record) (lead : Option Shown) (shown : List Shown) (entries : Result (List Listed) BadEntry) → is_ok entries ≡ false
    → false ≡ good_listed c r sequence slots (listing_of_entries entries) lead shown
bad-step c r sequence slots lead shown (Ok entries) bad = absurd cc
bad-step c r sequence slots lead shown (Err fault) bad = refl

-- one isn't
pub items-bad : (c r sequence : ℕ) (slots : List Record) (lead : Option Shown) (shown : List Shown) (list : List ℕ) → is_ok (list_entries list) ≡ false
    → false ≡ good_listed c r sequence slots (listing_of_bytes (Some list)) lead shown
items-bad c r sequence slots lead shown list bad = bad-step c r sequence slots lead shown (list_entries list) bad

-- ---- a turn of the walk

module _ (c kind : ℕ) (name : List ℕ) (before : Joined) (r sequence : ℕ) (slots : List Record) (items rest : List (Result Listed BadEntry)) where
  pub items-end : items ≡ [] → items_joined c kind name before r sequence slots items ≡ is_stream c before
  unfolding items_joined all_found join_all good_entries
  items-end none = ap (λ (xs : List (Result Listed BadEntry)). are_joined c kind before (all_found r sequence slots (filter (lists kind name) (good_entries xs)))) none

  pub items-fault : (fault : BadEntry) → items ≡ Err fault ∷ rest → items_joined c kind name before r sequence slots items ≡ items_joined c kind name before r sequence slots rest
  unfolding items_joined good_entries
  items-fault fault is = ap (λ (xs : List (Result Listed BadEntry)). are_joined c kind before (all_found r sequence slots (filter (lists kind name) (good_entries xs)))) is

  abbrev first_by : Listed → Bool → Bool
  first_by entry listed =
      are_joined c kind before (all_found r sequence slots (if listed then entry ∷ filter (lists kind name) (good_entries rest) else filter (lists kind name) (good_entries rest)))

  items-first : (entry : Listed) → items ≡ Ok entry ∷ rest → items_joined c kind name before r sequence slots items ≡ first_by entry (lists kind name entry)
  unfolding items_joined good_entries
  items-first entry is = ap (λ (xs : List (Result Listed BadEntry)). are_joined c kind before (all_found r sequence slots (filter (lists kind name) (good_entries xs)))) is

  pub items-other : (entry : Listed) (listed : Bool) → items ≡ Ok entry ∷ rest → listed ≡ lists kind name entry → listed ≡ false
      → items_joined c kind name before r sequence slots items ≡ items_joined c kind name before r sequence slots rest
  unfolding items_joined
  items-other entry listed is same other = items-first entry is ∙ ap (first_by entry) (sym same ∙ other)

  abbrev rest_by : Result (Extent (Located (Laid (List ℕ)))) VolumeFault → Result (List (Extent (Located (Laid (List ℕ))))) VolumeFault → Bool
  rest_by found others = are_joined c kind before (found >>= (λ extent. others >>= (λ extents. Ok (extent ∷ extents))))

  missing-step : (found : Result (Extent (Located (Laid (List ℕ)))) VolumeFault) (others : Result (List (Extent (Located (Laid (List ℕ))))) VolumeFault) → None ≡ span_found found → rest_by found others ≡ false
  missing-step (Ok e) others none = absurd cc
  missing-step (Err fault) others none = refl

  given-step : (found : Result (Extent (Located (Laid (List ℕ)))) VolumeFault) (others : Result (List (Extent (Located (Laid (List ℕ))))) VolumeFault) (span : Span) → Some span ≡ span_found found
      → rest_by found others ≡ are_joined c kind (join kind before span) others
  unfolding join_all
  given-step (Ok e) (Ok extents) span some = let same : span ≡ face_span e.attribute.face = cc in
      ap (λ (s : Span). is_stream c (join_all kind (join kind before s) (spans_of extents))) (sym same)
  given-step (Ok e) (Err fault) span some = refl
  given-step (Err fault) others span some = absurd cc

  pub items-missing : (entry : Listed) (listed : Bool) → items ≡ Ok entry ∷ rest → listed ≡ lists kind name entry → listed ≡ true
      → None ≡ span_found (found_in r sequence entry (slot_at slots (target entry.reference))) → items_joined c kind name before r sequence slots items ≡ false
  unfolding all_found
  items-missing entry listed is same holds none =
      items-first entry is ∙ ap (first_by entry) (sym same ∙ holds)
      ∙ missing-step (found_in r sequence entry (slot_at slots (target entry.reference))) (all_found r sequence slots (filter (lists kind name) (good_entries rest))) none

  pub items-given : (entry : Listed) (listed : Bool) (span : Span) → items ≡ Ok entry ∷ rest → listed ≡ lists kind name entry → listed ≡ true
      → Some span ≡ span_found (found_in r sequence entry (slot_at slots (target entry.reference))) → items_joined c kind name before r sequence slots items ≡ items_joined c kind name (join kind before span) r sequence slots rest
  unfolding all_found items_joined
  items-given entry listed span is same holds some =
      items-first entry is ∙ ap (first_by entry) (sym same ∙ holds)
      ∙ given-step (found_in r sequence entry (slot_at slots (target entry.reference))) (all_found r sequence slots (filter (lists kind name) (good_entries rest))) span some

pub items-are : (c kind : ℕ) (name : List ℕ) (before : Joined) (r sequence : ℕ) (slots : List Record) (items : List (Result Listed BadEntry))
    → items_joined c kind name before r sequence slots items ≡ are_joined c kind before (all_found r sequence slots (filter (lists kind name) (good_entries items)))
unfolding items_joined
items-are c kind name before r sequence slots items = refl

-- ---- by what was read of its record

view-none : (s : Record) (view : Option FileRecord) → view ≡ None → IsView s view → is_readable s ≡ false
view-none s None none is = is
view-none s (Some said) none is = absurd cc

view-some : (s : Record) (view : Option FileRecord) (said : FileRecord) → view ≡ Some said → IsView s view → s ≡ sound_located said
view-some s None said same is = absurd cc
view-some s (Some other) said same is = let one : other ≡ said = cc in is ∙ ap sound_located one

pub span-unread : (r sequence : ℕ) (entry : Listed) (slots : List Record) (number : ℕ) (view : Option FileRecord) → number ≡ target entry.reference → view ≡ None → IsView (slot_at slots number) view
    → None ≡ span_found (found_in r sequence entry (slot_at slots (target entry.reference)))
span-unread r sequence entry slots number view same none is =
    found-unread r sequence entry (slot_at slots (target entry.reference)) (ap (λ n. is_readable (slot_at slots n)) (sym same) ∙ view-none (slot_at slots number) view none is)

pub span-read : (r sequence : ℕ) (entry : Listed) (slots : List Record) (number : ℕ) (view : Option FileRecord) (said : FileRecord) (found : Option Span) → number ≡ target entry.reference → view ≡ Some said → IsView (slot_at slots number) view
    → found ≡ span_found (found_in r sequence entry (sound_located said)) → found ≡ span_found (found_in r sequence entry (slot_at slots (target entry.reference)))
span-read r sequence entry slots number view said found same some is given =
    found-read r sequence entry (slot_at slots (target entry.reference)) said found (ap (slot_at slots) (sym same) ∙ view-some (slot_at slots number) view said some is) given

pub listed-are : (c r sequence : ℕ) (slots : List Record) (entries : List Listed) (lead : Option Shown) (kind : ℕ) (name : List ℕ)
    → are_joined c kind (join_lead kind name lead) (all_found r sequence slots (filter (lists kind name) entries)) ≡ is_listed_stream c r sequence slots entries lead kind name
unfolding is_listed_stream
listed-are c r sequence slots entries lead kind name = refl
