-- The name of an entry among the attributes of a file.
use Rattle.std.proofs.Common.{◌≡◌, ◌&&◌, ◌||◌, ℕ, Bool, true, false, List, [], ◌∷◌, map, Option, Some, None, Result, Ok, Err, refl, sym, ap, ◌∙◌, inl, inr, if◌then◌else◌}
use Rattle.std.specs.List.{filter, list_any}
use Rattle.std.specs.Option.{ok_or, option_map}
use Rattle.std.specs.Prelude.{find, is_ok}
use Rattle.ntfs_attrlist.specs.Entry.{Listed}
use Rattle.ntfs_attrlist.specs.Reading.{all_or_first, list_entries, list_items}
use Rattle.ntfs_attrlist.specs.declared.fault.BadEntry.{BadEntry}
use Rattle.ntfs_base.specs.Frames.{must, ◌>>=◌}
use Rattle.ntfs_check_directories.specs.Names.{have_sought, is_extent, shown_by, shows_name, shows_value}
use Rattle.ntfs_check_directories.specs.declared.name.Sought.{Sought}
use Rattle.ntfs_record.specs.FileRecord.{Attribute, FileRecord, Head, Laid}
use Rattle.ntfs_record.specs.Slots.{Slot}
use Rattle.ntfs_record.specs.Views.{Placed, Shown, placed_of, shown_placed}
use Rattle.ntfs_rules.specs.Directories.{file_name_kind}
use Rattle.ntfs_check_records.proofs.EntryLemmas.{good-all}
use Rattle.ntfs_check_records.specs.Entries.{good_entries}
use Rattle.ntfs_volume.proofs.GatherLemmas.{IsFaulty}
use Rattle.ntfs_volume.specs.Gather.{Extent, all_found, bad_list, extent_at, extents_in, found_in, id_of, is_member, is_of, listed_extents, lists, means, own_extents}
use Rattle.ntfs_volume.specs.Gathering.{is_meant, shown_id}
use Rattle.ntfs_volume.specs.Listing.{RecordListing, listing_of_bytes, listing_of_entries}
use Rattle.ntfs_volume.specs.Located.{Located, located_of, slot_at, sound_located}
use Rattle.ntfs_volume.specs.References.{target}
use Rattle.ntfs_volume.specs.declared.fault.VolumeFault.{VolumeFault}

-- ---- a test along a list

pub any-found : {A : Type 0} (test : A → Bool) (xs rest : List A) (x : A) (answer : Bool) → list_any test xs ≡ answer → xs ≡ x ∷ rest → test x ≡ true → true ≡ answer
any-found test xs rest x answer same first is = sym (ap (λ b. b || list_any test rest) is) ∙ sym (ap (list_any test) first) ∙ same

pub any-passed : {A : Type 0} (test : A → Bool) (xs rest : List A) (x : A) (answer : Bool) → list_any test xs ≡ answer → xs ≡ x ∷ rest → test x ≡ false → list_any test rest ≡ answer
any-passed test xs rest x answer same first other = sym (ap (λ b. b || list_any test rest) other) ∙ sym (ap (list_any test) first) ∙ same

pub any-none : {A : Type 0} (test : A → Bool) (xs : List A) (answer : Bool) → list_any test xs ≡ answer → xs ≡ [] → false ≡ answer
any-none test xs answer same none = sym (ap (list_any test) none) ∙ same

-- ---- the record's own attributes

abbrev Own : Type 0
Own = Attribute (Located (Laid (List ℕ)))

abbrev own_names : List Placed → List Own
own_names ps = filter (λ (a : Own). is_of file_name_kind [] (id_of a.face)) (map located_of ps)

own-step : (sought : Sought) (r : ℕ) (h : Head) (p : Placed) (attributes : List Own) (is : Bool) (rest : Bool) → list_any (is_extent sought) (map (extent_at r h) attributes) ≡ rest
    → list_any (is_extent sought) (map (extent_at r h) (if is then located_of p ∷ attributes else attributes)) ≡ ((is && shows_value sought (shown_placed p)) || rest)
own-step sought r h p attributes true rest same = ap (λ b. shows_value sought (shown_placed p) || b) same
own-step sought r h p attributes false rest same = same

own-shown : (sought : Sought) (r : ℕ) (h : Head) (ps : List Placed) → list_any (is_extent sought) (map (extent_at r h) (own_names ps)) ≡ list_any (shows_name sought) (map shown_placed ps)
own-shown sought r h [] = refl
own-shown sought r h (p ∷ ps) = own-step sought r h p (own_names ps) (is_of file_name_kind [] (shown_id (shown_placed p))) (list_any (shows_name sought) (map shown_placed ps)) (own-shown sought r h ps)

-- without a list
pub names-own : (sought : Sought) (r : ℕ) (listing : RecordListing) (file : FileRecord) (slots : List (Slot (Located (Laid (List ℕ))))) → listing.is_there ≡ false
    → have_sought false sought (extents_in r file_name_kind [] listing (sound_located file) slots) ≡ list_any (shows_name sought) (map shown_placed (placed_of file))
unfolding extents_in own_extents
names-own sought r listing file slots none = rw none (own-shown sought r file.head (placed_of file))

-- with one
pub names-listed : (sought : Sought) (r : ℕ) (listing : RecordListing) (file : FileRecord) (slots : List (Slot (Located (Laid (List ℕ))))) → listing.is_there ≡ true
    → have_sought false sought (extents_in r file_name_kind [] listing (sound_located file) slots) ≡ have_sought false sought (listed_extents r file_name_kind [] listing file.head.sequence slots)
unfolding extents_in
names-listed sought r listing file slots there = rw there refl

-- ---- the attribute that an entry names

find-step : (sought : Sought) (t : ℕ) (h : Head) (fault : VolumeFault) (p : Placed) (is : Bool) (xs : Option Own) (ys : Option Shown)
    → shown_by sought (ok_or xs fault >>= (λ a. Ok (extent_at t h a))) ≡ option_map (shows_value sought) ys
    → shown_by sought (ok_or (if is then Some (located_of p) else xs) fault >>= (λ a. Ok (extent_at t h a))) ≡ option_map (shows_value sought) (if is then Some (shown_placed p) else ys)
find-step sought t h fault p true xs ys rest = refl
find-step sought t h fault p false xs ys rest = rest

find-shown : (sought : Sought) (t : ℕ) (h : Head) (fault : VolumeFault) (entry : Listed) (ps : List Placed)
    → shown_by sought (ok_or (find (λ (a : Own). means entry (id_of a.face)) (map located_of ps)) fault >>= (λ a. Ok (extent_at t h a))) ≡ option_map (shows_value sought) (find (is_meant entry) (map shown_placed ps))
find-shown sought t h fault entry [] = refl
find-shown sought t h fault entry (p ∷ ps) =
    find-step sought t h fault p (is_meant entry (shown_placed p)) (find (λ (a : Own). means entry (id_of a.face)) (map located_of ps)) (find (is_meant entry) (map shown_placed ps)) (find-shown sought t h fault entry ps)

pub found-stranger : (sought : Sought) (r sequence : ℕ) (entry : Listed) (file : FileRecord) (member : Bool) → member ≡ is_member r sequence entry.reference file.head → member ≡ false
    → None ≡ shown_by sought (found_in r sequence entry (sound_located file))
unfolding found_in
found-stranger sought r sequence entry file member is other = let no : is_member r sequence entry.reference file.head ≡ false = sym is ∙ other in rw no refl

pub found-member : (sought : Sought) (r sequence : ℕ) (entry : Listed) (file : FileRecord) (member : Bool) (found : Option Bool) → member ≡ is_member r sequence entry.reference file.head → member ≡ true
    → found ≡ option_map (shows_value sought) (find (is_meant entry) (map shown_placed (placed_of file)))
    → found ≡ shown_by sought (found_in r sequence entry (sound_located file))
unfolding found_in
found-member sought r sequence entry file member found is holds same =
    let yes : is_member r sequence entry.reference file.head ≡ true = sym is ∙ holds in
    rw yes (same ∙ sym (find-shown sought (target entry.reference) file.head (bad_list r) entry (placed_of file)))

-- of a record that can't be read there is none
pub found-faulty : (sought : Sought) (r sequence n : ℕ) (entry : Listed) (slot : Slot (Located (Laid (List ℕ)))) (fault : VolumeFault) → IsFaulty n slot fault
    → None ≡ shown_by sought (found_in r sequence entry slot)
unfolding found_in
found-faulty sought r sequence n entry slot fault (inl absent) = rw absent.1 refl
found-faulty sought r sequence n entry slot fault (inr wrong) = rw (wrong.1.0, wrong.1.1) refl

-- ---- the entries of a list, one after the other

-- an extent that the entries among the items name is the name, or one was before
unfoldable pub items_have : Bool → Sought → ℕ → ℕ → List (Slot (Located (Laid (List ℕ)))) → List (Result Listed BadEntry) → Bool
items_have before sought r sequence slots items =
    have_sought before sought (all_found r sequence slots (filter (lists file_name_kind []) (good_entries items)))

good-step : (sought : Sought) (r sequence : ℕ) (slots : List (Slot (Located (Laid (List ℕ))))) (items : List (Result Listed BadEntry)) (entries : Result (List Listed) BadEntry) → all_or_first items ≡ entries → is_ok entries ≡ true
    → have_sought false sought (must (listing_of_entries entries).is_good (bad_list r) >>= (λ _. all_found r sequence slots (filter (lists file_name_kind []) (listing_of_entries entries).entries))) ≡ items_have false sought r sequence slots items
unfolding items_have
good-step sought r sequence slots items (Ok entries) is good = ap (λ es. have_sought false sought (all_found r sequence slots (filter (lists file_name_kind []) es))) (sym (good-all items entries is))
good-step sought r sequence slots items (Err fault) is good = absurd cc

-- all items are entries
pub items-good : (sought : Sought) (r sequence : ℕ) (slots : List (Slot (Located (Laid (List ℕ))))) (list : List ℕ) → is_ok (list_entries list) ≡ true
    → have_sought false sought (listed_extents r file_name_kind [] (listing_of_bytes (Some list)) sequence slots) ≡ items_have false sought r sequence slots (list_items list)
unfolding listed_extents list_entries
items-good sought r sequence slots list good = good-step sought r sequence slots (list_items list) (all_or_first (list_items list)) refl good

bad-step : (sought : Sought) (r sequence : ℕ) (slots : List (Slot (Located (Laid (List ℕ))))) (entries : Result (List Listed) BadEntry) → is_ok entries ≡ false
    → false ≡ have_sought false sought (must (listing_of_entries entries).is_good (bad_list r) >>= (λ _. all_found r sequence slots (filter (lists file_name_kind []) (listing_of_entries entries).entries)))
bad-step sought r sequence slots (Ok entries) bad = absurd cc
bad-step sought r sequence slots (Err fault) bad = refl

-- one isn't
pub items-bad : (sought : Sought) (r sequence : ℕ) (slots : List (Slot (Located (Laid (List ℕ))))) (list : List ℕ) → is_ok (list_entries list) ≡ false
    → false ≡ have_sought false sought (listed_extents r file_name_kind [] (listing_of_bytes (Some list)) sequence slots)
unfolding listed_extents
items-bad sought r sequence slots list bad = bad-step sought r sequence slots (list_entries list) bad

-- there are no bytes of a list
pub items-unread : (sought : Sought) (r sequence : ℕ) (slots : List (Slot (Located (Laid (List ℕ))))) → false ≡ have_sought false sought (listed_extents r file_name_kind [] (listing_of_bytes None) sequence slots)
unfolding listed_extents
items-unread sought r sequence slots = refl

module _ (before : Bool) (sought : Sought) (r sequence : ℕ) (slots : List (Slot (Located (Laid (List ℕ))))) (items rest : List (Result Listed BadEntry)) where
  pub items-end : items ≡ [] → items_have before sought r sequence slots items ≡ before
  unfolding items_have all_found good_entries
  items-end none = ap (λ (xs : List (Result Listed BadEntry)). have_sought before sought (all_found r sequence slots (filter (lists file_name_kind []) (good_entries xs)))) none ∙ or-none before
    where
      or-none : (b : Bool) → (b || false) ≡ b
      or-none true = refl
      or-none false = refl

  pub items-fault : (fault : BadEntry) → items ≡ Err fault ∷ rest → items_have before sought r sequence slots items ≡ items_have before sought r sequence slots rest
  unfolding items_have good_entries
  items-fault fault is = ap (λ (xs : List (Result Listed BadEntry)). have_sought before sought (all_found r sequence slots (filter (lists file_name_kind []) (good_entries xs)))) is

  abbrev first_by : Listed → Bool → Bool
  first_by entry listed =
      have_sought before sought (all_found r sequence slots (if listed then entry ∷ filter (lists file_name_kind []) (good_entries rest) else filter (lists file_name_kind []) (good_entries rest)))

  items-first : (entry : Listed) → items ≡ Ok entry ∷ rest → items_have before sought r sequence slots items ≡ first_by entry (lists file_name_kind [] entry)
  unfolding items_have good_entries
  items-first entry is = ap (λ (xs : List (Result Listed BadEntry)). have_sought before sought (all_found r sequence slots (filter (lists file_name_kind []) (good_entries xs)))) is

  pub items-other : (entry : Listed) (listed : Bool) → items ≡ Ok entry ∷ rest → listed ≡ lists file_name_kind [] entry → listed ≡ false
      → items_have before sought r sequence slots items ≡ items_have before sought r sequence slots rest
  unfolding items_have
  items-other entry listed is same other = items-first entry is ∙ ap (first_by entry) (sym same ∙ other)

  abbrev rest_by : Result (Extent (Located (Laid (List ℕ)))) VolumeFault → Result (List (Extent (Located (Laid (List ℕ))))) VolumeFault → Bool
  rest_by found others = have_sought before sought (found >>= (λ extent. others >>= (λ extents. Ok (extent ∷ extents))))

  missing-step : (found : Result (Extent (Located (Laid (List ℕ)))) VolumeFault) (others : Result (List (Extent (Located (Laid (List ℕ))))) VolumeFault) → None ≡ shown_by sought found → rest_by found others ≡ false
  missing-step (Ok e) others none = absurd cc
  missing-step (Err fault) others none = refl

  given-step : (found : Result (Extent (Located (Laid (List ℕ)))) VolumeFault) (others : Result (List (Extent (Located (Laid (List ℕ))))) VolumeFault) (shows : Bool) → Some shows ≡ shown_by sought found
      → rest_by found others ≡ have_sought (before || shows) sought others
  given-step (Ok e) (Ok extents) shows some = let same : shows ≡ is_extent sought e = cc in
      or-assoc before (is_extent sought e) (list_any (is_extent sought) extents) ∙ ap (λ b. (before || b) || list_any (is_extent sought) extents) (sym same)
    where
      or-assoc : (a b c : Bool) → (a || (b || c)) ≡ ((a || b) || c)
      or-assoc true b c = refl
      or-assoc false b c = refl
  given-step (Ok e) (Err fault) shows some = refl
  given-step (Err fault) others shows some = absurd cc

  pub items-missing : (entry : Listed) (listed : Bool) → items ≡ Ok entry ∷ rest → listed ≡ lists file_name_kind [] entry → listed ≡ true
      → None ≡ shown_by sought (found_in r sequence entry (slot_at slots (target entry.reference))) → items_have before sought r sequence slots items ≡ false
  unfolding all_found
  items-missing entry listed is same holds none =
      items-first entry is ∙ ap (first_by entry) (sym same ∙ holds)
      ∙ missing-step (found_in r sequence entry (slot_at slots (target entry.reference))) (all_found r sequence slots (filter (lists file_name_kind []) (good_entries rest))) none

  pub items-given : (entry : Listed) (listed shows : Bool) → items ≡ Ok entry ∷ rest → listed ≡ lists file_name_kind [] entry → listed ≡ true
      → Some shows ≡ shown_by sought (found_in r sequence entry (slot_at slots (target entry.reference))) → items_have before sought r sequence slots items ≡ items_have (before || shows) sought r sequence slots rest
  unfolding all_found items_have
  items-given entry listed shows is same holds some =
      items-first entry is ∙ ap (first_by entry) (sym same ∙ holds)
      ∙ given-step (found_in r sequence entry (slot_at slots (target entry.reference))) (all_found r sequence slots (filter (lists file_name_kind []) (good_entries rest))) shows some
