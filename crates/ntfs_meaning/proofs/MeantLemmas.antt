-- The meaning tells streams.
use Rattle.std.proofs.Common.{◌≡◌, ◌==◌, ◌&&◌, ℕ, Bool, true, false, List, [], ◌∷◌, length, map, Option, Some, None, Result, Ok, Err, refl, sym, ap, ◌∙◌, subst, if◌then◌else◌}
use Rattle.std.proofs.Math.Path.{fun_ext}
use Rattle.std.specs.Prelude.{find, filter}
use Rattle.std.specs.List.{AllByRecursion}
use Rattle.std.specs.Option.{option_map}
use Rattle.std.specs.Str.{bytes_eq}
use Rattle.std.specs.Result.{result_map_both}
use Rattle.std.proofs.lemmas.Bool.{eqb-true}
use Rattle.ntfs_base.specs.Bytes.{Cluster}
use Rattle.ntfs_base.specs.Frames.{◌>>=◌}
use Rattle.ntfs_boot.specs.declared.geometry.Geometry.{Geometry}
use Rattle.ntfs_directory.specs.Directory.{allocation_kind, index_name, root_kind, walk_in}
use Rattle.ntfs_index.specs.Walk.{listing, walk_allocation}
use Rattle.ntfs_meaning.proofs.OwnerLemmas.{extent-owner}
use Rattle.ntfs_meaning.proofs.ThereLemmas.{slot-mapped}
use Rattle.ntfs_meaning.specs.Meaning.{Role, Hidden, Bits, Bad, Info, Plain, Meaning, base_role, meaning, meant, meant_cells, meant_face, owner, role, role_in}
use Rattle.ntfs_record.proofs.SlotLemmas.{map_slots-map_slots}
use Rattle.ntfs_record.specs.FileRecord.{Attribute, Face, Head, Laid}
use Rattle.ntfs_record.specs.Slots.{Slot, map_slots, on_payload}
use Rattle.ntfs_rules.proofs.PairingLemmas.{all-both, count-map}
use Rattle.ntfs_rules.specs.Directories.{root_of, walk_by, gathered_walk, walk_of}
use Rattle.ntfs_rules.specs.VolumeData.{Records, VolumeData, bytes_found, content_in, contents, listings, listings_of}
use Rattle.ntfs_runs.specs.Cells.{Cells}
use Rattle.ntfs_volume.proofs.ExtentsLemmas.{members, of-base, of-type}
use Rattle.ntfs_volume.proofs.ListLemmas.{find-map}
use Rattle.ntfs_volume.proofs.MappedLemmas.{extents-mapped}
use Rattle.ntfs_volume.specs.Gather.{Extent, Id, Lists, extents, id_of, mapped}
use Rattle.ntfs_volume.specs.Laws.{IsBase, IsMember, IsOf, in_cells, in_located}
use Rattle.ntfs_volume.specs.Listing.{bytes_of_list, is_list, is_list_named, is_readable_list, listing_in, listing_of, listing_of_bytes, lists_named}
use Rattle.ntfs_volume.specs.Located.{Located, slot_at, unlocated}
use Rattle.ntfs_volume.specs.StreamBytes.{runs_bytes}
use Rattle.ntfs_volume.specs.Streams.{Gathered, Part, gather, part_of, stream_of}
use Rattle.ntfs_volume.specs.declared.fault.VolumeFault.{VolumeFault}

-- ---- two maps of a volume's records

abbrev Filled : Type 0
Filled = Attribute (Located (Laid (Cells Cluster)))

abbrev Told : Type 0
Told = Attribute (Located (Laid (Cells (List ℕ))))

-- contents
abbrev shown : ℕ → Head → Filled → Told
shown = on_payload (in_located (λ place. 0) (λ (k : Cluster). k.bytes))

-- at no place
abbrev laid_alone : Cells (List ℕ) → Located (Laid (Cells (List ℕ)))
laid_alone cells = record { place = 0; payload = record { spot = record { name_offset = 0; body_offset = 0 }; runs = cells } }

-- what is meant, at no place
abbrev told : ℕ → Head → Filled → Told
told r h a = on_payload laid_alone r h (meant r h (shown r h a))

-- records by the meaning alone
abbrev said : Meaning → Records (List ℕ)
said m = map_slots (on_payload laid_alone) 0 m

said-meaning : (v : VolumeData) → said (meaning v) ≡ map_slots told 0 v.slots
unfolding meaning
said-meaning v =
    ap (λ (m : Meaning). said m) (map_slots-map_slots shown meant 0 v.slots)
    ∙ map_slots-map_slots (λ r h a. meant r h (shown r h a)) (on_payload laid_alone) 0 v.slots

meant-id : (k : Role) (face : Face) → id_of (meant_face k face) ≡ id_of face
meant-id Hidden face = refl
meant-id Bits face = refl
meant-id Bad face = refl
meant-id Info face = refl
meant-id Plain face = refl

-- ---- attributes that are all meant

in-plain : (b : Bool) → role_in b Plain ≡ Plain
in-plain true = refl
in-plain false = refl

role-plain : (n r : ℕ) (h : Head) (kind : ℕ) (name : List ℕ) → owner n h ≡ r → base_role r kind name ≡ Plain → role n h kind name ≡ Plain
unfolding role
role-plain n r h kind name same is = ap (λ k. role_in (h.base == 0) (base_role k kind name)) same ∙ ap (role_in (h.base == 0)) is ∙ in-plain (h.base == 0)

extent-plain : (slots : Records Cluster) (r kind : ℕ) (name : List ℕ) (e : Extent (Located (Laid (Cells Cluster)))) → IsBase slots r → base_role r kind name ≡ Plain → IsMember slots r e → IsOf kind name e
    → role e.number e.head e.attribute.face.kind e.attribute.face.name ≡ Plain
extent-plain slots r kind name e base is member named =
    ap (λ k. role e.number e.head k e.attribute.face.name) named.kind_is
    ∙ ap (role e.number e.head kind) named.name_is
    ∙ role-plain e.number r e.head kind name (extent-owner slots r e base member) is

-- the part that an extent gives, where it has a role
abbrev part_by : Extent (Located (Laid (Cells Cluster))) → Role → Part (List ℕ)
part_by e k = part_of (record {
  number = e.number;
  head = e.head;
  attribute = record {
    face = meant_face k e.attribute.face;
    payload = laid_alone (meant_cells k (in_cells (λ (k : Cluster). k.bytes) e.attribute.payload.payload.runs));
  };
})

part-same : (e : Extent (Located (Laid (Cells Cluster)))) → role e.number e.head e.attribute.face.kind e.attribute.face.name ≡ Plain → part_of (mapped told e) ≡ part_of (mapped shown e)
part-same e is = ap (part_by e) is

parts-same : (es : List (Extent (Located (Laid (Cells Cluster))))) → AllByRecursion (λ e. role e.number e.head e.attribute.face.kind e.attribute.face.name ≡ Plain) es
    → map part_of (map (mapped told) es) ≡ map part_of (map (mapped shown) es)
parts-same [] all = refl
parts-same (e ∷ es) all =
    ap (λ (p : Part (List ℕ)). p ∷ map part_of (map (mapped told) es)) (part-same e all.0)
    ∙ ap (λ (ps : List (Part (List ℕ))). part_of (mapped shown e) ∷ ps) (parts-same es all.1)

-- ---- gathering

gathered-by : (c r : ℕ) (found : Result (List (Extent (Located (Laid (Cells Cluster))))) VolumeFault)
    → ((es : List (Extent (Located (Laid (Cells Cluster))))) → found ≡ Ok es → map part_of (map (mapped told) es) ≡ map part_of (map (mapped shown) es))
    → (result_map_both (map (mapped told)) (λ (fault : VolumeFault). fault) found >>= (λ es. stream_of c r (map part_of es)))
    ≡ (result_map_both (map (mapped shown)) (λ (fault : VolumeFault). fault) found >>= (λ es. stream_of c r (map part_of es)))
gathered-by c r (Ok es) same = ap (stream_of c r) (same es refl)
gathered-by c r (Err fault) same = refl

gathered-same : (c : ℕ) (lists : Lists) (slots : Records Cluster) (r kind : ℕ) (name : List ℕ) → base_role r kind name ≡ Plain
    → gather c lists (map_slots told 0 slots) r kind name ≡ gather c lists (map_slots shown 0 slots) r kind name
unfolding gather
gathered-same c lists slots r kind name is =
    let end : Result (List (Extent (Located (Laid (Cells (List ℕ)))))) VolumeFault → Result (Gathered (List ℕ)) VolumeFault = λ found. found >>= (λ es. stream_of c r (map part_of es)) in
    ap end (extents-mapped told lists slots r kind name (λ n h a. meant-id (role n h a.face.kind a.face.name) a.face))
    ∙ gathered-by c r (extents lists slots r kind name) (λ es found.
    parts-same es (all-both (IsMember slots r) (IsOf kind name) _ (λ e. extent-plain slots r kind name e (of-base lists slots r kind name es found) is) es
    (members lists slots r kind name es found) (of-type lists slots r kind name es found)))
    ∙ sym (ap end (extents-mapped shown lists slots r kind name (λ n h a. refl)))

-- ---- attribute lists

list-role : (r : ℕ) (name : List ℕ) → base_role r 0x20 name ≡ Plain
unfolding base_role
list-role r name = refl

list-plain : (n : ℕ) (h : Head) (face : Face) → is_list face ≡ true → role n h face.kind face.name ≡ Plain
list-plain n h face is = ap (λ k. role n h k face.name) (eqb-true face.kind 0x20 is) ∙ role-plain n (owner n h) h 0x20 face.name refl (list-role (owner n h) face.name)

-- an attribute as it is shown, and as it is told
abbrev shown_at : ℕ → Head → Filled → Attribute (Laid (Cells (List ℕ)))
shown_at n h a = unlocated (shown n h a)

abbrev told_at : ℕ → Head → Filled → Attribute (Laid (Cells (List ℕ)))
told_at n h a = unlocated (told n h a)

-- the bytes of a list, where so many of the attributes are lists of its name
list_bytes : ℕ → Face → Cells (List ℕ) → ℕ → Option (List ℕ)
list_bytes c face cells count =
    if face.is_resident then Some face.value
    else (if (count == 1) && is_readable_list c face cells then Some (runs_bytes c face.size face.valid cells.cells) else None)

named-kind : (n : ℕ) (h : Head) (a : Filled) → (told_at n h a).face.kind ≡ (shown_at n h a).face.kind
named-kind n h a = ap (λ (id : Id). id.kind) (meant-id (role n h a.face.kind a.face.name) a.face)

named-same : (n : ℕ) (h : Head) (name : List ℕ) (a : Filled) → is_list_named name (told_at n h a).face ≡ is_list_named name (shown_at n h a).face
named-same n h name a = ap (λ (id : Id). (id.kind == 0x20) && bytes_eq id.name name) (meant-id (role n h a.face.kind a.face.name) a.face)

lists-same : (n : ℕ) (h : Head) (name : List ℕ) (them : List Filled) → lists_named name (map (told_at n h) them) ≡ lists_named name (map (shown_at n h) them)
lists-same n h name them =
    count-map (λ (a : Attribute (Laid (Cells (List ℕ)))). is_list_named name a.face) (told_at n h) them
    ∙ ap (λ (test : Filled → Bool). length (filter test them)) (fun_ext (λ a. named-same n h name a))
    ∙ sym (count-map (λ (a : Attribute (Laid (Cells (List ℕ)))). is_list_named name a.face) (shown_at n h) them)

list-same : (c n : ℕ) (h : Head) (a : Filled) (them : List Filled) → is_list a.face ≡ true
    → bytes_of_list c (told_at n h a) (map (told_at n h) them) ≡ bytes_of_list c (shown_at n h a) (map (shown_at n h) them)
unfolding bytes_of_list list_bytes
list-same c n h a them is =
    let k = list-plain n h a.face is in
    let cells = in_cells (λ (k : Cluster). k.bytes) a.payload.payload.runs in
    ap (λ k. list_bytes c (meant_face k a.face) (meant_cells k cells) (lists_named (meant_face k a.face).name (map (told_at n h) them))) k
    ∙ ap (list_bytes c a.face cells) (lists-same n h a.face.name them)

passes-step : {A : Type 0} (p : A → Bool) (y x : A) (rest : Option A) (b : Bool) → p y ≡ b → (rest ≡ Some x → p x ≡ true) → (if b then Some y else rest) ≡ Some x → p x ≡ true
passes-step p y x rest true here later is = let same : y ≡ x = cc in subst (λ z. p z ≡ true) same here
passes-step p y x rest false here later is = later is

-- what is found passes
found-passes : {A : Type 0} (p : A → Bool) (xs : List A) (x : A) → find p xs ≡ Some x → p x ≡ true
found-passes p [] x is = absurd cc
found-passes p (y ∷ xs) x is = passes-step p y x (find p xs) (p y) refl (found-passes p xs x) is

listing-by : (c n : ℕ) (h : Head) (them : List Filled) (o : Option Filled) → ((a : Filled) → o ≡ Some a → is_list a.face ≡ true)
    → listing_of c (option_map (told_at n h) o) (map (told_at n h) them) ≡ listing_of c (option_map (shown_at n h) o) (map (shown_at n h) them)
listing-by c n h them None all = refl
listing-by c n h them (Some a) all = ap listing_of_bytes (list-same c n h a them (all a refl))

listing-same : (c n : ℕ) (h : Head) (them : List Filled) → listing_in c (map (told_at n h) them) ≡ listing_in c (map (shown_at n h) them)
unfolding listing_in
listing-same c n h them =
    let test = λ (a : Attribute (Laid (Cells (List ℕ)))). is_list a.face in
    let first = find (λ (a : Filled). is_list a.face) them in
    ap (λ o. listing_of c o (map (told_at n h) them)) (find-map (told_at n h) test (λ (a : Filled). is_list a.face) (λ a. ap (λ k. k == 0x20) (named-kind n h a)) them)
    ∙ listing-by c n h them first (λ a found. found-passes (λ (a : Filled). is_list a.face) them a found)
    ∙ sym (ap (λ o. listing_of c o (map (shown_at n h) them)) (find-map (shown_at n h) test (λ (a : Filled). is_list a.face) (λ a. refl) them))

map-map : {A B C : Type 0} (f : A → B) (g : B → C) (xs : List A) → map g (map f xs) ≡ map (λ x. g (f x)) xs
map-map f g [] = refl
map-map {C = C} f g (x ∷ xs) = ap (λ (rest : List C). g (f x) ∷ rest) (map-map f g xs)

listing-at : (c : ℕ) (slots : Records Cluster) (r : ℕ) → listings_of c (map_slots told 0 slots) r ≡ listings_of c (map_slots shown 0 slots) r
listing-at c slots r =
    let s = slot_at slots r in
    let list = λ (s : Slot (Located (Laid (Cells (List ℕ))))). listing_in c (map unlocated s.attributes) in
    ap list (slot-mapped told slots r)
    ∙ ap (listing_in c) (map-map (told r s.head) unlocated s.attributes)
    ∙ listing-same c r s.head s.attributes
    ∙ sym (ap (listing_in c) (map-map (shown r s.head) unlocated s.attributes))
    ∙ sym (ap list (slot-mapped shown slots r))

-- ---- by the meaning alone

-- the lists and a stream that a meaning tells, where a cluster has c bytes
lists_meant : ℕ → Meaning → Lists
lists_meant c m = listings_of c (said m)

stream_meant : ℕ → Meaning → ℕ → ℕ → List ℕ → Result (Gathered (List ℕ)) VolumeFault
stream_meant c m r kind name = gather c (lists_meant c m) (said m) r kind name

lists-meant : (v : VolumeData) → listings v ≡ lists_meant v.geometry.cluster (meaning v)
unfolding lists_meant
lists-meant v =
    fun_ext (λ r. sym (listing-at v.geometry.cluster v.slots r))
    ∙ ap (listings_of v.geometry.cluster) (sym (said-meaning v))

stream-meant : (v : VolumeData) (r kind : ℕ) (name : List ℕ) → base_role r kind name ≡ Plain → content_in v r kind name ≡ stream_meant v.geometry.cluster (meaning v) r kind name
unfolding stream_meant
stream-meant v r kind name is =
    let c = v.geometry.cluster in
    ap (λ (lists : Lists). gather c lists (contents v) r kind name) (lists-meant v)
    ∙ sym (gathered-same c (lists_meant c (meaning v)) v.slots r kind name is)
    ∙ ap (λ (slots : Records (List ℕ)). gather c (lists_meant c (meaning v)) slots r kind name) (sym (said-meaning v))

pub same-streams : (v w : VolumeData) (r kind : ℕ) (name : List ℕ) → v.geometry.cluster ≡ w.geometry.cluster → meaning v ≡ meaning w → base_role r kind name ≡ Plain → content_in v r kind name ≡ content_in w r kind name
same-streams v w r kind name size same is =
    stream-meant v r kind name is
    ∙ ap (λ c. stream_meant c (meaning v) r kind name) size
    ∙ ap (λ (m : Meaning). stream_meant w.geometry.cluster m r kind name) same
    ∙ sym (stream-meant w r kind name is)

pub same-bytes : (v w : VolumeData) (r kind : ℕ) (name : List ℕ) → v.geometry.cluster ≡ w.geometry.cluster → meaning v ≡ meaning w → base_role r kind name ≡ Plain
    → bytes_found v.geometry.cluster (content_in v r kind name) ≡ bytes_found w.geometry.cluster (content_in w r kind name)
same-bytes v w r kind name size same is =
    ap (λ c. bytes_found c (content_in v r kind name)) size
    ∙ ap (bytes_found w.geometry.cluster) (same-streams v w r kind name size same is)

-- ---- walks

root-role : (d : ℕ) → base_role d root_kind index_name ≡ Plain
unfolding base_role
root-role d = refl

allocation-role : (d : ℕ) → base_role d allocation_kind index_name ≡ Plain
unfolding base_role
allocation-role d = refl

walk-by : (g h : Geometry) (d : ℕ) (root : Result (List ℕ) VolumeFault) (blocks : List ℕ) → g.cluster ≡ h.cluster → g.block ≡ h.block → walk_by g d root blocks ≡ walk_by h d root blocks
walk-by g h d (Ok root) blocks cluster block =
    ap (λ c. walk_in d (listing (walk_allocation c g.block root blocks))) cluster
    ∙ ap (λ b. walk_in d (listing (walk_allocation h.cluster b root blocks))) block
walk-by g h d (Err fault) blocks cluster block = refl

walk-same : (g h : Geometry) (d : ℕ) (root blocks : Result (Gathered (List ℕ)) VolumeFault) → g.cluster ≡ h.cluster → g.block ≡ h.block → gathered_walk g d root blocks ≡ gathered_walk h d root blocks
unfolding gathered_walk
walk-same g h d root blocks cluster block =
    ap (λ c. walk_by g d (root_of d root blocks) (bytes_found c blocks)) cluster
    ∙ walk-by g h d (root_of d root blocks) (bytes_found h.cluster blocks) cluster block

pub same-walks : (v w : VolumeData) (d : ℕ) → v.geometry.cluster ≡ w.geometry.cluster → v.geometry.block ≡ w.geometry.block → meaning v ≡ meaning w
    → walk_of v.geometry (listings v) (contents v) d ≡ walk_of w.geometry (listings w) (contents w) d
unfolding walk_of
same-walks v w d cluster block same =
    ap (λ (root : Result (Gathered (List ℕ)) VolumeFault). gathered_walk v.geometry d root (content_in v d allocation_kind index_name)) (same-streams v w d root_kind index_name cluster same (root-role d))
    ∙ ap (gathered_walk v.geometry d (content_in w d root_kind index_name)) (same-streams v w d allocation_kind index_name cluster same (allocation-role d))
    ∙ walk-same v.geometry w.geometry d (content_in w d root_kind index_name) (content_in w d allocation_kind index_name) cluster block
