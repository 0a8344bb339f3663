-- What a call over something outside keeps, and how its answer is tied to a definition, for every crate alike. A
-- trait's ghosts are one argument (`G.Image` in a clause), and each enum of refusals brings one function into
-- `Origin`. The words are ours.
use Rattle.std.specs.Prelude.{◌≡◌, ◌≤◌, ℕ, Bool, true, false, List, [], length, take, Result, Ok, Err, IfErr, IsTrue}
use Rattle.ntfs_base.specs.Causes.{HaveNotFallen, Rose}
use Rattle.ntfs_base.specs.Image.{ImageState}
use Rattle.ntfs_base.specs.Shelf.{Files}
use Rattle.ntfs_base.specs.Sink.{SinkState, after_put}
use Rattle.ntfs_base.specs.declared.fault.SinkFaults.{SinkFaults}
use Rattle.ntfs_base.specs.declared.image.Image as image
use Rattle.ntfs_base.specs.declared.shelf.Shelf as shelf
use Rattle.ntfs_base.specs.declared.sink.Sink as sink
use Rattle.ntfs_base.specs.declared.source.Source as source

-- ---- where a refusal comes from

-- what was read or given, a read, a write, or want of memory
pub data Origin : Type 0 where
  content : Origin
  reading : Origin
  writing : Origin
  memory : Origin

-- the cause that a refusal of this origin must have; one that comes from the content needs none
abbrev pub Because : Origin → Type 0 → Type 0 → Type 0 → Type 0
Because content read write want = Unit {0}
Because reading read write want = read
Because writing read write want = write
Because memory read write want = want

-- neither the outside nor want of memory cut the work off
abbrev pub IsSettled : Origin → Type 0
IsSettled content = Unit {0}
IsSettled reading = ⊥
IsSettled writing = ⊥
IsSettled memory = ⊥

abbrev pub Settles : {T E : Type 0} → (E → Origin) → Result T E → Type 0
Settles origin (Ok x) = Unit {0}
Settles origin (Err fault) = IsSettled (origin fault)

-- the answer that a definition gives, unless the work was cut off
abbrev pub Gives : {T U E : Type 0} → (E → Origin) → (T → U) → Result U E → Result T E → Type 0
Gives origin view expected (Ok x) = expected ≡ Ok (view x)
Gives origin view expected (Err fault) = IsSettled (origin fault) → expected ≡ Err fault

-- ---- what is told

-- of the content of an image, where it is told
abbrev pub IfTold : {G : Type 0} → image.Ghosts G → G → (List ℕ → Type 0) → Type 0
IfTold g image is = IsTrue (g.seen image).is_told → is (g.seen image).content

-- of the files of a shelf, where they are told
abbrev pub IfFiles : {S F : Type 0} → shelf.Ghosts S F → S → (Files → Type 0) → Type 0
IfFiles s shelf is = IsTrue (s.seen shelf).is_told → is (s.seen shelf).files

-- ---- what a call keeps

-- an image after writes: told or not, of the name and over the image that it had
pub record IsSameDevice (old new : ImageState) : Type 0 where
  pub told : new.is_told ≡ old.is_told
  pub bears : new.name ≡ old.name
  pub over : new.lower ≡ old.lower

-- no count of a sink fell
pub record SinkHasNotFallen (old new : SinkFaults) : Type 0 where
  pub failures : old.failures ≤ new.failures
  pub wants : old.wants ≤ new.wants

-- a call with nothing outside
abbrev pub IsJudged : {T E : Type 0} → (E → Origin) → Result T E → Type 0
IsJudged origin result = IfErr result (λ fault. Because (origin fault) ⊥ ⊥ (Unit {0}))

-- a call over an image that is only read, and over nothing else outside
pub record OnlyReads {G T E : Type 0} (g : image.Ghosts G) (origin : E → Origin) (old new : G)
    (result : Result T E) : Type 0 where
  pub seen : g.seen new ≡ g.seen old
  pub counts : HaveNotFallen (g.faults old) (g.faults new)
  pub cause : IfErr result (λ fault. Because (origin fault) (Rose (g.faults old).reads (g.faults new).reads) ⊥
      (Unit {0}))

-- a call over an image that is written, and not read
pub record OnlyWrites {G T E : Type 0} (g : image.Ghosts G) (origin : E → Origin) (old new : G)
    (result : Result T E) : Type 0 where
  pub counts : HaveNotFallen (g.faults old) (g.faults new)
  pub cause : IfErr result (λ fault. Because (origin fault) ⊥ (Rose (g.faults old).writes (g.faults new).writes)
      (Unit {0}))

-- a call over an image that is only read, and a sink
pub record Copies {G K T E : Type 0} (g : image.Ghosts G) (k : sink.Ghosts K) (origin : E → Origin) (old new : G)
    (before after : K) (result : Result T E) : Type 0 where
  pub seen : g.seen new ≡ g.seen old
  pub counts : HaveNotFallen (g.faults old) (g.faults new)
  pub puts : SinkHasNotFallen (k.faults before) (k.faults after)
  pub cause : IfErr result (λ fault. Because (origin fault) (Rose (g.faults old).reads (g.faults new).reads)
      (Rose (k.faults before).failures (k.faults after).failures) (Unit {0}))

-- a call over a sink, and over nothing else outside
pub record OnlyPuts {K T E : Type 0} (k : sink.Ghosts K) (origin : E → Origin) (before after : K)
    (result : Result T E) : Type 0 where
  pub puts : SinkHasNotFallen (k.faults before) (k.faults after)
  pub cause : IfErr result (λ fault. Because (origin fault) ⊥
      (Rose (k.faults before).failures (k.faults after).failures)
      (Rose (k.faults before).wants (k.faults after).wants))

-- a call over a source, and over nothing else outside
pub record OnlyTakes {I T E : Type 0} (i : source.Ghosts I) (origin : E → Origin) (old new : I)
    (result : Result T E) : Type 0 where
  pub counts : i.faults old ≤ i.faults new
  pub cause : IfErr result (λ fault. Because (origin fault) (Rose (i.faults old) (i.faults new)) ⊥ (Unit {0}))

-- a call over a shelf, which attaches or makes files, and over nothing else outside
pub record OnlyShelves {S F T E : Type 0} (s : shelf.Ghosts S F) (origin : E → Origin) (old new : S)
    (result : Result T E) : Type 0 where
  pub told : (s.seen new).is_told ≡ (s.seen old).is_told
  pub counts : HaveNotFallen (s.faults old) (s.faults new)
  pub cause : IfErr result (λ fault. Because (origin fault) (Rose (s.faults old).reads (s.faults new).reads)
      (Rose (s.faults old).writes (s.faults new).writes) (Unit {0}))

-- ---- definitions that refuse, from top to bottom

infixl 10 ◌>>=◌
abbrev pub ◌>>=◌ : {A B E : Type 0} → Result A E → (A → Result B E) → Result B E
(Ok x) >>= f = f x
(Err fault) >>= f = Err fault

-- a refusal in the words of the caller
abbrev pub refused_as : {A E F : Type 0} → (E → F) → Result A E → Result A F
refused_as over (Ok x) = Ok x
refused_as over (Err fault) = Err (over fault)

-- a test that refuses where it holds not
abbrev pub must : {E : Type 0} → Bool → E → Result (Unit {0}) E
must true fault = Ok tt
must false fault = Err fault

-- ---- bytes that a definition gives, put to a sink

abbrev pub without_bytes : {E : Type 0} → Result (List ℕ) E → Result (Unit {0}) E
without_bytes (Ok bytes) = Ok tt
without_bytes (Err fault) = Err fault

abbrev pub bytes_in : {E : Type 0} → Result (List ℕ) E → List ℕ
bytes_in (Ok bytes) = bytes
bytes_in (Err fault) = []

-- a prefix of these bytes was put
abbrev pub PutsPrefix : List ℕ → SinkState → SinkState → Type 0
PutsPrefix bytes old new = (k : ℕ) × (k ≤ length bytes) × (new ≡ after_put (take k bytes) old)

-- the answer is the expected one, with all its bytes put; where the work was cut off, a prefix of them was put
pub record Puts {E : Type 0} (origin : E → Origin) (expected : Result (List ℕ) E) (old : SinkState)
    (result : Result (Unit {0}) E) (new : SinkState) : Type 0 where
  pub answer : Settles origin result → result ≡ without_bytes expected
  pub output : Settles origin result → new ≡ after_put (bytes_in expected) old
  pub prefix : PutsPrefix (bytes_in expected) old new
