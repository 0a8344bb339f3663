-- What a call that prints puts on its sink, and the refusal that ends it: what comes before a refusal is put. The words
-- are ours.
use Rattle.std.specs.Prelude.{◌≡◌, ◌++◌, ℕ, List, [], Option, Some, None, Result, Ok, Err}
use Rattle.ntfs_base.specs.Frames.{Origin, PutsPrefix, Settles}
use Rattle.ntfs_base.specs.Sink.{SinkState, after_put}

-- the bytes that are put, and the refusal at their end; none where that is all
pub record Printing (E : Type 0) : Type 0 where
  pub output : List ℕ
  pub fault : Option E

-- nothing but a refusal
abbrev pub stops : {E : Type 0} → E → Printing E
stops fault = record { output = []; fault = Some fault }

-- these bytes, and no refusal
abbrev pub prints : {E : Type 0} → List ℕ → Printing E
prints bytes = record { output = bytes; fault = None }

-- these bytes, and then what follows
abbrev pub before : {E : Type 0} → List ℕ → Printing E → Printing E
before bytes rest = record { output = bytes ++ rest.output; fault = rest.fault }

-- these bytes and this end, and then what follows, where it isn't an end by a refusal
abbrev pub followed_by : {E : Type 0} → List ℕ → Option E → Printing E → Printing E
followed_by output None next = before output next
followed_by output (Some fault) next = record { output = output; fault = Some fault }

-- a printing that is all put, and then another one
abbrev pub and_then : {E : Type 0} → Printing E → Printing E → Printing E
and_then first next = followed_by first.output first.fault next

-- the bytes that a definition gives, or nothing but its refusal
abbrev pub printing_of : {E : Type 0} → Result (List ℕ) E → Printing E
printing_of (Ok bytes) = prints bytes
printing_of (Err fault) = stops fault

-- how a printing ends
abbrev pub end_of : {E : Type 0} → Option E → Result (Unit {0}) E
end_of None = Ok tt
end_of (Some fault) = Err fault

-- the answer is the end of the printing, with all its bytes put; where the work was cut off, a prefix of them was put
pub record Prints {E : Type 0} (origin : E → Origin) (expected : Printing E) (old : SinkState)
    (result : Result (Unit {0}) E) (new : SinkState) : Type 0 where
  pub answer : Settles origin result → result ≡ end_of expected.fault
  pub output : Settles origin result → new ≡ after_put expected.output old
  pub prefix : PutsPrefix expected.output old new
