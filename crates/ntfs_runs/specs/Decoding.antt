-- What reading answers where memory may run out; the words are ours.
use Rattle.std.specs.Prelude.{◌≡◌, ◌⊎◌, List, Result, Ok, Err, true, false}
use Rattle.ntfs_runs.specs.declared.run.Run.{Run}
use Rattle.ntfs_runs.specs.declared.fault.PairsFault.{PairsFault}
use Rattle.ntfs_runs.specs.declared.fault.PairsFault.TheVariants.{BadPairs, NoMemory}
use Rattle.ntfs_runs.specs.Reading.{Reading}

-- the answer is this one, unless memory runs out
abbrev pub IsUnlessNoMemory : Result (List Run) PairsFault → Result (List Run) PairsFault → Type 0
IsUnlessNoMemory result answer = (result ≡ answer) ⊎ (result ≡ Err NoMemory)

-- a fault is the one that reading gave
abbrev pub IsFaultOf : PairsFault → Reading → Type 0
IsFaultOf (BadPairs place) read = (read.is_right ≡ false) × (place ≡ read.place)
IsFaultOf NoMemory read = Unit {0}

-- the answer is what reading gave, unless memory runs out
abbrev pub GivesReading : Result (List Run) PairsFault → Reading → Type 0
GivesReading (Ok list) read = (read.is_right ≡ true) × (list ≡ read.runs)
GivesReading (Err fault) read = IsFaultOf fault read
