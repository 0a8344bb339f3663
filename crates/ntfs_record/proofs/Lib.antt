pub mod Numbers
pub mod Sound
pub mod Places
pub mod RecordLemmas
pub mod StandsLemmas
pub mod RawLemmas
pub mod SlotLemmas
pub mod SpellingLemmas
