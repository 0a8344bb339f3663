pub mod NumberLemmas
pub mod LineLemmas
pub mod PartLemmas
pub mod SimpleLemmas
pub mod SpellingLemmas
pub mod InfoLaws
pub mod LawLemmas
pub mod KindLemmas
