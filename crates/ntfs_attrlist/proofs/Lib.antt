pub mod FieldLemmas
pub mod EntryLemmas
pub mod ItemsLemmas
pub mod LawLemmas
