pub mod AnswerLemmas
pub mod RecordLemmas
pub mod SearchLemmas
pub mod EntryLemmas
