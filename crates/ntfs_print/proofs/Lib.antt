pub mod AnswerLemmas
pub mod PendingLemmas
