pub mod AnswerLemmas
pub mod BoolLemmas
pub mod StreamBytesLemmas
pub mod RowLemmas
pub mod PutLemmas
