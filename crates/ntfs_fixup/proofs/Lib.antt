pub mod FixupLemmas
pub mod LawLemmas
pub mod RefixLemmas
pub mod StepLemmas
pub mod UnfixLemmas
