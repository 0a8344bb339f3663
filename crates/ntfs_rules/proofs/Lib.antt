pub mod DataLemmas
mod AcceptsLemmas
pub mod ContentLemmas
pub mod ListLemmas
pub mod ClearLemmas
pub mod CountLemmas
pub mod OwnedLemmas
pub mod PairingLemmas
pub mod CloneLemmas
pub mod MembersLemmas
pub mod GatheredLemmas
mod SpanLemmas
pub mod WalkLemmas
