pub mod BufferLemmas
pub mod CatLemmas
pub mod RecordInfoLemmas
pub mod ListLemmas
pub mod ListStateLemmas
pub mod UnmetLemmas
pub mod DescentLemmas
pub mod ListPathLemmas
