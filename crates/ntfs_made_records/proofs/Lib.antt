pub mod PaddingLemmas
pub mod SpeltLemmas
pub mod ExtentLemmas
pub mod BlockLemmas
pub mod RecordLemmas
pub mod SlotLemmas
pub mod ClusterLemmas
pub mod TableLemmas
