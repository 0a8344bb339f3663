pub mod PlaceLemmas
pub mod ImageLemmas
pub mod BootLemmas
pub mod ListLemmas
pub mod RowLemmas
pub mod MapLemmas
