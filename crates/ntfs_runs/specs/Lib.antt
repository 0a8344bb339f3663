pub mod Number
pub mod Clusters
pub mod Spelling
pub mod Reading
pub mod Cells
pub mod Canon
pub mod Decoding
pub mod Writing
