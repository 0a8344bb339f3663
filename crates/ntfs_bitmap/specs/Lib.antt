pub mod Search
pub mod ClusterSet
pub mod Bits
pub mod Runs
pub mod Stretch
