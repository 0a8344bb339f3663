pub mod Seen
pub mod Counting
pub mod Disk
pub mod Waiting
