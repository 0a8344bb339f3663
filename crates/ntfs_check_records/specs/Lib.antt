pub use Rattle.ntfs_base.specs.Frames
pub use Rattle.ntfs_rules.specs.Outcome
pub mod Reading
pub mod Asked
pub mod Entries
