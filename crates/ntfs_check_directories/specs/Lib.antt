pub use Rattle.ntfs_base.specs.Frames
pub use Rattle.ntfs_rules.specs.Directories
pub use Rattle.ntfs_rules.specs.Outcome
pub mod Row
pub mod Names
pub mod Asked
