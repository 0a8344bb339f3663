pub use Rattle.ntfs_base.specs.Frames
pub use Rattle.ntfs_rules.specs.Accepts
pub use Rattle.ntfs_rules.specs.Outcome
pub mod Premises
pub mod Asked
pub mod Extending
pub mod Members
