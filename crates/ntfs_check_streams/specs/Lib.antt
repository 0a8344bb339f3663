pub use Rattle.ntfs_base.specs.Frames
pub use Rattle.ntfs_rules.specs.Accepts
pub use Rattle.ntfs_rules.specs.Outcome
pub mod Asked
pub mod Join
pub mod Said
pub mod Last
