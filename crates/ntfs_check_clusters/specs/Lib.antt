pub use Rattle.ntfs_base.specs.Frames
pub use Rattle.ntfs_rules.specs.Accepts
pub use Rattle.ntfs_rules.specs.Outcome as RuleOutcome
pub mod Outcome
pub mod Asked
pub mod Marks
