pub use Rattle.ntfs_rules.specs.Accepts
pub use Rattle.ntfs_rules.specs.Outcome
pub mod Judged
pub mod Findings
pub mod Checked
