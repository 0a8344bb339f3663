pub use Rattle.ntfs_base.specs.Bytes
pub use Rattle.ntfs_base.specs.Causes
pub use Rattle.ntfs_base.specs.Sink
pub use Rattle.ntfs_boot.specs.Geometry
pub mod Fault
pub mod StreamBytes
pub mod Putting
