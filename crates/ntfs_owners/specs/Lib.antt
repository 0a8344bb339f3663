pub use Rattle.ntfs_base.specs.Bytes
pub use Rattle.ntfs_boot.specs.Geometry
pub use Rattle.ntfs_print.specs.Fault
pub mod Held
pub mod OwnerLines
pub mod Owners
pub mod Sweep
