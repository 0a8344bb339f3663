pub use Rattle.ntfs_base.specs.Bytes
pub mod BootSector
pub mod Geometry
