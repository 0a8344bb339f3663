pub use Rattle.ntfs_base.specs.Bytes
pub mod Fault
pub mod Numbers
pub mod Label
pub mod Printing
pub mod Pending
