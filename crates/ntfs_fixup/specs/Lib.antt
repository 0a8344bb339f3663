pub mod Fixups
