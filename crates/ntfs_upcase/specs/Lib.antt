pub mod Names
pub mod Collation
