pub mod Respelt
pub mod Edits
pub mod Rows
pub mod Steps
