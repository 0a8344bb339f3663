mod JudgedLemmas
pub mod BootLemmas
mod FindingsLemmas
pub mod CheckedLemmas
