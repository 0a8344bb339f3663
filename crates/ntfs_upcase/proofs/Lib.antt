pub mod NamesLemmas
pub mod CollationLemmas
pub mod TextLemmas
