pub mod ThereLemmas
pub mod OwnerLemmas
pub mod ApartLemmas
pub mod MeantLemmas
pub mod IdleLemmas
