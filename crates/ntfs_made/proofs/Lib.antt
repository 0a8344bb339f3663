pub mod RoomLemmas
pub mod CountLemmas
pub mod ClaimLemmas
pub mod TableLemmas
pub mod RuleLemmas
pub mod OwnerLemmas
