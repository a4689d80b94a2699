pub mod Entries
pub mod Members
pub mod Exactly
pub mod Begins
pub mod Tallies
