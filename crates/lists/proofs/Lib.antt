pub mod Folds
pub mod Entries
pub mod Without
pub mod Distinct
pub mod Deciding
pub mod Choosing
pub mod Mapped
pub mod Tallies
