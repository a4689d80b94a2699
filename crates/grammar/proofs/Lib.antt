pub mod Rounds
pub mod Nulling
pub mod Stepping
pub mod Reaching
