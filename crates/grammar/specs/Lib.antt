pub mod Grammar
pub mod Steps
pub mod Rounds
pub mod Nulling
pub mod Reaching
