pub mod Totals
pub mod Unions
pub mod Values
pub mod Ranked
pub mod Finite
