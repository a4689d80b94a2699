pub mod Rows
pub mod Order
pub mod Growth
pub mod Standing
