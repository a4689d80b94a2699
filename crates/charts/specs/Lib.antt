pub mod Chart
pub mod Links
pub mod Rows
pub mod Turns
pub mod Room
pub mod Key
pub mod Claims
