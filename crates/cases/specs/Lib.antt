pub mod Dialects
pub mod Case
pub mod Table
pub mod Claims
