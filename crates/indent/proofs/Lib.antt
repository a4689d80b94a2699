pub mod Numbers
pub mod Coding
