pub mod Words
pub mod Numbers
pub mod Hex
pub mod Rows
pub mod Verbs
pub mod Requests
pub mod Answers
