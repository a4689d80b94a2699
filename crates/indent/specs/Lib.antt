pub mod Relations
pub mod Summaries
pub mod Codes
