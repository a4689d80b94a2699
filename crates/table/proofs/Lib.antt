pub mod Rising
pub mod Sorting
pub mod Growing
pub mod Meaning
pub mod Since
pub mod Adding
pub mod Cutting
