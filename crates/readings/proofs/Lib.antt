pub mod Adequacy
pub mod Spans
pub mod Unique
pub mod Ordering
pub mod Nulls
