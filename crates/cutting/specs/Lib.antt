pub mod Columns
pub mod Classes
pub mod Starts
pub mod Cuts
pub mod Whole
pub mod Meaning
pub mod Shapes
pub mod Laws
