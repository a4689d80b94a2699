pub mod Naming
pub mod Cycles
pub mod Goodness
pub mod Order
pub mod Samples
pub mod Loading
pub mod Rules
