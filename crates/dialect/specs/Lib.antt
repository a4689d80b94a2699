pub mod Faults
pub mod Invariants
pub mod Examined
pub mod Loose
pub mod Views
pub mod Loads
pub mod Laws
