pub mod Sets
pub mod Nulls
pub mod Paths
pub mod Tables
pub mod Ranks
