pub mod Walk
pub mod Stacks
pub mod Walking
pub mod Onward
pub mod Tables
pub mod Claims
