pub mod Least
pub mod Cursors
pub mod Branches
pub mod Next
pub mod Listing
