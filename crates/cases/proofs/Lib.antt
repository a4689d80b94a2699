pub mod Gathering
pub mod Rounds
pub mod Growing
pub mod Charting
pub mod Listing
pub mod Judging
