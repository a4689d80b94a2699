mod Wording
mod Numbering
mod Hexing
mod Placing
mod Ruling
