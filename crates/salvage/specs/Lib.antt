pub mod Names
pub mod Marks
pub mod Working
pub mod Listing
