pub mod Review
pub mod Children
pub mod Calls
