pub mod Turns
pub mod Whole
pub mod Numbers
