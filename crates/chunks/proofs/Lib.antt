pub mod Rest
pub mod Sameness
pub mod Finding
pub mod Numbers
pub mod Pieces
pub mod Filing
