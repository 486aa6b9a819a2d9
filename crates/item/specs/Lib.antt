pub mod Offsets
pub mod Little
pub mod Layout
pub mod Head
pub mod Answers
pub mod Laid
pub mod Lines
pub mod Id
