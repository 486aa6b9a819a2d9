pub mod Offsets
pub mod Layout
pub mod Laid
pub mod Lines
pub mod Entries
