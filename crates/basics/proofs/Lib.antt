pub mod Tests
pub mod Decisions
pub mod Prefixes
pub mod Chunks
pub mod Copies
pub mod Unique
pub mod Members
