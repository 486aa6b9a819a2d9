pub mod Reading
pub mod Theorems
pub mod Unused
pub mod Backstepped
