pub mod Placing
pub mod Theorems
