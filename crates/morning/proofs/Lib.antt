pub mod Going
pub mod Theorems
