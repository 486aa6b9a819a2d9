pub mod Theorems
pub mod Standing
pub mod Calling
pub mod Unused
pub mod Writing
pub mod Morning
pub mod Apart
pub mod Backsteps
