pub mod Walking
pub mod Answering
pub mod Theorems
pub mod Beyond
pub mod Existing
