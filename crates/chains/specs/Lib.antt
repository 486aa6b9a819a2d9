pub mod Chain
pub mod Merging
pub mod Sample
pub mod Paper
pub mod Elsewhere
