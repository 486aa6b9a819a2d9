pub mod Message
pub mod Verdict
pub mod Named
pub mod Lengths
