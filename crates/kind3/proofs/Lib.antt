pub mod Verdict
pub mod Exact
pub mod Ranges
