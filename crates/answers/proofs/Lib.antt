pub mod Distinct
pub mod Unused
