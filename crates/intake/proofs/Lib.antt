pub mod Laws
pub mod Keeping
pub mod Turns
pub mod Failures
pub mod Reports
pub mod Theorems
