pub mod Bytes
pub mod Examples
pub mod Made
pub mod Result
pub mod Steps
