pub mod Stores
pub mod Ids
pub mod Sending
pub mod Trees
pub mod Passing
pub mod Example
pub mod Calls
