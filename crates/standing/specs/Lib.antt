pub mod Standing
pub mod Sending
pub mod Reading
pub mod Bytes
pub mod Decoding
pub mod Selecting
pub mod Finding
pub mod Calls
