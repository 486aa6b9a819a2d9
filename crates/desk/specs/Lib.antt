pub mod Payload
pub mod Desk
