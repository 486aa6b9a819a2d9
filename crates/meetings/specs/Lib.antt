pub mod Meetings
pub mod Merging
pub mod Shows
pub mod Example
pub mod Desk
