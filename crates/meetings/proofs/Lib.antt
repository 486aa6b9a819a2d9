pub mod Merging
pub mod Carrying
pub mod Showing
pub mod Holding
pub mod Testing
pub mod Example
pub mod Desk
