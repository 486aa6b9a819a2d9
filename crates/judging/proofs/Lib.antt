pub mod Found
pub mod Judging
pub mod Older
pub mod Passing
pub mod Named
pub mod Beyond
