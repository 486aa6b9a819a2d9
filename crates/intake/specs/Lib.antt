pub mod Window
pub mod Judging
pub mod Taking
pub mod Report
