pub mod Steady
pub mod Nearest
pub mod Calls
pub mod Profile
