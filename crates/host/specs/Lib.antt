pub mod Calls
pub mod Trees
pub mod Writing
pub mod Taking
pub mod Catalogue
pub mod Standing
pub mod Rescuing
pub mod Answered
