pub mod Current
pub mod Calls
