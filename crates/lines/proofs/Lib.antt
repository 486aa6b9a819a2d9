pub mod Laws
mod Powers
pub mod Texts
