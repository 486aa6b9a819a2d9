pub mod After
pub mod Grown
pub mod Paper
pub mod Lines
pub mod Answer
