pub mod Bytes
pub mod Message
pub mod Laying
pub mod Writing
pub mod Lines
pub mod Reading
