pub mod Decides
pub mod Pick
pub mod Chunk
pub mod Bytes
