pub mod Bytes
pub mod Piece
pub mod Lookup
pub mod Buckets
