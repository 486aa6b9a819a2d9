pub mod Cuts
pub mod Items
pub mod Wholes
