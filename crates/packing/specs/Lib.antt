pub mod Before
pub mod Marks
pub mod Packing
pub mod Growing
