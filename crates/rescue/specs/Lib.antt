pub mod Greedy
pub mod Salvaging
pub mod Wrote
pub mod Growing
pub mod Orders
pub mod Rescued
