pub mod Held
pub mod Later
pub mod States
pub mod Refusals
pub mod Answers
pub mod Calls
pub mod Trees
pub mod Sample
