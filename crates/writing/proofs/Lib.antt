pub mod Behind
pub mod Items
pub mod Answers
pub mod Numbers
pub mod Verdicts
pub mod Reading
pub mod Again
pub mod Theorems
