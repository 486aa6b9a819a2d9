pub mod Limits
pub mod Table
pub mod Clauses
pub mod Agree
pub mod Paper
pub mod Authors
pub mod Branches
