pub mod Below
pub mod Clauses
pub mod Fresh
