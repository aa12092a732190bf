pub mod Marks
pub mod Clock
pub mod Reset
pub mod Whole
