pub mod Clock
pub mod Eventless
pub mod Fold
