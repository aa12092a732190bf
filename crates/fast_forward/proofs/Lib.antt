pub mod Laws
pub mod Free
pub mod Replaced
pub mod NothingDue
pub mod Turns
