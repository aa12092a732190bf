pub mod Power
pub mod Told
