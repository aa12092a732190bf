pub mod Kept
pub mod Laws
pub mod Heads
