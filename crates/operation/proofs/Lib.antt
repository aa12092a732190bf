pub mod Facts
pub mod Bits
pub mod FitsIn
pub mod Kept
pub mod Rest
pub mod Marked
pub mod Due
