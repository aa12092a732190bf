pub mod All
pub mod Bytes
pub mod Refusals
