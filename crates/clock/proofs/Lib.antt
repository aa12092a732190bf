pub mod Fixed
pub mod Eventless
pub mod Kept
pub mod Broken
pub mod Pins
