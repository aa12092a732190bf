pub mod Demand1
pub mod Demand2
pub mod Examples
pub mod History
pub mod Operations
pub mod Pins
