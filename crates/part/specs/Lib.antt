pub mod Fresh
pub mod Parts
pub mod Registers
pub mod Rule
