pub mod Rule
pub mod Lookup
pub mod Straps
