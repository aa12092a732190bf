pub mod Zeros
pub mod Ready
pub mod Laws
