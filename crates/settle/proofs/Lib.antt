pub mod Still
pub mod Idle
pub mod Turns
pub mod Doors
pub mod Least
pub mod Laws
