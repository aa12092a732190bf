pub mod Turns
pub mod Doors
pub mod Accepted
pub mod Laws
