pub mod Rules
pub mod All
pub mod Table
pub mod Filled
pub mod Joined
