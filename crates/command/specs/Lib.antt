pub mod Commands
pub mod Setup
