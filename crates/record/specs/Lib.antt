pub mod Record
pub mod Sample
