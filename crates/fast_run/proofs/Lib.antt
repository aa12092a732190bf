pub mod Leads
pub mod Apart
pub mod Whole
pub mod Steps
pub mod Ends
